pub mod Room
pub mod Answers
pub mod Turns
pub mod Claims
