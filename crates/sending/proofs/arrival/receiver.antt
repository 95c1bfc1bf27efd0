-- What the receiver makes of an order that it reads, and of the answer to it; and what every call keeps.
pub mod Records
pub mod Commands
pub mod Reads
pub mod Answers
pub mod Promised
