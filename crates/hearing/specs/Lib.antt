pub mod Hearing
pub mod Rows
pub mod Steps
pub mod Calls
pub mod Laws
