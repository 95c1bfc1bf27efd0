pub mod Steps
pub mod Calls
pub mod Feeds
pub mod Supplies
