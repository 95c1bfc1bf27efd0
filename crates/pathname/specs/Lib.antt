pub mod Utf8
pub mod DueBytes
pub mod Name
pub mod Claims
