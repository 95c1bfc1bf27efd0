pub mod Limits
pub mod Read
pub mod Write
pub mod Canonical
pub mod Claims
