pub mod Tests
pub mod Lists
pub mod Stores
pub mod Finds
pub mod Everys
mod Passes
pub mod Compare
pub mod Splits
pub mod Cuts
pub mod Below
pub mod Littles
