pub mod Fed
pub mod Said
pub mod Supplied
