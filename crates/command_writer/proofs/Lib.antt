pub mod Puts
pub mod Shows
pub mod Checks
pub mod Turns
pub mod Canons
pub mod Ways
pub mod Frames
