pub mod LongHomes
pub mod Places
pub mod Supplied
pub mod Turns
