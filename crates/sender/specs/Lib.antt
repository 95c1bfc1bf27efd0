pub mod Gates
pub mod Places
