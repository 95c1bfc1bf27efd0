pub mod Powers
pub mod Widths
pub mod Digits
pub mod Writes
pub mod Texts
pub mod RoundTrip
