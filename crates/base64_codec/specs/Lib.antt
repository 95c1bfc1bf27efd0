pub mod Alphabet
pub mod Values
pub mod Decode
pub mod Padding
pub mod Letters
pub mod Encode
pub mod Claims
pub mod Examples
