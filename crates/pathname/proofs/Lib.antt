pub mod Sequences
pub mod Alone
pub mod Components
