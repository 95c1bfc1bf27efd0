pub mod Putting
pub mod Joined
pub mod TextLaws
pub mod WriterLaws
