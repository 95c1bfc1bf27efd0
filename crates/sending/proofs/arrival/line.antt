-- A line of framed texts, and what one feed or one hear of some of its bytes does.
pub mod Line
pub mod Fed
pub mod Heard
