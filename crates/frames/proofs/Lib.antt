pub mod Choices
mod CarryLaws
mod WalkLaws
mod GlideLaws
pub mod CallLaws
mod States
mod TextLaws
mod Runs
pub mod Marks
mod Modes
pub mod Follows
pub mod Cuts
pub mod Framed
mod Examples
