pub mod ReplayLaws
mod Onwards
pub mod PieceLaws
