mod Places
mod Texts
pub mod Mended
pub mod Named
mod Asking
mod Reporting
pub mod Replaying
pub mod Wholly
mod RowLaws
mod NotedLaws
mod HearLaws
