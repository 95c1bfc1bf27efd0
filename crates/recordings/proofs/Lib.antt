mod Numbers
mod Judged
mod Escapes
mod PieceLaws
mod CutLaws
mod Runs
mod Readable
mod SettledLaws
mod RowLaws
pub mod Every
pub mod SightLaws
pub mod TextLaws
mod TurnLaws
mod Examples
