pub mod Refusals
pub mod Pieces
pub mod Laws
pub mod Mend
pub mod Walk
pub mod Texts
pub mod Examples
pub mod WrongMenders
