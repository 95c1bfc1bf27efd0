pub mod Lines
pub mod Compare
pub mod Ranks
pub mod Steps
pub mod Laws
pub mod Examples
pub mod WrongComparers
pub mod WrongHearers
