-- Small plans that fit, and exchanges of them that are computed.
pub mod SmallPlans
pub mod Trying
pub mod TwoFiles
