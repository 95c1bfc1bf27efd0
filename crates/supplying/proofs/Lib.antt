mod ArrayLaws
mod HomeLaws
mod PlaceLaws
pub mod SupplyLaws
mod ValueLaws
