pub mod ArrayLaws
pub mod SearchLaws
pub mod ActionLaws
