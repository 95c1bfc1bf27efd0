-- A send as a path of orders between points, and what either side keeps at a point.
pub mod Names
pub mod Points
pub mod Ends
pub mod States
pub mod Texts
pub mod Paths
pub mod PlanPaths
