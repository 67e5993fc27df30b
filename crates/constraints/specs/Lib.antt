pub mod Paths
pub mod Model
pub mod Cost
