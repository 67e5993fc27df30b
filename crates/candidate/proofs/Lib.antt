pub mod Laws
pub mod Verdicts
pub mod Paths
