pub mod Candidates
pub mod Paths
pub mod Model
