pub mod Laws
pub mod Labels
pub mod Valid
pub mod Differences
