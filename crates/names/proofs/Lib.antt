pub mod Laws
pub mod Rows
pub mod Once
pub mod Wanted
pub mod Differences
