pub mod Laws
pub mod Texts
pub mod Subtree
pub mod Match
pub mod Differences
