pub mod Levels
pub mod Machine
pub mod World
