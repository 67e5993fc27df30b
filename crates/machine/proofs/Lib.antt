pub mod Levels
pub mod Steps
pub mod Moves
pub mod Lent
pub mod Names
pub mod Whole
