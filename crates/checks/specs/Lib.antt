pub mod Conditions
pub mod Conforming
pub mod Skeletons
pub mod Model
