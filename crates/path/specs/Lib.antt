pub mod Conditions
pub mod Model
