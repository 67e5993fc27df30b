pub mod Refusals
pub mod Model
