pub mod Kinds
pub mod Tally
pub mod Model
