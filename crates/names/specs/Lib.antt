pub mod General
pub mod Conforming
pub mod Model
