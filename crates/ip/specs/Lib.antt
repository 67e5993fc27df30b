pub mod Addresses
pub mod Masks
pub mod Model
