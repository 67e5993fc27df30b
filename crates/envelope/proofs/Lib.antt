pub mod Cases
pub mod Inversion
