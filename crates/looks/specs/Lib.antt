pub mod Der
pub mod Values
pub mod Extensions
pub mod Certificates
