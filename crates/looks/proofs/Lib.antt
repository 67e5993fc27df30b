pub mod Der
pub mod Values
pub mod Follows
pub mod Extensions
pub mod Certificates
pub mod Examples
