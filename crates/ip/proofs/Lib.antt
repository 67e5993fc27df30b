pub mod Laws
pub mod Bits
pub mod Subnet
pub mod Masks
pub mod Differences
