pub mod Dns
pub mod Names
pub mod Entries
