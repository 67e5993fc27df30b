pub mod Dns
pub mod Most
pub mod Names
pub mod Follows
pub mod Entries
pub mod Wanted
pub mod Examples
