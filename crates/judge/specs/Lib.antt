pub mod Steps
pub mod Decides
pub mod Accounts
pub mod Calls
pub mod Asks
pub mod Moves
pub mod Exports
