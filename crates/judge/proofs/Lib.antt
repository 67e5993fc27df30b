pub mod Laws
pub mod Questions
pub mod Calls
pub mod Decides
pub mod Asks
pub mod Moves
pub mod Exports
