pub mod Spending
pub mod Leaving
pub mod Laws
pub mod Refusals
