pub mod Laws
pub mod Questions
