pub mod Questions
pub mod Model
