pub mod Names
pub mod Stricter
pub mod Answers
pub mod Model
