pub mod Calendar
pub mod Model
