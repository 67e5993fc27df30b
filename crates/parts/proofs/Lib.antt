pub mod Row
pub mod Equal
