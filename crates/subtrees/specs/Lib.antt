pub mod Rfc5280Names
pub mod ExactNames
pub mod Noted
pub mod Model
pub mod Presents
