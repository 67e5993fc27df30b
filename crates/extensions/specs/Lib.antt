pub mod Model
pub mod Rfc5280
pub mod Meaning
pub mod Conforming
pub mod Accepted
pub mod Layout
