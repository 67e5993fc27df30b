pub mod BitStrings
pub mod Differences
