pub mod Laws
pub mod Checked
