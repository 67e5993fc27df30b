pub mod Places
pub mod X690
pub mod Model
pub mod Loop
