pub mod Until
pub mod Reasons
