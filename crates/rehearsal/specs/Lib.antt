pub mod Session
pub mod Hearing
