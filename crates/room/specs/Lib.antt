pub mod Owed
pub mod Ahead
pub mod Walk
