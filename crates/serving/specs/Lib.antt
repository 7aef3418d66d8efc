pub mod Front
pub mod Tick
