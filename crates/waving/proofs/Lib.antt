pub mod Bounds
pub mod Closing
