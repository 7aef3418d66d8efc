pub mod Until
pub mod Walk
pub mod Parts
pub mod Fits
pub mod Examples
