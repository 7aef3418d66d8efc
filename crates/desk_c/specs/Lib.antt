pub mod Flat
pub mod Waves
