pub mod Plans
pub mod Euclid
