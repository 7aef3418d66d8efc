-- The laws that every crate above needs.
pub mod Divides
pub mod Plans
