-- The laws that every crate above needs.
pub mod Shares
