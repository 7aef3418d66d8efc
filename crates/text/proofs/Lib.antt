-- The laws that every crate above needs.
pub mod Fields
pub mod Numbers
pub mod Texts
pub mod Examples
