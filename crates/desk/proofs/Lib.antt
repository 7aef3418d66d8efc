-- The laws that every crate above needs.
pub mod Answers
pub mod InOrder
pub mod Opening
pub mod Calls
pub mod Asking
pub mod Undated
pub mod Reachable
pub mod Good
pub mod Named
