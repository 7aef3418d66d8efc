-- The laws that every crate above needs.
pub mod Books
pub mod Pieces
pub mod InOrder
