-- The laws that belong to no one function.
pub mod Buffer
pub mod Labels
pub mod Examples
