-- The laws that belong to no one function.
pub mod Round
pub mod Stretches
pub mod Limits
pub mod Lines
pub mod Lent
pub mod Pieces
pub mod Passing
pub mod Same
pub mod Positions
pub mod Examples
