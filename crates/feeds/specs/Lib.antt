pub mod Feeds
pub mod Round
pub mod Lines
pub mod Pieces
