pub mod Words
pub mod Labels
