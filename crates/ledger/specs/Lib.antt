pub mod State
pub mod Books
