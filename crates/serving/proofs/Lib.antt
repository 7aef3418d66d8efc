pub mod Order
pub mod Front
pub mod Given
pub mod Owed
pub mod Steps
pub mod Answers
