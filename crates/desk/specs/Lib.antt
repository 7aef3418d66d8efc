pub mod State
pub mod Answers
pub mod Opening
pub mod Calls
pub mod Asking
pub mod Undated
pub mod Named
