-- The laws that belong to no one function.
pub mod Numbers
pub mod Sorted
pub mod Figures
pub mod InDeadlineOrder
pub mod Marks
pub mod Limits
pub mod Places
pub mod Served
