pub mod Figures
pub mod Sorted
pub mod Jobs
pub mod Served
