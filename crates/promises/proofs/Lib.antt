-- The theorems, in the order of the statements.
pub mod System
pub mod Openings
pub mod Stays
pub mod Total
pub mod Exact
pub mod Carried
pub mod Kept
pub mod Figures
pub mod Unseen
pub mod Arrival
pub mod Undated
pub mod Load
pub mod Finish
pub mod Overbooked
pub mod Examples
