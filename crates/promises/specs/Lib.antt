-- THE PROMISES, in the order of the demands. To be read first, below this crate: answers Answers (refusals, lines); edf Book,
-- Releases, Pieces, Fits, Owed, Step (the rules), Runs and Kept (what is counted), Finish (what is still to do); ledger Books
-- and desk State (a desk read as a book); plans Plans and feeds Round (what a stretch of ticks wants); desk Opening, Calls,
-- Asking and questions Meshes (the calls).
pub mod Runs
pub mod Total
pub mod Exact
pub mod Kept
pub mod Figures
pub mod Arrival
pub mod Undated
pub mod Load
pub mod Finish
pub mod Overbooked
pub mod Examples
