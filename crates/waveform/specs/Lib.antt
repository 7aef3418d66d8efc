-- To be read in this order: the lines of a run, what lines tell, the lines as bytes, a text of them, its stretches one by one, and a run
-- that is being written.
pub mod Runs
pub mod Reading
pub mod Bytes
pub mod Texts
pub mod Stretches
pub mod Telling
pub mod Writing
pub mod Cursors
pub mod Order
pub mod Parts
pub mod SoFar
