-- To be read in this order: the lines, and the answer that they make.
pub mod Texts
pub mod Answers
