pub mod Carrying
pub mod Answers
pub mod Joined
pub mod GetsOn
