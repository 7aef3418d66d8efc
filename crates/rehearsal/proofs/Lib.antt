pub mod Replies
pub mod Once
