pub mod Replies
pub mod Gathering
