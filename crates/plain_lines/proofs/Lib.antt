mod Cutting
mod Ends
mod LineFeeds
pub mod Keyed
pub mod Counts
pub mod Reading
pub mod Unrefused
