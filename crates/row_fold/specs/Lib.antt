pub mod Follows
pub mod Prefix
pub mod Sorted
