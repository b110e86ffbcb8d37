pub mod Lasts
pub mod Entries
pub mod Kept
pub mod Indexed
