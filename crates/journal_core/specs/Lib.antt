pub mod Causes
pub mod Journal
