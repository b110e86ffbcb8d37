pub mod Ranges
pub mod Growing
pub mod Folded
