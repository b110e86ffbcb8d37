pub mod Marks
pub mod Lang
pub mod Reading
