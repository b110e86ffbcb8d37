pub mod Literals
pub mod Columns
pub mod Parts
pub mod Defined
