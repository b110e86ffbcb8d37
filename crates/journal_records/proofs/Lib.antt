pub mod Appends
pub mod Cells
pub mod Encoded
pub mod Fields
pub mod Loops
pub mod Records
pub mod Strings
pub mod Tables
