pub mod Counted
pub mod Table
