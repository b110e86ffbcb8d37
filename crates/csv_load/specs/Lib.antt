pub mod Options
pub mod Records
pub mod Reading
pub mod Limit
pub mod Body
pub mod Refusal
pub mod Counting
