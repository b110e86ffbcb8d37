pub mod Book
pub mod Queue
pub mod Refusals
pub mod Seen
