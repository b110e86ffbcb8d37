pub mod Unique
pub mod Folds
pub mod Merges
pub mod Maps
pub mod Streams
pub mod Lists
pub mod Filters
