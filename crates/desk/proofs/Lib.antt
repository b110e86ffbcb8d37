pub mod Back
mod Books
mod Calls
pub mod Closes
pub mod Everyone
mod Joins
mod Keeps
pub mod Lists
mod Naming
mod Own
mod Rosters
mod Splits
pub mod Views
