pub mod Labels
pub mod Index
