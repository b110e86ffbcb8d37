pub mod Bounds
pub mod Extremes
pub mod OnePass
pub mod Between
