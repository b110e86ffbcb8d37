pub mod Faults
pub mod Memory
pub mod Moments
pub mod Reading
pub mod Writing
