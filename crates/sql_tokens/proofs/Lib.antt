pub mod Kept
pub mod Rests
pub mod Fronts
pub mod Numbers
pub mod Firsts
pub mod Longest
pub mod Strays
