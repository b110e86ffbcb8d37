pub mod Refused
pub mod Parts
pub mod Made
