pub mod Bytes
pub mod Signs
pub mod Strings
pub mod Tokens
pub mod Steps
