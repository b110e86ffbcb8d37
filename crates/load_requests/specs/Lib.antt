pub mod Bytes
pub mod Targets
pub mod LoadFields
pub mod Loads
pub mod Ends
pub mod Tokens
pub mod Statements
pub mod Requests
