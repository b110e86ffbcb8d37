pub mod Texts
pub mod Loads
pub mod Ends
pub mod Results
pub mod Statements
