pub mod Columns
pub mod LayoutView
pub mod Places
pub mod Ranges
pub mod Search
pub mod LayoutFaults
pub mod LayoutRules
pub mod Examples
