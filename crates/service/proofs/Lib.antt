mod Digits
pub mod Dryruns
pub mod Forms
pub mod ReadShapes
pub mod Scans
pub mod Serves
