pub mod Columns
pub mod Dryrun
pub mod Exits
pub mod TypeWords
pub mod Serving
