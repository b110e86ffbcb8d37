pub mod Building
pub mod PartLists
pub mod Spreading
pub mod Folding
