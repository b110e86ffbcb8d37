mod Evals
mod Exchanges
mod FoldCounts
pub mod Joins
mod KeptRows
mod KeyTests
pub mod Neighbours
pub mod OrderLaws
mod Served
mod ServedItems
