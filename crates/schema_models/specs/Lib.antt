pub mod CellTypes
pub mod Faults
pub mod Folds
pub mod Names
pub mod RowRules
pub mod ShapeRules
pub mod ShapeView
pub mod CellsByName
