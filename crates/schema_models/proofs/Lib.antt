mod CellTypeLemmas
mod FaultLemmas
mod FoldLemmas
mod Lists
mod MergeLemmas
pub mod RowLengths
pub mod RowMerges
pub mod RowsStay
pub mod ShapeLemmas
