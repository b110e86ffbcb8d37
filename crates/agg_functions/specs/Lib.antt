pub mod Merge
pub mod MergeLemmas
