pub mod Below
mod MergeLemmas
mod OrderedRows
mod RunLemmas
mod Sorts
