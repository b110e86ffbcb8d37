pub mod Readings
pub mod RowLemmas
