pub mod RowsetView
