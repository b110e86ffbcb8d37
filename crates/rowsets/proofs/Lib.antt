pub mod SameMarks
