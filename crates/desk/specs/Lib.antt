pub mod Books
pub mod Closing
pub mod History
pub mod Lacking
pub mod Names
pub mod Rule
pub mod Seats
pub mod Turn
