pub mod Blocks
pub mod Finds
pub mod Marks
pub mod MarksView
pub mod Zones
