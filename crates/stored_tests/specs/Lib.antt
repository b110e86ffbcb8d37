pub mod InBlocks
