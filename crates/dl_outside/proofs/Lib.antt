mod Pieces
mod Given
