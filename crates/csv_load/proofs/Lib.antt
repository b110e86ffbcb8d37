mod Lines
mod Ratios
mod Cells
mod Tallies
