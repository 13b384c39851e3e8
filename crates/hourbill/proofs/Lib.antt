mod Letter
mod Parts
mod Counts
mod Lines
