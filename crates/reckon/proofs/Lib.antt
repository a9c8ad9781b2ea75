-- The laws of `reckon`: Bounds, that its numbers are small. Assumes nothing.
pub mod Bounds
