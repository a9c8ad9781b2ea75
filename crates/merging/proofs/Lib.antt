-- The laws of `merging`: Merging of two lists, one frame after the other. Assumes nothing.
pub mod Merging
