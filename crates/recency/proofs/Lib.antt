-- The laws of `recency`: Falling of numbers down a list and a merge, Standing of frames and numbers together. Assumes nothing.
pub mod Falling
pub mod Standing
