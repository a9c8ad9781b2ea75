-- The laws of `checks`: Every and Exact of tests of lists, Decides of their answers; the others part by part. Assumes nothing.
pub mod Every
pub mod Counting
pub mod Exact
pub mod Decides
pub mod Zeros
pub mod Marks
pub mod Apart
pub mod Frames
pub mod Pages
