-- The laws of `walk`: Full of the walk up to 1,024 pages and of what either walk shows, Far of the other. Assumes nothing.
pub mod Full
pub mod Far
