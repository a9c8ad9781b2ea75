-- The laws of `pages`, for its callers too. Assumes nothing.
pub mod Splice
pub mod Pages
pub mod Memory
