-- The laws of `order`: Lists and Places of lists and of the arrays that hold them, Search for `find`, Count for those who count frames,
-- Merged of lists by falling numbers and of their merge. Assumes nothing.
pub mod Lists
pub mod Places
pub mod Search
pub mod Count
pub mod Merged
