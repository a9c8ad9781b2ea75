pub mod Lists
pub mod Places
pub mod Find
pub mod Count
pub mod Merge
