-- The laws of `window`: Sums for its own functions; Places and Stays for its callers too. Assumes nothing.
pub mod Sums
pub mod Places
pub mod Stays
