-- The laws of `little`: Laws for its callers, Turns for its own loops. Assumes nothing.
pub mod Laws
pub mod Turns
