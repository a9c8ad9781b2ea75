-- The laws of `lent` for its callers. Assumes nothing.
pub mod Settled
