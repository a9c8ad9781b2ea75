-- The laws of `record_casa`: Laws for its own functions and its callers, Settled for its callers. Assumes nothing.
pub mod Laws
pub mod Settled
