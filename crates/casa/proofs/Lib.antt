-- The laws of `casa`: Opening and Calls for its own functions; Lawful and Settled for its callers. Assumes nothing.
pub mod Opening
pub mod Calls
pub mod Lawful
pub mod Settled
