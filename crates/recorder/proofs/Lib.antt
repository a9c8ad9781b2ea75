-- The laws of `recorder`: Laws for its own functions and its callers; Settled, Round and Replay for its callers. Assumes nothing.
pub mod Laws
pub mod Settled
pub mod Round
pub mod Replay
