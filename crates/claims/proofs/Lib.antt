-- The demands: Claims states them, Settled cites what settles each call; Refused, Opening, Traces, Runs, Recorded, Drift, Drops and References prove them.
-- Assumes nothing.
pub mod Refused
pub mod Opening
pub mod Traces
pub mod Runs
pub mod Recorded
pub mod Drift
pub mod Drops
pub mod References
pub mod Claims
pub mod Settled
