-- What follows from the definitions alone, without any code: LastWritten, Exactly, Times, Frames and Framed for any policy, the others of CASA. Assumes
-- nothing.
pub mod Words
pub mod Refusals
pub mod Limits
pub mod Times
pub mod Moves
pub mod Outcomes
pub mod LastWritten
pub mod Exactly
pub mod Frames
pub mod Framed
pub mod Numbered
pub mod Good
pub mod Steps
pub mod Reuse
pub mod References
pub mod Drift
pub mod Adjust
pub mod Table
