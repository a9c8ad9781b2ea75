-- The laws of `pool`: Form for its callers; Parts, Decides and Answers for the soundness test. Assumes nothing.
pub mod Parts
pub mod Decides
pub mod Answers
pub mod Form
