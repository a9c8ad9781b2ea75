-- The laws of `trace`: Bytes and Records for its own functions, which cite them by Rules; Reading, Round (encoded, then read) and Back (read, then encoded)
-- for its callers, Trailers and Settled for both. Assumes nothing.
mod Bytes
pub mod Trailers
mod Records
pub mod Settled
pub mod Reading
pub mod Round
pub mod Back
mod Rules
