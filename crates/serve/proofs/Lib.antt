-- The laws of `serve`: Verdicts of which row refuses, Victims of the bytes of a request. Assumes nothing.
pub mod Verdicts
pub mod Victims
