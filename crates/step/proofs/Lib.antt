-- The laws of `step`: Hits, Faults and Requests say what each part leaves. Assumes nothing.
pub mod Hits
pub mod Faults
pub mod Requests
