-- The laws of `times`: Reports for its own functions; Right, Last, Reporting and Settled for its callers. Assumes nothing.
pub mod Reports
pub mod Right
pub mod Last
pub mod Reporting
pub mod Settled
