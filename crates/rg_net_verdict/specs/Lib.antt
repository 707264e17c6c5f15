pub mod Markings
pub mod Verdict
pub mod Wrong
pub mod Rows
pub mod Flows
pub mod Marked
