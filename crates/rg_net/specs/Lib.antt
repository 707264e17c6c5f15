pub mod Shown
pub mod Range
pub mod NetText
pub mod Firing
pub mod ClassBreaks
pub mod Overs
