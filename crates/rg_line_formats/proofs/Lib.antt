pub mod Things
pub mod Parts
pub mod Present
pub mod Built
pub mod Counted
pub mod Numbers
mod Cuts
mod WordCuts
mod Growing
