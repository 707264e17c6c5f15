pub mod Members
pub mod Marking
pub mod Refining
pub mod Separating
pub mod Stopping
pub mod FirstProblems
pub mod Compacting
pub mod Filling
