pub mod Multiples
pub mod Picking
pub mod Marking
pub mod Counting
pub mod TreeRows
pub mod Rows
pub mod StatesWith
