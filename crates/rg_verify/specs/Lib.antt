pub mod Judged
pub mod Sides
pub mod Settings
pub mod Terms
pub mod Sums
