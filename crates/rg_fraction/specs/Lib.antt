pub mod Terms
pub mod Rows
pub mod Fractions
pub mod Exact
