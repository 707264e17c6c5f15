pub mod Tokens
pub mod Stops
pub mod Cells
pub mod Separated
pub mod Firsts
pub mod Compact
