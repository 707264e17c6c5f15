pub mod Joined
pub mod Naming
pub mod ToldNames
mod FactorLines
