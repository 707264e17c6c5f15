pub mod Fold
pub mod Substitution
