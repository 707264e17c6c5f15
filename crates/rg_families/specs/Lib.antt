pub mod Named
pub mod Grid
pub mod Doubling
pub mod Lock
pub mod Families
