pub mod Trees
pub mod Certificates
pub mod Sums
