mod Digits
mod Members
mod Lines
mod Told
mod Free
mod Multiples
pub mod Placing
mod Moving
pub mod Rows
pub mod Overs
pub mod Breaking
