pub mod Range
pub mod Sign
pub mod Divisor
pub mod Value
pub mod Sum
pub mod Term
