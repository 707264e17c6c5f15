pub mod Growing
pub mod Rows
pub mod Spanning
pub mod Tables
