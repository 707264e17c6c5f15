pub mod First
pub mod Parts
pub mod Numbered
pub mod Words
pub mod Grown
