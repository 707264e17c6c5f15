pub mod Trees
pub mod Turning
