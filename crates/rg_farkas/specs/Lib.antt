pub mod Addends
pub mod Leaves
pub mod Refuting
pub mod View
