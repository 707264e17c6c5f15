pub mod Command
pub mod Table
pub mod Values
pub mod Requests
pub mod Says
