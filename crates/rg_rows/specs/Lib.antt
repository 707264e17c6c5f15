pub mod View
pub mod Sharing
pub mod Shown
pub mod Forms
pub mod Making
pub mod Hashing
pub mod Columns
pub mod Shared
