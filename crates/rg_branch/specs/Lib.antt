pub mod View
pub mod Asked
pub mod Numbers
pub mod Work
pub mod Relating
pub mod Points
pub mod Answer
pub mod Kept
