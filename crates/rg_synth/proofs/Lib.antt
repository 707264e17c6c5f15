pub mod Pruned
pub mod Nets
pub mod Answers
pub mod FewPlaces
