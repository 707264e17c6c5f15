pub mod FoldLemmas
pub mod Folding
pub mod Zeros
pub mod Sums
