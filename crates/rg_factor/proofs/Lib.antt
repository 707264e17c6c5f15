pub mod Tabling
pub mod Squaring
pub mod Joinings
pub mod Merging
pub mod Blocking
pub mod Reaching
pub mod Sizing
pub mod FewInAll
pub mod Splitting
pub mod Numbering
pub mod Partings
mod Besides
mod MadeParts
pub mod FewBeside
