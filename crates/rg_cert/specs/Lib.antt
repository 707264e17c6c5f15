pub mod Text
pub mod Spells
pub mod Numerals
pub mod Lines
pub mod Faults
pub mod Drafts
pub mod View
