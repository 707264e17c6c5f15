pub mod Contents
pub mod Spells
pub mod Reading
