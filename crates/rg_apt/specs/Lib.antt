pub mod Item
pub mod Table
pub mod Contents
pub mod Spells
pub mod Plain
pub mod Reading
pub mod View
pub mod Built
