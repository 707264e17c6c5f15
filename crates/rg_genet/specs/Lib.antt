pub mod Form
pub mod View
pub mod Contents
pub mod Spells
pub mod Reading
pub mod Text
pub mod Loss
pub mod Same
