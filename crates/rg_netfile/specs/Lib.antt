pub mod Contents
pub mod LabelledTexts
pub mod Spells
pub mod Built
pub mod ListedSets
