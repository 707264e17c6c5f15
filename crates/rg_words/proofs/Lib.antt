pub mod Meaning
mod Examples
mod Growing
mod Steps
mod Trees
mod Going
mod LabelSteps
mod SpelledUses
mod SpelledTrees
