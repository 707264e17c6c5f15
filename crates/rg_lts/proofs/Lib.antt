pub mod OrderedArcs
pub mod Drafts
mod ArcOrder
mod ArcRuns
pub mod ArcSets
mod Entering
mod NameAt
