mod Decimals
mod Texts
mod Prefixes
mod Weights
mod Listed
mod FlowLists
pub mod Going
pub mod Steps
pub mod Ranges
pub mod LabelLemmas
pub mod DigitLemmas
pub mod NameTests
pub mod EntryFaults
pub mod Counts
pub mod Slots
pub mod MemberSteps
pub mod Apart
pub mod LabelCounts
pub mod Segments
pub mod FlowSteps
pub mod WholeNets
pub mod OneNet
pub mod WholeTexts
pub mod PlaceNames
pub mod SetTexts
pub mod NetTexts
pub mod PrintedSums
pub mod PrintedFaults
pub mod PrintedNets
pub mod PrintedTexts
pub mod LabelledNets
pub mod MemoryFaults
