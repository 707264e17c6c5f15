pub mod WellFormed
pub mod Draft
pub mod Faults
pub mod Slots
