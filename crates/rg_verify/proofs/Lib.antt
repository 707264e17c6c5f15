pub mod Arcs
mod Cancelling
mod Places
mod Variables
mod Tables
mod Adding
mod Rows
mod Leftovers
mod Defects
mod Walking
mod Verdicts
pub mod OneVerdict
pub mod StandingOrNot
pub mod LeafOrDefect
pub mod SomeVerdict
