pub mod Marked
pub mod Meaning
mod Examples
mod Triples
mod ArcStep
mod ArcFaults
mod LineSteps
mod BodySteps
mod HeadSteps
mod Whole
mod PrintSteps
mod Tokens
mod PrintedLines
mod ReadAgain
mod SpelledLines
mod SpelledGraphs
mod MemoryFaults
