mod Lists
mod Texts
mod Pushed
mod Building
mod Built
mod GridSound
mod DoublingSound
mod LockUsers
mod LockSound
pub mod Opened
mod GridOpen
mod DoublingOpen
mod LockOpen
mod EachKind
mod Counts
mod ArcCounts
