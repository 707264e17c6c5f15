mod WordLemmas
mod Numbers
mod Telling
mod Bounds
