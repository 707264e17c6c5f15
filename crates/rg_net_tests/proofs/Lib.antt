mod Narrowing
mod ByTokens
mod Fitting
