pub mod LeftLemmas
pub mod RankLemmas
pub mod NotingLemmas
pub mod SolvedLemmas
pub mod TakingLemmas
pub mod SeparationLemmas
