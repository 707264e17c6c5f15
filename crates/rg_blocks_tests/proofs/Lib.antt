pub mod ConstantLemmas
