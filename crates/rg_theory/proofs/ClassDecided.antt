-- A text names a class, or it names none.
use Rattle.std.proofs.Common.{inl, inr, ⊎_elim, ℕ, List}
use Rattle.rg_theory.specs.declared.Class.{Class}
use Rattle.rg_theory.specs.ClassWords.{NamesClass}
use Rattle.rg_theory.proofs.ClassSome.{class_told}
use Rattle.rg_theory.proofs.ClassTold.{not_both}
pub use Rattle.rg_theory.proofs.ClassRead.{Decided, same_bytes}

pub class_of_text : (text : List ℕ) → Decided ((class : Class) × NamesClass text class)
class_of_text text = ⊎_elim inl (λ refused. inr (λ names. not_both text names.0 refused.0 names.1 refused.1)) (class_told text)
