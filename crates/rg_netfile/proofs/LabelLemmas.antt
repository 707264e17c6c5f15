-- Labels of a system, and those of transitions.
use Rattle.std.proofs.Common.{ℕ, List, Result, Err}
use Rattle.std.specs.Str.{IsUtf8}
use Rattle.std.proofs.lemmas.Bool.{false≢true}
use Rattle.rg_text.specs.Byte.{IsName}
use Rattle.rg_text.proofs.Names.{read_as_name}

-- bytes that aren't UTF-8 are no name
pub no_name : {E : Type 0} (text : List ℕ) (e : E) (Q : Type 0) → (IsUtf8 text → ⊥) × Q → IsName text → ⊥
no_name {E} text e Q cases is =
    let r : Result (Unit {0}) E = Err e in
    false≢true (read_as_name text r (λ _. Unit {0}) (λ _. Q) cases is)
