-- Ends with a text, and answers that are there.
use Rattle.std.proofs.Common.{◌≡◌, ℕ, List, Result, Ok, Err, IfOk, sym, subst}
use Rattle.rg_top.specs.End.{End, says_yes, says_no}

-- what holds of the end with a text holds of that with an equal one
pub yes_so : (P : End → Type 0) (out text : List ℕ) → out ≡ text → P (says_yes text) → P (says_yes out)
yes_so P out text e p = subst (λ x. P (says_yes x)) (sym e) p

pub no_so : (P : End → Type 0) (out text : List ℕ) → out ≡ text → P (says_no text) → P (says_no out)
no_so P out text e p = subst (λ x. P (says_no x)) (sym e) p

-- what holds of an answer that is there
pub if_ok : {A E : Type 0} (P Q : A → Type 0) → ((a : A) → P a → Q a) → (r : Result A E) → IfOk r P → IfOk r Q
if_ok P Q f (Ok a) p = f a p
if_ok P Q f (Err e) p = tt
