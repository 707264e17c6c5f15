-- Whether a slot is open.
use Rattle.std.proofs.Common.{◌≡◌, ◌≢◌, ◌↔◌, ℕ, ◌+◌, ◌<◌, Bool, true, false, List, length, Contains, refl}
use Rattle.std.specs.Prelude.{ℤ, pos, IsTrue, slice_index, not}
use Rattle.std.proofs.lemmas.Bool.{false≢true}
use Rattle.rg_integers.specs.Sum.{number_at}
use Rattle.rg_revised.specs.Reading.{IsVacant}

pub vacant_test : (columns : ℕ) (slots stack : List ℕ) (numbers : List ℤ) (p : ℕ) (b : Bool) → p < length slots → number_at numbers p ≢ pos 0
    → (IsTrue b ↔ ((s : ℕ) × Contains stack s × (slice_index slots p ≡ columns + s)))
    → (IsTrue (not b) → IsVacant columns slots stack numbers p) × (IsVacant columns slots stack numbers p → IsTrue (not b))
vacant_test columns slots stack numbers p true within named fixed = ((λ yes. absurd (false≢true yes)), (λ o. (let (s, has, e) = fixed.0 refl in absurd (o.not_fixed s has e))))
vacant_test columns slots stack numbers p false within named fixed = ((λ yes. record { within = within; not_fixed = λ s has e. false≢true (fixed.1 (s, has, e)); named = named }), (λ o. refl))
