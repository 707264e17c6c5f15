-- Numbers with different hashes differ.
use Rattle.std.proofs.Common.{◌≡◌, ℕ, Bool, true, false, nat_eq, List, ap, refl, sym, ◌∙◌}
use Rattle.std.specs.Prelude.{ℤ}
use Rattle.std.specs.Ordering.{int_eq}
use Rattle.std.specs.Cmp.Lexicographic.{pointwise}
use Rattle.std.proofs.lemmas.Bool.Decides.{Decides-int_eq, Decides-eqb}
use Rattle.std.proofs.lemmas.Slice.Eq.{slice_eq-Decides}
use Rattle.rg_rows.specs.Hashing.{numbers_hash}

pub numbers_differ : (xs ys : List ℤ) (h k : ℕ) → h ≡ numbers_hash xs → k ≡ numbers_hash ys → (h ≡ k → ⊥) → nat_eq h k ≡ pointwise int_eq xs ys
numbers_differ xs ys h k left right differ = hashes (nat_eq h k) refl ∙ sym (numbers (pointwise int_eq xs ys) refl)
  where
    hashes : (b : Bool) → nat_eq h k ≡ b → b ≡ false
    hashes true e = absurd (differ ((Decides-eqb h k).0 e))
    hashes false e = refl

    numbers : (b : Bool) → pointwise int_eq xs ys ≡ b → b ≡ false
    numbers true e = absurd (differ (left ∙ ap numbers_hash ((slice_eq-Decides Decides-int_eq xs ys true (sym e)).0 refl) ∙ sym right))
    numbers false e = refl
