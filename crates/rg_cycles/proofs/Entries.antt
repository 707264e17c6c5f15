-- Entries of chords as whole numbers.
use Rattle.std.proofs.Common.{◌≡◌, ℕ, zero, suc, ◌+◌, ◌<◌, List, [], ◌∷◌, ◌++◌, length, map, take, get_or, Vec, ap, refl, subst, sym, ◌∙◌, arith}
use Rattle.std.proofs.lemmas.List.{length-map, map-append, take_more, get_or-map}
use Rattle.std.proofs.lemmas.List.Elements.{All-map}
use Rattle.std.specs.Prelude.{◌↔◌, All, ℤ, pos}
use Rattle.std.specs.declared.alloc.Global.{Global}
use Rattle.rg_linear.specs.Cycle.{vector_at}
use Rattle.rg_cycles.specs.Vectors.{vectors_by}

-- one entry more
pub entry_more : {N : Type 0} (number : N → ℤ) (entries : List N) (i : ℕ) (z : N) (x : ℤ)
    → i < length entries → x ≡ number (get_or entries i z) → map number (take i entries) ++ x ∷ [] ≡ map number (take (i + 1) entries)
entry_more number entries i z x lt is = ap (λ y. map number (take i entries) ++ y ∷ []) is
    ∙ sym (map-append number (take i entries) (get_or entries i z ∷ []))
    ∙ ap (map number) (sym (take_more entries i z lt))

module _ {N : Type 0} (number : N → ℤ) (numbers : List N → List ℤ) (one_each : (entries : List N) → numbers entries ≡ map number entries) where
  pub numbers_length : (entries : List N) → length (numbers entries) ≡ length entries
  numbers_length entries = ap length (one_each entries) ∙ length-map entries number

  -- the numbers are 0 where each entry is
  pub zero_entries : (entries : List N) → All (λ z. number z ≡ pos 0) entries ↔ All (λ z. z ≡ pos 0) (numbers entries)
  zero_entries entries = (
    λ all. subst (All (λ z. z ≡ pos 0)) (sym (one_each entries)) (All-map (λ z. z ≡ pos 0) number entries all),
    λ all k d lt. sym (get_or-map number entries k d (pos 0) lt)
        ∙ subst (All (λ z. z ≡ pos 0)) (one_each entries) all k (pos 0) (subst (λ n. k < n) (sym (length-map entries number)) lt),
  )

-- a vector by its index
pub vector_is : {N : Type 0} (numbers : List N → List ℤ) (vectors : List (Vec N Global)) (i : ℕ) (d : Vec N Global) → i < length (vectors_by numbers vectors)
    → vector_at (vectors_by numbers vectors) i ≡ numbers (get_or vectors i d).items
vector_is numbers [] i d lt = absurd (omega arith)
vector_is numbers (v ∷ vectors) zero d lt = refl
vector_is numbers (v ∷ vectors) (suc i) d lt = vector_is numbers vectors i d (omega arith)
