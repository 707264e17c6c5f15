-- Numbers of namesakes.
use Rattle.std.proofs.Common.{◌≡◌, ◌⊎◌, inl, inr, ℕ, ◌+◌, ◌<◌, List, [], ◌∷◌, ◌++◌, length, slice_index, sym, ap, subst, ◌∙◌, arith}
use Rattle.std.proofs.lemmas.Bool.{cases_eq}
use Rattle.std.proofs.lemmas.List.{get_or_append_left, get_or_push, length_push}
use Rattle.rg_theory.specs.System.{System}
use Rattle.rg_iso.specs.Isomorphic.{HaveOneName}

pub number_more : (a b : System) (numbers : List ℕ) (t u : ℕ) → length numbers ≡ t → ((v : ℕ) → v < t → HaveOneName a b v (slice_index numbers v)) → HaveOneName a b t u
    → (more : List ℕ) → more ≡ numbers ++ u ∷ [] → (length more ≡ t + 1) × ((v : ℕ) → v < t + 1 → HaveOneName a b v (slice_index more v))
number_more a b numbers t u long each here more is = (ap length is ∙ length_push numbers u ∙ ap (λ n. n + 1) long, all)
  where
    all : (v : ℕ) → v < t + 1 → HaveOneName a b v (slice_index more v)
    all v lt = go (cases_eq v t)
      where
        go : (v ≡ t) ⊎ (v ≡ t → ⊥) → HaveOneName a b v (slice_index more v)
        go (inl e) =
            let at : slice_index more v ≡ u = ap (λ xs. slice_index xs v) is ∙ get_or_push numbers u 0 v (long ∙ sym e) in
            subst (HaveOneName a b v) (sym at) (subst (λ n. HaveOneName a b n u) (sym e) here)
        go (inr ne) =
            let at : slice_index more v ≡ slice_index numbers v = ap (λ xs. slice_index xs v) is ∙ get_or_append_left numbers (u ∷ []) 0 v (omega (arith, long, lt, ne)) in
            subst (HaveOneName a b v) (sym at) (each v (omega (arith, lt, ne)))
