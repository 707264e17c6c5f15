-- A word leads to one pair of states.
use Rattle.std.proofs.Common.{◌≡◌, ◌≢◌, ◌⊎◌, ℕ, ◌<◌, List, length, get_or, AllPairs, Some, slice_get, inl, inr, refl, sym, ap, subst, ◌∙◌}
use Rattle.std.proofs.lemmas.Bool.{cases_order}
use Rattle.std.proofs.lemmas.Option.{same_Some, slice_get_within, get_or_from_slice_get}
use Rattle.rg_theory.specs.System.{System, HasArc}
use Rattle.rg_lts.specs.WellFormed.{AreNames}
use Rattle.rg_iso.specs.Isomorphic.{HaveOneName}
use Rattle.rg_iso.specs.Words.{Meets, at_first, then}
use Rattle.rg_iso.specs.Compared.{AreComparable}

-- what differs stands at one index
pub one_index : {X : Type 0} (xs : List X) (i j : ℕ) (x : X) → AllPairs (λ y z. y ≢ z) xs → slice_get xs i ≡ Some x → slice_get xs j ≡ Some x → i ≡ j
one_index xs i j x differ p q = go (cases_order i j)
  where
    in_i : i < length xs
    in_i = slice_get_within xs i x p

    in_j : j < length xs
    in_j = slice_get_within xs j x q

    same : get_or xs i x ≡ get_or xs j x
    same = get_or_from_slice_get xs i x x p ∙ sym (get_or_from_slice_get xs j x x q)

    go : (i ≡ j) ⊎ ((i < j) ⊎ (j < i)) → i ≡ j
    go (inl e) = e
    go (inr (inl l)) = absurd (differ i j x l in_j same)
    go (inr (inr l)) = absurd (differ j i x l in_i (sym same))

-- a label has one namesake, each way
pub one_namesake : (a b : System) (t u v : ℕ) → AreNames b.label_names → HaveOneName a b t u → HaveOneName a b t v → u ≡ v
one_namesake a b t u v names (name, p, q) (name', p', q') =
    let same : name ≡ name' = same_Some name name' (sym p ∙ p') in
    one_index b.label_names u v name names.differ q (q' ∙ ap Some (sym same))

pub one_namesake_back : (a b : System) (t v u : ℕ) → AreNames a.label_names → HaveOneName a b t u → HaveOneName a b v u → t ≡ v
one_namesake_back a b t v u names (name, p, q) (name', p', q') =
    let same : name ≡ name' = same_Some name name' (sym q ∙ q') in
    one_index a.label_names t v name names.differ p (p' ∙ ap Some (sym same))

module _ (a b : System) (c : AreComparable a b) where
  -- the targets of a label at a pair
  pub one_target : (s q t u v s' r q' p : ℕ) → HaveOneName a b t u → HaveOneName a b t v → HasArc a s t s' → HasArc a s t r → HasArc b q u q' → HasArc b q v p → (s' ≡ r) × (q' ≡ p)
  one_target s q t u v s' r q' p name name' x x' y y' =
      let same = one_namesake a b t u v c.second.label_names name name' in
      (c.first_flawless.fork_free.one_target s t s' r x x', c.second_flawless.fork_free.one_target q u q' p y (subst (λ n. HasArc b q n p) (sym same) y'))

  pub one_meeting : (w : List ℕ) (s q r p : ℕ) → Meets a b w s q → Meets a b w r p → (s ≡ r) × (q ≡ p)
  one_meeting _ _ _ _ _ at_first at_first = (refl, refl)
  one_meeting _ _ _ _ _ (then ts s q t u s' q' m name x y) (then ts' r p t' v r' p' m' name' x' y') =
      let (e, f) = one_meeting ts s q r p m m' in
      one_target s q t u v s' r' q' p' name name' x (subst (λ n. HasArc a n t r') (sym e) x') y (subst (λ n. HasArc b n v p') (sym f) y')
