-- Doublings are open.
use Rattle.std.proofs.Common.{◌≡◌, ◌⊎◌, inl, inr, ⊎_elim, ℕ, zero, suc, ◌+◌, ◌<◌, ◌≤◌, List, ◌∷◌, Contains, refl, sym, ap, subst, ◌∙◌, arith}
use Rattle.rg_theory.specs.System.{System, IsAllReachable, IsForkFree}
use Rattle.rg_families.specs.Named.{Triple, triple, IsSystemOf, each_below}
use Rattle.rg_families.specs.Doubling.{most_doubling, corner, middle, step, doubled, doubling}
use Rattle.rg_families.proofs.Lists.{each_from, each_has}
use Rattle.rg_families.proofs.DoublingSound.{pair, in_two, same_corner, same_middle, same_step, corner_not_middle, doubling_is_sound}
use Rattle.rg_families.proofs.Opened.{IsMet, initial_met, met_more, all_met, no_fork}

-- the three arcs of a doubling
abbrev pub first : ℕ → Triple
first i = triple (corner i) (step i) (middle (i + 1))

abbrev pub second : ℕ → Triple
second i = triple (middle (i + 1)) (step i) (corner (i + 1))

abbrev pub whole : ℕ → Triple
whole i = triple (corner i) (step (i + 1)) (corner (i + 1))

pub doubling_is_reachable : (n : ℕ) (lts : System) → n ≤ most_doubling → IsSystemOf (doubling n) lts → IsAllReachable lts
doubling_is_reachable n lts le is = all_met (doubling n) (doubling_is_sound n le) lts is (λ x has. state x has)
  where
    at_corner : (i : ℕ) → i < n + 1 → IsMet (doubling n) (doubling_is_sound n le) lts is (corner i)
    at_corner zero lt = initial_met (doubling n) (doubling_is_sound n le) lts is
    at_corner (suc i) lt =
        let more : i + 1 ≡ suc i = omega arith in
        subst (λ k. IsMet (doubling n) (doubling_is_sound n le) lts is (corner k)) more
        (met_more (doubling n) (doubling_is_sound n le) lts is (whole i) (each_has n doubled i (whole i) (omega arith) (suc (suc zero), omega arith, refl)) (at_corner i (omega arith)))

    at_middle : (i : ℕ) → i < n → IsMet (doubling n) (doubling_is_sound n le) lts is (middle (i + 1))
    at_middle i lt = met_more (doubling n) (doubling_is_sound n le) lts is (first i) (each_has n doubled i (first i) lt (zero, omega arith, refl)) (at_corner i (omega arith))

    state : (x : List ℕ) → Contains (corner 0 ∷ each_below n pair) x → IsMet (doubling n) (doubling_is_sound n le) lts is x
    state x (zero, lt, e) = subst (IsMet (doubling n) (doubling_is_sound n le) lts is) e (at_corner 0 (omega arith))
    state x (suc k, lt, e) =
        let r = each_from n pair x (k, omega arith, e) in
        ⊎_elim (λ at. subst (IsMet (doubling n) (doubling_is_sound n le) lts is) at (at_middle r.0 r.1))
        (λ at. subst (IsMet (doubling n) (doubling_is_sound n le) lts is) at (at_corner (r.0 + 1) (omega (arith, r.1))))
        (in_two (middle (r.0 + 1)) (corner (r.0 + 1)) x r.2)

pub in_three : (i : ℕ) (t : Triple) → Contains (doubled i) t → (first i ≡ t) ⊎ ((second i ≡ t) ⊎ (whole i ≡ t))
in_three i t (zero, lt, e) = inl e
in_three i t (suc zero, lt, e) = inr (inl e)
in_three i t (suc (suc zero), lt, e) = inr (inr e)
in_three i t (suc (suc (suc k)), lt, e) = absurd (omega arith)

two : (i j : ℕ) (t u : Triple) → i < 500 → j < 500 → (first i ≡ t) ⊎ ((second i ≡ t) ⊎ (whole i ≡ t))
    → (first j ≡ u) ⊎ ((second j ≡ u) ⊎ (whole j ≡ u)) → t.from ≡ u.from → t.label ≡ u.label → t.to ≡ u.to
two i j t u li lj (inl a) (inl b) from label =
    let same = same_corner i j (omega arith) (omega arith) (ap (λ (x : Triple). x.from) a ∙ from ∙ sym (ap (λ (x : Triple). x.from) b)) in
    sym (ap (λ (x : Triple). x.to) a) ∙ ap (λ k. middle (k + 1)) same ∙ ap (λ (x : Triple). x.to) b
two i j t u li lj (inl a) (inr (inl b)) from label = absurd (corner_not_middle i (j + 1) (ap (λ (x : Triple). x.from) a ∙ from ∙ sym (ap (λ (x : Triple). x.from) b)))
two i j t u li lj (inl a) (inr (inr b)) from label =
    let same = same_corner i j (omega arith) (omega arith) (ap (λ (x : Triple). x.from) a ∙ from ∙ sym (ap (λ (x : Triple). x.from) b)) in
    let steps = same_step i (j + 1) (omega arith) (omega arith) (ap (λ (x : Triple). x.label) a ∙ label ∙ sym (ap (λ (x : Triple). x.label) b)) in
    absurd (omega (arith, same, steps))
two i j t u li lj (inr (inl a)) (inl b) from label = absurd (corner_not_middle j (i + 1) (ap (λ (x : Triple). x.from) b ∙ sym from ∙ sym (ap (λ (x : Triple). x.from) a)))
two i j t u li lj (inr (inl a)) (inr (inl b)) from label =
    let same = same_middle (i + 1) (j + 1) (omega arith) (omega arith) (ap (λ (x : Triple). x.from) a ∙ from ∙ sym (ap (λ (x : Triple). x.from) b)) in
    sym (ap (λ (x : Triple). x.to) a) ∙ ap corner same ∙ ap (λ (x : Triple). x.to) b
two i j t u li lj (inr (inl a)) (inr (inr b)) from label = absurd (corner_not_middle j (i + 1) (ap (λ (x : Triple). x.from) b ∙ sym from ∙ sym (ap (λ (x : Triple). x.from) a)))
two i j t u li lj (inr (inr a)) (inl b) from label =
    let same = same_corner i j (omega arith) (omega arith) (ap (λ (x : Triple). x.from) a ∙ from ∙ sym (ap (λ (x : Triple). x.from) b)) in
    let steps = same_step (i + 1) j (omega arith) (omega arith) (ap (λ (x : Triple). x.label) a ∙ label ∙ sym (ap (λ (x : Triple). x.label) b)) in
    absurd (omega (arith, same, steps))
two i j t u li lj (inr (inr a)) (inr (inl b)) from label = absurd (corner_not_middle i (j + 1) (ap (λ (x : Triple). x.from) a ∙ from ∙ sym (ap (λ (x : Triple). x.from) b)))
two i j t u li lj (inr (inr a)) (inr (inr b)) from label =
    let same = same_corner i j (omega arith) (omega arith) (ap (λ (x : Triple). x.from) a ∙ from ∙ sym (ap (λ (x : Triple). x.from) b)) in
    sym (ap (λ (x : Triple). x.to) a) ∙ ap (λ k. corner (k + 1)) same ∙ ap (λ (x : Triple). x.to) b

pub doubling_is_fork_free : (n : ℕ) (lts : System) → n ≤ most_doubling → IsSystemOf (doubling n) lts → IsForkFree lts
doubling_is_fork_free n lts le is = no_fork (doubling n) (doubling_is_sound n le) lts is (λ t u ht hu from label.
    (let r = each_from n doubled t ht in
    let s = each_from n doubled u hu in
    two r.0 s.0 t u (omega (arith, r.1)) (omega (arith, s.1)) (in_three r.0 t r.2) (in_three s.0 u s.2) from label))
