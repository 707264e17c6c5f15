-- Grids are open.
use Rattle.std.proofs.Common.{◌≡◌, ◌⊎◌, inl, inr, ℕ, zero, suc, ◌+◌, ◌<◌, ◌≤◌, get_or, Contains, codes, sym, ap, ap₂, subst, ◌∙◌, arith}
use Rattle.std.proofs.lemmas.List.Elements.{Contains-append_left, Contains-append_right, Contains-append_cases}
use Rattle.rg_theory.specs.System.{System, IsAllReachable, IsForkFree}
use Rattle.rg_families.specs.declared.grid.Direction.TheVariants.{Right, Up}
use Rattle.rg_families.specs.Named.{Triple, IsSystemOf, row}
use Rattle.rg_families.specs.Grid.{most_grid, point, move, moves, grid}
use Rattle.rg_families.proofs.Lists.{each_from, each_has, row_from, row_has}
use Rattle.rg_families.proofs.GridSound.{same_point, grid_is_sound}
use Rattle.rg_families.proofs.Opened.{IsMet, initial_met, met_more, all_met, no_fork}

pub grid_is_reachable : (n : ℕ) (lts : System) → n ≤ most_grid → IsSystemOf (grid n) lts → IsAllReachable lts
grid_is_reachable n lts le is = all_met (grid n) (grid_is_sound n le) lts is (λ x has. (let r = each_from (n + 1) (λ i. row (n + 1) (point i)) x has in
    let s = row_from (n + 1) (point r.0) x r.2 in
    subst (IsMet (grid n) (grid_is_sound n le) lts is) s.2 (met r.0 s.0 r.1 s.1)))
  where
    met : (i j : ℕ) → i < n + 1 → j < n + 1 → IsMet (grid n) (grid_is_sound n le) lts is (point i j)
    met zero zero li lj = initial_met (grid n) (grid_is_sound n le) lts is
    met zero (suc j) li lj =
        let more : j + 1 ≡ suc j = omega arith in
        let has = Contains-append_right (moves Right n (n + 1)) (moves Up (n + 1) n) (move Up 0 j)
        (each_has (n + 1) (λ i. row n (move Up i)) 0 (move Up 0 j) li (row_has n (move Up 0) j (omega arith))) in
        subst (λ k. IsMet (grid n) (grid_is_sound n le) lts is (point 0 k)) more (met_more (grid n) (grid_is_sound n le) lts is (move Up 0 j) has (met zero j li (omega arith)))
    met (suc i) j li lj =
        let more : i + 1 ≡ suc i = omega arith in
        let has = Contains-append_left (moves Right n (n + 1)) (moves Up (n + 1) n) (move Right i j)
        (each_has n (λ k. row (n + 1) (move Right k)) i (move Right i j) (omega arith) (row_has (n + 1) (move Right i) j lj)) in
        subst (λ k. IsMet (grid n) (grid_is_sound n le) lts is (point k j)) more (met_more (grid n) (grid_is_sound n le) lts is (move Right i j) has (met i j (omega arith) lj))

pub grid_is_fork_free : (n : ℕ) (lts : System) → n ≤ most_grid → IsSystemOf (grid n) lts → IsForkFree lts
grid_is_fork_free n lts le is = no_fork (grid n) (grid_is_sound n le) lts is (λ t u ht hu from label.
    two t u (Contains-append_cases (moves Right n (n + 1)) (moves Up (n + 1) n) t ht) (Contains-append_cases (moves Right n (n + 1)) (moves Up (n + 1) n) u hu) from label)
  where
    right : (t : Triple) → Contains (moves Right n (n + 1)) t → (i j : ℕ) × (i < 100) × (j < 100) × (move Right i j ≡ t)
    right t has =
        let r = each_from n (λ i. row (n + 1) (move Right i)) t has in
        let s = row_from (n + 1) (move Right r.0) t r.2 in
        (r.0, s.0, omega (arith, r.1), omega (arith, s.1), s.2)

    up : (t : Triple) → Contains (moves Up (n + 1) n) t → (i j : ℕ) × (i < 100) × (j < 100) × (move Up i j ≡ t)
    up t has =
        let r = each_from (n + 1) (λ i. row n (move Up i)) t has in
        let s = row_from n (move Up r.0) t r.2 in
        (r.0, s.0, omega (arith, r.1), omega (arith, s.1), s.2)

    other : codes "right" ≡ codes "up" → ⊥
    other e = let first : 114 ≡ 117 = ap (λ l. get_or l 0 0) e in omega (arith, first)

    two : (t u : Triple) → Contains (moves Right n (n + 1)) t ⊎ Contains (moves Up (n + 1) n) t → Contains (moves Right n (n + 1)) u ⊎ Contains (moves Up (n + 1) n) u
        → t.from ≡ u.from → t.label ≡ u.label → t.to ≡ u.to
    two t u (inl a) (inl b) from label =
        let (i, j, li, lj, is_t) = right t a in
        let (k, l, lk, ll, is_u) = right u b in
        let same = same_point i j k l li lj lk ll (ap (λ (x : Triple). x.from) is_t ∙ from ∙ sym (ap (λ (x : Triple). x.from) is_u)) in
        sym (ap (λ (x : Triple). x.to) is_t) ∙ ap₂ (λ p q. point (p + 1) q) same.0 same.1 ∙ ap (λ (x : Triple). x.to) is_u
    two t u (inl a) (inr b) from label =
        let (i, j, li, lj, is_t) = right t a in
        let (k, l, lk, ll, is_u) = up u b in
        absurd (other (ap (λ (x : Triple). x.label) is_t ∙ label ∙ sym (ap (λ (x : Triple). x.label) is_u)))
    two t u (inr a) (inl b) from label =
        let (i, j, li, lj, is_t) = up t a in
        let (k, l, lk, ll, is_u) = right u b in
        absurd (other (ap (λ (x : Triple). x.label) is_u ∙ sym label ∙ sym (ap (λ (x : Triple). x.label) is_t)))
    two t u (inr a) (inr b) from label =
        let (i, j, li, lj, is_t) = up t a in
        let (k, l, lk, ll, is_u) = up u b in
        let same = same_point i j k l li lj lk ll (ap (λ (x : Triple). x.from) is_t ∙ from ∙ sym (ap (λ (x : Triple). x.from) is_u)) in
        sym (ap (λ (x : Triple). x.to) is_t) ∙ ap₂ (λ p q. point p (q + 1)) same.0 same.1 ∙ ap (λ (x : Triple). x.to) is_u
