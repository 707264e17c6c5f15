-- Doublings are within the limits, and their arcs join their states.
use Rattle.std.proofs.Common.{◌≡◌, ◌⊎◌, inl, inr, ⊎_elim, ℕ, zero, suc, ◌+◌, ◌<◌, ◌≤◌, List, [], ◌∷◌, get_or, All, Contains, codes, decimal, refl, sym, ap, subst, ◌∙◌, arith}
use Rattle.std.specs.List.{range_with_len}
use Rattle.std.proofs.lemmas.List.FromFn.{length-range_with_len, length-map-range_with_len}
use Rattle.rg_text.specs.Byte.{IsName}
use Rattle.rg_theory.proofs.Lists.{there_later}
use Rattle.rg_line_formats.proofs.Things.{there_one}
use Rattle.rg_families.specs.Named.{Triple, IsKnown, IsSound, each_below, row}
use Rattle.rg_families.specs.Doubling.{corner, middle, step, doubled, doubling}
use Rattle.rg_families.proofs.Lists.{Differ, differ_nil, differ_cons, differ_each, differ_row, each_from, each_has, row_from, row_has, flat_short, all_members}
use Rattle.rg_families.proofs.Texts.{numbered_is_name, same_number}

abbrev pub pair : ℕ → List (List ℕ)
pair i = middle (i + 1) ∷ corner (i + 1) ∷ []

-- of two things
pub in_two : {X : Type 0} (a b x : X) → Contains (a ∷ b ∷ []) x → (a ≡ x) ⊎ (b ≡ x)
in_two a b x (zero, lt, e) = inl e
in_two a b x (suc zero, lt, e) = inr e
in_two a b x (suc (suc k), lt, e) = absurd (omega arith)

corner_is_name : (i : ℕ) → i < 1000 → IsName (corner i)
corner_is_name i lt = numbered_is_name (codes "q") i refl (omega arith) (omega arith) (omega arith)

middle_is_name : (i : ℕ) → i < 1000 → IsName (middle i)
middle_is_name i lt = numbered_is_name (codes "m") i refl (omega arith) (omega arith) (omega arith)

step_is_name : (i : ℕ) → i < 1000 → IsName (step i)
step_is_name i lt = numbered_is_name (codes "a") i refl (omega arith) (omega arith) (omega arith)

pub same_corner : (i j : ℕ) → i < 1000 → j < 1000 → corner i ≡ corner j → i ≡ j
same_corner i j li lj e = let tail : decimal i ≡ decimal j = cc in same_number i j (omega arith) (omega arith) tail

pub same_middle : (i j : ℕ) → i < 1000 → j < 1000 → middle i ≡ middle j → i ≡ j
same_middle i j li lj e = let tail : decimal i ≡ decimal j = cc in same_number i j (omega arith) (omega arith) tail

pub same_step : (i j : ℕ) → i < 1000 → j < 1000 → step i ≡ step j → i ≡ j
same_step i j li lj e = let tail : decimal i ≡ decimal j = cc in same_number i j (omega arith) (omega arith) tail

pub corner_not_middle : (i j : ℕ) → corner i ≡ middle j → ⊥
corner_not_middle i j e = let first : 113 ≡ 109 = ap (λ l. get_or l 0 0) e in omega (arith, first)

states_names : (n : ℕ) → n ≤ 255 → All IsName (doubling n).states
states_names n le = all_members IsName (doubling n).states (λ x has. by x has)
  where
    by : (x : List ℕ) → Contains (corner 0 ∷ each_below n pair) x → IsName x
    by x (zero, lt, e) = subst IsName e (corner_is_name 0 (omega arith))
    by x (suc k, lt, e) =
        let r = each_from n pair x (k, omega arith, e) in
        ⊎_elim (λ is. subst IsName is (middle_is_name (r.0 + 1) (omega (arith, r.1)))) (λ is. subst IsName is (corner_is_name (r.0 + 1) (omega (arith, r.1))))
        (in_two (middle (r.0 + 1)) (corner (r.0 + 1)) x r.2)

states_differ : (n : ℕ) → n ≤ 255 → Differ (doubling n).states
states_differ n le = differ_cons (corner 0) (each_below n pair) (differ_each n pair each apart) first
  where
    each : (i : ℕ) → i < n → Differ (pair i)
    each i lt = differ_cons (middle (i + 1)) (corner (i + 1) ∷ []) (differ_cons (corner (i + 1)) [] differ_nil (λ has. omega (arith, has.1)))
        (λ has. corner_not_middle (i + 1) (i + 1) (there_one (corner (i + 1)) (middle (i + 1)) has))

    two : (i j : ℕ) (x : List ℕ) → i < j → j < n → (middle (i + 1) ≡ x) ⊎ (corner (i + 1) ≡ x) → (middle (j + 1) ≡ x) ⊎ (corner (j + 1) ≡ x) → ⊥
    two i j x less lt (inl a) (inl b) = let same = same_middle (i + 1) (j + 1) (omega arith) (omega arith) (a ∙ sym b) in omega (arith, same)
    two i j x less lt (inl a) (inr b) = corner_not_middle (j + 1) (i + 1) (b ∙ sym a)
    two i j x less lt (inr a) (inl b) = corner_not_middle (i + 1) (j + 1) (a ∙ sym b)
    two i j x less lt (inr a) (inr b) = let same = same_corner (i + 1) (j + 1) (omega arith) (omega arith) (a ∙ sym b) in omega (arith, same)

    apart : (i j : ℕ) (x : List ℕ) → i < j → j < n → Contains (pair i) x → Contains (pair j) x → ⊥
    apart i j x less lt here there = two i j x less lt (in_two (middle (i + 1)) (corner (i + 1)) x here) (in_two (middle (j + 1)) (corner (j + 1)) x there)

    first : Contains (each_below n pair) (corner 0) → ⊥
    first has =
        let r = each_from n pair (corner 0) has in
        ⊎_elim (λ is. corner_not_middle 0 (r.0 + 1) (sym is))
        (λ is. (let same = same_corner (r.0 + 1) 0 (omega (arith, r.1)) (omega arith) is in omega (arith, same)))
        (in_two (middle (r.0 + 1)) (corner (r.0 + 1)) (corner 0) r.2)

pub middle_there : (n i : ℕ) → i < n → Contains (doubling n).states (middle (i + 1))
middle_there n i lt = there_later (corner 0) (each_below n pair) (middle (i + 1)) (each_has n pair i (middle (i + 1)) lt (zero, omega arith, refl))

pub corner_there : (n i : ℕ) → i < n + 1 → Contains (doubling n).states (corner i)
corner_there n zero lt = (zero, omega arith, refl)
corner_there n (suc i) lt =
    let more : i + 1 ≡ suc i = omega arith in
    subst (λ k. Contains (doubling n).states (corner k)) more
    (there_later (corner 0) (each_below n pair) (corner (i + 1)) (each_has n pair i (corner (i + 1)) (omega arith) (suc zero, omega arith, refl)))

doubled_known : (n : ℕ) (t : Triple) → Contains (each_below n doubled) t → IsKnown (doubling n).states (doubling n).labels t
doubled_known n t has = let r = each_from n doubled t has in by r.0 r.1 r.2
  where
    by : (i : ℕ) → i < n → Contains (doubled i) t → IsKnown (doubling n).states (doubling n).labels t
    by i lt (zero, within, e) = subst (IsKnown (doubling n).states (doubling n).labels) e (record {
      from = corner_there n i (omega arith);
      label = row_has (n + 1) step i (omega arith);
      to = middle_there n i lt;
    })
    by i lt (suc zero, within, e) = subst (IsKnown (doubling n).states (doubling n).labels) e (record {
      from = middle_there n i lt;
      label = row_has (n + 1) step i (omega arith);
      to = corner_there n (i + 1) (omega arith);
    })
    by i lt (suc (suc zero), within, e) = subst (IsKnown (doubling n).states (doubling n).labels) e (record {
      from = corner_there n i (omega arith);
      label = row_has (n + 1) step (i + 1) (omega arith);
      to = corner_there n (i + 1) (omega arith);
    })
    by i lt (suc (suc (suc k)), within, e) = absurd (omega arith)

pub doubling_is_sound : (n : ℕ) → n ≤ 255 → IsSound (doubling n)
doubling_is_sound n le =
    let states = flat_short pair (range_with_len 0 n) 2 (λ i has. omega arith) in
    let arcs = flat_short doubled (range_with_len 0 n) 3 (λ i has. omega arith) in
    let size = length-range_with_len 0 n in
    record {
      state_names = record { each = states_names n le; differ = states_differ n le };
      label_names = record {
        each = all_members IsName (row (n + 1) step) (λ x has. (let r = row_from (n + 1) step x has in subst IsName r.2 (step_is_name r.0 (omega (arith, r.1)))));
        differ = differ_row (n + 1) step (λ i j li lj e. same_step i j (omega arith) (omega arith) e);
      };
      known = doubled_known n;
      initial = (zero, omega arith, refl);
      few_states = omega (arith, states, size);
      few_labels = omega (arith, length-map-range_with_len step 0 (n + 1));
      few_arcs = omega (arith, arcs, size);
    }
