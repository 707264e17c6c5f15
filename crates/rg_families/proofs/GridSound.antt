-- Grids are within the limits, and their arcs join their states.
use Rattle.std.proofs.Common.{◌≡◌, ◌⊎◌, inl, inr, ℕ, zero, suc, ◌+◌, ◌<◌, ◌≤◌, [], ◌∷◌, length, All, Contains, codes, refl, sym, subst, ◌∙◌, arith}
use Rattle.std.specs.List.{range_with_len}
use Rattle.std.proofs.lemmas.List.{length-append}
use Rattle.std.proofs.lemmas.List.Elements.{Contains-append_cases, All-cons, All-nil}
use Rattle.std.proofs.lemmas.List.FromFn.{length-range_with_len, length-map-range_with_len}
use Rattle.rg_text.specs.Byte.{IsName}
use Rattle.rg_lts.specs.WellFormed.{AreNames}
use Rattle.rg_families.specs.declared.grid.Direction.{Direction}
use Rattle.rg_families.specs.declared.grid.Direction.TheVariants.{Right, Up}
use Rattle.rg_families.specs.Named.{Triple, IsKnown, IsSound, row}
use Rattle.rg_families.specs.Grid.{point, points, move, moves, grid}
use Rattle.rg_families.proofs.Lists.{Differ, differ_nil, differ_cons, differ_each, differ_row, each_from, each_has, row_from, row_has, flat_short, all_members}
use Rattle.rg_line_formats.proofs.Things.{there_one}
use Rattle.rg_families.proofs.Texts.{pair_is_name, name_of_letters, same_pair}

point_is_name : (i j : ℕ) → i < 100 → j < 100 → IsName (point i j)
point_is_name i j li lj = pair_is_name 103 i j refl (omega arith) (omega arith)

pub same_point : (i j k l : ℕ) → i < 100 → j < 100 → k < 100 → l < 100 → point i j ≡ point k l → (i ≡ k) × (j ≡ l)
same_point i j k l li lj lk ll e = same_pair 103 i j k l (omega arith) (omega arith) (omega arith) (omega arith) e

points_names : (n : ℕ) → n ≤ 63 → All IsName (points n)
points_names n le = all_members IsName (points n) (λ x has. (let r = each_from (n + 1) (λ i. row (n + 1) (point i)) x has in
    let s = row_from (n + 1) (point r.0) x r.2 in
    subst IsName s.2 (point_is_name r.0 s.0 (omega (arith, r.1)) (omega (arith, s.1)))))

points_differ : (n : ℕ) → n ≤ 63 → Differ (points n)
points_differ n le = differ_each (n + 1) (λ i. row (n + 1) (point i))
    (λ i lt. differ_row (n + 1) (point i) (λ j k lj lk e. (same_point i j i k (omega arith) (omega arith) (omega arith) (omega arith) e).1))
    (λ i k x less lt here there. (let r = row_from (n + 1) (point i) x here in
    let s = row_from (n + 1) (point k) x there in
    let same = same_point i r.0 k s.0 (omega arith) (omega (arith, r.1)) (omega arith) (omega (arith, s.1)) (r.2 ∙ sym s.2) in
    omega (arith, same.0)))

pub point_there : (n i j : ℕ) → i < n + 1 → j < n + 1 → Contains (points n) (point i j)
point_there n i j li lj = each_has (n + 1) (λ k. row (n + 1) (point k)) i (point i j) li (row_has (n + 1) (point i) j lj)

points_few : (n : ℕ) → n ≤ 63 → length (points n) ≤ 4096
points_few n le =
    let short = flat_short (λ i. row (n + 1) (point i)) (range_with_len 0 (n + 1)) 64 (λ i has. (let long = length-map-range_with_len (point i) 0 (n + 1) in omega (arith, long))) in
    omega (arith, short, length-range_with_len 0 (n + 1))

labels_names : AreNames (codes "right" ∷ codes "up" ∷ [])
labels_names = record {
  each = All-cons IsName (codes "right") (codes "up" ∷ []) right (All-cons IsName (codes "up") [] up (All-nil IsName));
  differ = differ_cons (codes "right") (codes "up" ∷ []) (differ_cons (codes "up") [] differ_nil (λ has. omega (arith, has.1))) other;
}
  where
    right : IsName (codes "right")
    right = name_of_letters (codes "right") refl (omega arith) (omega arith)

    up : IsName (codes "up")
    up = name_of_letters (codes "up") refl (omega arith) (omega arith)

    other : Contains (codes "up" ∷ []) (codes "right") → ⊥
    other has = let e = there_one (codes "up") (codes "right") has in cc

move_known : (n : ℕ) (t : Triple) → Contains (grid n).arcs t → IsKnown (grid n).states (grid n).labels t
move_known n t has = by (Contains-append_cases (moves Right n (n + 1)) (moves Up (n + 1) n) t has)
  where
    by : Contains (moves Right n (n + 1)) t ⊎ Contains (moves Up (n + 1) n) t → IsKnown (grid n).states (grid n).labels t
    by (inl right) =
        let r = each_from n (λ i. row (n + 1) (move Right i)) t right in
        let s = row_from (n + 1) (move Right r.0) t r.2 in
        subst (IsKnown (grid n).states (grid n).labels) s.2 (record {
          from = point_there n r.0 s.0 (omega (arith, r.1)) s.1;
          label = (zero, omega arith, refl);
          to = point_there n (r.0 + 1) s.0 (omega (arith, r.1)) s.1;
        })
    by (inr up) =
        let r = each_from (n + 1) (λ i. row n (move Up i)) t up in
        let s = row_from n (move Up r.0) t r.2 in
        subst (IsKnown (grid n).states (grid n).labels) s.2 (record {
          from = point_there n r.0 s.0 r.1 (omega (arith, s.1));
          label = (suc zero, omega arith, refl);
          to = point_there n r.0 (s.0 + 1) r.1 (omega (arith, s.1));
        })

moves_few : (d : Direction) (rows columns : ℕ) → rows ≤ 64 → columns ≤ 64 → length (moves d rows columns) ≤ 4096
moves_few d rows columns lr lc =
    let short = flat_short (λ i. row columns (move d i)) (range_with_len 0 rows) 64 (λ i has. (let long = length-map-range_with_len (move d i) 0 columns in omega (arith, long))) in
    omega (arith, short, length-range_with_len 0 rows)

pub grid_is_sound : (n : ℕ) → n ≤ 63 → IsSound (grid n)
grid_is_sound n le = record {
  state_names = record { each = points_names n le; differ = points_differ n le };
  label_names = labels_names;
  known = move_known n;
  initial = point_there n 0 0 (omega arith) (omega arith);
  few_states = points_few n le;
  few_labels = omega arith;
  few_arcs =
      (let right = moves_few Right n (n + 1) (omega arith) (omega arith) in
      let up = moves_few Up (n + 1) n (omega arith) (omega arith) in
      omega (arith, right, up, length-append (moves Right n (n + 1)) (moves Up (n + 1) n)));
}
