-- How many arcs grids and doublings have.
use Rattle.std.proofs.Common.{◌≡◌, ◌⊎◌, inl, inr, ⊎_elim, ℕ, zero, suc, ◌+◌, ◌*◌, ◌<◌, ◌≤◌, List, [], ◌∷◌, length, map, get_or, Contains, codes, refl, sym, ap, subst, ◌∙◌, arith}
use Rattle.std.specs.List.{range_with_len}
use Rattle.std.proofs.Math.Nat.{mul_comm}
use Rattle.std.proofs.lemmas.List.{length-append, length-map}
use Rattle.std.proofs.lemmas.List.FromFn.{length-range_with_len, length-map-range_with_len}
use Rattle.rg_theory.specs.declared.Arc.{Arc}
use Rattle.rg_theory.specs.System.{System, IsArcBefore}
use Rattle.rg_lts.proofs.OrderedArcs.{before_itself}
use Rattle.rg_line_formats.proofs.Things.{pigeons}
use Rattle.rg_families.specs.declared.Kind.TheVariants.{Grid, Doubling}
use Rattle.rg_families.specs.declared.grid.Direction.{Direction}
use Rattle.rg_families.specs.declared.grid.Direction.TheVariants.{Right, Up}
use Rattle.rg_families.specs.Named.{Triple, Drawing, arc_of, IsSystemOf, IsSound, row}
use Rattle.rg_families.specs.Grid.{point, move, moves, grid}
use Rattle.rg_families.specs.Doubling.{corner, middle, doubled, doubling}
use Rattle.rg_families.specs.Families.{IsFamilyNumber, IsOfFamily}
use Rattle.rg_families.proofs.Lists.{Differ, differ_nil, differ_cons, differ_append, differ_each, differ_row, differ_map, each_from, row_from}
use Rattle.rg_families.proofs.Counts.{flat_long}
use Rattle.rg_families.proofs.Opened.{same_named}
use Rattle.rg_families.proofs.GridSound.{same_point, grid_is_sound}
use Rattle.rg_families.proofs.DoublingSound.{same_corner, same_middle, corner_not_middle, doubling_is_sound}
use Rattle.rg_families.proofs.DoublingOpen.{first, second, whole, in_three}

-- arcs by names that differ are as many arcs
arcs_long : (d : Drawing) (lts : System) → IsSound d → IsSystemOf d lts → Differ d.arcs → length lts.arcs ≡ length d.arcs
arcs_long d lts sound is differ =
    let f = arc_of d.states d.labels in
    let ordered : Differ lts.arcs = λ i j e less lt same. before_itself (get_or lts.arcs j e) (subst (λ a. IsArcBefore a (get_or lts.arcs j e)) same (is.in_order i j e less lt)) in
    let named : Differ (map f d.arcs) = differ_map f d.arcs differ one in
    let most = pigeons lts.arcs (map f d.arcs) ordered (λ a has. (is.members a).0 has) in
    let least = pigeons (map f d.arcs) lts.arcs named (λ a has. (is.members a).1 has) in
    omega (arith, most, least, length-map d.arcs f)
  where
    one : (t u : Triple) → Contains d.arcs t → Contains d.arcs u → arc_of d.states d.labels t ≡ arc_of d.states d.labels u → t ≡ u
    one t u ht hu e =
        let kt = sound.known t ht in
        let ku = sound.known u hu in
        let from = same_named d.states t.from u.from kt.from ku.from (ap (λ (x : Arc). x.from) e) in
        let label = same_named d.labels t.label u.label kt.label ku.label (ap (λ (x : Arc). x.label) e) in
        let to = same_named d.states t.to u.to kt.to ku.to (ap (λ (x : Arc). x.to) e) in
        λ i. record { from = from i; label = label i; to = to i }

-- a move begins at its point
from_point : (d : Direction) (i j : ℕ) → (move d i j).from ≡ point i j
from_point Right i j = refl
from_point Up i j = refl

same_start : (d : Direction) (i j k l : ℕ) → i < 100 → j < 100 → k < 100 → l < 100 → move d i j ≡ move d k l → (i ≡ k) × (j ≡ l)
same_start d i j k l li lj lk ll e = same_point i j k l li lj lk ll (sym (from_point d i j) ∙ ap (λ (t : Triple). t.from) e ∙ from_point d k l)

moves_differ : (d : Direction) (rows columns : ℕ) → rows ≤ 64 → columns ≤ 64 → Differ (moves d rows columns)
moves_differ d rows columns lr lc = differ_each rows (λ i. row columns (move d i))
    (λ i lt. differ_row columns (move d i) (λ j k lj lk e. (same_start d i j i k (omega arith) (omega arith) (omega arith) (omega arith) e).1))
    (λ i k x less lt here there. (let r = row_from columns (move d i) x here in
    let s = row_from columns (move d k) x there in
    let same = same_start d i r.0 k s.0 (omega arith) (omega (arith, r.1)) (omega arith) (omega (arith, s.1)) (r.2 ∙ sym s.2) in
    omega (arith, same.0)))

moves_long : (d : Direction) (rows columns : ℕ) → length (moves d rows columns) ≡ rows * columns
moves_long d rows columns =
    flat_long (λ i. row columns (move d i)) (range_with_len 0 rows) columns (λ i. length-map-range_with_len (move d i) 0 columns) ∙ ap (λ m. m * columns) (length-range_with_len 0 rows)

pub grid_arcs : (n : ℕ) (lts : System) → IsFamilyNumber Grid n → IsOfFamily Grid n lts → length lts.arcs ≡ 2 * (n * (n + 1))
grid_arcs n lts (some, le) is =
    let right = moves Right n (n + 1) in
    let up = moves Up (n + 1) n in
    let whole = arcs_long (grid n) lts (grid_is_sound n le) is
    (differ_append right up (moves_differ Right n (n + 1) (omega arith) (omega arith)) (moves_differ Up (n + 1) n (omega arith) (omega arith)) apart) in
    omega (arith, whole, length-append right up, moves_long Right n (n + 1), moves_long Up (n + 1) n, mul_comm (n + 1) n)
  where
    apart : (t : Triple) → Contains (moves Right n (n + 1)) t → Contains (moves Up (n + 1) n) t → ⊥
    apart t a b =
        let r = each_from n (λ i. row (n + 1) (move Right i)) t a in
        let s = row_from (n + 1) (move Right r.0) t r.2 in
        let p = each_from (n + 1) (λ i. row n (move Up i)) t b in
        let q = row_from n (move Up p.0) t p.2 in
        let labels : codes "right" ≡ codes "up" = ap (λ (x : Triple). x.label) (s.2 ∙ sym q.2) in
        let letters : 114 ≡ 117 = ap (λ l. get_or l 0 0) labels in
        omega (arith, letters)

-- where the arcs of a doubling lead
ends : (i : ℕ) (t : Triple) → Contains (doubled i) t → (middle (i + 1) ≡ t.to) ⊎ (corner (i + 1) ≡ t.to)
ends i t has =
    ⊎_elim (λ a. inl (ap (λ (x : Triple). x.to) a)) (λ b. ⊎_elim (λ c. inr (ap (λ (x : Triple). x.to) c)) (λ c. inr (ap (λ (x : Triple). x.to) c)) b) (in_three i t has)

same_end : (i j : ℕ) (name : List ℕ) → i < 500 → j < 500 → (middle (i + 1) ≡ name) ⊎ (corner (i + 1) ≡ name) → (middle (j + 1) ≡ name) ⊎ (corner (j + 1) ≡ name) → i ≡ j
same_end i j name li lj (inl a) (inl b) = let same = same_middle (i + 1) (j + 1) (omega arith) (omega arith) (a ∙ sym b) in omega (arith, same)
same_end i j name li lj (inl a) (inr b) = absurd (corner_not_middle (j + 1) (i + 1) (b ∙ sym a))
same_end i j name li lj (inr a) (inl b) = absurd (corner_not_middle (i + 1) (j + 1) (a ∙ sym b))
same_end i j name li lj (inr a) (inr b) = let same = same_corner (i + 1) (j + 1) (omega arith) (omega arith) (a ∙ sym b) in omega (arith, same)

three_differ : (i : ℕ) → Differ (doubled i)
three_differ i =
    differ_cons (first i) (second i ∷ whole i ∷ []) (differ_cons (second i) (whole i ∷ []) (differ_cons (whole i) [] differ_nil (λ has. omega (arith, has.1))) second_new) first_new
  where
    second_new : Contains (whole i ∷ []) (second i) → ⊥
    second_new (zero, lt, e) = corner_not_middle i (i + 1) (ap (λ (x : Triple). x.from) e)
    second_new (suc k, lt, e) = omega arith

    first_new : Contains (second i ∷ whole i ∷ []) (first i) → ⊥
    first_new (zero, lt, e) = corner_not_middle (i + 1) (i + 1) (ap (λ (x : Triple). x.to) e)
    first_new (suc zero, lt, e) = corner_not_middle (i + 1) (i + 1) (ap (λ (x : Triple). x.to) e)
    first_new (suc (suc k), lt, e) = omega arith

pub doubling_arcs : (n : ℕ) (lts : System) → IsFamilyNumber Doubling n → IsOfFamily Doubling n lts → length lts.arcs ≡ 3 * n
doubling_arcs n lts (some, le) is =
    let whole = arcs_long (doubling n) lts (doubling_is_sound n le) is (differ_each n doubled (λ i lt. three_differ i)
    (λ i j t less lt here there. (let same = same_end i j t.to (omega arith) (omega arith) (ends i t here) (ends j t there) in omega (arith, same)))) in
    let long = flat_long doubled (range_with_len 0 n) 3 (λ i. refl) in
    omega (arith, whole, long, length-range_with_len 0 n)
