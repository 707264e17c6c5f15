-- The rows of a tree's chords.
use Rattle.std.proofs.Common.{◌≡◌, ℕ, ◌+◌, ◌<◌, ◌≤◌, ◌==◌, Bool, true, false, if◌then◌else◌, List, [], ◌∷◌, map, length, get_or, All, ℤ, pos, ◌+ℤ◌, ◌-ℤ◌, ap, ap₂, sym, ◌∙◌, subst, arith}
use Rattle.std.proofs.lemmas.Int.{ints}
use Rattle.std.proofs.lemmas.List.{get_or-map, length-map}
use Rattle.std.proofs.lemmas.List.Elements.{Contains-get_or}
use Rattle.rg_theory.specs.declared.Arc.{Arc}
use Rattle.rg_theory.specs.Limits.{most_states}
use Rattle.rg_theory.specs.System.{System, states, labels, IsInRange}
use Rattle.rg_theory.specs.Tree.{IsTree, way_to, count, parikh, is_among, arcs_without, chords, chord_entry}
use Rattle.rg_theory.proofs.Arcs.{arc_in_range}
use Rattle.rg_integers.specs.Range.{InRange}
use Rattle.rg_integers.specs.Sum.{number_at}
use Rattle.rg_linear.specs.Dictionary.{numbers_from}
use Rattle.rg_linear.specs.Cycle.{vector_at}
use Rattle.rg_linear.proofs.Members.{length-numbers_from}
use Rattle.rg_spanning.specs.Spanning.{Spanning, IsTreeOf}
use Rattle.rg_case_folds.specs.Chords.{chord_vectors}
use Rattle.rg_case_folds.proofs.Potentials.{chord_is_arc}
use Rattle.rg_case_folds.proofs.StartBounds.{way_below}
use Rattle.rg_cycles.specs.Vectors.{AreVectors}
use Rattle.rg_case_parts.specs.ChordRows.{tree_rows, entry_between, row_between}
use Rattle.rg_case_parts.proofs.Rows.{same_numbers, number_is}

-- ---- the chords

pub fewer : (tree arcs : List Arc) → length (arcs_without tree arcs) ≤ length arcs
fewer tree [] = omega arith
fewer tree (a ∷ arcs) = go (is_among tree a) (fewer tree arcs)
  where
    go : (b : Bool) → length (arcs_without tree arcs) ≤ length arcs → length (if b then arcs_without tree arcs else (a ∷ arcs_without tree arcs)) ≤ length (a ∷ arcs)
    go true h = omega arith
    go false h = omega arith

-- a chord's ends are states
chord_in_range : (lts : System) (tree : List Arc) (i : ℕ) (d : Arc) → IsInRange lts → i < length (chords lts tree)
    → ((get_or (chords lts tree) i d).from < states lts) × ((get_or (chords lts tree) i d).to < states lts)
chord_in_range lts tree i d fine lt =
    let a = get_or (chords lts tree) i d in
    let has = chord_is_arc tree lts.arcs a (Contains-get_or (chords lts tree) i d lt) in
    let ends = arc_in_range lts fine a.from a.label a.to has in
    (ends.0, ends.2)

pub ends_in_range : (lts : System) (tree : Spanning) → IsInRange lts → IsTreeOf lts tree → All (λ a. (a.from < tree.states) × (a.to < tree.states)) tree.chords
ends_in_range lts tree fine is = subst (All (λ a. (a.from < tree.states) × (a.to < tree.states))) (sym is.chords)
    (λ i d lt. (let ends = chord_in_range lts tree.arcs i d fine lt in let n = is.states in (omega (arith, ends.0), omega (arith, ends.1))))

-- ---- the rows

pub rows_are : (lts : System) (tree : Spanning) → IsTreeOf lts tree → tree_rows tree ≡ chord_vectors lts tree.arcs
rows_are lts tree is = ap₂ (λ n arcs. map (λ a. map (chord_entry tree.arcs a) (numbers_from 0 n)) arcs) is.labels is.chords

pub rows_few : (lts : System) (tree : Spanning) (n : ℕ) → length lts.arcs ≤ n → IsTreeOf lts tree → length (tree_rows tree) ≤ n
rows_few lts tree n h is =
    let less = fewer tree.arcs lts.arcs in
    let size = length-map tree.chords (λ a. map (chord_entry tree.arcs a) (numbers_from 0 tree.labels)) in
    let same = ap length is.chords in
    omega arith

-- a label occurs on a way at most as often as the way is long
count_short : (t : ℕ) (us : List ℕ) → count t us ≤ length us
count_short t [] = omega arith
count_short t (u ∷ us) = go (t == u) (count_short t us)
  where
    go : (b : Bool) → count t us ≤ length us → (if b then 1 else 0) + count t us ≤ length (u ∷ us)
    go true h = omega arith
    go false h = omega arith

small : (m n : ℕ) (b : Bool) → m < 4096 → n < 4096 → InRange ((pos m +ℤ (if b then pos 1 else pos 0)) -ℤ pos n)
small m n true h k = omega (arith, ints)
small m n false h k = omega (arith, ints)

entry_small : (lts : System) (tree : List Arc) (a : Arc) (t : ℕ) → IsInRange lts → states lts ≤ most_states → IsTree lts tree → InRange (chord_entry tree a t)
entry_small lts tree a t fine few is = small (parikh tree a.from t) (parikh tree a.to t) (t == a.label) (below a.from) (below a.to)
  where
    below : (s : ℕ) → parikh tree s t < 4096
    below s = let long = way_below lts tree s fine is in let less = count_short t (way_to tree s) in omega arith

pub rows_in_range : (lts : System) (tree : Spanning) → IsInRange lts → states lts ≤ most_states → IsTreeOf lts tree → AreVectors (labels lts) (tree_rows tree)
rows_in_range lts tree fine few is = record {
  one_each = λ c lt. ap length (at c lt) ∙ length-map (numbers_from 0 tree.labels) (entries c) ∙ length-numbers_from 0 tree.labels ∙ is.labels;
  in_range = λ c j lt below. subst (λ xs. InRange (number_at xs j)) (sym (at c lt))
      (subst InRange (sym (number_is (entries c) tree.labels j (let n = is.labels in omega arith))) (entry_small lts tree.arcs (arc_at c) j fine few is.tree));
}
  where
    arc_at : ℕ → Arc
    arc_at c = get_or tree.chords c (record { from = 0; label = 0; to = 0 })

    entries : ℕ → ℕ → ℤ
    entries c = chord_entry tree.arcs (arc_at c)

    at : (c : ℕ) → c < length (tree_rows tree) → vector_at (tree_rows tree) c ≡ map (entries c) (numbers_from 0 tree.labels)
    at c lt = get_or-map (λ a. map (chord_entry tree.arcs a) (numbers_from 0 tree.labels)) tree.chords c (record { from = 0; label = 0; to = 0 }) []
        (subst (λ n. c < n) (length-map tree.chords (λ a. map (chord_entry tree.arcs a) (numbers_from 0 tree.labels))) lt)

-- the row of a chord is that of its ends
pub row_is : (tree : Spanning) (c : ℕ) (d : Arc) (arcs : List Arc) (source target : List ℕ) → c < length (tree_rows tree) → arcs ≡ tree.chords → length source ≡ tree.labels
    → ((t : ℕ) → t < tree.labels → get_or source t 0 ≡ parikh tree.arcs (get_or arcs c d).from t) → ((t : ℕ) → t < tree.labels → get_or target t 0 ≡ parikh tree.arcs (get_or arcs c d).to t)
    → row_between source target (get_or arcs c d).label ≡ vector_at (tree_rows tree) c
row_is tree c d arcs source target lt are long from to =
    let a = get_or arcs c d in
    ap (λ n. map (entry_between source target a.label) (numbers_from 0 n)) long
    ∙ same_numbers (entry_between source target a.label) (chord_entry tree.arcs a) tree.labels
    (λ t below. ap₂ (λ (x y : ℕ). (pos x +ℤ (if t == a.label then pos 1 else pos 0)) -ℤ pos y) (from t below) (to t below))
    ∙ ap (λ (xs : List Arc). map (chord_entry tree.arcs (get_or xs c d)) (numbers_from 0 tree.labels)) are
    ∙ sym (get_or-map (λ b. map (chord_entry tree.arcs b) (numbers_from 0 tree.labels)) tree.chords c d []
    (subst (λ n. c < n) (length-map tree.chords (λ b. map (chord_entry tree.arcs b) (numbers_from 0 tree.labels))) lt))
