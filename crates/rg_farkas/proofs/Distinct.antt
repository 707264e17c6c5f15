-- The arcs that get multipliers are different arcs of the system.
use Rattle.std.proofs.Common.{◌≡◌, ◌≢◌, ⊎_elim, ℕ, zero, suc, ◌+◌, ◌<◌, ◌≤◌, Bool, true, false, if◌then◌else◌, List, [], ◌∷◌, ◌++◌, map, length, slice_index_or, Contains, inl, inr, refl, subst, sym, ◌∙◌, arith}
use Rattle.std.proofs.lemmas.Bool.{true≢false}
use Rattle.std.proofs.lemmas.List.Elements.{Contains-push, Contains-append_left, Contains-append_cases, Contains-get_or}
use Rattle.rg_theory.specs.declared.Arc.{Arc}
use Rattle.rg_theory.specs.System.{System, labels}
use Rattle.rg_theory.specs.Tree.{Grows, IsTree, is_among, arcs_without, chords}
use Rattle.rg_theory.proofs.Lists.{Contains-cons_cases, map_from}
use Rattle.rg_theory.proofs.Trees.{tree_arcs}
use Rattle.rg_linear.specs.Dictionary.{numbers_from}
use Rattle.rg_linear.specs.Firsts.{KeepsEqualRows}
use Rattle.rg_linear.specs.Cycle.{vector_at, IsZeroVector, CycleBasis}
use Rattle.rg_linear.proofs.Firsts.{kept_is}
use Rattle.rg_linear.proofs.Members.{numbers_from-Contains}
use Rattle.rg_case_folds.specs.Chords.{chord_vectors, IsBasis}
use Rattle.rg_folds.specs.Substitution.{is_in, numbers_where}
use Rattle.rg_case_folds.specs.Spreading.{used_chords, chord_arcs}
use Rattle.rg_case_folds.proofs.Potentials.{chord_is_arc}
use Rattle.rg_spanning.proofs.TreeTables.{among}
use Rattle.rg_case_folds.proofs.Lists.{where_is}
use Rattle.rg_farkas.proofs.Listed.{Differ}
use Rattle.rg_farkas.proofs.Relations.{used_chord}
use Rattle.rg_case_folds.proofs.ChordRows.{kept_place as kept_index}

pub differ_append : (xs ys : List Arc) → Differ xs → Differ ys → ((a : Arc) → Contains xs a → ¬ Contains ys a) → Differ (xs ++ ys)
differ_append [] ys dx dy apart = dy
differ_append (x ∷ xs) ys (lacks, dx) dy apart = (
  (λ has. ⊎_elim (λ h. lacks h) (λ h. apart x (0, omega arith, refl) h) (Contains-append_cases xs ys x has)),
  differ_append xs ys dx dy (λ a (k, lt, e). apart a (suc k, omega arith, e)),
)

-- ---- the tree

later_is_fresh : (lts : System) (met : List ℕ) (tree : List Arc) (b : Arc) → Grows lts met tree → Contains tree b → ¬ Contains met b.to
later_is_fresh lts met [] b g (k, lt, e) has = omega arith
later_is_fresh lts met (a ∷ tree) b (j, g) has met_b =
    ⊎_elim (λ e. j.fresh (subst (λ (u : Arc). Contains met u.to) (sym e) met_b))
    (λ there. later_is_fresh lts (met ++ a.to ∷ []) tree b g there (Contains-append_left met (a.to ∷ []) b.to met_b)) (Contains-cons_cases a b tree has)

pub tree_differs : (lts : System) (met : List ℕ) (tree : List Arc) → Grows lts met tree → Differ tree
tree_differs lts met [] g = tt
tree_differs lts met (a ∷ tree) (j, g) = ((λ has. later_is_fresh lts (met ++ a.to ∷ []) tree a g has (Contains-push met a.to)), tree_differs lts (met ++ a.to ∷ []) tree g)

-- ---- the chords

without_differs : (tree arcs : List Arc) → Differ arcs → Differ (arcs_without tree arcs)
without_differs tree [] d = tt
without_differs tree (a ∷ arcs) (lacks, d) = go (is_among tree a) (without_differs tree arcs d)
  where
    go : (b : Bool) → Differ (arcs_without tree arcs) → Differ (if b then arcs_without tree arcs else (a ∷ arcs_without tree arcs))
    go true ih = ih
    go false ih = ((λ has. lacks (chord_is_arc tree arcs a has)), ih)

not_among_chord : (tree arcs : List Arc) (a : Arc) → Contains (arcs_without tree arcs) a → is_among tree a ≡ false
not_among_chord tree [] a (k, lt, e) = absurd (omega arith)
not_among_chord tree (b ∷ arcs) a has = go (is_among tree b) refl has (λ h. not_among_chord tree arcs a h)
  where
    go : (t : Bool) → is_among tree b ≡ t → Contains (if t then arcs_without tree arcs else (b ∷ arcs_without tree arcs)) a
        → (Contains (arcs_without tree arcs) a → is_among tree a ≡ false) → is_among tree a ≡ false
    go true e h next = next h
    go false e h next = ⊎_elim (λ is. subst (λ u. is_among tree u ≡ false) is e) next (Contains-cons_cases b a (arcs_without tree arcs) h)

-- a chord is not in the tree
pub chord_not_tree : (tree arcs : List Arc) (a : Arc) → Contains (arcs_without tree arcs) a → ¬ Contains tree a
chord_not_tree tree arcs a has in_tree = true≢false (sym (among tree a in_tree) ∙ not_among_chord tree arcs a has)

differ_at : (xs : List Arc) (i j : ℕ) (d : Arc) → Differ xs → i < j → j < length xs → slice_index_or xs i d ≢ slice_index_or xs j d
differ_at [] i j d differ lt below e = omega arith
differ_at (x ∷ xs) zero zero d differ lt below e = omega arith
differ_at (x ∷ xs) zero (suc j) d (lacks, differ) lt below e = lacks (subst (Contains xs) (sym e) (Contains-get_or xs j d (omega arith)))
differ_at (x ∷ xs) (suc i) zero d differ lt below e = omega arith
differ_at (x ∷ xs) (suc i) (suc j) d (lacks, differ) lt below e = differ_at xs i j d differ (omega arith) (omega arith) e

-- the kept indices rise
pub kept_rises : {K : Type 0} (key : ℕ → K) (Drops : ℕ → Type 0) (seen : List K) (a n : ℕ) (kept : List ℕ) (i j : ℕ)
    → KeepsEqualRows key Drops seen (numbers_from a n) kept → i < j → j < length kept → slice_index_or kept i 0 < slice_index_or kept j 0
kept_rises key Drops seen a zero kept i j e lt below = absurd (nothing kept e below)
  where
    nothing : (l : List ℕ) → l ≡ [] → j < length l → ⊥
    nothing l e below = let h = subst (λ (m : List ℕ). j < length m) e below in omega arith
kept_rises key Drops seen a (suc n) kept i j (inl (dropped, rest)) lt below = kept_rises key Drops seen (suc a) n kept i j rest lt below
kept_rises {K} key Drops seen a (suc n) kept i j (inr (keeps, new, (rest, e, more))) lt below =
    subst (λ l. j < length l → slice_index_or l i 0 < slice_index_or l j 0) (sym e)
    (λ below'. go i j lt below' (λ i' j' lt' b'. kept_rises key Drops (key a ∷ seen) (suc a) n rest i' j' more lt' b')) below
  where
    above : (p : ℕ) → p < length rest → a < slice_index_or rest p 0
    above p lt' = let h = numbers_from-Contains (suc a) n (slice_index_or rest p 0)
        (kept_is key Drops (key a ∷ seen) (numbers_from (suc a) n) rest (slice_index_or rest p 0) more (Contains-get_or rest p 0 lt')) in omega arith

    go : (i j : ℕ) → i < j → j < length (a ∷ rest) → ((i' j' : ℕ) → i' < j' → j' < length rest → slice_index_or rest i' 0 < slice_index_or rest j' 0)
        → slice_index_or (a ∷ rest) i 0 < slice_index_or (a ∷ rest) j 0
    go zero zero lt below ih = absurd (omega arith)
    go zero (suc j) lt below ih = above j (omega arith)
    go (suc i) zero lt below ih = absurd (omega arith)
    go (suc i) (suc j) lt below ih = ih i j (omega arith) (omega arith)

module _ (lts : System) (tree : List Arc) (basis : CycleBasis) (is : IsBasis lts tree basis) (differ : Differ lts.arcs) where
  chord_differs : (c d : ℕ) → c < d → d < length basis.kept → used_chord lts tree basis c ≢ used_chord lts tree basis d
  chord_differs c d lt below = differ_at (chords lts tree) (slice_index_or basis.kept c 0) (slice_index_or basis.kept d 0)
      (record { from = 0; label = 0; to = 0 }) (without_differs tree lts.arcs differ)
      (kept_rises (vector_at (chord_vectors lts tree)) (λ i. IsZeroVector (vector_at (chord_vectors lts tree) i)) [] 0 (length (chord_vectors lts tree)) basis.kept c d is.kept lt below)
      (kept_index lts tree basis.kept (slice_index_or basis.kept d 0) is.kept (Contains-get_or basis.kept d 0 below))

  chords_differ_from : (test : ℕ → Bool) (a n : ℕ) → a + n ≤ length basis.kept → Differ (map (used_chord lts tree basis) (numbers_where test a n))
  chords_differ_from test a zero le = tt
  chords_differ_from test a (suc n) le = go (test a) (chords_differ_from test (suc a) n (omega arith))
    where
      other : Contains (map (used_chord lts tree basis) (numbers_where test (suc a) n)) (used_chord lts tree basis a) → ⊥
      other has =
          let (c, has', e) = map_from (used_chord lts tree basis) (numbers_where test (suc a) n) (used_chord lts tree basis a) has in
          let (_, low, high) = where_is test (suc a) n c has' in
          chord_differs a c (omega arith) (omega arith) (sym e)

      go : (b : Bool) → Differ (map (used_chord lts tree basis) (numbers_where test (suc a) n))
          → Differ (map (used_chord lts tree basis) (if b then (a ∷ numbers_where test (suc a) n) else numbers_where test (suc a) n))
      go true ih = (other, ih)
      go false ih = ih

  pub chords_differ : Differ (chord_arcs lts tree basis)
  chords_differ = chords_differ_from (λ c. is_in basis.members (labels lts + c)) 0 (length basis.kept) (omega arith)

  pub used_is_chord : (a : Arc) → Contains (chord_arcs lts tree basis) a → Contains (chords lts tree) a
  used_is_chord a has =
      let (c, has', e) = map_from (used_chord lts tree basis) (used_chords lts basis) a has in
      let (_, low, high) = where_is (λ c. is_in basis.members (labels lts + c)) 0 (length basis.kept) c has' in
      subst (Contains (chords lts tree)) e (Contains-get_or (chords lts tree) (slice_index_or basis.kept c 0)
      (record { from = 0; label = 0; to = 0 }) (kept_index lts tree basis.kept (slice_index_or basis.kept c 0) is.kept
      (Contains-get_or basis.kept c 0 (omega arith))))

  pub given_differ : IsTree lts tree → Differ (chord_arcs lts tree basis ++ tree)
  given_differ g = differ_append (chord_arcs lts tree basis) tree chords_differ (tree_differs lts (lts.initial ∷ []) tree g) (λ a has. chord_not_tree tree lts.arcs a (used_is_chord a has))

  pub given_inside : IsTree lts tree → (a : Arc) → Contains (chord_arcs lts tree basis ++ tree) a → Contains lts.arcs a
  given_inside g a has = ⊎_elim (λ h. chord_is_arc tree lts.arcs a (used_is_chord a h)) (λ h. tree_arcs lts (lts.initial ∷ []) tree a g h)
      (Contains-append_cases (chord_arcs lts tree basis) tree a has)
