-- The numbers of the states, tree arc by tree arc.
use Rattle.std.proofs.Common.{◌≡◌, ⊎_elim, ℕ, ◌+◌, ◌<◌, ◌≤◌, ◌==◌, if◌then◌else◌, List, [], ◌∷◌, length, map, drop, set, replicate, slice_index_or, Result, Ok, Err, inl, inr, ap, refl, sym, subst, ◌∙◌, arith, eq-eqb, eqb-true}
use Rattle.std.specs.Prelude.{pos}
use Rattle.std.proofs.lemmas.Bool.{cases_Bool, true≢false}
use Rattle.std.proofs.lemmas.List.{drop_all, length-map, length-set, length-replicate, map-set, get_or-map, get_or-replicate, get_or-set_other, get_or_default, ext_get_or}
use Rattle.std.proofs.lemmas.Grind.{get_or-set_at}
use Rattle.rg_theory.specs.declared.Arc.{Arc}
use Rattle.rg_theory.specs.System.{System, states, labels, IsInRange, IsArcInRange}
use Rattle.rg_theory.specs.Tree.{IsTree}
use Rattle.rg_theory.proofs.Trees.{tree_arcs}
use Rattle.rg_integers.specs.declared.term.Wide.{Wide}
use Rattle.rg_fraction.specs.declared.fraction.Fraction.{Fraction}
use Rattle.rg_fraction.specs.Fractions.{numerator_of, denominator_of, IsSum}
use Rattle.rg_folds.specs.Fold.{Ratio, whole, add, ratio_of, shown_result}
use Rattle.rg_folds.proofs.FoldLemmas.{add_step}
use Rattle.rg_case_folds.specs.Rewriting.{all_numbers}
use Rattle.rg_case_folds.specs.Placing.{along_tree, ratio_at}
use Rattle.rg_places.specs.PointValues.{ratios_of}
use Rattle.rg_places.specs.Steps.{IsAlongTree}
use Rattle.rg_places.proofs.FractionSteps.{ratio_there}
use Rattle.rg_places.proofs.FoldSteps.{left_at}
use Rattle.rg_case_folds.proofs.Found.{all_at, all_length}

-- an arc of the tree names states and a label
pub tree_arc_in_range : (lts : System) (tree : List Arc) (i : ℕ) (d : Arc) → IsInRange lts → IsTree lts tree → i < length tree → IsArcInRange lts (slice_index_or tree i d)
tree_arc_in_range lts tree i d fine is lt =
    let (k, below, e) = tree_arcs lts (lts.initial ∷ []) tree (slice_index_or tree i d) is (i, lt, get_or_default tree i (slice_index_or tree i d) d lt) in
    subst (IsArcInRange lts) e (fine.arcs k (slice_index_or tree i d) below)

-- the numbers of the states so far; what is made of the arcs from i on is made of all
pub record AlongLeads (lts : System) (tree : List Arc) (found : List Ratio) (i : ℕ) (numbers : List Ratio) : Type 0 where
  pub number : ℕ → Ratio
  pub one_each : length numbers ≡ states lts
  pub same : (s : ℕ) → s < states lts → ratio_at numbers s ≡ number s
  pub leads : (r : Result (ℕ → Ratio) Wide) → along_tree (ratio_at found) number (drop i tree) r → along_tree (ratio_at found) (λ s. ratio_at found (labels lts)) tree r

pub along_start : (lts : System) (tree : List Arc) (found numbers : List Ratio) → length numbers ≡ states lts
    → ((s : ℕ) → s < states lts → ratio_at numbers s ≡ ratio_at found (labels lts)) → AlongLeads lts tree found 0 numbers
along_start lts tree found numbers count same = record { number = λ s. ratio_at found (labels lts); one_each = count; same = same; leads = λ r h. h }

module _ (lts : System) (tree : List Arc) (found : List Ratio) (i : ℕ) (numbers : List Ratio) (so_far : AlongLeads lts tree found i numbers) where
  pub along_end : length tree ≤ i → IsAlongTree lts tree found numbers
  along_end past = (
    so_far.number,
    so_far.leads (Ok so_far.number)
        (subst (λ l. along_tree (ratio_at found) so_far.number l (Ok so_far.number)) (sym (drop_all i tree past)) refl),
    ext_get_or
        (whole (pos 0)) numbers (map so_far.number (all_numbers (states lts))) lengths at,
  )
    where
      lengths : length numbers ≡ length (map so_far.number (all_numbers (states lts)))
      lengths = so_far.one_each ∙ sym (length-map (all_numbers (states lts)) so_far.number ∙ all_length (states lts))

      at : (s : ℕ) → s < length numbers → slice_index_or numbers s (whole (pos 0)) ≡ slice_index_or (map so_far.number (all_numbers (states lts))) s (whole (pos 0))
      at s lt = so_far.same s (below lt) ∙ ap so_far.number (sym (all_at (states lts) s (below lt)))
          ∙ sym (get_or-map so_far.number (all_numbers (states lts)) s 0 (whole (pos 0)) (subst (λ n. s < n) (sym (all_length (states lts))) (below lt)))
        where
          below : s < length numbers → s < states lts
          below lt = subst (λ n. s < n) so_far.one_each lt

  module _ (a : Arc) (lt : i < length tree) (at : a ≡ slice_index_or tree i a) (from : a.from < states lts) where
    here : (r : Result (ℕ → Ratio) Wide) → along_tree (ratio_at found) so_far.number (a ∷ drop (i + 1) tree) r → along_tree (ratio_at found) (λ s. ratio_at found (labels lts)) tree r
    here r h = so_far.leads r (subst (λ l. along_tree (ratio_at found) so_far.number l r) (sym (left_at tree i a lt at)) h)

    source : (r : Result Ratio Wide) → add (ratio_at numbers a.from) (ratio_at found a.label) r → add (so_far.number a.from) (ratio_at found a.label) r
    source r h = subst (λ x. add x (ratio_at found a.label) r) (so_far.same a.from from) h

    pub along_fails : (w : Wide) → add (ratio_at numbers a.from) (ratio_at found a.label) (Err w) → along_tree (ratio_at found) (λ s. ratio_at found (labels lts)) tree (Err w)
    along_fails w h = here (Err w) (inl (source (Err w) h))

    pub along_next : (m : Ratio) → a.to < states lts → add (ratio_at numbers a.from) (ratio_at found a.label) (Ok m) → AlongLeads lts tree found (i + 1) (set numbers a.to m)
    along_next m to h = record { number = moved; one_each = length-set numbers a.to m ∙ so_far.one_each; same = same; leads = leads }
      where
        moved : ℕ → Ratio
        moved s = if s == a.to then m else so_far.number s

        same : (s : ℕ) → s < states lts → ratio_at (set numbers a.to m) s ≡ (if s == a.to then m else so_far.number s)
        same s below = ⊎_elim
            (λ e. get_or-set_at numbers a.to s m (whole (pos 0)) (eqb-true s a.to e) (subst (λ n. a.to < n) (sym so_far.one_each) to) ∙ sym (ap (λ b. if b then m else so_far.number s) e))
            (λ e. get_or-set_other numbers a.to s m (whole (pos 0)) (λ is. true≢false (sym (eq-eqb s a.to is) ∙ e)) ∙ so_far.same s below ∙ sym (ap (λ b. if b then m else so_far.number s) e))
            (cases_Bool (s == a.to))

        leads : (r : Result (ℕ → Ratio) Wide) → along_tree (ratio_at found) moved (drop (i + 1) tree) r → along_tree (ratio_at found) (λ s. ratio_at found (labels lts)) tree r
        leads (Ok y) k = here (Ok y) (m, source (Ok m) h, k)
        leads (Err w) k = here (Err w) (inr (m, source (Ok m) h, k))

-- the numbers before the first arc, and after the next
module _ (lts : System) (tree : List Arc) (found numbers : List Fraction) where
  pub along_first : (start : Fraction) → length found ≡ labels lts + 1 → start ≡ slice_index_or found (labels lts) start
      → numbers ≡ replicate (states lts) start → AlongLeads lts tree (ratios_of found) 0 (ratios_of numbers)
  along_first start count at are = along_start lts tree (ratios_of found) (ratios_of numbers) (length-map numbers ratio_of ∙ ap length are ∙ length-replicate (states lts) start) same
    where
      within : labels lts < length found
      within = let e = count in omega arith

      same : (s : ℕ) → s < states lts → ratio_at (ratios_of numbers) s ≡ ratio_at (ratios_of found) (labels lts)
      same s lt = ap (λ l. ratio_at (ratios_of l) s) are ∙ get_or-map ratio_of (replicate (states lts) start) s start (whole (pos 0))
          (subst (λ n. s < n) (sym (length-replicate (states lts) start)) lt) ∙ ap ratio_of (get_or-replicate (states lts) s start start lt)
          ∙ ratio_there found (labels lts) start within at

  module _ (i : ℕ) (d : Arc) (fine : IsInRange lts) (is : IsTree lts tree) (lt : i < length tree)
      (so_far : AlongLeads lts tree (ratios_of found) i (ratios_of numbers)) (count : length found ≡ labels lts + 1) where
    abbrev next : Arc
    next = slice_index_or tree i d

    ends : IsArcInRange lts next
    ends = tree_arc_in_range lts tree i d fine is lt

    many : length numbers ≡ states lts
    many = sym (length-map numbers ratio_of) ∙ so_far.one_each

    module _ (source effect : Fraction) (source_is : source ≡ slice_index_or numbers next.from source) (effect_is : effect ≡ slice_index_or found next.label effect)
        (r : Result Fraction Wide) (sum : IsSum (numerator_of source) (denominator_of source) (numerator_of effect) (denominator_of effect) r) where
      added : add (ratio_at (ratios_of numbers) next.from) (ratio_at (ratios_of found) next.label) (shown_result ratio_of r)
      added = subst (λ x. add x (ratio_at (ratios_of found) next.label) (shown_result ratio_of r)) (ratio_there numbers next.from source (subst (λ n. next.from < n) (sym many) ends.0) source_is)
          (subst (λ y. add (ratio_of source) y (shown_result ratio_of r))
          (ratio_there found next.label effect (let k = ends.1 in let e = count in omega arith) effect_is) (add_step source effect r sum))

      pub step_fails : (w : Wide) → r ≡ Err w → along_tree (ratio_at (ratios_of found)) (λ s. ratio_at (ratios_of found) (labels lts)) tree (Err w)
      step_fails w e = along_fails lts tree (ratios_of found) i (ratios_of numbers) so_far next lt (get_or_default tree i d next lt) ends.0 w
          (subst (λ x. add (ratio_at (ratios_of numbers) next.from) (ratio_at (ratios_of found) next.label) (shown_result ratio_of x)) e added)

      pub step_next : (m : Fraction) → r ≡ Ok m → AlongLeads lts tree (ratios_of found) (i + 1) (ratios_of (set numbers next.to m))
      step_next m e = subst (AlongLeads lts tree (ratios_of found) (i + 1)) (sym (map-set ratio_of numbers next.to m))
          (along_next lts tree (ratios_of found) i (ratios_of numbers) so_far next lt (get_or_default tree i d next lt) ends.0 (ratio_of m) ends.2
          (subst (λ x. add (ratio_at (ratios_of numbers) next.from) (ratio_at (ratios_of found) next.label) (shown_result ratio_of x)) e added))
