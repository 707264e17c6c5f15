-- The folds of rows, places and spreading have one result each.
use Rattle.std.proofs.Common.{◌≡◌, ◌≢◌, ℕ, max, ◌≤◌, ◌==◌, ◌||◌, is_some, not, Bool, true, false, if◌then◌else◌, List, [], ◌∷◌, ◌++◌, map, length, reverse, drop, Result, Ok, Err, ap, ap₂, refl, subst, sym, ◌∙◌, arith}
use Rattle.std.specs.Prelude.{ℤ, pos, ◌*ℤ◌}
use Rattle.std.proofs.lemmas.Int.{ints}
use Rattle.std.proofs.lemmas.Nat.Gcd.{dvd_antisymm}
use Rattle.rg_theory.specs.declared.Arc.{Arc}
use Rattle.rg_theory.specs.System.{System, labels}
use Rattle.rg_theory.specs.declared.Class.{Class}
use Rattle.rg_theory.specs.declared.Problem.{Problem}
use Rattle.rg_cert_meaning.specs.Expression.{Term, Expression, plus}
use Rattle.rg_cert_meaning.specs.Row.{form_variable, row_expression, Side}
use Rattle.rg_cert_meaning.specs.declared.Form.{Form as SplitForm}
use Rattle.rg_cert_meaning.specs.declared.RowName.{RowName}
use Rattle.rg_cert_meaning.specs.Refutes.{NamedRow}
use Rattle.rg_linear.specs.System.{LinearRow}
use Rattle.rg_linear.specs.Branching.{Form, Weight, SplitSide}
use Rattle.rg_integers.proofs.Order.{mul-cancel_left}
use Rattle.rg_integers.specs.declared.term.Wide.{Wide}
use Rattle.rg_fraction.specs.Rows.{IsRowGcd}
use Rattle.rg_case_folds.specs.Setting.{Setting, CaseSetting}
use Rattle.rg_folds.specs.Fold.{either, IsOne, Ratio, whole, IsRatio, add, mul, whole_sum}
use Rattle.rg_linear.specs.Cycle.{CycleBasis}
use Rattle.rg_folds.specs.Substitution.{dependent_term, coefficient_fold, substitute_fold, dependent_labels, free_labels, is_in}
use Rattle.rg_case_folds.specs.Rewriting.{Scaled, scaled_fold, terms_fold, KeptRow, divided, row_fold, IsIdle, form_fold, CaseSystem, kept_of, system_fold, has_label, names_of, split_forms}
use Rattle.rg_case_folds.specs.Placing.{effect_fold, made_whole, along_tree, shift_fold, is_shifted, is_lifted, place_fold}
use Rattle.rg_case_folds.specs.Spreading.{Share, share_fold, Pair, pair_fold, chord_fold, ArcTimes, Addend, Addend.number, Addend.product, addend_fold, tree_fold, parts_of, sizes_fold, checked_leaf, used_chords, chord_arcs, named_from, arc_name, multiplier_among, not_zero, leaf_fold, spread_fold}
use Rattle.rg_linear.proofs.Firsts.{same_kept}
use Rattle.rg_folds.proofs.FoldLemmas.{Same, gives_one, and_then_one, each_one, further_one, joined_one, term_one, ratio_one, quotient_one, two_terms_one, add_one, multiple_one}

pub either_one : {X : Type 0} (b : Bool) (first second : Result X Wide → Type 0) → IsOne first → IsOne second → IsOne (either b first second)
either_one true first second one other = one
either_one false first second one other = other

-- ---- rows

same_divisor : (r : List ℤ) (g g' : ℕ) → IsRowGcd r g → IsRowGcd r g' → g ≡ g'
same_divisor r g g' h h' = dvd_antisymm (h'.greatest g h.divides) (h.greatest g' h'.divides)

same_parts : (m : ℤ) (xs ys : List ℤ) → m ≢ pos 0 → map (λ z. m *ℤ z) xs ≡ map (λ z. m *ℤ z) ys → xs ≡ ys
same_parts m [] [] ne e = refl
same_parts m [] (y ∷ ys) ne e = cc
same_parts m (x ∷ xs) [] ne e = cc
same_parts m (x ∷ xs) (y ∷ ys) ne e = ap₂ ◌∷◌ (mul-cancel_left m x y ne (head e)) (same_parts m xs ys ne (tail e))
  where
    head : map (λ z. m *ℤ z) (x ∷ xs) ≡ map (λ z. m *ℤ z) (y ∷ ys) → m *ℤ x ≡ m *ℤ y
    head e = cc

    tail : map (λ z. m *ℤ z) (x ∷ xs) ≡ map (λ z. m *ℤ z) (y ∷ ys) → map (λ z. m *ℤ z) xs ≡ map (λ z. m *ℤ z) ys
    tail e = cc

pub not_none : (g : ℕ) → pos (max g 1) ≢ pos 0
not_none g e = let h : 1 ≤ max g 1 = omega arith in absurd (go (max g 1) h e)
  where
    go : (n : ℕ) → 1 ≤ n → pos n ≡ pos 0 → ⊥
    go n h e = omega (arith, ints)

same_row : (r r' : LinearRow) → r.coeffs ≡ r'.coeffs → r.constant ≡ r'.constant → r ≡ r'
same_row r r' e f = λ i. record { coeffs = e i; constant = f i }

same_kept_row : (k k' : KeptRow) → k.name ≡ k'.name → k.row ≡ k'.row → k.factor ≡ k'.factor → k ≡ k'
same_kept_row k k' e f g = λ i. record { name = e i; row = f i; factor = g i }

pub divided_same : (name : RowName) (scaled : Scaled) (constant : ℤ) → Same (divided name scaled constant)
divided_same name scaled constant (Ok k) (Ok k') (n, h) (n', h') = ap Ok (same_kept_row k k' (n ∙ sym n') (same_row k.row k'.row coeffs constants) factors)
  where
    g : h.divisor ≡ h'.divisor
    g = same_divisor _ h.divisor h'.divisor h.greatest h'.greatest

    coeffs : k.row.coeffs ≡ k'.row.coeffs
    coeffs =
        same_parts (pos (max h.divisor 1)) k.row.coeffs k'.row.coeffs (not_none h.divisor) (sym h.coeffs ∙ subst (λ d. scaled.numbers ≡ map (λ z. pos (max d 1) *ℤ z) k'.row.coeffs) (sym g) h'.coeffs)

    constants : k.row.constant ≡ k'.row.constant
    constants =
        mul-cancel_left (pos (max h.divisor 1)) k.row.constant k'.row.constant (not_none h.divisor) (sym h.constant ∙ subst (λ d. constant ≡ pos (max d 1) *ℤ k'.row.constant) (sym g) h'.constant)

    factors : k.factor ≡ k'.factor
    factors = ratio_one k.factor k'.factor scaled.multiple (pos (max h.divisor 1)) h.factor (subst (λ d. IsRatio k'.factor scaled.multiple (pos (max d 1))) (sym g) h'.factor)
divided_same name scaled constant (Ok k) (Err w) h h' = absurd h'
divided_same name scaled constant (Err w) r h h' = absurd h

pub divided_one : (name : RowName) (scaled : Scaled) (constant : ℤ) → IsOne (divided name scaled constant)
divided_one name scaled constant = record { one = divided_same name scaled constant }

pub coefficient_one : (labels : ℕ) (basis : CycleBasis) (counts : ℕ → ℤ) (f : ℕ) → IsOne (coefficient_fold labels basis counts f)
coefficient_one labels basis counts f =
    further_one add (dependent_term basis counts f) add_one (λ t. and_then_one _ _ (quotient_one _ _) (λ k. two_terms_one _ _ _ _)) (whole (counts f)) (dependent_labels labels basis)

pub substitute_one : (labels : ℕ) (basis : CycleBasis) (counts : ℕ → ℤ) → IsOne (substitute_fold labels basis counts)
substitute_one labels basis counts = each_one (coefficient_fold labels basis counts) (coefficient_one labels basis counts) (free_labels labels basis)

pub scaled_one : (numbers : List Ratio) → IsOne (scaled_fold numbers)
scaled_one numbers = and_then_one _ _ (multiple_one _) (λ m. and_then_one _ _ (each_one (λ r. mul r (whole m)) (λ r. two_terms_one _ _ _ _) numbers) (λ products. gives_one _))

pub terms_one : (s : Setting) (terms : List Term) → IsOne (terms_fold s terms)
terms_one s terms = and_then_one _ _ (substitute_one (labels s.lts) s.basis _) (λ free. scaled_one _)

pub row_one : (s : Setting) (name : RowName) (e : Expression) → IsOne (row_fold s name e)
row_one s name e = and_then_one _ _ (terms_one s e.terms) (λ scaled. and_then_one _ _ (two_terms_one _ _ _ _) (λ constant. divided_one name scaled constant.top))

pub form_one : (s : Setting) (form : SplitForm) → IsOne (form_fold s form)
form_one s form = and_then_one _ _ (terms_one s (plus (form_variable s.lts.initial form) ∷ [])) (λ scaled. gives_one _)

same_case : (c c' : CaseSystem) → c.columns ≡ c'.columns → c.kept ≡ c'.kept → c.forms ≡ c'.forms → c ≡ c'
same_case c c' e f g = λ i. record { columns = e i; kept = f i; forms = g i }

pub kept_same : (s : Setting) (all : List KeptRow) (forms : List Form) → Same (kept_of s all forms)
kept_same s all forms (Ok c) (Ok c') (e, k, f) (e', k', f') = ap Ok (same_case c c' (e ∙ sym e') (same_kept (λ k. k.row) IsIdle [] all c.kept c'.kept k k') (f ∙ sym f'))
kept_same s all forms (Ok c) (Err w) h h' = absurd h'
kept_same s all forms (Err w) r h h' = absurd h

pub kept_one : (s : Setting) (all : List KeptRow) (forms : List Form) → IsOne (kept_of s all forms)
kept_one s all forms = record { one = kept_same s all forms }

pub system_one : (s : CaseSetting) → IsOne (system_fold s)
system_one s = and_then_one _ _
    (each_one _ (λ name. row_one s.setting name (row_expression s.lts s.class s.problem s.number [] name)) (names_of s.lts s.class s.problem s.number))
    (λ all. and_then_one _ _ (each_one _ (form_one s.setting) (split_forms s.lts s.class s.problem)) (λ forms. kept_one s.setting all forms))

-- ---- places

pub effect_one : (lts : System) (basis : CycleBasis) (value : ℕ → Ratio) (t : ℕ) → IsOne (effect_fold lts basis value t)
effect_one lts basis value t = either_one (not (has_label t lts.arcs)) _ _ (gives_one _)
    (either_one (is_in basis.members t) _ _ (gives_one _) (joined_one add _ add_one (λ f. and_then_one _ _ (quotient_one _ _) (λ k. two_terms_one _ _ _ _)) _ _))

pub whole_one : (class : Class) (numbers : List Ratio) → IsOne (made_whole class numbers)
whole_one class numbers = either_one (class.plain || is_some class.bound) _ _ (gives_one _) (and_then_one _ _ (multiple_one _) (λ m. and_then_one _ _ (each_one _ (λ r. two_terms_one _ _ _ _) _)
    (λ products. either_one (is_some class.marking) _ _ (each_one _ (λ r. two_terms_one _ _ _ _) _) (gives_one _))))

pub along_one : (effect number : ℕ → Ratio) (tree : List Arc) → IsOne (along_tree effect number tree)
along_one effect m [] = gives_one _
along_one effect f (a ∷ tree) = and_then_one _ _ (two_terms_one _ _ _ _) (λ m. along_one effect (λ s. if s == a.to then m else f s) tree)

pub shift_one : (lts : System) (class : Class) (problem : Problem) (numbers : List Ratio) → IsOne (shift_fold lts class problem numbers)
shift_one lts class problem numbers = and_then_one _ _ (either_one (is_shifted class) _ _ (each_one _ (λ m. two_terms_one _ _ _ _) _) (gives_one _))
    (λ moved. either_one (is_lifted class problem) _ _ (each_one _ (λ m. two_terms_one _ _ _ _) _) (gives_one _))

pub place_one : (s : Setting) (problem : Problem) (start : Ratio) (value : ℕ → Ratio) → IsOne (place_fold s problem start value)
place_one s problem start value =
    and_then_one _ _ (each_one _ (effect_one s.lts s.basis value) _)
    (λ effects. and_then_one _ _ (whole_one s.class _)
    (λ found. and_then_one _ _ (along_one _ _ s.tree)
    (λ m. and_then_one _ _ (shift_one s.lts s.class problem _)
    (λ numbers. and_then_one _ _ (each_one _ (λ u. term_one _) _) (λ post. gives_one _)))))

-- ---- spreading

pub share_one : (case : CaseSystem) (sides : List SplitSide) (above : List Side) (w : Weight) → IsOne (share_fold case sides above w)
share_one case sides above w = and_then_one _ _ (two_terms_one _ _ _ _) (λ m. gives_one _)

pub pair_one : (tree : List Arc) (basis : CycleBasis) (expression : RowName → Expression) (c : ℕ) (p : Pair) → IsOne (pair_fold tree basis expression c p)
pair_one tree basis expression c p = and_then_one _ _ (two_terms_one _ _ _ _) (λ x. and_then_one _ _ (quotient_one _ _) (λ k. two_terms_one _ _ _ _))

pub chord_one : (lts : System) (tree : List Arc) (basis : CycleBasis) (expression : RowName → Expression) (shares : List Share) (c : ℕ) → IsOne (chord_fold lts tree basis expression shares c)
chord_one lts tree basis expression shares c = and_then_one _ _ (joined_one add _ add_one (pair_one tree basis expression _) _ _) (λ sum. gives_one _)

pub addend_one : (a : Addend) → IsOne (addend_fold a)
addend_one (number z) = gives_one z
addend_one (product x y) = term_one _

pub tree_one : (expression : RowName → Expression) (rows : List NamedRow) (done : List ArcTimes) (arcs : List Arc) → IsOne (tree_fold expression rows done arcs)
tree_one expression rows done [] = gives_one done
tree_one expression rows done (a ∷ arcs) =
    and_then_one _ _ (joined_one whole_sum addend_fold (λ x y. term_one _) addend_one _ _) (λ m. tree_one expression rows (record { arc = a; multiplier = m } ∷ done) arcs)

pub parts_same : (numbers : List ℤ) → Same (parts_of numbers)
parts_same numbers (Ok xs) (Ok ys) h h' =
    let g = same_divisor numbers h.divisor h'.divisor h.greatest h'.greatest in
    ap Ok (same_parts (pos (max h.divisor 1)) xs ys (not_none h.divisor) (sym h.parts_are ∙ subst (λ d. numbers ≡ map (λ z. pos (max d 1) *ℤ z) ys) (sym g) h'.parts_are))
parts_same numbers (Ok xs) (Err w) h h' = absurd h'
parts_same numbers (Err w) r h h' = absurd h

pub parts_one : (numbers : List ℤ) → IsOne (parts_of numbers)
parts_one numbers = record { one = parts_same numbers }

pub sizes_one : (coefficient : RowName → ℤ) (rows : List NamedRow) → IsOne (sizes_fold coefficient rows)
sizes_one coefficient rows = joined_one whole_sum _ (λ x y. term_one _) (λ r. and_then_one _ _ (term_one _) (λ z. gives_one _)) _ rows

pub leaf_one : (lts : System) (expression : RowName → Expression) (rows : List NamedRow) → IsOne (checked_leaf lts expression rows)
leaf_one lts expression rows = and_then_one _ _ (each_one _ (λ v. sizes_one _ rows) _) (λ sums. and_then_one _ _ (sizes_one _ rows) (λ sum. gives_one rows))

pub leaf_of_shares_one : (lts : System) (tree : List Arc) (basis : CycleBasis) (expression : RowName → Expression) (shares : List Share) → IsOne (leaf_fold lts tree basis expression shares)
leaf_of_shares_one lts tree basis expression shares =
    and_then_one _ _ (each_one _ (chord_one lts tree basis expression shares) (used_chords lts basis))
    (λ chord_shares. and_then_one _ _ (scaled_one (map (λ r. r.multiplier) shares ++ chord_shares))
    (λ scaled. and_then_one _ _ (tree_one expression (named_from (map (λ r. r.name) shares ++ map arc_name (chord_arcs lts tree basis)) scaled.numbers) [] (reverse tree))
    (λ arcs. and_then_one _ _ (parts_one (scaled.numbers ++ map (λ x. x.multiplier) arcs))
    (λ parts. leaf_one lts expression (not_zero
    (named_from (map (λ r. r.name) shares) parts
    ++ map (λ a. record { multiplier = multiplier_among (chord_arcs lts tree basis ++ map (λ x. x.arc) arcs) (drop (length shares) parts) a; name = arc_name a })
    lts.arcs))))))

pub spread_one : (s : CaseSetting) (case : CaseSystem) (sides : List SplitSide) (above : List Side) (weights : List Weight) → IsOne (spread_fold s case sides above weights)
spread_one s case sides above weights =
    and_then_one _ _ (each_one _ (share_one case sides above) weights)
    (λ shares. leaf_of_shares_one s.lts s.tree s.basis (row_expression s.lts s.class s.problem s.number above) shares)
