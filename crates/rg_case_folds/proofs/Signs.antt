-- Factors are positive, so a row and its named row are met together.
use Rattle.std.proofs.Common.{◌≡◌, ℕ, max, ◌↔◌, Bool, true, false, if◌then◌else◌, List, [], ◌∷◌, ◌++◌, map, Result, Ok, subst, sym, ◌∙◌, arith}
use Rattle.std.specs.Prelude.{ℤ, pos, ◌+ℤ◌, ◌*ℤ◌, ◌≤ℤ◌, ◌<ℤ◌, unsigned_abs, int_div}
use Rattle.std.proofs.lemmas.Int.{ints}
use Rattle.rg_theory.specs.System.{System, labels}
use Rattle.rg_cert_meaning.specs.Expression.{Term, Expression, value_in}
use Rattle.rg_cert_meaning.specs.declared.RowName.{RowName}
use Rattle.rg_linear.specs.Cycle.{FollowsRelations, CycleBasis}
use Rattle.std.proofs.Math.IntN.{*ℤ_comm}
use Rattle.rg_integers.proofs.Order.{mul_positive, factor_positive, quotient_positive, same_sign}
use Rattle.rg_integers.specs.Divisor.{int_gcd, gcd_of}
use Rattle.rg_integers.proofs.Divisors.{gcd_of-is, exact}
use Rattle.rg_integers.specs.declared.term.Wide.{Wide}
use Rattle.rg_case_folds.specs.Setting.{Setting}
use Rattle.rg_folds.specs.Fold.{gives, each, further, Ratio, whole, add, common_multiple, multiple_of_all}
use Rattle.rg_case_folds.specs.Chords.{chord_system, IsBasis}
use Rattle.rg_folds.specs.Substitution.{free_labels, dependent_labels, dependent_term, coefficient_fold}
use Rattle.rg_case_folds.specs.Rewriting.{has_label, start_of, count_of, has_start, pick, columns_of, Scaled, terms_fold, KeptRow, row_fold}
use Rattle.rg_case_folds.specs.Values.{NamesLabels, numbers_along, column_values, UnusedAreZero}
use Rattle.rg_integers.specs.Sum.{dot}
use Rattle.rg_case_folds.proofs.Products.{natural, less_nothing}
use Rattle.rg_case_folds.proofs.ExactRows.{row_value_is}

abbrev pub AllPositive : List ℤ → Type 0
AllPositive [] = Unit {0}
AllPositive (d ∷ ds) = (pos 0 <ℤ d) × AllPositive ds

pub multiple_positive : (x y z : ℤ) → pos 0 <ℤ x → pos 0 <ℤ y → common_multiple x y (Ok z) → pos 0 <ℤ z
multiple_positive x y z h k (_, is) =
    let gcd = gcd_of-is (unsigned_abs x) (unsigned_abs y) in
    let part = quotient_positive (int_div x (int_gcd x y)) (int_gcd x y) x (natural (gcd_of (unsigned_abs x) (unsigned_abs y))) (exact x (int_gcd x y) gcd.0) h in
    subst (λ w. pos 0 <ℤ w) (sym (is ∙ less_nothing (int_div x (int_gcd x y)) y)) (mul_positive (int_div x (int_gcd x y)) y part k)

pub further_multiple : (sum m : ℤ) (ds : List ℤ) → pos 0 <ℤ sum → AllPositive ds → further common_multiple gives sum ds (Ok m) → pos 0 <ℤ m
further_multiple sum m [] h all e = subst (λ w. pos 0 <ℤ w) (sym e) h
further_multiple sum m (d ∷ ds) h (first, all) (x, is, (more, multiple, rest)) = further_multiple more m ds (multiple_positive sum x more h (subst (λ w. pos 0 <ℤ w) (sym is) first) multiple) all rest

pub all_multiple : (ds : List ℤ) (m : ℤ) → AllPositive ds → multiple_of_all ds (Ok m) → pos 0 <ℤ m
all_multiple [] m all e = subst (λ w. pos 0 <ℤ w) (sym e) (omega (arith, ints))
all_multiple (d ∷ ds) m (first, all) (x, is, rest) = further_multiple x m ds (subst (λ w. pos 0 <ℤ w) (sym is) first) all rest

further_positive : (make : ℕ → Result Ratio Wide → Type 0) (f h : Ratio) (ts : List ℕ) → pos 0 <ℤ f.bottom → further add make f ts (Ok h) → pos 0 <ℤ h.bottom
further_positive make f h [] p e = subst (λ (r : Ratio). pos 0 <ℤ r.bottom) (sym e) p
further_positive make f h (t ∷ ts) p (k, made, (g, (_, _, added), rest)) = further_positive make g h ts added.positive rest

picked_positive : (lts : System) (basis : CycleBasis) (counts : ℕ → ℤ) (test : ℕ → Bool) (fs : List ℕ) (rs : List Ratio)
    → each (coefficient_fold (labels lts) basis counts) fs (Ok rs) → AllPositive (map (λ r. r.bottom) (pick test fs rs))
picked_positive lts basis counts test [] rs e = tt
picked_positive lts basis counts test (f ∷ fs) rs (h, is, (rest, each_is, e)) = subst (λ (l : List Ratio). AllPositive (map (λ r. r.bottom) (pick test (f ∷ fs) l)))
    (sym e) (go (test f) (further_positive (dependent_term basis counts f) (whole (counts f)) h (dependent_labels (labels lts) basis) (omega (arith, ints)) is)
    (picked_positive lts basis counts test fs rest each_is))
  where
    go : (t : Bool) → pos 0 <ℤ h.bottom → AllPositive (map (λ r. r.bottom) (pick test fs rest)) → AllPositive (map (λ r. r.bottom) (if t then (h ∷ pick test fs rest) else pick test fs rest))
    go true p q = (p, q)
    go false p q = q

pub terms_positive : (it : Setting) (terms : List Term) (scaled : Scaled) → terms_fold it terms (Ok scaled) → pos 0 <ℤ scaled.multiple
terms_positive it terms scaled (free, substituted, (m, multiple, (ps, products, e))) =
    subst (λ (s : Scaled). pos 0 <ℤ s.multiple) (sym e) (all_multiple (map (λ r. r.bottom) (columns_of it.lts it.basis it.class (start_of terms) free)) m (start (has_start it.class)) multiple)
  where
    start : (s : Bool) → AllPositive (map (λ r. r.bottom) ((if s then (whole (start_of terms) ∷ []) else []) ++ pick (λ t. has_label t it.lts.arcs) (free_labels (labels it.lts) it.basis) free))
    start true = (omega (arith, ints), picked_positive it.lts it.basis (count_of it.tree terms) (λ t. has_label t it.lts.arcs) (free_labels (labels it.lts) it.basis) free substituted)
    start false = picked_positive it.lts it.basis (count_of it.tree terms) (λ t. has_label t it.lts.arcs) (free_labels (labels it.lts) it.basis) free substituted

pub factor_is_positive : (s : Setting) (name : RowName) (e : Expression) (out : KeptRow) → row_fold s name e (Ok out) → (pos 0 <ℤ out.factor.top) × (pos 0 <ℤ out.factor.bottom)
factor_is_positive s name e out (scaled, terms, (constant, product, (named, d))) =
    let m = terms_positive s e.terms scaled terms in
    let product' : pos 0 <ℤ (out.factor.top *ℤ pos (max d.divisor 1)) = subst (λ w. pos 0 <ℤ w) (sym d.factor.value) (mul_positive scaled.multiple out.factor.bottom m d.factor.positive) in
    (factor_positive (pos (max d.divisor 1)) out.factor.top (not_negative d.divisor) (subst (λ w. pos 0 <ℤ w) (*ℤ_comm out.factor.top (pos (max d.divisor 1))) product'), d.factor.positive)
  where
    not_negative : (n : ℕ) → pos 0 ≤ℤ pos (max n 1)
    not_negative n = omega (arith, ints)

-- the row is met exactly where its named row is
pub row_is_met : (s : Setting) (name : RowName) (e : Expression) (start : ℤ) (effect : ℕ → ℤ) (scale : ℤ) (out : KeptRow) → IsBasis s.lts s.tree s.basis
    → NamesLabels (labels s.lts) e.terms → (has_start s.class ≡ false → start ≡ pos 0)
    → FollowsRelations (chord_system s.lts s.tree s.basis.kept) s.basis.members effect → UnusedAreZero s.lts effect → row_fold s name e (Ok out)
    → (pos 0 ≤ℤ (dot out.row.coeffs (column_values s.lts s.basis s.class start effect) +ℤ (out.row.constant *ℤ scale)))
    ↔ (pos 0 ≤ℤ (value_in (numbers_along s.lts s.tree start effect) e.terms +ℤ (e.constant *ℤ scale)))
row_is_met s name e start effect scale out is names no_start follows unused fold =
    let (t, u) = factor_is_positive s name e out fold in
    same_sign out.factor.top out.factor.bottom (dot out.row.coeffs (column_values s.lts s.basis s.class start effect) +ℤ (out.row.constant *ℤ scale))
    (value_in (numbers_along s.lts s.tree start effect) e.terms +ℤ (e.constant *ℤ scale)) t u
    (row_value_is s name e start effect scale out is names no_start follows unused fold)
