-- The form of the start is Start alone, once.
use Rattle.std.proofs.Common.{◌≡◌, ℕ, Bool, true, false, if◌then◌else◌, List, [], ◌∷◌, ◌++◌, map, Result, Ok, refl, sym, ap, subst, ◌∙◌, arith}
use Rattle.std.specs.Prelude.{ℤ, pos, ◌+ℤ◌, ◌*ℤ◌, int_div}
use Rattle.std.proofs.lemmas.Int.{ints}
use Rattle.std.proofs.Math.IntN.{zero-*ℤ}
use Rattle.rg_theory.specs.System.{labels}
use Rattle.rg_theory.specs.Tree.{IsTree, count}
use Rattle.rg_theory.proofs.Trees.{way_of_initial}
use Rattle.rg_integers.specs.Divisor as divisor
use Rattle.rg_integers.specs.Divisor.{int_gcd}
use Rattle.rg_integers.specs.declared.term.Wide.{Wide}
use Rattle.rg_fraction.specs.Terms.{product_term}
use Rattle.rg_integers.specs.Term.{term_value}
use Rattle.rg_linear.specs.Cycle.{CycleBasis}
use Rattle.rg_cert_meaning.specs.Expression.{plus}
use Rattle.rg_case_folds.specs.Setting.{Setting}
use Rattle.rg_folds.specs.Fold.{further, each, gives, Ratio, whole, IsRatio, add, common_multiple, multiple_of_all}
use Rattle.rg_folds.specs.Substitution.{free_labels, dependent_labels, dependent_term, coefficient_fold}
use Rattle.rg_case_folds.specs.Rewriting.{Scaled, has_label, has_start, count_of, start_of, pick, terms_fold}
use Rattle.rg_folds.proofs.FoldLemmas.{quotient_one}
use Rattle.rg_folds.proofs.Zeros.{zero_ratio}
use Rattle.rg_cert_meaning.specs.declared.Variable.TheVariants.{Tokens}

-- ---- sums of zeros

zero_is : (f : Ratio) (n d : ℤ) → n ≡ pos 0 → IsRatio f n d → f ≡ whole (pos 0)
zero_is f n d e h = let same = (quotient_one n d).one (Ok f) (Ok (whole (pos 0))) h (subst (λ z. IsRatio (whole (pos 0)) z d) (sym e) (zero_ratio d h.nonzero)) in cc

term_zero : (basis : CycleBasis) (counts : ℕ → ℤ) (f t : ℕ) (k : Ratio) → counts t ≡ pos 0 → dependent_term basis counts f t (Ok k) → k ≡ whole (pos 0)
term_zero basis counts f t k none (q, is, (top, bottom, r)) = zero_is k (counts t *ℤ q.top) (pos 1 *ℤ q.bottom) (ap (λ z. z *ℤ q.top) none ∙ zero-*ℤ q.top) r

sum_zero : (f g s : Ratio) → f ≡ whole (pos 0) → g ≡ whole (pos 0) → add f g (Ok s) → s ≡ whole (pos 0)
sum_zero f g s e h (top, bottom, r) =
    zero_is s ((f.top *ℤ g.bottom) +ℤ (g.top *ℤ f.bottom)) (f.bottom *ℤ g.bottom) (none f.top g.bottom g.top f.bottom (ap (λ (x : Ratio). x.top) e) (ap (λ (x : Ratio). x.top) h)) r
  where
    none : (a b c d : ℤ) → a ≡ pos 0 → c ≡ pos 0 → (a *ℤ b) +ℤ (c *ℤ d) ≡ pos 0
    none a b c d e h = let p : a *ℤ b ≡ pos 0 = ap (λ z. z *ℤ b) e ∙ zero-*ℤ b in let q : c *ℤ d ≡ pos 0 = ap (λ z. z *ℤ d) h ∙ zero-*ℤ d in omega (arith, ints)

further_zero : (make : ℕ → Result Ratio Wide → Type 0) (items : List ℕ) (sum r : Ratio) → sum ≡ whole (pos 0) → ((t : ℕ) (k : Ratio) → make t (Ok k) → k ≡ whole (pos 0))
    → further add make sum items (Ok r) → r ≡ whole (pos 0)
further_zero make [] sum r e none h = h ∙ e
further_zero make (a ∷ rest) sum r e none (x, made, (more, added, h)) = further_zero make rest more r (sum_zero sum x more e (none a x made) added) none h

coefficient_zero : (n : ℕ) (basis : CycleBasis) (counts : ℕ → ℤ) (f : ℕ) (r : Ratio) → ((t : ℕ) → counts t ≡ pos 0) → coefficient_fold n basis counts f (Ok r) → r ≡ whole (pos 0)
coefficient_zero n basis counts f r none h =
    further_zero (dependent_term basis counts f) (dependent_labels n basis) (whole (counts f)) r (ap whole (none f)) (λ t k made. term_zero basis counts f t k (none t) made) h

-- ---- bottoms of 1

abbrev AllOnes : List ℤ → Type 0
AllOnes [] = Unit {0}
AllOnes (z ∷ zs) = (z ≡ pos 1) × AllOnes zs

each_ones : (make : ℕ → Result Ratio Wide → Type 0) (items : List ℕ) (rs : List Ratio) → ((f : ℕ) (r : Ratio) → make f (Ok r) → r ≡ whole (pos 0))
    → each make items (Ok rs) → AllOnes (map (λ (r : Ratio). r.bottom) rs)
each_ones make [] rs none e = subst (λ l. AllOnes (map (λ (r : Ratio). r.bottom) l)) (sym e) tt
each_ones make (a ∷ items) rs none (x, is, (rest, each_is, e)) =
    subst (λ l. AllOnes (map (λ (r : Ratio). r.bottom) l)) (sym e) (ap (λ (r : Ratio). r.bottom) (none a x is), each_ones make items rest none each_is)

pick_ones : (test : ℕ → Bool) (fs : List ℕ) (rs : List Ratio) → AllOnes (map (λ (r : Ratio). r.bottom) rs) → AllOnes (map (λ (r : Ratio). r.bottom) (pick test fs rs))
pick_ones test [] rs ones = tt
pick_ones test (f ∷ fs) [] ones = tt
pick_ones test (f ∷ fs) (r ∷ rs) (one, ones) = go (test f) (pick_ones test fs rs ones)
  where
    go : (b : Bool) → AllOnes (map (λ (r : Ratio). r.bottom) (pick test fs rs)) → AllOnes (map (λ (r : Ratio). r.bottom) (if b then (r ∷ pick test fs rs) else pick test fs rs))
    go true rest = (one, rest)
    go false rest = rest

start_ones : (b : Bool) (z : ℤ) (rs : List Ratio) → AllOnes (map (λ (r : Ratio). r.bottom) rs) → AllOnes (map (λ (r : Ratio). r.bottom) ((if b then (whole z ∷ []) else []) ++ rs))
start_ones true z rs ones = (refl, ones)
start_ones false z rs ones = ones

further_ones : (zs : List ℤ) (sum m : ℤ) → sum ≡ pos 1 → AllOnes zs → further common_multiple gives sum zs (Ok m) → m ≡ pos 1
unfolding divisor.gcd_of
further_ones [] sum m e ones h = h ∙ e
further_ones (z ∷ zs) sum m e (one, ones) (x, is, (more, (fits, value), h)) =
    further_ones zs more m (value ∙ ap (λ s. term_value (product_term (int_div s (int_gcd s x)) x)) e ∙ ap (λ y. term_value (product_term (int_div (pos 1) (int_gcd (pos 1) y)) y)) (is ∙ one)) ones h

multiple_ones : (zs : List ℤ) (m : ℤ) → AllOnes zs → multiple_of_all zs (Ok m) → m ≡ pos 1
multiple_ones [] m ones h = h
multiple_ones (z ∷ zs) m (one, ones) (x, is, h) = further_ones zs x m (is ∙ one) ones h

-- ---- the start

pub start_alone : (it : Setting) (scaled : Scaled) → IsTree it.lts it.tree → terms_fold it (plus (Tokens it.lts.initial) ∷ []) (Ok scaled) → scaled.multiple ≡ pos 1
start_alone it scaled g (free, substituted, (m, multiple, (ps, products, e))) =
    ap (λ (s : Scaled). s.multiple) e
    ∙ multiple_ones _ m (start_ones (has_start it.class) (start_of (plus (Tokens it.lts.initial) ∷ []))
    (pick (λ t. has_label t it.lts.arcs) (free_labels (labels it.lts) it.basis) free)
    (pick_ones (λ t. has_label t it.lts.arcs) (free_labels (labels it.lts) it.basis) free
    (each_ones (coefficient_fold (labels it.lts) it.basis (count_of it.tree (plus (Tokens it.lts.initial) ∷ []))) (free_labels (labels it.lts) it.basis) free
    (λ f r made. coefficient_zero (labels it.lts) it.basis (count_of it.tree (plus (Tokens it.lts.initial) ∷ [])) f r none made) substituted))) multiple
  where
    none : (t : ℕ) → count_of it.tree (plus (Tokens it.lts.initial) ∷ []) t ≡ pos 0
    none t = ap (λ ts. (pos 1 *ℤ pos (count t ts)) +ℤ pos 0) (way_of_initial it.lts it.tree g)
