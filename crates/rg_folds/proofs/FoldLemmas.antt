-- A fold has one result.
use Rattle.std.proofs.Common.{◌≡◌, ◌≢◌, List, [], ◌∷◌, Result, Ok, Err, inl, inr, ap, subst, sym, ◌∙◌}
use Rattle.std.specs.Prelude.{ℤ, pos, ◌+ℤ◌, ◌*ℤ◌, MatchResult}
use Rattle.rg_integers.specs.declared.term.Wide.{Wide}
use Rattle.rg_fraction.specs.declared.fraction.Fraction.{Fraction}
use Rattle.rg_fraction.specs.Terms.{FirstPasses, sum_top, sum_bottom, product_top, product_bottom}
use Rattle.rg_integers.specs.Term.{FitsTerm}
use Rattle.rg_fraction.specs.Fractions.{IsValue}
use Rattle.rg_integers.specs.Value.{IsReducedForm}
use Rattle.rg_integers.proofs.Values.{one_reduced_form}
use Rattle.rg_integers.proofs.Order.{mul_positive, positive_differs}
use Rattle.rg_folds.specs.Fold.{gives, and_then, IsOne, shown_result, each, further, joined, Ratio, ratio_of, IsRatio, quotient, term, two_terms, add, mul, common_multiple, multiple_of_all}

-- ---- results of the parts

abbrev pub Same : {X : Type 0} → (Result X Wide → Type 0) → Type 0
Same {X} fold = (r r' : Result X Wide) → fold r → fold r' → r ≡ r'

pub gives_same : {X : Type 0} (x : X) → Same (gives x)
gives_same x (Ok y) (Ok z) e f = ap Ok (e ∙ sym f)
gives_same x (Ok y) (Err w) e f = absurd f
gives_same x (Err w) r e f = absurd e

pub gives_one : {X : Type 0} (x : X) → IsOne (gives x)
gives_one x = record { one = gives_same x }

abbrev pub SameResult : {X : Type 0} → Result X Wide → Result X Wide → Type 0
SameResult r r' = r ≡ r'

pub ok_is : {X : Type 0} (x y : X) → SameResult (Ok x) (Ok y) → x ≡ y
ok_is x y e = cc

pub ok_not_err : {X : Type 0} (x : X) (w : Wide) → SameResult (Ok x) (Err w) → ⊥
ok_not_err x w e = cc

pub err_is : {X : Type 0} (w w' : Wide) → SameResult {X = X} (Err w) (Err w') → w ≡ w'
err_is w w' e = cc

pub and_then_same : {X Y : Type 0} (first : Result X Wide → Type 0) (next : X → Result Y Wide → Type 0) → Same first → ((x : X) → Same (next x)) → Same (and_then first next)
and_then_same {X} {Y} first next one each_one (Ok y) (Ok z) (x, f, n) (x', f', n') = each_one x (Ok y) (Ok z) n (subst (λ v. next v (Ok z)) (ok_is x' x (one (Ok x') (Ok x) f' f)) n')
and_then_same {X} {Y} first next one each_one (Ok y) (Err w) (x, f, n) (inl f') = absurd (ok_not_err x w (one (Ok x) (Err w) f f'))
and_then_same {X} {Y} first next one each_one (Ok y) (Err w) (x, f, n) (inr (x', f', n')) = each_one x (Ok y) (Err w) n (subst (λ v. next v (Err w)) (ok_is x' x (one (Ok x') (Ok x) f' f)) n')
and_then_same {X} {Y} first next one each_one (Err w) (Ok y) (inl f') (x, f, n) = absurd (ok_not_err x w (one (Ok x) (Err w) f f'))
and_then_same {X} {Y} first next one each_one (Err w) (Ok y) (inr (x', f', n')) (x, f, n) = each_one x (Err w) (Ok y) (subst (λ v. next v (Err w)) (ok_is x' x (one (Ok x') (Ok x) f' f)) n') n
and_then_same {X} {Y} first next one each_one (Err w) (Err w') (inl f) (inl f') = ap Err (err_is w w' (one (Err w) (Err w') f f'))
and_then_same {X} {Y} first next one each_one (Err w) (Err w') (inl f) (inr (x, f', n)) = absurd (ok_not_err x w (one (Ok x) (Err w) f' f))
and_then_same {X} {Y} first next one each_one (Err w) (Err w') (inr (x, f', n)) (inl f) = absurd (ok_not_err x w' (one (Ok x) (Err w') f' f))
and_then_same {X} {Y} first next one each_one (Err w) (Err w') (inr (x, f, n)) (inr (x', f', n')) =
    each_one x (Err w) (Err w') n (subst (λ v. next v (Err w')) (ok_is x' x (one (Ok x') (Ok x) f' f)) n')

pub and_then_one : {X Y : Type 0} (first : Result X Wide → Type 0) (next : X → Result Y Wide → Type 0) → IsOne first → ((x : X) → IsOne (next x)) → IsOne (and_then first next)
and_then_one first next f n = record { one = and_then_same first next f.one (λ x. (n x).one) }

pub each_one : {A X : Type 0} (make : A → Result X Wide → Type 0) → ((a : A) → IsOne (make a)) → (items : List A) → IsOne (each make items)
each_one make one [] = gives_one []
each_one {A} {X} make one (a ∷ rest) = and_then_one (make a) (λ x. and_then (each make rest) (λ xs. gives (x ∷ xs))) (one a)
    (λ x. and_then_one (each make rest) (λ xs. gives (x ∷ xs)) (each_one make one rest) (λ xs. gives_one (x ∷ xs)))

pub further_one : {A X : Type 0} (join : X → X → Result X Wide → Type 0) (make : A → Result X Wide → Type 0) → ((x y : X) → IsOne (join x y))
    → ((a : A) → IsOne (make a)) → (sum : X) (items : List A) → IsOne (further join make sum items)
further_one join make joins one sum [] = gives_one sum
further_one join make joins one sum (a ∷ rest) =
    and_then_one (make a) (λ x. and_then (join sum x) (λ more. further join make more rest)) (one a)
    (λ x. and_then_one (join sum x) (λ more. further join make more rest) (joins sum x) (λ more. further_one join make joins one more rest))

pub joined_one : {A X : Type 0} (join : X → X → Result X Wide → Type 0) (make : A → Result X Wide → Type 0) → ((x y : X) → IsOne (join x y))
    → ((a : A) → IsOne (make a)) → (none : X) (items : List A) → IsOne (joined join make none items)
joined_one join make joins one none [] = gives_one none
joined_one join make joins one none (a ∷ rest) = and_then_one (make a) (λ x. further join make x rest) (one a) (λ x. further_one join make joins one x rest)

-- ---- results of the steps

pub term_same : (t : Wide) → Same (term t)
term_same t (Ok y) (Ok z) e f = ap Ok (e.1 ∙ sym f.1)
term_same t (Ok y) (Err w) e f = absurd (f.0 e.0)
term_same t (Err w) (Ok y) e f = absurd (e.0 f.0)
term_same t (Err w) (Err w') e f = ap Err (e.1 ∙ sym f.1)

pub ratio_one : (f g : Ratio) (n d : ℤ) → IsRatio f n d → IsRatio g n d → f ≡ g
ratio_one f g n d p q =
    let (tops, bottoms) = one_reduced_form f.top f.bottom g.top g.bottom n d p.nonzero (reduced_form f n d p) (reduced_form g n d q) in
    λ i. record { top = tops i; bottom = bottoms i }
  where
    reduced_form : (r : Ratio) (n d : ℤ) → IsRatio r n d → IsReducedForm r.top r.bottom n d
    reduced_form r n d p = record { positive = p.positive; reduced = p.reduced; value = p.value }

pub quotient_same : (n d : ℤ) → Same (quotient n d)
quotient_same n d (Ok f) (Ok g) p q = ap Ok (ratio_one f g n d p q)
quotient_same n d (Ok f) (Err w) p q = absurd q
quotient_same n d (Err w) r p q = absurd p

pub two_terms_same : (s t : Wide) (n d : ℤ) → Same (two_terms s t n d)
two_terms_same s t n d (Ok f) (Ok g) (_, _, p) (_, _, q) = ap Ok (ratio_one f g n d p q)
two_terms_same s t n d (Ok f) (Err w) (fs, ft, p) (inl (n', e)) = absurd (n' fs)
two_terms_same s t n d (Ok f) (Err w) (fs, ft, p) (inr (_, n', e)) = absurd (n' ft)
two_terms_same s t n d (Err w) (Ok f) (inl (n', e)) (fs, ft, p) = absurd (n' fs)
two_terms_same s t n d (Err w) (Ok f) (inr (_, n', e)) (fs, ft, p) = absurd (n' ft)
two_terms_same s t n d (Err w) (Err w') (inl (a, e)) (inl (b, f)) = ap Err (e ∙ sym f)
two_terms_same s t n d (Err w) (Err w') (inl (a, e)) (inr (b, c, f)) = absurd (a b)
two_terms_same s t n d (Err w) (Err w') (inr (a, b, e)) (inl (c, f)) = absurd (c a)
two_terms_same s t n d (Err w) (Err w') (inr (a, b, e)) (inr (c, d', f)) = ap Err (e ∙ sym f)

pub term_one : (t : Wide) → IsOne (term t)
term_one t = record { one = term_same t }

pub quotient_one : (n d : ℤ) → IsOne (quotient n d)
quotient_one n d = record { one = quotient_same n d }

pub two_terms_one : (s t : Wide) (n d : ℤ) → IsOne (two_terms s t n d)
two_terms_one s t n d = record { one = two_terms_same s t n d }

pub add_one : (f g : Ratio) → IsOne (add f g)
add_one f g = two_terms_one (sum_top f.top f.bottom g.top g.bottom) (sum_bottom f.top f.bottom g.top g.bottom) ((f.top *ℤ g.bottom) +ℤ (g.top *ℤ f.bottom)) (f.bottom *ℤ g.bottom)

pub mul_one : (f g : Ratio) → IsOne (mul f g)
mul_one f g = two_terms_one (product_top f.top f.bottom g.top g.bottom) (product_bottom f.top f.bottom g.top g.bottom) (f.top *ℤ g.top) (f.bottom *ℤ g.bottom)

pub multiple_one : (xs : List ℤ) → IsOne (multiple_of_all xs)
multiple_one xs = joined_one common_multiple gives (λ x y. term_one _) (λ z. gives_one z) (pos 1) xs

-- ---- what the calls of code answer are results of the steps

fraction_is : (f : Fraction) (n d : ℤ) → d ≢ pos 0 → IsValue f n d → IsRatio (ratio_of f) n d
fraction_is f n d ne v = record { nonzero = ne; positive = f.positive; reduced = f.reduced; value = v }

pub new_step : (f : Fraction) (n d : ℤ) → d ≢ pos 0 → IsValue f n d → quotient n d (Ok (ratio_of f))
new_step f n d ne v = fraction_is f n d ne v

step : (s t : Wide) (n d : ℤ) (r : Result Fraction Wide) → d ≢ pos 0
    → MatchResult r (λ h. FitsTerm s × FitsTerm t × IsValue h n d) (λ w. FirstPasses s t w) → two_terms s t n d (shown_result ratio_of r)
step s t n d (Ok h) ne (fs, ft, v) = (fs, ft, fraction_is h n d ne v)
step s t n d (Err w) ne p = p

bottoms : (f g : Fraction) → (ratio_of f).bottom *ℤ (ratio_of g).bottom ≢ pos 0
bottoms f g = positive_differs ((ratio_of f).bottom *ℤ (ratio_of g).bottom) (mul_positive (ratio_of f).bottom (ratio_of g).bottom f.positive g.positive)

pub add_step : (f g : Fraction) (r : Result Fraction Wide)
    → MatchResult r (λ h. FitsTerm (sum_top (ratio_of f).top (ratio_of f).bottom (ratio_of g).top (ratio_of g).bottom)
    × FitsTerm (sum_bottom (ratio_of f).top (ratio_of f).bottom (ratio_of g).top (ratio_of g).bottom)
    × IsValue h (((ratio_of f).top *ℤ (ratio_of g).bottom) +ℤ ((ratio_of g).top *ℤ (ratio_of f).bottom)) ((ratio_of f).bottom *ℤ (ratio_of g).bottom))
    (λ w. FirstPasses (sum_top (ratio_of f).top (ratio_of f).bottom (ratio_of g).top (ratio_of g).bottom)
    (sum_bottom (ratio_of f).top (ratio_of f).bottom (ratio_of g).top (ratio_of g).bottom) w) → add (ratio_of f) (ratio_of g) (shown_result ratio_of r)
add_step f g r h = step (sum_top (ratio_of f).top (ratio_of f).bottom (ratio_of g).top (ratio_of g).bottom)
    (sum_bottom (ratio_of f).top (ratio_of f).bottom (ratio_of g).top (ratio_of g).bottom)
    (((ratio_of f).top *ℤ (ratio_of g).bottom) +ℤ ((ratio_of g).top *ℤ (ratio_of f).bottom)) ((ratio_of f).bottom *ℤ (ratio_of g).bottom) r (bottoms f g) h

pub mul_step : (f g : Fraction) (r : Result Fraction Wide)
    → MatchResult r (λ h. FitsTerm (product_top (ratio_of f).top (ratio_of f).bottom (ratio_of g).top (ratio_of g).bottom)
    × FitsTerm (product_bottom (ratio_of f).top (ratio_of f).bottom (ratio_of g).top (ratio_of g).bottom) × IsValue h ((ratio_of f).top *ℤ (ratio_of g).top)
    ((ratio_of f).bottom *ℤ (ratio_of g).bottom))
    (λ w. FirstPasses (product_top (ratio_of f).top (ratio_of f).bottom (ratio_of g).top (ratio_of g).bottom)
    (product_bottom (ratio_of f).top (ratio_of f).bottom (ratio_of g).top (ratio_of g).bottom) w) → mul (ratio_of f) (ratio_of g) (shown_result ratio_of r)
mul_step f g r h = step (product_top (ratio_of f).top (ratio_of f).bottom (ratio_of g).top (ratio_of g).bottom)
    (product_bottom (ratio_of f).top (ratio_of f).bottom (ratio_of g).top (ratio_of g).bottom) ((ratio_of f).top *ℤ (ratio_of g).top)
    ((ratio_of f).bottom *ℤ (ratio_of g).bottom) r (bottoms f g) h
