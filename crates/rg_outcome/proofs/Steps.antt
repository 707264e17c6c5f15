-- Each computation has a result, put together from those of its parts.
use Rattle.std.proofs.Common.{◌≡◌, ◌≢◌, ◌⊎◌, inl, inr, zero, suc, List, [], ◌∷◌, Contains, Result, Ok, Err, refl, sym, subst, arith}
use Rattle.std.specs.Prelude.{ℤ, pos, negsuc, neg_ℤ, ◌*ℤ◌, ◌+ℤ◌, ◌<ℤ◌, int_div}
use Rattle.std.proofs.lemmas.Int.{ints}
use Rattle.rg_theory.proofs.Lists.{Contains-cons_cases}
use Rattle.rg_integers.specs.Divisor.{int_gcd}
use Rattle.rg_integers.specs.Value.{SameValue}
use Rattle.rg_integers.proofs.Order.{mul_positive, positive_differs}
use Rattle.rg_integers.proofs.Ranges.{fits_or_not}
use Rattle.rg_integers.proofs.Values.{SameValue-parts, SameValue-neg}
use Rattle.rg_integers.specs.declared.term.Wide.{Wide}
use Rattle.rg_fraction.specs.Terms.{sum_top, sum_bottom, product_top, product_bottom}
use Rattle.rg_integers.specs.Term.{FitsTerm, term_value}
use Rattle.rg_fraction.proofs.Forms.{left_exact, right_exact, right_positive, quotients_reduced}
use Rattle.rg_folds.specs.Fold.{gives, and_then, each, further, joined, Ratio, whole, IsRatio, quotient, term, two_terms, add, mul, common_multiple, multiple_of_all}
use Rattle.rg_case_folds.proofs.Lists.{first, behind}

-- it has a result
abbrev pub HasSome : {X : Type 0} → (Result X Wide → Type 0) → Type 0
HasSome {X} fold = (r : Result X Wide) × fold r

-- its value, where it has one, is such
abbrev pub Makes : {X : Type 0} → (X → Type 0) → (Result X Wide → Type 0) → Type 0
Makes {X} P fold = (x : X) → fold (Ok x) → P x

-- each item is such
abbrev pub Each : {X : Type 0} → (X → Type 0) → List X → Type 0
Each {X} P xs = (x : X) → Contains xs x → P x

pub each_none : {X : Type 0} (P : X → Type 0) → Each P []
each_none P x (k, lt, e) = absurd (omega arith)

pub each_cons : {X : Type 0} (P : X → Type 0) (x : X) (xs : List X) → P x → Each P xs → Each P (x ∷ xs)
each_cons P x xs p all y has = by (Contains-cons_cases x y xs has)
  where
    by : (x ≡ y) ⊎ Contains xs y → P y
    by (inl e) = subst P e p
    by (inr rest) = all y rest

-- ---- parts

pub some_given : {X : Type 0} (x : X) → HasSome (gives x)
some_given x = (Ok x, refl)

pub some_then : {X Y : Type 0} (one : Result X Wide → Type 0) (next : X → Result Y Wide → Type 0) → HasSome one → ((x : X) → one (Ok x) → HasSome (next x)) → HasSome (and_then one next)
some_then {X} {Y} one next (Ok x, f) some = by (some x f)
  where
    by : HasSome (next x) → HasSome (and_then one next)
    by (Ok y, h) = (Ok y, (x, f, h))
    by (Err w, h) = (Err w, inr (x, f, h))
some_then one next (Err w, f) some = (Err w, inl f)

pub makes_then : {X Y : Type 0} (Q : Y → Type 0) (one : Result X Wide → Type 0) (next : X → Result Y Wide → Type 0) → ((x : X) → one (Ok x) → Makes Q (next x)) → Makes Q (and_then one next)
makes_then Q one next makes y (x, f, h) = makes x f y h

pub some_each : {A X : Type 0} (make : A → Result X Wide → Type 0) (items : List A) → Each (λ a. HasSome (make a)) items → HasSome (each make items)
some_each make [] some = some_given []
some_each {A} {X} make (a ∷ rest) some =
    some_then (make a) (λ x. and_then (each make rest) (λ xs. gives (x ∷ xs))) (some a (first a rest))
    (λ x f. some_then (each make rest) (λ xs. gives (x ∷ xs)) (some_each make rest (λ b has. some b (behind a b rest has))) (λ xs g. some_given (x ∷ xs)))

pub makes_each : {A X : Type 0} (P : X → Type 0) (make : A → Result X Wide → Type 0) (items : List A) → Each (λ a. Makes P (make a)) items → Makes (Each P) (each make items)
makes_each P make [] makes xs e = subst (Each P) (sym e) (each_none P)
makes_each P make (a ∷ rest) makes ys (x, f, (xs, g, e)) = subst (Each P) (sym e) (each_cons P x xs (makes a (first a rest) x f) (makes_each P make rest (λ b has. makes b (behind a b rest has)) xs g))

-- what is joined stays such
pub record Joins {X : Type 0} (P : X → Type 0) (join : X → X → Result X Wide → Type 0) : Type 0 where
  pub some : (x y : X) → P x → P y → HasSome (join x y)
  pub makes : (x y : X) → P x → P y → Makes P (join x y)

pub some_further : {A X : Type 0} (P : X → Type 0) (join : X → X → Result X Wide → Type 0) (make : A → Result X Wide → Type 0) (sum : X)
    (items : List A) → Joins P join → P sum → Each (λ a. HasSome (make a)) items → Each (λ a. Makes P (make a)) items → HasSome (further join make sum items)
some_further P join make sum [] joins p some makes = some_given sum
some_further {A} {X} P join make sum (a ∷ rest) joins p some makes =
    some_then (make a) (λ x. and_then (join sum x) (λ more. further join make more rest)) (some a (first a rest))
    (λ x f. some_then (join sum x) (λ more. further join make more rest) (joins.some sum x p (makes a (first a rest) x f))
    (λ more g. some_further P join make more rest joins (joins.makes sum x p (makes a (first a rest) x f) more g) (λ b has. some b (behind a b rest has)) (λ b has. makes b (behind a b rest has))))

pub makes_further : {A X : Type 0} (P : X → Type 0) (join : X → X → Result X Wide → Type 0) (make : A → Result X Wide → Type 0) (sum : X)
    (items : List A) → Joins P join → P sum → Each (λ a. Makes P (make a)) items → Makes P (further join make sum items)
makes_further P join make sum [] joins p makes z e = subst P (sym e) p
makes_further P join make sum (a ∷ rest) joins p makes z (x, f, (more, g, h)) =
    makes_further P join make more rest joins (joins.makes sum x p (makes a (first a rest) x f) more g) (λ b has. makes b (behind a b rest has)) z h

pub some_joined : {A X : Type 0} (P : X → Type 0) (join : X → X → Result X Wide → Type 0) (make : A → Result X Wide → Type 0) (none : X)
    (items : List A) → Joins P join → Each (λ a. HasSome (make a)) items → Each (λ a. Makes P (make a)) items → HasSome (joined join make none items)
some_joined P join make none [] joins some makes = some_given none
some_joined {A} {X} P join make none (a ∷ rest) joins some makes =
    some_then (make a) (λ x. further join make x rest) (some a (first a rest))
    (λ x f. some_further P join make x rest joins (makes a (first a rest) x f) (λ b has. some b (behind a b rest has)) (λ b has. makes b (behind a b rest has)))

pub makes_joined : {A X : Type 0} (P : X → Type 0) (join : X → X → Result X Wide → Type 0) (make : A → Result X Wide → Type 0) (none : X)
    (items : List A) → Joins P join → P none → Each (λ a. Makes P (make a)) items → Makes P (joined join make none items)
makes_joined P join make none [] joins p makes z e = subst P (sym e) p
makes_joined P join make none (a ∷ rest) joins p makes z (x, f, h) = makes_further P join make x rest joins (makes a (first a rest) x f) (λ b has. makes b (behind a b rest has)) z h

-- ---- steps

-- its denominator is positive
abbrev pub IsOver : Ratio → Type 0
IsOver f = pos 0 <ℤ f.bottom

pub whole_over : (z : ℤ) → IsOver (whole z)
whole_over z = omega (arith, ints)

ratio_above : (n d : ℤ) → pos 0 <ℤ d → (f : Ratio) × IsRatio f n d
ratio_above n d h = (
  record { top = int_div n (int_gcd n d); bottom = int_div d (int_gcd n d) },
  record {
    nonzero = positive_differs d h;
    positive = right_positive n d h;
    reduced = quotients_reduced n d (positive_differs d h);
    value = SameValue-parts n d _ _ (int_gcd n d) (left_exact n d) (right_exact n d);
  },
)

ratio_turned : (n d : ℤ) → d ≢ pos 0 → (f : Ratio) × IsRatio f (neg_ℤ n) (neg_ℤ d) → (f : Ratio) × IsRatio f n d
ratio_turned n d ne (f, h) = (f, record { nonzero = ne; positive = h.positive; reduced = h.reduced; value = back f.top f.bottom h.value })
  where
    twice : (z : ℤ) → neg_ℤ (neg_ℤ z) ≡ z
    twice z = omega (arith, ints)

    back : (p q : ℤ) → SameValue p q (neg_ℤ n) (neg_ℤ d) → SameValue p q n d
    back p q e = sym (rw (twice n, twice d) at (SameValue-neg p q (neg_ℤ n) (neg_ℤ d) (sym e)))

pub some_ratio : (n d : ℤ) → d ≢ pos 0 → (f : Ratio) × IsRatio f n d
some_ratio n (pos zero) ne = absurd (ne refl)
some_ratio n (pos (suc d)) ne = ratio_above n (pos (suc d)) (omega (arith, ints))
some_ratio n (negsuc d) ne = ratio_turned n (negsuc d) ne (ratio_above (neg_ℤ n) (neg_ℤ (negsuc d)) (omega (arith, ints)))

pub some_quotient : (n d : ℤ) → d ≢ pos 0 → HasSome (quotient n d)
some_quotient n d ne = let (f, is) = some_ratio n d ne in (Ok f, is)

pub some_term : (t : Wide) → HasSome (term t)
some_term t = by (fits_or_not t.a t.b t.c t.d)
  where
    by : FitsTerm t ⊎ ¬ FitsTerm t → HasSome (term t)
    by (inl fits) = (Ok (term_value t), (fits, refl))
    by (inr passes) = (Err t, (passes, refl))

some_two : (s t : Wide) (n d : ℤ) → d ≢ pos 0 → HasSome (two_terms s t n d)
some_two s t n d ne = by (fits_or_not s.a s.b s.c s.d) (fits_or_not t.a t.b t.c t.d)
  where
    by : FitsTerm s ⊎ ¬ FitsTerm s → FitsTerm t ⊎ ¬ FitsTerm t → HasSome (two_terms s t n d)
    by (inl fits) (inl fits') = let (f, is) = some_ratio n d ne in (Ok f, (fits, fits', is))
    by (inl fits) (inr passes) = (Err t, inr (fits, passes, refl))
    by (inr passes) _ = (Err s, inl (passes, refl))

product_differs : (x y : ℤ) → pos 0 <ℤ x → pos 0 <ℤ y → (x *ℤ y) ≢ pos 0
product_differs x y a b = positive_differs (x *ℤ y) (mul_positive x y a b)

pub some_sum : (f g : Ratio) → IsOver f → IsOver g → HasSome (add f g)
some_sum f g a b = some_two (sum_top f.top f.bottom g.top g.bottom) (sum_bottom f.top f.bottom g.top g.bottom)
    ((f.top *ℤ g.bottom) +ℤ (g.top *ℤ f.bottom)) (f.bottom *ℤ g.bottom) (product_differs f.bottom g.bottom a b)

pub some_product : (f g : Ratio) → IsOver f → IsOver g → HasSome (mul f g)
some_product f g a b = some_two (product_top f.top f.bottom g.top g.bottom) (product_bottom f.top f.bottom g.top g.bottom) (f.top *ℤ g.top)
    (f.bottom *ℤ g.bottom) (product_differs f.bottom g.bottom a b)

pub sums_join : Joins IsOver add
sums_join = record { some = some_sum; makes = λ x y p q z (fits, fits', is). is.positive }

pub product_over : (f g : Ratio) → Makes IsOver (mul f g)
product_over f g z (fits, fits', is) = is.positive

pub quotient_over : (n d : ℤ) → Makes IsOver (quotient n d)
quotient_over n d z is = is.positive

-- any whole number
abbrev pub IsAny : {X : Type 0} → X → Type 0
IsAny x = Unit {0}

pub some_multiple : (numbers : List ℤ) → HasSome (multiple_of_all numbers)
some_multiple numbers = some_joined IsAny common_multiple gives (pos 1) numbers (record { some = λ x y p q. some_term _; makes = λ x y p q z h. tt }) (λ z has. some_given z) (λ z has x h. tt)
