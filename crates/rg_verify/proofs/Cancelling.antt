-- Rows in which no two terms are opposite.
use Rattle.std.proofs.Common.{◌≡◌, ℕ, ◌+◌, Bool, true, false, if◌then◌else◌, List, [], ◌∷◌, Option, Some, None, length, All, slice_index_or, refl, sym, ap, ◌∙◌, subst, arith, ℤ, pos, negsuc, ◌+ℤ◌, nat_abs}
use Rattle.std.proofs.lemmas.Int.{ints}
use Rattle.std.proofs.lemmas.List.Elements.{All-nil, All-cons, All-head, All-tail}
use Rattle.rg_cert_meaning.specs.Expression as linear
use Rattle.rg_cert_meaning.specs.Expression.{same_variable, coefficient_in}
use Rattle.rg_cert_data.specs.declared.term.Term.{Term}
use Rattle.rg_cert_data.specs.declared.term.Term.TheVariants.{Plus, Minus}
use Rattle.rg_cert_data.specs.Certificates.{IsTermWithin}
use Rattle.rg_cert_data.specs.Sums.{term_of, terms_in}
use Rattle.rg_verify.specs.Terms.{size_in, AreOpposite, IsReducedSum}
use Rattle.rg_verify.proofs.Adding.{terms_in-append, coefficient_in-append, size_in-append}
use Rattle.rg_cert_meaning.proofs.Sums.{same_variable_is}
use Rattle.rg_cert_meaning.specs.declared.Variable.{Variable}

-- ---- one place

abbrev pub here : Option Term → Variable → ℤ
here o v = coefficient_in (terms_in (o ∷ [])) v

one_size : (b : Bool) (k : ℤ) → 0 + (if b then nat_abs k else 0) ≡ nat_abs ((if b then k else pos 0) +ℤ pos 0)
one_size true k = let e : k +ℤ pos 0 ≡ k = omega (arith, ints) in rw e (omega arith)
one_size false k = refl

size_here : (o : Option Term) (v : Variable) → size_in (terms_in (o ∷ [])) v ≡ nat_abs (here o v)
size_here None v = refl
size_here (Some t) v = one_size (same_variable (term_of t).variable v) (term_of t).coefficient

-- ---- two places

-- the coefficients don't cancel in part
abbrev pub AreAlike : ℤ → ℤ → Type 0
AreAlike a b = nat_abs (a +ℤ b) ≡ nat_abs a + nat_abs b

cancel : (b : Bool) (k l : ℤ) → k +ℤ l ≡ pos 0 → ((if b then k else pos 0) +ℤ pos 0) +ℤ ((if b then l else pos 0) +ℤ pos 0) ≡ pos 0
cancel true k l e = omega (arith, ints)
cancel false k l e = omega (arith, ints)

pub opposites_cancel : (a b : Option Term) (v : Variable) → AreOpposite a b → here a v +ℤ here b v ≡ pos 0
opposites_cancel None b v are = absurd are
opposites_cancel (Some (Plus x)) b v are = ap (λ o. here (Some (Plus x)) v +ℤ here o v) are ∙ cancel (same_variable x v) (pos 1) (negsuc 0) (omega (arith, ints))
opposites_cancel (Some (Minus x)) b v are = ap (λ o. here (Some (Minus x)) v +ℤ here o v) are ∙ cancel (same_variable x v) (negsuc 0) (pos 1) (omega (arith, ints))

-- terms of one sign, and terms of different variables, are alike
same_sign : (b c : Bool) (k : ℤ) → AreAlike ((if b then k else pos 0) +ℤ pos 0) ((if c then k else pos 0) +ℤ pos 0)
same_sign true true (pos n) = omega (arith, ints)
same_sign true true (negsuc n) = omega (arith, ints)
same_sign true false (pos n) = omega (arith, ints)
same_sign true false (negsuc n) = omega (arith, ints)
same_sign false true (pos n) = omega (arith, ints)
same_sign false true (negsuc n) = omega (arith, ints)
same_sign false false k = omega (arith, ints)

not_both : (b c : Bool) (k l : ℤ) → (b ≡ true → c ≡ true → ⊥) → AreAlike ((if b then k else pos 0) +ℤ pos 0) ((if c then l else pos 0) +ℤ pos 0)
not_both true true k l none = absurd (none refl refl)
not_both true false (pos n) l none = omega (arith, ints)
not_both true false (negsuc n) l none = omega (arith, ints)
not_both false true k (pos n) none = omega (arith, ints)
not_both false true k (negsuc n) none = omega (arith, ints)
not_both false false k l none = omega (arith, ints)

one_variable : (x y : Variable) (v : Variable) → same_variable x v ≡ true → same_variable y v ≡ true → y ≡ x
one_variable x y v e f = same_variable_is y v f ∙ sym (same_variable_is x v e)

pub others_are_alike : (a b : Option Term) (v : Variable) → (AreOpposite a b → ⊥) → AreAlike (here a v) (here b v)
others_are_alike None None v none = omega (arith, ints)
others_are_alike None (Some (Plus y)) v none = not_both false (same_variable y v) (pos 0) (pos 1) (λ e f. absurd cc)
others_are_alike None (Some (Minus y)) v none = not_both false (same_variable y v) (pos 0) (negsuc 0) (λ e f. absurd cc)
others_are_alike (Some (Plus x)) None v none = not_both (same_variable x v) false (pos 1) (pos 0) (λ e f. absurd cc)
others_are_alike (Some (Minus x)) None v none = not_both (same_variable x v) false (negsuc 0) (pos 0) (λ e f. absurd cc)
others_are_alike (Some (Plus x)) (Some (Plus y)) v none = same_sign (same_variable x v) (same_variable y v) (pos 1)
others_are_alike (Some (Minus x)) (Some (Minus y)) v none = same_sign (same_variable x v) (same_variable y v) (negsuc 0)
others_are_alike (Some (Plus x)) (Some (Minus y)) v none = not_both (same_variable x v) (same_variable y v) (pos 1) (negsuc 0) (λ e f. none (ap (λ z. Some (Minus z)) (one_variable x y v e f)))
others_are_alike (Some (Minus x)) (Some (Plus y)) v none = not_both (same_variable x v) (same_variable y v) (negsuc 0) (pos 1) (λ e f. none (ap (λ z. Some (Plus z)) (one_variable x y v e f)))

-- ---- three places

three_alike : (a b c : ℤ) → AreAlike a b → AreAlike a c → AreAlike b c → nat_abs a + (nat_abs b + nat_abs c) ≡ nat_abs (a +ℤ (b +ℤ c))
three_alike (pos a) (pos b) (pos c) e f g = omega (arith, ints)
three_alike (pos a) (pos b) (negsuc c) e f g = omega (arith, ints)
three_alike (pos a) (negsuc b) (pos c) e f g = omega (arith, ints)
three_alike (pos a) (negsuc b) (negsuc c) e f g = omega (arith, ints)
three_alike (negsuc a) (pos b) (pos c) e f g = omega (arith, ints)
three_alike (negsuc a) (pos b) (negsuc c) e f g = omega (arith, ints)
three_alike (negsuc a) (negsuc b) (pos c) e f g = omega (arith, ints)
three_alike (negsuc a) (negsuc b) (negsuc c) e f g = omega (arith, ints)

coefficient_three : (a b c : Option Term) (v : Variable) → coefficient_in (terms_in (a ∷ b ∷ c ∷ [])) v ≡ here a v +ℤ (here b v +ℤ here c v)
coefficient_three a b c v =
    ap (λ l. coefficient_in l v) (terms_in-append (a ∷ []) (b ∷ c ∷ [])) ∙ coefficient_in-append (terms_in (a ∷ [])) (terms_in (b ∷ c ∷ [])) v
    ∙ ap (λ z. here a v +ℤ z) (ap (λ l. coefficient_in l v) (terms_in-append (b ∷ []) (c ∷ [])) ∙ coefficient_in-append (terms_in (b ∷ [])) (terms_in (c ∷ [])) v)

size_three : (a b c : Option Term) (v : Variable) → size_in (terms_in (a ∷ b ∷ c ∷ [])) v ≡ nat_abs (here a v) + (nat_abs (here b v) + nat_abs (here c v))
size_three a b c v =
    ap (λ l. size_in l v) (terms_in-append (a ∷ []) (b ∷ c ∷ [])) ∙ size_in-append (terms_in (a ∷ [])) (terms_in (b ∷ c ∷ [])) v
    ∙ ap (λ n. n + size_in (terms_in (b ∷ c ∷ [])) v) (size_here a v)
    ∙ ap (λ n. nat_abs (here a v) + n) (ap (λ l. size_in l v) (terms_in-append (b ∷ []) (c ∷ [])) ∙ size_in-append (terms_in (b ∷ [])) (terms_in (c ∷ [])) v
    ∙ ap (λ n. n + size_in (terms_in (c ∷ [])) v) (size_here b v) ∙ ap (λ n. nat_abs (here b v) + n) (size_here c v))

-- what holds of all terms holds of those at each place
each_place : (P : linear.Term → Type 0) (a b c : Option Term) → All P (terms_in (a ∷ b ∷ c ∷ [])) → All P (terms_in (a ∷ [])) × All P (terms_in (b ∷ [])) × All P (terms_in (c ∷ []))
each_place P a b c all = let (x, rest) = parted a (b ∷ c ∷ []) all in let (y, z) = parted b (c ∷ []) rest in (x, y, z)
  where
    parted : (o : Option Term) (more : List (Option Term)) → All P (terms_in (o ∷ more)) → All P (terms_in (o ∷ [])) × All P (terms_in more)
    parted None more all = (All-nil P, all)
    parted (Some t) more all = (All-cons P (term_of t) [] (All-head P (term_of t) (terms_in more) all) (All-nil P), All-tail P (term_of t) (terms_in more) all)

module _ (a b c : Option Term) where
  sum_of_rest : (x y z : ℤ) → x +ℤ y ≡ pos 0 → z ≡ x +ℤ (y +ℤ z)
  sum_of_rest x y z e = omega (arith, ints)

  middle_rest : (x y z : ℤ) → x +ℤ z ≡ pos 0 → y ≡ x +ℤ (y +ℤ z)
  middle_rest x y z e = omega (arith, ints)

  first_rest : (x y z : ℤ) → y +ℤ z ≡ pos 0 → x ≡ x +ℤ (y +ℤ z)
  first_rest x y z e = omega (arith, ints)

  alone : (o : Option Term) (new : List (Option Term)) → ((P : linear.Term → Type 0) → All P (terms_in (a ∷ b ∷ c ∷ [])) → All P (terms_in new))
      → ((v : Variable) → coefficient_in (terms_in new) v ≡ here o v) → ((v : Variable) → size_in (terms_in new) v ≡ nat_abs (here o v))
      → ((v : Variable) → here o v ≡ here a v +ℤ (here b v +ℤ here c v)) → IsReducedSum (terms_in (a ∷ b ∷ c ∷ [])) (terms_in new)
  alone o new within same size rest = record {
    within = λ states labels. within (IsTermWithin states labels);
    coefficients = λ v. same v ∙ rest v ∙ sym (coefficient_three a b c v);
    sizes = λ v. size v ∙ ap nat_abs (rest v ∙ sym (coefficient_three a b c v));
  }

  one : (P : linear.Term → Type 0) (o : Option Term) → All P (terms_in (o ∷ [])) → All P (terms_in (o ∷ None ∷ []))
  one P None all = all
  one P (Some t) all = all

  two : (P : linear.Term → Type 0) (o : Option Term) → All P (terms_in (o ∷ [])) → All P (terms_in (o ∷ None ∷ None ∷ []))
  two P None all = all
  two P (Some t) all = all

  only : (o : Option Term) → ((v : Variable) → coefficient_in (terms_in (o ∷ None ∷ None ∷ [])) v ≡ here o v) × ((v : Variable) → size_in (terms_in (o ∷ None ∷ None ∷ [])) v ≡ nat_abs (here o v))
  only None = ((λ v. refl), (λ v. refl))
  only (Some t) = ((λ v. refl), (λ v. size_here (Some t) v))

  pub third_stays : AreOpposite a b → IsReducedSum (terms_in (a ∷ b ∷ c ∷ [])) (terms_in (None ∷ None ∷ c ∷ []))
  third_stays are = alone c (None ∷ None ∷ c ∷ []) (λ P all. (each_place P a b c all).2) (λ v. refl) (size_here c) (λ v. sum_of_rest (here a v) (here b v) (here c v) (opposites_cancel a b v are))

  pub second_stays : AreOpposite a c → IsReducedSum (terms_in (a ∷ b ∷ c ∷ [])) (terms_in (None ∷ b ∷ None ∷ []))
  second_stays are = alone b (None ∷ b ∷ None ∷ []) (λ P all. one P b ((each_place P a b c all).1)) (by b).0 (by b).1 (λ v. middle_rest (here a v) (here b v) (here c v) (opposites_cancel a c v are))
    where
      by : (o : Option Term) → ((v : Variable) → coefficient_in (terms_in (o ∷ None ∷ [])) v ≡ here o v) × ((v : Variable) → size_in (terms_in (o ∷ None ∷ [])) v ≡ nat_abs (here o v))
      by None = ((λ v. refl), (λ v. refl))
      by (Some t) = ((λ v. refl), (λ v. size_here (Some t) v))

  pub first_stays : AreOpposite b c → IsReducedSum (terms_in (a ∷ b ∷ c ∷ [])) (terms_in (a ∷ None ∷ None ∷ []))
  first_stays are = alone a (a ∷ None ∷ None ∷ []) (λ P all. two P a ((each_place P a b c all).0)) (only a).0 (only a).1 (λ v. first_rest (here a v) (here b v) (here c v) (opposites_cancel b c v are))

  pub all_stay : (AreOpposite a b → ⊥) → (AreOpposite a c → ⊥) → (AreOpposite b c → ⊥) → IsReducedSum (terms_in (a ∷ b ∷ c ∷ [])) (terms_in (a ∷ b ∷ c ∷ []))
  all_stay ab ac bc = record {
    within = λ states labels all. all;
    coefficients = λ v. refl;
    sizes = λ v. size_three a b c v ∙ three_alike (here a v) (here b v) (here c v) (others_are_alike a b v ab) (others_are_alike a c v ac)
        (others_are_alike b c v bc) ∙ sym (ap nat_abs (coefficient_three a b c v));
  }

-- ---- an array of three

abbrev pub at : List (Option Term) → ℕ → Option Term
at ts i = slice_index_or ts i None

three_places : (ts : List (Option Term)) → length ts ≡ 3 → ts ≡ at ts 0 ∷ at ts 1 ∷ at ts 2 ∷ []
three_places [] e = absurd (omega arith)
three_places (a ∷ []) e = absurd (omega arith)
three_places (a ∷ b ∷ []) e = absurd (omega arith)
three_places (a ∷ b ∷ c ∷ []) e = refl
three_places (a ∷ b ∷ c ∷ d ∷ more) e = absurd (omega arith)

module _ (ts : List (Option Term)) (size : length ts ≡ 3) where
  read : (new : List linear.Term) → IsReducedSum (terms_in (at ts 0 ∷ at ts 1 ∷ at ts 2 ∷ [])) new → IsReducedSum (terms_in ts) new
  read new = subst (λ (us : List (Option Term)). IsReducedSum (terms_in us) new) (sym (three_places ts size))

  pub third_is_left : AreOpposite (at ts 0) (at ts 1) → IsReducedSum (terms_in ts) (terms_in (None ∷ None ∷ at ts 2 ∷ []))
  third_is_left are = read (terms_in (None ∷ None ∷ at ts 2 ∷ [])) (third_stays (at ts 0) (at ts 1) (at ts 2) are)

  pub second_is_left : AreOpposite (at ts 0) (at ts 2) → IsReducedSum (terms_in ts) (terms_in (None ∷ at ts 1 ∷ None ∷ []))
  second_is_left are = read (terms_in (None ∷ at ts 1 ∷ None ∷ [])) (second_stays (at ts 0) (at ts 1) (at ts 2) are)

  pub first_is_left : AreOpposite (at ts 1) (at ts 2) → IsReducedSum (terms_in ts) (terms_in (at ts 0 ∷ None ∷ None ∷ []))
  first_is_left are = read (terms_in (at ts 0 ∷ None ∷ None ∷ [])) (first_stays (at ts 0) (at ts 1) (at ts 2) are)

  pub all_are_left : (AreOpposite (at ts 0) (at ts 1) → ⊥) → (AreOpposite (at ts 0) (at ts 2) → ⊥) → (AreOpposite (at ts 1) (at ts 2) → ⊥) → IsReducedSum (terms_in ts) (terms_in ts)
  all_are_left ab ac bc = subst (λ (us : List (Option Term)). IsReducedSum (terms_in us) (terms_in us)) (sym (three_places ts size)) (all_stay (at ts 0) (at ts 1) (at ts 2) ab ac bc)
