-- Where Start is no column, rows but those of tokens don't depend on a shift of all numbers.
use Rattle.std.proofs.Common.{◌≡◌, ⊎_elim, ℕ, zero, suc, ◌+◌, ◌<◌, ◌≤◌, ◌||◌, is_some, Bool, true, false, [], refl, sym, ap, subst, ◌∙◌, arith}
use Rattle.std.specs.Prelude.{ℤ, pos, negsuc, ◌+ℤ◌, ◌*ℤ◌, ◌≤ℤ◌}
use Rattle.std.proofs.lemmas.Int.{ints}
use Rattle.std.proofs.lemmas.Bool.{true≢false, or_parts, cases_lt}
use Rattle.rg_theory.specs.declared.Class.{Class}
use Rattle.rg_theory.specs.declared.Problem.{Problem}
use Rattle.rg_theory.specs.System.{System, states}
use Rattle.rg_cert_meaning.specs.declared.Variable.{Variable}
use Rattle.rg_cert_meaning.specs.declared.RowName.{RowName}
use Rattle.rg_cert_meaning.specs.Expression.{Expression}
use Rattle.rg_cert_meaning.specs.Row.{RowStands, row_expression}
use Rattle.rg_case_folds.specs.Rewriting.{has_start}
use Rattle.rg_case_folds.specs.Meaning.{value_over, IsTokensRow, shifted}
use Rattle.rg_case_folds.proofs.RowKinds.{OfKind, EachKind, each_row}
use Rattle.rg_cert_meaning.specs.declared.RowName.TheVariants as row_name
use Rattle.rg_cert_meaning.specs.declared.Variable.TheVariants.{Tokens, Effect}

-- the numbers of the states are one number more, and the effects the same
abbrev pub IsShift : ℤ → (Variable → ℤ) → (Variable → ℤ) → Type 0
IsShift by x y = ((q : ℕ) → y (Tokens q) ≡ x (Tokens q) +ℤ by) × ((t : ℕ) → y (Effect t) ≡ x (Effect t))

abbrev pub SameValue : ℤ → (Variable → ℤ) → (Variable → ℤ) → Expression → Type 0
SameValue scale x y e = value_over scale x e ≡ value_over scale y e

pub shifted_is_shift : (by : ℤ) (x : Variable → ℤ) → IsShift by x (shifted by x)
shifted_is_shift by x = ((λ q. refl), (λ t. refl))

-- a class without Start is neither pure nor plain nor bounded
no_words : (class : Class) → has_start class ≡ false → (class.pure ≡ false) × (class.plain ≡ false) × (is_some class.bound ≡ false)
no_words class e =
    let (pure, rest) = or_parts class.pure (class.plain || is_some class.bound) e in
    let (plain, bound) = or_parts class.plain (is_some class.bound) rest in
    (pure, plain, bound)

both : {P : Type 0} (b : Bool) → b ≡ false → b ≡ true → P
both b e f = absurd (true≢false (sym f ∙ e))

two : (k by a b x y : ℤ) → x ≡ a +ℤ by → y ≡ b +ℤ by → ((pos 1 *ℤ a) +ℤ ((negsuc 0 *ℤ b) +ℤ pos 0)) +ℤ k ≡ ((pos 1 *ℤ x) +ℤ ((negsuc 0 *ℤ y) +ℤ pos 0)) +ℤ k
two k by a b x y p q = omega (arith, ints)

three : (k by a e b x f y : ℤ) → x ≡ a +ℤ by → f ≡ e → y ≡ b +ℤ by
    → ((pos 1 *ℤ a) +ℤ ((pos 1 *ℤ e) +ℤ ((negsuc 0 *ℤ b) +ℤ pos 0))) +ℤ k ≡ ((pos 1 *ℤ x) +ℤ ((pos 1 *ℤ f) +ℤ ((negsuc 0 *ℤ y) +ℤ pos 0))) +ℤ k
three k by a e b x f y p r q = omega (arith, ints)

-- a shift changes no value of a row but those of tokens
value_kinds : (lts : System) (class : Class) (problem : Problem) (scale by : ℤ) (x y : Variable → ℤ) → has_start class ≡ false → IsShift by x y
    → EachKind lts class problem (SameValue scale x y) (λ e. Unit {0}) (SameValue scale x y)
value_kinds lts class problem scale by x y none (tokens, effects) = record {
  arc = λ a has. three (pos 0 *ℤ scale) by (x (Tokens a.from)) (x (Effect a.label)) (x (Tokens a.to)) (y (Tokens a.from)) (y (Effect a.label)) (y (Tokens a.to))
      (tokens a.from) (effects a.label) (tokens a.to);
  tokens = λ q. tt;
  effect = λ t k c label constant. ap (λ z. ((k *ℤ z) +ℤ pos 0) +ℤ (c *ℤ scale)) (sym (effects t));
  most = λ q c state constant. ⊎_elim (both (is_some class.bound) (no_words class none).2) (λ event. both class.plain (no_words class none).1 event.2) constant;
  full = λ q state event plain impure. both class.plain (no_words class none).1 plain;
  apart = λ q r state state'. two (negsuc 0 *ℤ scale) by (x (Tokens q)) (x (Tokens r)) (y (Tokens q)) (y (Tokens r)) (tokens q) (tokens r);
  block = λ s t event state label used pure. both class.pure (no_words class none).0 pure;
}

pub same_value : (lts : System) (class : Class) (problem : Problem) (number : ℕ) (scale by : ℤ) (x y : Variable → ℤ) (name : RowName) → has_start class ≡ false
    → IsShift by x y → RowStands lts class problem number [] name → ¬ IsTokensRow name
    → SameValue scale x y (row_expression lts class problem number [] name)
same_value lts class problem number scale by x y name none shift stands other =
    no_tokens name (row_expression lts class problem number [] name) other
    (each_row lts class (SameValue scale x y) (λ e. Unit {0}) (SameValue scale x y) problem number (value_kinds lts class problem scale by x y none shift) name stands)
  where
    no_tokens : (name : RowName) (e : Expression) → ¬ IsTokensRow name → OfKind (SameValue scale x y) (λ e. Unit {0}) (SameValue scale x y) name e → SameValue scale x y e
    no_tokens (row_name.Arc a) e other same = same
    no_tokens (row_name.Tokens q) e other same = absurd (other tt)
    no_tokens name e other same = same

-- some shift leaves none of n numbers below 0
enough : (n : ℕ) (f : ℕ → ℤ) → (m : ℕ) × ((q : ℕ) → q < n → pos 0 ≤ℤ (f q +ℤ pos m))
enough zero f = (0, λ q lt. absurd (omega arith))
enough (suc n) f = let (m, above) = enough n f in go m above (f n) refl
  where
    last : (m : ℕ) (z : ℤ) → f n ≡ z → pos 0 ≤ℤ (z +ℤ pos m) → ((q : ℕ) → q < n → pos 0 ≤ℤ (f q +ℤ pos m)) → (q : ℕ) → q < suc n → pos 0 ≤ℤ (f q +ℤ pos m)
    last m z is here above q lt = ⊎_elim (λ lt'. above q lt') (λ le. subst (λ y. pos 0 ≤ℤ (y +ℤ pos m)) (sym is ∙ ap f (same le)) here) (cases_lt q n)
      where
        same : n ≤ q → n ≡ q
        same le = omega arith

    more : (m k : ℕ) → ((q : ℕ) → q < n → pos 0 ≤ℤ (f q +ℤ pos m)) → (q : ℕ) → q < n → pos 0 ≤ℤ (f q +ℤ pos (m + k))
    more m k above q lt = let h = above q lt in omega (arith, ints)

    go : (m : ℕ) → ((q : ℕ) → q < n → pos 0 ≤ℤ (f q +ℤ pos m)) → (z : ℤ) → f n ≡ z → (m' : ℕ) × ((q : ℕ) → q < suc n → pos 0 ≤ℤ (f q +ℤ pos m'))
    go m above (pos k) is = (m, last m (pos k) is (omega (arith, ints)) above)
    go m above (negsuc k) is = (m + suc k, last (m + suc k) (negsuc k) is (omega (arith, ints)) (more m (suc k) above))

pub some_shift : (lts : System) (x : Variable → ℤ) → (by : ℤ) × ((q : ℕ) → q < states lts → pos 0 ≤ℤ shifted by x (Tokens q))
some_shift lts x = let (m, above) = enough (states lts) (λ q. x (Tokens q)) in (pos m, above)
