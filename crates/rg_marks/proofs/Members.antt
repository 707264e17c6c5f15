-- Facts that hold of some element of a list, and of lists with one more.
use Rattle.std.proofs.Common.{◌≡◌, ℕ, zero, suc, List, [], ◌∷◌, ◌++◌, Any, Some, ◌⊎◌, length, slice_get, inl, inr, ⊎_elim, refl, sym, subst, arith}
use Rattle.std.proofs.lemmas.Option.{none-some}
use Rattle.std.proofs.lemmas.List.Elements.{Contains-append_left, Contains-append_right, Contains-append_cases}
use Rattle.rg_theory.proofs.Lists.{Contains-cons_cases}
use Rattle.rg_theory.proofs.Among.{one_of, any_of, any_within}
use Rattle.rg_marks.specs.Separated.{AddsOne}

-- one more in front of a list, and behind it
pub adds_front : {X : Type 0} (p : X) (xs : List X) → AddsOne p xs (p ∷ xs)
adds_front p xs = record { here = (0, omega arith, refl); stay = λ x (k, lt, e). (suc k, omega arith, e); only = λ x has. Contains-cons_cases p x xs has }

pub adds_last : {X : Type 0} (p : X) (xs : List X) → AddsOne p xs (xs ++ p ∷ [])
adds_last {X} p xs = record {
  here = Contains-append_right xs (p ∷ []) p (0, omega arith, refl);
  stay = λ x has. Contains-append_left xs (p ∷ []) x has;
  only = λ x has. ⊎_elim (λ before. inr before) (λ one. ⊎_elim (λ e. inl e) (λ (k, lt, e). absurd (omega arith)) (Contains-cons_cases p x [] one)) (Contains-append_cases xs (p ∷ []) x has);
}

pub any_adds : {X : Type 0} (P : X → Type 0) (p : X) (xs ys : List X) → AddsOne p xs ys → Any P ys → P p ⊎ Any P xs
any_adds P p xs ys adds some =
    let (x, has, holds) = one_of P ys some in
    ⊎_elim (λ e. inl (subst P (sym e) holds)) (λ before. inr (any_of P xs x before holds)) (adds.only x has)

pub adds_any : {X : Type 0} (P : X → Type 0) (p : X) (xs ys : List X) → AddsOne p xs ys → P p ⊎ Any P xs → Any P ys
adds_any P p xs ys adds (inl holds) = any_of P ys p adds.here holds
adds_any P p xs ys adds (inr some) = any_within P xs ys adds.stay some

-- what stands in a list with one more at its end
pub get_before : {X : Type 0} (xs : List X) (y : X) (i : ℕ) (x : X) → slice_get xs i ≡ Some x → slice_get (xs ++ y ∷ []) i ≡ Some x
get_before [] y i x e = absurd (none-some x e)
get_before (k ∷ xs) y zero x e = e
get_before (k ∷ xs) y (suc i) x e = get_before xs y i x e

pub get_last : {X : Type 0} (xs : List X) (y : X) (k : ℕ) → k ≡ length xs → slice_get (xs ++ y ∷ []) k ≡ Some y
get_last [] y zero e = refl
get_last [] y (suc k) e = absurd (omega arith)
get_last (x ∷ xs) y zero e = absurd (omega arith)
get_last (x ∷ xs) y (suc k) e = get_last xs y k (omega arith)
