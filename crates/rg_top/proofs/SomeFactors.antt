-- Something comes of the search for the factors of a system, and for nets of them.
use Rattle.std.proofs.Common.{◌≡◌, ◌⊎◌, inl, inr, ℕ, ◌<◌, List, length, Option, None, Some, IfSome, slice_get, refl, sym, subst, ◌∙◌}
use Rattle.std.proofs.lemmas.Option.{slice_get_within}
use Rattle.rg_ports.specs.Shelf.{Files}
use Rattle.rg_theory.specs.System.{System, IsInRange, IsAllReachable, IsForkFree}
use Rattle.rg_checks.specs.declared.flaw.Flaw.{Flaw}
use Rattle.rg_checks.specs.Flaws.{IsFlawless, IsFirstFlaw}
use Rattle.rg_theory.specs.declared.Class.{Class}
use Rattle.rg_theory.specs.ClassWords.{HasNumbersInRange}
use Rattle.rg_theory.proofs.Deciding.{each_or_first}
use Rattle.rg_cert_meaning.specs.Refutes.{Reason}
use Rattle.rg_case_folds.specs.Shown.{Shown}
use Rattle.rg_outcome.specs.Outcome.{Out, Answer, Answer.net as of_net, Answer.unsolvable as of_reason, Answer.too_wide as of_term}
use Rattle.rg_product.specs.Product.{Factor, IsFactorAt, AreInRange}
use Rattle.rg_product.specs.Factoring.{Factoring, factors, one_block, fewer, IsFactoring, IsFactoring.of_factors}
use Rattle.rg_product.proofs.OneFactoring.{factors_in_range}
use Rattle.rg_synth.specs.Answer.{IsOpen}
use Rattle.rg_top.specs.FactorsAnswer.{HasNet}
use Rattle.rg_commands.specs.declared.request.Work.TheVariants as work
use Rattle.rg_top.specs.Factor.{HasFactors, for_a_flaw, for_one_block, for_sizes, for_factors, for_nets, for_a_reason}
use Rattle.rg_top.specs.Due.{for_factors as term_for_factors}
use Rattle.rg_top.specs.Terms.{of_factor}
use Rattle.rg_top.specs.declared.status.Status.TheVariants.{Done, No}
use Rattle.rg_top.proofs.Something.{SomethingOn}
use Rattle.rg_top.proofs.SomeNets.{SomeOut}

-- a system in range has a first flaw or is open, and an open one has a factoring; a system in range and a class have an answer
pub record SomeFactoring : Type 0 where
  pub flaw : (lts : System) → IsInRange lts → ((f : Flaw) × IsFirstFlaw lts f) ⊎ IsFlawless lts
  pub factoring : (lts : System) → IsInRange lts → IsAllReachable lts → IsForkFree lts → (f : Factoring) × IsFactoring lts f
  pub out : SomeOut

-- ---- factor after factor

-- the answer for the factor and the class is a reason or a term
data HasNone (class : Class) (f : Factor) : Type 0 where
  a_reason : (reason : Reason) → Out f.lts class (of_reason reason) → HasNone class f
  a_term : (w : Shown) → Out f.lts class (of_term w) → HasNone class f

-- that of factor number i is a net, where there is one; that of factor number i, which there is, is none
abbrev IsNetAt : Class → List Factor → ℕ → Type 0
IsNetAt class fs i = (f : Factor) → IsFactorAt fs i f → HasNet class f

abbrev IsNoneAt : Class → List Factor → ℕ → Type 0
IsNoneAt class fs i = (f : Factor) × IsFactorAt fs i f × HasNone class f

same_factor : (f g : Factor) → Some f ≡ Some g → f ≡ g
same_factor f g e = cc

not_there : (f : Factor) → None ≡ Some f → ⊥
not_there f e = cc

net_or_none : SomeOut → (class : Class) (fs : List Factor) → HasNumbersInRange class → AreInRange fs → (i : ℕ) → IsNetAt class fs i ⊎ IsNoneAt class fs i
net_or_none some class fs numbers inside i = by (slice_get fs i) refl
  where
    told : (f : Factor) → IsFactorAt fs i f → (a : Answer) × Out f.lts class a → IsNetAt class fs i ⊎ IsNoneAt class fs i
    told f at (of_net places, out) = inl (λ g at'. subst (HasNet class) (same_factor f g (sym at ∙ at')) (places, out))
    told f at (of_reason reason, out) = inr (f, at, a_reason reason out)
    told f at (of_term w, out) = inr (f, at, a_term w out)

    by : (o : Option Factor) → slice_get fs i ≡ o → IsNetAt class fs i ⊎ IsNoneAt class fs i
    by None none = inl (λ f at. absurd (not_there f (sym none ∙ at)))
    by (Some f) at = told f at (some f.lts class (inside i f at) numbers)

-- each factor has a net, or there is a first one that has none
with_nets : SomeOut → (files : Files) (class : Class) (jobs : ℕ) (lts : System) (fs : List Factor) → HasNumbersInRange class → AreInRange fs → HasFactors lts fs
    → SomethingOn files (work.Factor (Some class) jobs) lts
with_nets some files class jobs lts fs numbers inside has = by (each_or_first (IsNetAt class fs) (IsNoneAt class fs) (net_or_none some class fs numbers inside) (length fs))
  where
    none : (i : ℕ) (f : Factor) → IsFactorAt fs i f → ((j : ℕ) → j < i → IsNetAt class fs j) → HasNone class f → SomethingOn files (work.Factor (Some class) jobs) lts
    none i f at before (a_reason reason out) = inl (No, for_a_reason class fs i f reason has (record { at = at; before = λ j g less at'. before j less g at' }) out)
    none i f at before (a_term w out) = inr (of_factor i w, term_for_factors class fs i f w has (record { at = at; before = λ j g less at'. before j less g at' }) out)

    by : ((i : ℕ) → i < length fs → IsNetAt class fs i) ⊎ ((i : ℕ) × (i < length fs) × IsNoneAt class fs i × ((j : ℕ) → j < i → IsNetAt class fs j))
        → SomethingOn files (work.Factor (Some class) jobs) lts
    by (inl all) = inl (Done, for_nets class fs has (λ i f at. all i (slice_get_within fs i f at) f at))
    by (inr (i, within, (f, at, is), before)) = none i f at before is

-- ---- the factors

factors_inside : (lts : System) (fs : List Factor) (tuples : List (List ℕ)) → IsFactoring lts (factors fs tuples) → AreInRange fs
factors_inside lts fs tuples (of_factors blocks reached _ _ parted many parts product) = factors_in_range lts blocks reached fs parts

of_open : SomeOut → (files : Files) (class : Option Class) (jobs : ℕ) (lts : System) → IfSome class HasNumbersInRange → IsOpen lts → (f : Factoring) × IsFactoring lts f
    → SomethingOn files (work.Factor class jobs) lts
of_open some files class jobs lts numbers is_open (one_block squares, is) = inl (No, for_one_block squares is_open is)
of_open some files class jobs lts numbers is_open (fewer sizes, is) = inl (No, for_sizes sizes is_open is)
of_open some files None jobs lts numbers is_open (factors fs tuples, is) = inl (Done, for_factors fs (tuples, is_open, is))
of_open some files (Some class) jobs lts numbers is_open (factors fs tuples, is) =
    with_nets some files class jobs lts fs numbers (factors_inside lts fs tuples is) (tuples, is_open, is)

pub some_factors : SomeFactoring → (files : Files) (class : Option Class) (jobs : ℕ) (lts : System) → IsInRange lts → IfSome class HasNumbersInRange → SomethingOn files (work.Factor class jobs) lts
some_factors some files class jobs lts fine numbers = by (some.flaw lts fine)
  where
    by : ((f : Flaw) × IsFirstFlaw lts f) ⊎ IsFlawless lts → SomethingOn files (work.Factor class jobs) lts
    by (inl (f, is)) = inl (No, for_a_flaw f is)
    by (inr is_open) = of_open some.out files class jobs lts numbers is_open (some.factoring lts fine is_open.reachable is_open.fork_free)
