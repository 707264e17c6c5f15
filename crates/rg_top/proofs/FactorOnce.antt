-- `factor` ends in one way for a system and a class.
use Rattle.std.proofs.Common.{◌≡◌, ◌⊎◌, inl, inr, ℕ, ◌<◌, List, [], ◌∷◌, ◌++◌, Option, None, Some, slice_get, zero, suc, refl, sym, ap, ap₂, subst, ◌∙◌}
use Rattle.std.specs.List.{AllZip}
use Rattle.std.proofs.lemmas.Bool.{cases_order}
use Rattle.rg_theory.specs.System.{System, labels, IsInRange, IsAllReachable, IsForkFree}
use Rattle.rg_checks.specs.declared.flaw.Flaw.{Flaw}
use Rattle.rg_checks.specs.Flaws.{IsFirstFlaw}
use Rattle.rg_checks.proofs.FirstFlaws.{not_flawless}
use Rattle.rg_theory.specs.Net.{Net}
use Rattle.rg_theory.specs.declared.Class.{Class}
use Rattle.rg_net.specs.NetText.{net_text}
use Rattle.rg_cert.specs.Text.{cert_text}
use Rattle.rg_case_folds.specs.Shown.{Shown}
use Rattle.rg_outcome.specs.Outcome.{Out, Answer, Answer.net as of_net, Answer.unsolvable as of_reason, Answer.too_wide as of_term}
use Rattle.rg_separate.specs.View.{shown_of}
use Rattle.rg_synth.specs.Answer.{IsOpen}
use Rattle.rg_product.specs.Product.{Factor, IsFactorAt}
use Rattle.rg_product.specs.Factoring.{Factoring, factors, one_block, fewer, IsFactoring}
use Rattle.rg_product.specs.Beside.{net_beside}
use Rattle.rg_messages.specs.FlawTexts.{flaw_line}
use Rattle.rg_messages.specs.FactorTexts.{one_block_text, sizes_line, factors_text, unsolvable_factor_line}
use Rattle.rg_top.specs.FactorsAnswer.{IsBehindNets, HasNet, IsNetOf}
use Rattle.rg_top.specs.End.{End, says_yes, says_no, shows_term, HasStatus}
use Rattle.rg_top.specs.Factor.{HasFactors, FactorEnds, a_flaw, no_blocks, no_product, all_factors, a_net, a_certificate, a_term}
use Rattle.rg_top.specs.Factor.{FactorIsDue, for_a_flaw, for_one_block, for_sizes, for_factors, for_nets, for_a_reason, for_a_term}
use Rattle.rg_top.specs.Terms.{Term.of_factor as of_factor_term}
use Rattle.rg_top.specs.declared.status.Status.{Status}
use Rattle.rg_top.proofs.SynthesizeOnce.{OneOut}
use Rattle.rg_top.proofs.Told.{TellsOne, IsEndOf, IsStatusOf, one_end, due_end}

-- a system has one first flaw or, where it is open, one factoring; a system and a class have one answer
pub record OneFactoring : Type 0 where
  pub one_flaw : (lts : System) (f g : Flaw) → IsFirstFlaw lts f → IsFirstFlaw lts g → f ≡ g
  pub one_factoring : (lts : System) (a b : Factoring) → IsInRange lts → IsAllReachable lts → IsForkFree lts → IsFactoring lts a → IsFactoring lts b → a ≡ b
  pub out : OneOut

-- ---- what decides before nets are asked for

data Decision : Type 0 where
  of_flaw : Flaw → Decision
  of_factoring : Factoring → Decision

abbrev Decides : System → Decision → Type 0
Decides lts (of_flaw f) = IsFirstFlaw lts f
Decides lts (of_factoring r) = IsOpen lts × IsFactoring lts r

one_decision : OneFactoring → (lts : System) (a b : Decision) → IsInRange lts → Decides lts a → Decides lts b → a ≡ b
one_decision one lts (of_flaw f) (of_flaw g) within h k = ap of_flaw (one.one_flaw lts f g h k)
one_decision one lts (of_flaw f) (of_factoring r) within h (is_open, k) = absurd (not_flawless lts f h is_open)
one_decision one lts (of_factoring r) (of_flaw f) within (is_open, h) k = absurd (not_flawless lts f k is_open)
one_decision one lts (of_factoring r) (of_factoring r') within (is_open, h) (is_open', k) =
    ap of_factoring (one.one_factoring lts r r' within is_open.reachable is_open.fork_free h k)

-- ---- the result for the factors, where nets of a class are asked for

data Finding : Type 0 where
  nets_alone : List Net → Finding
  no_net : ℕ → Factor → Answer → Finding

abbrev IsNoNet : Answer → Type 0
IsNoNet (of_net places) = ⊥
IsNoNet (of_reason reason) = Unit {0}
IsNoNet (of_term w) = Unit {0}

-- the net is that of the answer for the factor
abbrev IsAnswer : Class → Factor → Net → Type 0
IsAnswer class f net = Out f.lts class (of_net net.places) × (net.labels ≡ labels f.lts)

abbrev Finds : Class → List Factor → Finding → Type 0
Finds class fs (nets_alone nets) = AllZip (IsAnswer class) fs nets
Finds class fs (no_net i f a) = IsBehindNets class fs i f × Out f.lts class a × IsNoNet a

net_or_none : OneOut → (class : Class) (f : Factor) (a : Answer) → HasNet class f → Out f.lts class a → IsNoNet a → ⊥
net_or_none one class f a (places, net) out none = subst IsNoNet (one f.lts class a (of_net places) out net) none

same_factor : (fs : List Factor) (i j : ℕ) (f g : Factor) → i ≡ j → IsFactorAt fs i f → IsFactorAt fs j g → f ≡ g
same_factor fs i j f g e at at' = let both : Some f ≡ Some g = sym at ∙ (ap (slice_get fs) e ∙ at') in cc

-- each factor has its net
each_net : (class : Class) (fs : List Factor) (nets : List Net) → AllZip (IsAnswer class) fs nets → (i : ℕ) (f : Factor) → IsFactorAt fs i f → HasNet class f
each_net class [] nets each i f at = let none : None ≡ Some f = at in cc
each_net class (g ∷ fs) [] each i f at = absurd each
each_net class (g ∷ fs) (net ∷ nets) (is, rest) zero f at =
    let same : Some g ≡ Some f = at in
    let e : g ≡ f = cc in
    subst (HasNet class) e (net.places, is.0)
each_net class (g ∷ fs) (net ∷ nets) (is, rest) (suc i) f at = each_net class fs nets rest i f at

all_nets : (class : Class) (fs : List Factor) → ((i : ℕ) (f : Factor) → IsFactorAt fs i f → HasNet class f) → (nets : List Net) × AllZip (IsAnswer class) fs nets
all_nets class [] each = ([], tt)
all_nets class (f ∷ fs) each =
    let (places, out) = each 0 f refl in
    let (nets, rest) = all_nets class fs (λ i g at. each (suc i) g at) in
    (record { labels = labels f.lts; places = places } ∷ nets, ((out, refl), rest))

same_net : OneOut → (class : Class) (f : Factor) (net other : Net) → IsAnswer class f net → IsAnswer class f other → net ≡ other
same_net one class f net other (out, is) (out', is') =
    let answers : of_net net.places ≡ of_net other.places = one f.lts class (of_net net.places) (of_net other.places) out out' in
    let places : net.places ≡ other.places = cc in
    let labels = is ∙ sym is' in
    λ i. record { labels = labels i; places = places i }

same_nets : OneOut → (class : Class) (fs : List Factor) (nets others : List Net) → AllZip (IsAnswer class) fs nets → AllZip (IsAnswer class) fs others → nets ≡ others
same_nets one class [] [] [] each each' = refl
same_nets one class [] [] (other ∷ others) each each' = absurd each'
same_nets one class [] (net ∷ nets) others each each' = absurd each
same_nets one class (f ∷ fs) [] others each each' = absurd each
same_nets one class (f ∷ fs) (net ∷ nets) [] each each' = absurd each'
same_nets one class (f ∷ fs) (net ∷ nets) (other ∷ others) (is, rest) (is', rest') =
    ap₂ (λ x xs. x ∷ xs) (same_net one class f net other is is') (same_nets one class fs nets others rest rest')

one_finding : OneOut → (class : Class) (fs : List Factor) → TellsOne (Finds class fs)
one_finding one class fs (nets_alone nets) (nets_alone others) h k = ap nets_alone (same_nets one class fs nets others h k)
one_finding one class fs (nets_alone nets) (no_net i f a) h (first, out, none) = absurd (net_or_none one class f a (each_net class fs nets h i f first.at) out none)
one_finding one class fs (no_net i f a) (nets_alone nets) (first, out, none) k = absurd (net_or_none one class f a (each_net class fs nets k i f first.at) out none)
one_finding one class fs (no_net i f a) (no_net j g b) (first, out, none) (first', out', none') = by (cases_order i j)
  where
    by : (i ≡ j) ⊎ ((i < j) ⊎ (j < i)) → no_net i f a ≡ no_net j g b
    by (inl e) =
        let same = same_factor fs i j f g e first.at first'.at in
        let answers = one f.lts class a b out (subst (λ x. Out x.lts class b) (sym same) out') in
        λ n. no_net (e n) (same n) (answers n)
    by (inr (inl l)) = absurd (net_or_none one class f a (first'.before i f l first.at) out none)
    by (inr (inr l)) = absurd (net_or_none one class g b (first.before j g l first'.at) out' none')

-- ---- the result for the whole

data Told : Type 0 where
  plainly : Decision → Told
  over : List Factor → List (List ℕ) → Finding → Told

-- it decides alone, or no nets are asked for
abbrev IsPlain : Decision → Option Class → Type 0
IsPlain (of_factoring (factors fs tuples)) (Some class) = ⊥
IsPlain d class = Unit {0}

abbrev Tells : System → Option Class → Told → Type 0
Tells lts class (plainly d) = Decides lts d × IsPlain d class
Tells lts None (over fs tuples found) = ⊥
Tells lts (Some class) (over fs tuples found) = Decides lts (of_factoring (factors fs tuples)) × Finds class fs found

abbrev factors_in : Decision → List Factor → List Factor
factors_in (of_factoring (factors fs tuples)) other = fs
factors_in d other = other

abbrev tuples_in : Decision → List (List ℕ) → List (List ℕ)
tuples_in (of_factoring (factors fs tuples)) other = tuples
tuples_in d other = other

one_told : OneFactoring → (lts : System) (class : Option Class) → IsInRange lts → TellsOne (Tells lts class)
one_told one lts class within (plainly d) (plainly e) (h, is) (k, is') = ap plainly (one_decision one lts d e within h k)
one_told one lts None within (plainly d) (over fs tuples found) h k = absurd k
one_told one lts (Some class) within (plainly d) (over fs tuples found) (h, is) (k, finds) =
    absurd (subst (λ x. IsPlain x (Some class)) (one_decision one lts d (of_factoring (factors fs tuples)) within h k) is)
one_told one lts None within (over fs tuples found) b h k = absurd h
one_told one lts (Some class) within (over fs tuples found) (plainly d) (h, finds) (k, is) =
    absurd (subst (λ x. IsPlain x (Some class)) (one_decision one lts d (of_factoring (factors fs tuples)) within k h) is)
one_told one lts (Some class) within (over fs tuples found) (over fs' tuples' found') (h, finds) (k, finds') =
    let same = one_decision one lts (of_factoring (factors fs tuples)) (of_factoring (factors fs' tuples')) within h k in
    let e : fs ≡ fs' = ap (λ d. factors_in d fs) same in
    let g : tuples ≡ tuples' = ap (λ d. tuples_in d tuples) same in
    let found_same = one_finding one.out class fs found found' finds (subst (λ x. Finds class x found') (sym e) finds') in
    λ i. over (e i) (g i) (found_same i)

-- ---- its end

abbrev decision_end : System → Decision → End
decision_end lts (of_flaw f) = says_no (flaw_line lts f)
decision_end lts (of_factoring (one_block squares)) = says_no (one_block_text lts squares)
decision_end lts (of_factoring (fewer sizes)) = says_no (sizes_line lts sizes)
decision_end lts (of_factoring (factors fs tuples)) = says_yes (factors_text lts fs tuples)

-- the certificate of a factor without a net
abbrev refusal_text : Class → ℕ → Factor → Answer → List ℕ
refusal_text class i f (of_reason reason) = unsolvable_factor_line i ++ cert_text (record { class = class; reason = reason }) f.lts
refusal_text class i f a = []

abbrev finding_end : Class → System → List Factor → Finding → End
finding_end class lts fs (nets_alone nets) = says_yes (net_text (net_beside lts fs nets) lts)
finding_end class lts fs (no_net i f (of_term w)) = shows_term (of_factor_term i w)
finding_end class lts fs (no_net i f a) = says_no (refusal_text class i f a)

abbrev end_of : System → Option Class → Told → End
end_of lts class (plainly d) = decision_end lts d
end_of lts None (over fs tuples found) = says_yes []
end_of lts (Some class) (over fs tuples found) = finding_end class lts fs found

are_answers : (class : Class) (fs : List Factor) (nets : List Net) → AllZip (IsNetOf class) fs nets → AllZip (IsAnswer class) fs nets
are_answers class [] [] each = each
are_answers class [] (net ∷ nets) each = absurd each
are_answers class (f ∷ fs) [] each = absurd each
are_answers class (f ∷ fs) (net ∷ nets) ((out, right), rest) = ((out, right.solves.transitions), are_answers class fs nets rest)

told : (lts : System) (class : Option Class) (e : End) → FactorEnds lts class e → IsEndOf (Tells lts class) (end_of lts class) e
told lts class _ (a_flaw _ f is) = (plainly (of_flaw f), (is, tt), refl)
told lts class _ (no_blocks _ squares is_open is none) = (plainly (of_factoring (one_block squares)), ((is_open, is), tt), refl)
told lts class _ (no_product _ sizes is_open is) = (plainly (of_factoring (fewer sizes)), ((is_open, is), tt), refl)
told lts _ _ (all_factors fs tuples are) = (plainly (of_factoring (factors fs tuples)), ((are.is_open, are.factoring), tt), refl)
told lts _ _ (a_net class text is) =
    (over is.fs is.tuples (nets_alone is.nets), ((is.are.is_open, is.are.factoring), are_answers class is.fs is.nets is.each), ap says_yes is.text)
told lts _ _ (a_certificate class text is) = (
  over is.fs is.tuples (no_net is.i is.f (of_reason is.is.reason)),
  ((is.are.is_open, is.are.factoring), (is.first, is.is.answer, tt)),
  ap says_no (is.text ∙ ap (λ rest. unsolvable_factor_line is.i ++ rest) is.is.text),
)
told lts _ _ (a_term class i w is) = (over is.fs is.tuples (no_net i is.f (of_term w)), ((is.are.is_open, is.are.factoring), (is.first, is.shown.answer, tt)), refl)

due : (lts : System) (class : Option Class) (s : Status) → FactorIsDue lts class s → IsStatusOf (Tells lts class) (end_of lts class) s
due lts class _ (for_a_flaw f is) = (plainly (of_flaw f), (is, tt), refl)
due lts class _ (for_one_block squares is_open is) = (plainly (of_factoring (one_block squares)), ((is_open, is), tt), refl)
due lts class _ (for_sizes sizes is_open is) = (plainly (of_factoring (fewer sizes)), ((is_open, is), tt), refl)
due lts _ _ (for_factors fs (tuples, is_open, is)) = (plainly (of_factoring (factors fs tuples)), ((is_open, is), tt), refl)
due lts _ _ (for_nets class fs (tuples, is_open, is) each) = let (nets, all) = all_nets class fs each in (over fs tuples (nets_alone nets), ((is_open, is), all), refl)
due lts _ _ (for_a_reason class fs i f reason (tuples, is_open, is) first out) = (over fs tuples (no_net i f (of_reason reason)), ((is_open, is), (first, out, tt)), refl)
due lts _ _ (for_a_term class fs i f at (tuples, is_open, is) first out) = (over fs tuples (no_net i f (of_term (shown_of at))), ((is_open, is), (first, out, tt)), refl)

pub factor_due : OneFactoring → (lts : System) (class : Option Class) (e : End) (s : Status) → IsInRange lts → FactorEnds lts class e → FactorIsDue lts class s → HasStatus e s
factor_due one lts class e s within x y = due_end (Tells lts class) (end_of lts class) (one_told one lts class within) e s (told lts class e x) (due lts class s y)

pub factor_once : OneFactoring → (lts : System) (class : Option Class) (e e' : End) → IsInRange lts → FactorEnds lts class e → FactorEnds lts class e' → e ≡ e'
factor_once one lts class e e' within x y = one_end (Tells lts class) (end_of lts class) (one_told one lts class within) e e' (told lts class e x) (told lts class e' y)

-- a term that decides is shown
pub factor_term : OneFactoring → (lts : System) (class : Class) (fs : List Factor) (i : ℕ) (f : Factor) (w : Shown) (e : End) → IsInRange lts
    → FactorEnds lts (Some class) e → HasFactors lts fs → IsBehindNets class fs i f → Out f.lts class (of_term w) → e ≡ shows_term (of_factor_term i w)
factor_term one lts class fs i f w e within x (tuples, is_open, is) first out =
    one_end (Tells lts (Some class)) (end_of lts (Some class)) (one_told one lts (Some class) within) e (shows_term (of_factor_term i w)) (told lts (Some class) e x)
    (over fs tuples (no_net i f (of_term w)), ((is_open, is), (first, out, tt)), refl)
