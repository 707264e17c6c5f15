-- Something comes of a self test.
use Rattle.std.proofs.Common.{◌⊎◌, inl, inr, ℕ, ◌<◌, ◌≤◌, min, List, length, map, get_or, Contains, sym, subst, arith}
use Rattle.std.specs.Str.{bytes_eq}
use Rattle.std.proofs.lemmas.List.Elements.{Contains-get_or}
use Rattle.std.proofs.lemmas.Option.{slice_get_within}
use Rattle.rg_theory.specs.declared.Arc.{Arc}
use Rattle.rg_theory.specs.System.{System, states, labels, IsArcInRange, IsInRange}
use Rattle.rg_theory.specs.ClassWords.{HasNumbersInRange}
use Rattle.rg_line_formats.specs.First.{number_of}
use Rattle.rg_line_formats.proofs.Numbers.{number_at}
use Rattle.rg_line_formats.proofs.Parts.{some_with}
use Rattle.rg_families.specs.declared.Kind.{Kind}
use Rattle.rg_families.specs.declared.Kind.TheVariants.{Lock}
use Rattle.rg_families.specs.Named.{Drawing, arc_of, IsSystemOf, IsSound}
use Rattle.rg_families.specs.Families.{IsFamilyNumber, IsOfFamily, drawn}
use Rattle.rg_case_folds.specs.Shown.{Shown}
use Rattle.rg_outcome.specs.Outcome.{Out, Answer, Answer.net as of_net, Answer.unsolvable as of_reason, Answer.too_wide as of_term}
use Rattle.rg_commands.specs.Requests.{IsTestNumber}
use Rattle.rg_top.specs.SelfTest.{Trial, most_users, lock_class, grid_trial, doubling_trial, lock_trial, IsConclusive, IsTerm, TrialsPass, SelfTestIsDue, by_answers}
use Rattle.rg_top.specs.declared.status.Status.{Status}
use Rattle.rg_top.specs.declared.status.Status.TheVariants.{Done}
use Rattle.rg_top.proofs.SomeNets.{SomeOut}
use Rattle.rg_theory.proofs.ClassBytes.{no_numbers}
use Rattle.rg_theory.proofs.Lists.{map_from}

-- what is drawn for a family's number is sound; a system in range and a class have an answer
pub record SomeTrials : Type 0 where
  pub sound : (kind : Kind) (n : ℕ) → IsFamilyNumber kind n → IsSound (drawn kind n)
  pub out : SomeOut

-- ---- the system of a drawing is in range

number_within : (names : List (List ℕ)) (name : List ℕ) → Contains names name → number_of bytes_eq names name < length names
number_within names name has = slice_get_within names (number_of bytes_eq names name) name (number_at names name has)

in_range : (d : Drawing) (lts : System) → IsSound d → IsSystemOf d lts → IsInRange lts
in_range d lts sound is = record {
  initial = subst (λ i. i < states lts) (sym is.initial) (state d.initial sound.initial);
  arcs = λ k e lt. each (get_or lts.arcs k e) (Contains-get_or lts.arcs k e lt);
}
  where
    state : (name : List ℕ) → Contains d.states name → number_of bytes_eq d.states name < states lts
    state name has = subst (λ l. number_of bytes_eq d.states name < length l) (sym is.state_names) (number_within d.states name has)

    label : (name : List ℕ) → Contains d.labels name → number_of bytes_eq d.labels name < labels lts
    label name has = subst (λ l. number_of bytes_eq d.labels name < length l) (sym is.label_names) (number_within d.labels name has)

    each : (a : Arc) → Contains lts.arcs a → IsArcInRange lts a
    each a has =
        let (t, there, e) = map_from (arc_of d.states d.labels) d.arcs a ((is.members a).0 has) in
        let known = sound.known t there in
        subst (IsArcInRange lts) e (state t.from known.from, label t.label known.label, state t.to known.to)

-- ---- a trial

trial_told : SomeTrials → (t : Trial) → IsFamilyNumber t.kind t.number → HasNumbersInRange t.class → IsConclusive t ⊎ ((w : Shown) × IsTerm t w)
trial_told some t number numbers =
    let d = drawn t.kind t.number in
    let (lts, is) = some_with d.states d.labels (map (arc_of d.states d.labels) d.arcs) (number_of bytes_eq d.states d.initial) in
    by lts is (some.out lts t.class (in_range d lts (some.sound t.kind t.number number) is) numbers)
  where
    by : (lts : System) → IsOfFamily t.kind t.number lts → (a : Answer) × Out lts t.class a → IsConclusive t ⊎ ((w : Shown) × IsTerm t w)
    by lts is (of_net places, out) = inl (inl (places, record { lts = lts; of_family = is; answer = out }))
    by lts is (of_reason reason, out) = inl (inr (reason, record { lts = lts; of_family = is; answer = out }))
    by lts is (of_term w, out) = inr (w, record { lts = lts; of_family = is; answer = out })

-- ---- the three trials

lock_numbers : HasNumbersInRange lock_class
lock_numbers = record { bound = (omega arith, omega arith); marking = tt }

few_users : (n : ℕ) → 1 ≤ n → IsFamilyNumber Lock (min n most_users)
few_users n some = (omega arith, omega arith)

pub some_self_test : SomeTrials → (n : ℕ) → IsTestNumber n → ((s : Status) × SelfTestIsDue n s) ⊎ ((w : Shown) × TrialsPass n w)
some_self_test some n (least, most) =
    by (trial_told some (grid_trial n) (least, omega arith) no_numbers) (trial_told some (doubling_trial n) (least, omega arith) no_numbers)
    (trial_told some (lock_trial n) (few_users n least) lock_numbers)
  where
    by : IsConclusive (grid_trial n) ⊎ ((w : Shown) × IsTerm (grid_trial n) w) → IsConclusive (doubling_trial n) ⊎ ((w : Shown) × IsTerm (doubling_trial n) w)
        → IsConclusive (lock_trial n) ⊎ ((w : Shown) × IsTerm (lock_trial n) w) → ((s : Status) × SelfTestIsDue n s) ⊎ ((w : Shown) × TrialsPass n w)
    by (inr (w, is)) second third = inr (w, inl is)
    by (inl a) (inr (w, is)) third = inr (w, inr (inl (a, is)))
    by (inl a) (inl b) (inr (w, is)) = inr (w, inr (inr (a, b, is)))
    by (inl a) (inl b) (inl c) = inl (Done, by_answers (a, b, c))
