use Rattle.std.proofs.Common.{None, ◌≡◌, Contains, ◌<◌, ℕ, List, [], length, get_or, take, map, Bool, true, false, not, ◌↔◌, ◌+◌, ◌++◌, ◌∷◌, refl, sym, ap, subst, ◌∙◌, arith, rules}
use Rattle.std.specs.BTreeSet.{contains_text}
use Rattle.std.proofs.lemmas.List.{get_or_default}
use Rattle.rg_lexer.specs.declared.token.Token.{Token}
use Rattle.rg_lexer.specs.declared.token.Kind.TheVariants.{Name}
use Rattle.rg_net_grammar.specs.declared.found.Transition.{Transition}
use Rattle.rg_text.proofs.Left.{left_start, left_more, left_first, left_end, before_is, all_before}
use Rattle.rg_net_grammar.specs.View.{transition_in, transitions_in}
use Rattle.rg_netfile.specs.Contents.{transition_fault}
use Rattle.rg_netfile.proofs.Apart.{apart_from, apart_none, apart_more, seen_more}
use Rattle.rg_netfile.proofs.EntryFaults.{name_of, transition_twice, transition_fine, transition_names_more}
use Rattle.rg_netfile.proofs.building.check_transition_names.Goals as goal

-- what a read past the end would give
abbrev pub past_end : Transition Token
past_end = record { name = record { kind = Name; from = 0; to = 0 }; label = None }

same_read : (xs : List (Transition Token)) (i : ℕ) → i < length xs → get_or xs i past_end ≡ get_or xs i (get_or xs i past_end)
same_read xs i within = get_or_default xs i past_end (get_or xs i past_end) within

seen_is : (b : Bool) → not b ≡ false → b ≡ true
seen_is true e = refl
seen_is false e = absurd cc

unseen_is : (b : Bool) → not b ≡ true → b ≡ true → ⊥
unseen_is true e same = absurd cc
unseen_is false e same = absurd cc

pub loop-transition-init : goal.loop-transition-init
loop-transition-init c = record {
  seen = λ name. (λ found. absurd (let none = c.new-seen.ensures.empty in search rules), λ (k, lt, e). absurd (omega arith));
  apart = apart_none;
  left = left_start (transition_in c.args.bytes.now) transition_fault c.args.transitions.now;
}

pub returns-then-not-new-clause-fault : goal.returns-then-not-new-clause-fault
returns-then-not-new-clause-fault c = λ memory.
    let bytes = c.args.bytes.now in
    let xs = c.args.transitions.now in
    let i = c.loop-transition.transition-index in
    let within : i < length xs = omega arith in
    let x = get_or xs i past_end in
    let before = transitions_in bytes (take i xs) in
    let found = seen_is (contains_text c.loop-transition.seen c.name_of.result.now) (sym c.in_ok-new.ensures.new ∙ c.if-not-new.true) in
    let there = subst (Contains (map name_of before)) c.name_of.ensures.value ((c.loop-transition.invariant.seen c.name_of.result.now).0 found) in
    left_first (transition_in bytes) transition_fault xs i x _ within (same_read xs i within)
    (transition_twice before (transition_in bytes x) (map name_of before) refl there) c.loop-transition.invariant.left

pub loop-transition-preserved : goal.loop-transition-preserved
loop-transition-preserved c =
    let bytes = c.args.bytes.now in
    let xs = c.args.transitions.now in
    let i = c.loop-transition.transition-index in
    let within : i < length xs = omega arith in
    let x = get_or xs i past_end in
    let before = transitions_in bytes (take i xs) in
    let names = map name_of before in
    let name = c.name_of.result.now in
    let grown : map name_of (transitions_in bytes (take (i + 1) xs)) ≡ names ++ name ∷ [] =
    ap (map name_of) (before_is (transition_in bytes) xs i x within (same_read xs i within))
    ∙ sym (transition_names_more before (transition_in bytes x) names name refl c.name_of.ensures.value) in
    let finds = c.loop-transition.invariant.seen in
    let absent : Contains names name → ⊥ =
    λ has. unseen_is (contains_text c.loop-transition.seen name) (sym c.in_ok-new.ensures.new ∙ c.if-not-new.false) ((finds name).1 has) in
    record {
      seen = subst (λ l. (n : List ℕ) → (contains_text c.see.new.seen n ≡ true) ↔ Contains l n) (sym grown)
          (seen_more names name (contains_text c.loop-transition.seen) (contains_text c.see.new.seen) finds c.in_ok-new.ensures.seen);
      apart = apart_from grown (apart_more names name c.loop-transition.invariant.apart absent);
      left = left_more (transition_in bytes) transition_fault xs i x within (same_read xs i within)
          (transition_fine before (transition_in bytes x) names refl (λ has. absent (subst (Contains names) (sym c.name_of.ensures.value) has))) c.loop-transition.invariant.left;
    }

pub returns-clause-apart : goal.returns-clause-apart
returns-clause-apart c =
    apart_from (ap (map name_of) (sym (all_before (transition_in c.args.bytes.now) c.args.transitions.now c.loop-transition.transition-index (omega arith)))) c.loop-transition.invariant.apart

pub returns-clause-none : goal.returns-clause-none
returns-clause-none c =
    left_end (transition_in c.args.bytes.now) transition_fault c.args.transitions.now c.loop-transition.transition-index (omega arith) c.loop-transition.invariant.left
