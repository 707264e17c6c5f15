use Rattle.std.proofs.Common.{◌≡◌, ◌++◌, ◌∷◌, [], ◌<◌, ◌+◌, Contains, refl, ℕ, List, length, get_or, take, All, None, Some, sym, ap, subst, ◌∙◌, arith}
use Rattle.std.proofs.lemmas.List.{get_or_default, get_or-map, length-map}
use Rattle.std.proofs.lemmas.List.Elements.{All-push}
use Rattle.rg_lexer.specs.declared.token.Token.{Token}
use Rattle.rg_lexer.specs.declared.token.Kind.TheVariants.{Name}
use Rattle.rg_theory.specs.System.{labels}
use Rattle.rg_text.proofs.Left.{before_is}
use Rattle.rg_net_grammar.specs.declared.found.Transition.{Transition}
use Rattle.rg_net_grammar.specs.View.{transition_in, transitions_in}
use Rattle.rg_netfile.specs.Built.{AreNumbers}
use Rattle.rg_netfile.proofs.Counts.{numbers_more, not_each_once}
use Rattle.rg_netfile.proofs.labels.numbers.Goals as goal

-- what a read past the end would give
abbrev past_end : Transition Token
past_end = record { name = record { kind = Name; from = 0; to = 0 }; label = None }

same_read : (xs : List (Transition Token)) (i : ℕ) → i < length xs → get_or xs i past_end ≡ get_or xs i (get_or xs i past_end)
same_read xs i within = get_or_default xs i past_end (get_or xs i past_end) within

pub loop-transition-preserved : goal.loop-transition-preserved
loop-transition-preserved c =
    let bytes = c.args.bytes.now in
    let names = c.args.lts.now.label_names in
    let xs = c.args.transitions.now in
    let i = c.loop-transition.transition-index in
    let within : i < length xs = omega arith in
    let x = get_or xs i past_end in
    let items = c.in_ok-push-in-Some.ensures.items in
    record {
      numbers = subst (AreNumbers names (transitions_in bytes (take (i + 1) xs))) (sym items)
          (subst (λ ts. AreNumbers names ts (c.loop-transition.found.items ++ c.in-Some.t ∷ [])) (sym (before_is (transition_in bytes) xs i x within (same_read xs i within)))
          (numbers_more names (transitions_in bytes (take i xs)) c.loop-transition.found.items (transition_in bytes x) c.in-Some.t
          c.loop-transition.invariant.numbers (c.in-Some.ensures.found ∙ ap Some c.label_of.ensures)));
      within = subst (All (λ t. t < labels c.args.lts.now)) (sym items)
          (All-push (λ t. t < labels c.args.lts.now) c.loop-transition.found.items c.in-Some.t c.loop-transition.invariant.within c.in-Some.ensures.within);
    }

pub returns-in-None-clause-fault : goal.returns-in-None-clause-fault
returns-in-None-clause-fault c = λ memory.
    let bytes = c.args.bytes.now in
    let xs = c.args.transitions.now in
    let i = c.loop-transition.transition-index in
    let within : i < length xs = omega arith in
    let x = get_or xs i past_end in (
      refl,
      not_each_once c.args.lts.now.label_names (transitions_in bytes xs) i (transition_in bytes x)
          (subst (λ n. i < n) (sym (length-map xs (transition_in bytes))) within)
          (get_or-map (transition_in bytes) xs i x (transition_in bytes x) within ∙ ap (transition_in bytes) (sym (same_read xs i within)))
          (λ has. c.in-None.ensures.none (subst (Contains c.args.lts.now.label_names) (sym c.label_of.ensures) has)),
    )
