use Rattle.std.proofs.Common.{None, ◌≡◌, ◌<◌, ℕ, List, length, get_or, take, map, sym, ap, ◌∙◌, arith}
use Rattle.std.proofs.lemmas.List.{get_or_default}
use Rattle.rg_lexer.specs.declared.token.Token.{Token}
use Rattle.rg_lexer.specs.declared.token.Kind.TheVariants.{Name}
use Rattle.rg_net_grammar.specs.declared.found.Transition.{Transition}
use Rattle.rg_text.proofs.Left.{before_is, all_before}
use Rattle.rg_net_grammar.specs.View.{transition_in, transitions_in}
use Rattle.rg_netfile.proofs.EntryFaults.{name_of, transition_names_more}
use Rattle.rg_netfile.proofs.building.transition_table.Goals as goal

-- what a read past the end would give
abbrev pub past_end : Transition Token
past_end = record { name = record { kind = Name; from = 0; to = 0 }; label = None }

same_read : (xs : List (Transition Token)) (i : ℕ) → i < length xs → get_or xs i past_end ≡ get_or xs i (get_or xs i past_end)
same_read xs i within = get_or_default xs i past_end (get_or xs i past_end) within

pub loop-transition-init : goal.loop-transition-init
loop-transition-init c = c.new-table.ensures

pub loop-transition-preserved : goal.loop-transition-preserved
loop-transition-preserved c =
    let bytes = c.args.bytes.now in
    let xs = c.args.transitions.now in
    let i = c.loop-transition.transition-index in
    let within : i < length xs = omega arith in
    let x = get_or xs i past_end in
    let before = transitions_in bytes (take i xs) in
    let more = before_is (transition_in bytes) xs i x within (same_read xs i within) in
    c.in_ok-add.ensures.ok ∙ transition_names_more before (transition_in bytes x) _ _ c.loop-transition.invariant c.name_of.ensures.value ∙ ap (map name_of) (sym more)

pub returns-clause-names : goal.returns-clause-names
returns-clause-names c =
    c.loop-transition.invariant ∙ ap (map name_of) (all_before (transition_in c.args.bytes.now) c.args.transitions.now c.loop-transition.transition-index (omega arith))
