use Rattle.std.proofs.Common.{◌-◌, true, refl, arith}
use Rattle.rg_lexer.specs.declared.token.Token.{Token}
use Rattle.rg_grammar.proofs.Last.{last_set}
use Rattle.rg_apt.specs.Contents.{StateEntry}
use Rattle.rg_apt.specs.Reading.{marked_entry}
use Rattle.rg_apt.specs.View.{state_in}
use Rattle.rg_apt.proofs.found.mark_last.Goals as goal

pub returns-then-n-gt0-clause-found : goal.returns-then-n-gt0-clause-found
returns-then-n-gt0-clause-found c = λ bytes.
    let old = c.index_mut.result.now in
    let new : StateEntry Token = record { name = old.name; initial = true } in
    last_set (state_in bytes) marked_entry c.args.states.now.items (c.len-n.result - 1) old new (omega (arith, c.args.states.now.ok.0)) c.index_mut.ensures.value refl
