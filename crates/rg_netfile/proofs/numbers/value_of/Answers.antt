use Rattle.rg_grammar.proofs.Names.{name_token}
use Rattle.rg_netfile.proofs.DigitLemmas.{refused_is_over}
use Rattle.rg_netfile.proofs.numbers.value_of.Goals as goal

pub returns-in_default-2 : goal.returns-in_default-2
returns-in_default-2 c =
    let text = c.name_of.result.now in
    refused_is_over _ c.parse.result _ c.in_default.is
    (rw c.name_of.ensures.value at c.parse.ensures.value.0) c.requires.1 (name_token c.args.bytes.now c.args.number c.requires.0).some
