use Rattle.std.proofs.Common.{subst, sym}
use Rattle.rg_text.specs.Byte.{IsName}
use Rattle.rg_grammar.proofs.Names.{name_token}
use Rattle.rg_text.proofs.Names.{read_as_name}
use Rattle.rg_grammar.proofs.texts.name_of.Goals as goal

pub unwrap-requires : goal.unwrap-requires
unwrap-requires c =
    read_as_name c.text_of.result.now c.from_utf8.result _ _ c.from_utf8.ensures.cases
    (subst IsName (sym c.text_of.ensures) (name_token c.args.bytes.now c.args.token c.requires))
