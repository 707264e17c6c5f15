-- A name is a text.
use Rattle.rg_text.proofs.Names.{read_as_name}
use Rattle.rg_cert.proofs.names.text_of.Goals as goal

pub unwrap-requires : goal.unwrap-requires
unwrap-requires c = read_as_name c.args.name.now c.from_utf8.result _ _ c.from_utf8.ensures.cases c.requires
