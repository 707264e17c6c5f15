use Rattle.std.proofs.lemmas.List.Elements.{All-contains}
use Rattle.rg_text.specs.Byte.{IsName}
use Rattle.rg_netfile.proofs.LabelLemmas.{no_name}
use Rattle.rg_netfile.proofs.labels.number_of.Goals as goal

pub returns-in-Err-clause-none : goal.returns-in-Err-clause-none
returns-in-Err-clause-none c = λ has. no_name c.args.label.now c.in-Err.field-0 _ c.in-Err.ensures.cases
    (All-contains IsName c.args.lts.now.label_names c.args.label.now c.is_well_formed.ensures.label_names.each has)
