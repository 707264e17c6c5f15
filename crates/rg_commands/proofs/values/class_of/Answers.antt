use Rattle.std.proofs.Common.{Ok, Err, ap, subst}
use Rattle.rg_theory.specs.ClassWords.{NamesClass, FirstRefusedWord}
use Rattle.rg_theory.proofs.ClassBytes.{named_bound}
use Rattle.rg_commands.specs.Values.{class_asked}
use Rattle.rg_commands.proofs.Telling.{one_told}
use Rattle.rg_commands.proofs.values.class_of.Goals as goal

pub returns-in-Ok-clause-asked : goal.returns-in-Ok-clause-asked
returns-in-Ok-clause-asked c = λ told tells. ap class_asked (one_told _ (Ok c.in-Ok.class) told (subst (λ t. NamesClass t c.in-Ok.class) c.text_of.ensures c.in-Ok.ensures.ok) tells)

pub returns-in-Ok-clause-bounds : goal.returns-in-Ok-clause-bounds
returns-in-Ok-clause-bounds c = named_bound c.text_of.result.now c.in-Ok.class c.in-Ok.ensures.ok

pub returns-in-Err-clause-asked : goal.returns-in-Err-clause-asked
returns-in-Err-clause-asked c = λ told tells. ap class_asked (one_told _ (Err c.in-Err.fault) told (subst (λ t. FirstRefusedWord t c.in-Err.fault) c.text_of.ensures c.in-Err.ensures.fault) tells)
