use Rattle.std.proofs.Common.{◌++◌, [], subst}
use Rattle.std.proofs.lemmas.Result.{IfErr-weaker}
use Rattle.rg_words.specs.Contents.{uses_from}
use Rattle.rg_words.specs.Reading.{Stands}
use Rattle.rg_words.proofs.reading.take_line.Goals as goal

pub returns-clause-fault : goal.returns-clause-fault
returns-clause-fault c =
    let tree = c.args.tree.now in
    IfErr-weaker c.take_word.result _ _
    (λ f wrong real all more start. wrong real all more
    (subst (λ w. Stands all (uses_from c.args.number [] w ++ more) [] tree.builder.label_names tree.steps.keys 0) (c.is_remark.ensures.word c.if-is_remark.false) start)) c.take_word.ensures.fault
