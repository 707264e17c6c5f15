use Rattle.rg_theory.specs.declared.Arc.{Arc}
use Rattle.rg_case_parts.proofs.TreeRows.{row_is}
use Rattle.rg_case_parts.proofs.tree_chords.TreeChordsChordRows.key.Goals as goal

abbrev no_arc : Arc
no_arc = record { from = 0; label = 0; to = 0 }

pub returns : goal.returns
returns c = rw (c.new.ensures.source, c.new.ensures.target, c.new.ensures.label)
    (row_is c.args.self.now.tree.now c.args.index no_arc c.chords.result.now c.parikh.result.now c.parikh-2.result.now c.requires c.chords.ensures
    c.parikh.ensures.one_each c.parikh.ensures.counts c.parikh-2.ensures.counts)
