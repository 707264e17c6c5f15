use Rattle.rg_case_parts.proofs.TreeRows.{ends_in_range, rows_few, rows_in_range}
use Rattle.rg_case_parts.proofs.tree_chords.TreeChords.new.Goals as goal

pub invariant_of-result : goal.invariant_of-result
invariant_of-result c = record { ends = ends_in_range c.args.lts.now c.args.tree.now c.is_well_formed.ensures.in_range c.requires }

pub returns-clause-few : goal.returns-clause-few
returns-clause-few c = rows_few c.args.lts.now c.args.tree.now 262144 c.is_well_formed.ensures.few_arcs c.requires

pub returns-clause-in_range : goal.returns-clause-in_range
returns-clause-in_range c = rows_in_range c.args.lts.now c.args.tree.now c.is_well_formed.ensures.in_range c.is_well_formed.ensures.few_states c.requires
