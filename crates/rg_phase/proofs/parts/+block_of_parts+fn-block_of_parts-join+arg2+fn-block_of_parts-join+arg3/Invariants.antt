use Rattle.rg_phase.proofs.parts.+block_of_parts+fn-block_of_parts-join+arg2+fn-block_of_parts-join+arg3.Given as goal

abbrev pub decreases-block_of_parts : goal.decreases-block_of_parts
decreases-block_of_parts g l = l.jobs

abbrev pub decreases-join+arg2 : goal.decreases-join+arg2
decreases-join+arg2 g l = l.few

abbrev pub decreases-join+arg3 : goal.decreases-join+arg3
decreases-join+arg3 g l = l.rest
