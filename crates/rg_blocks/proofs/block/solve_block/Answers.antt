use Rattle.rg_blocks.specs.Taking.{IsSolvedBy}
use Rattle.rg_blocks.proofs.SolvedLemmas.{all_in_order}
use Rattle.rg_blocks.proofs.block.solve_block.Goals as goal

pub returns-clause-solved : goal.returns-clause-solved
returns-clause-solved g c =
    (all_in_order (λ v. v.items) c.block_of_parts.result c.args.problems.now
    (IsSolvedBy (g.S.Solving.comes c.args.search.now.solving.now) (g.S.Solving.makes c.args.search.now.solving.now)) c.block_of_parts.ensures).0

pub returns-clause-same : goal.returns-clause-same
returns-clause-same g c =
    (all_in_order (λ v. v.items) c.block_of_parts.result c.args.problems.now
    (IsSolvedBy (g.S.Solving.comes c.args.search.now.solving.now) (g.S.Solving.makes c.args.search.now.solving.now)) c.block_of_parts.ensures).1
