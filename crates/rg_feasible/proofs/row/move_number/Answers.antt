use Rattle.std.proofs.Common.{rules}
use Rattle.std.specs.Prelude.{FitsSigned}
use Rattle.std.specs.Int.{w128}
use Rattle.std.proofs.lemmas.Int.{to_z-of_z}
use Rattle.rg_integers.specs.Sum.{number_at}
use Rattle.rg_feasible.proofs.Moving.{copied_down, copied_up}
use Rattle.rg_feasible.proofs.row.move_number.Goals as goal
use Rattle.rg_feasible.proofs.row.move_number.Goals.{then-p-q, else-p-q}

pub returns : goal.returns
returns c =
    let f : FitsSigned w128 (number_at c.args.row.now c.args.p) = search rules in
    let x = to_z-of_z w128 (number_at c.args.row.now c.args.p) f in
    rw x (elim c.if-p-q.branch [
      | then-p-q w ↦ rw w.row-is (copied_down c.args.row.now w.copy_within.new.self c.args.p c.args.q c.requires.from c.requires.to w.if-p-q.true
          w.copy_within.ensures.len w.copy_within.ensures.by_index)
      | else-p-q w ↦ rw w.row-is (copied_up c.args.row.now w.copy_within-else-p-q.new.self c.args.p c.args.q c.requires.from c.requires.to
          w.if-p-q.false w.copy_within-else-p-q.ensures.len w.copy_within-else-p-q.ensures.by_index)
    ])
