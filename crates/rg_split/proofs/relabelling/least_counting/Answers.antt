use Rattle.std.proofs.Common.{◌+◌, get_or, sym, subst, arith, pos}
use Rattle.std.proofs.lemmas.Option.{slice_get-get_or}
use Rattle.rg_integers.specs.Sum.{number_at}
use Rattle.rg_theory.specs.declared.Arc.{Arc}
use Rattle.rg_integers.proofs.Casts.{zero_of_bits}
use Rattle.rg_split.specs.Leaves.{IsLeastBelow}
use Rattle.rg_split.proofs.ArcNumbers.{not_zero}
use Rattle.rg_split.proofs.LeafParts.{least_more, least_same, below_all}
use Rattle.rg_split.proofs.relabelling.least_counting.Goals.{then-sums-i-ne0, else-sums-i-ne0}
use Rattle.rg_split.proofs.relabelling.least_counting.Goals as goal

abbrev nowhere : Arc
nowhere = record { from = 0; label = 0; to = 0 }

pub loop-i-preserved : goal.loop-i-preserved
loop-i-preserved c =
    let arcs = c.args.arcs.now in
    let sums = c.args.sums.now in
    let i = c.loop-i.i in
    let lt = c.loop-i-test.true in
    let at = slice_get-get_or arcs i nowhere lt in
    let long = c.requires.long in
    let in_range = c.requires.in_range i (pos 0) (omega arith) in
    elim c.if-sums-i-ne0.branch [
      | then-sums-i-ne0 w ↦
          subst (IsLeastBelow arcs sums (i + 1)) (sym w.least-is)
          (least_more arcs sums i w.lesser.result c.loop-i.least (get_or arcs i nowhere) at
          (not_zero (number_at sums i) w.if-sums-i-ne0.true) w.lesser.ensures.some w.lesser.ensures.none c.loop-i.invariant)
      | else-sums-i-ne0 w ↦
          subst (IsLeastBelow arcs sums (i + 1)) (sym w.least-is)
          (least_same arcs sums i c.loop-i.least (get_or arcs i nowhere) at (zero_of_bits (number_at sums i) in_range w.if-sums-i-ne0.false) c.loop-i.invariant)
    ]

pub returns : goal.returns
returns c =
    let past = c.loop-i-test.false in
    below_all c.args.arcs.now c.args.sums.now c.loop-i.i c.loop-i.least (omega arith) c.loop-i.auto.i-end c.loop-i.invariant
