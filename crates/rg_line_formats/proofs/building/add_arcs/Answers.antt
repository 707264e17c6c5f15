use Rattle.std.proofs.Common.{take, get_or, rules}
use Rattle.std.specs.Result.{IsErrOf}
use Rattle.rg_theory.specs.declared.Arc.{Arc}
use Rattle.rg_lts.specs.declared.fault.BuildFault.TheVariants as fault
use Rattle.rg_line_formats.proofs.Built.{still_within, has_arc_room, arc_next}
use Rattle.rg_line_formats.proofs.building.add_arcs.Goals as goal

abbrev nowhere : Arc
nowhere = record { from = 0; label = 0; to = 0 }

pub arc_between-requires : goal.arc_between-requires
arc_between-requires c =
    let k = c.loop-arc.arc-index in
    still_within c.args.builder.now c.loop-arc.builder (take k c.args.arcs.now) (get_or c.args.arcs.now k nowhere) c.loop-arc.invariant (c.requires.within k nowhere c.loop-arc-test.true)

pub unreachable-requires : goal.unreachable-requires
unreachable-requires c =
    let room : IsErrOf c.arc_between.result fault.TooManyArcs → ⊥ = λ e.
    has_arc_room c.args.builder.now c.loop-arc.builder c.args.arcs.now c.loop-arc.arc-index c.loop-arc-test.true c.requires.few c.loop-arc.invariant c.arc_between.ensures.well_formed.arc_order
    (c.arc_between.ensures.too_many.0 e).1 in
    search rules

pub loop-arc-preserved : goal.loop-arc-preserved
loop-arc-preserved c =
    arc_next c.args.builder.now c.loop-arc.builder c.arc_between.new.self c.args.arcs.now c.loop-arc.arc-index nowhere c.loop-arc-test.true c.loop-arc.invariant
    c.in-Ok.ensures.ok
