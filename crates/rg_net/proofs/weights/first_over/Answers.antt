use Rattle.std.proofs.Common.{◌≡◌, Some, length, slice_get, ap, sym, ◌∙◌, arith}
use Rattle.rg_net.specs.ClassBreaks.{shown_markings}
use Rattle.rg_net.proofs.Rows.{row_read, rows_long, all_at}
use Rattle.rg_net.proofs.Overs.{over_start, over_kept, over_found, over_some, over_none}
use Rattle.rg_net.proofs.weights.first_over.Goals as goal
use Rattle.rg_net.proofs.weights.first_over.Goals.{in-Some, in_default}

pub loop-s-init : goal.loop-s-init
loop-s-init c = over_start (shown_markings c.args.markings.now) c.in_ok-most.most c.args.places

pub first_above-requires : goal.first_above-requires
first_above-requires c =
    let ms = shown_markings c.args.markings.now in
    let at = row_read c.args.markings.now c.loop-s.s c.index-markings-s.result c.loop-s-test.true c.index-markings-s.is in
    let long = all_at (λ m. length m ≡ c.args.places) ms c.loop-s.s c.index-markings-s.result.items c.requires.places at in
    let le = c.loop-s.invariant.within in
    let items = ap length c.deref.ensures.value in
    omega arith

pub loop-s-preserved : goal.loop-s-preserved
loop-s-preserved c =
    let ms = shown_markings c.args.markings.now in
    let m = c.deref.result.now in
    let at : slice_get ms c.loop-s.s ≡ Some m =
    row_read c.args.markings.now c.loop-s.s c.index-markings-s.result c.loop-s-test.true c.index-markings-s.is ∙ ap Some (sym c.deref.ensures.value) in
    elim c.match-first_above.branch [
      | in-Some w ↦ rw (w.end-is, w.first-is) (over_found ms c.in_ok-most.most c.args.places c.loop-s.s c.loop-s.end c.loop-s.first m c.loop-s.invariant at
          w.in-Some.i w.in-Some.ensures.some.0 w.in-Some.ensures.some.1 w.in-Some.ensures.least)
      | in_default w ↦ rw (w.end-is, w.first-is) (over_kept ms c.in_ok-most.most c.args.places c.loop-s.s c.loop-s.end c.loop-s.first m c.loop-s.invariant at
          w.in_default.ensures.none)
    ]

pub returns-then-end-places : goal.returns-then-end-places
returns-then-end-places c =
    let past = c.loop-s-test.false in
    let all = rows_long c.args.markings.now in
    rw c.in_ok-most.was (over_some (shown_markings c.args.markings.now) c.in_ok-most.most c.args.places c.loop-s.s c.loop-s.end c.loop-s.first (omega arith) c.loop-s.invariant c.if-end-places.true)

pub returns-else-end-places : goal.returns-else-end-places
returns-else-end-places c =
    let past = c.loop-s-test.false in
    let all = rows_long c.args.markings.now in
    rw c.in_ok-most.was (over_none (shown_markings c.args.markings.now) c.in_ok-most.most c.args.places c.loop-s.s c.loop-s.end c.loop-s.first (omega arith) c.loop-s.invariant c.if-end-places.false)
