use Rattle.std.proofs.Common.{ap, refl, subst, ◌<◌, length, inl, arith}
use Rattle.rg_cycles.proofs.Firsts.{has_key, kept-start, kept-end, kept-drop, asked-new, asked-old}
use Rattle.rg_cycles.proofs.distinct.first_indices.Goals as goal
use Rattle.rg_cycles.proofs.distinct.first_indices.Goals.{then-is_new+in_ok-push, else-is_new}

pub loop-i-init : goal.loop-i-init
loop-i-init g c = rw c.new-kept.ensures.items
    (kept-start g.R.ChordRows.row_of (g.R.ChordRows.rows c.args.rows.now) _ (λ q. ap (λ k. has_key g.R.Key.PartialEq.eq k q) c.new-seen.ensures.empty))

pub loop-i-preserved-then-is_zero : goal.loop-i-preserved-then-is_zero
loop-i-preserved-then-is_zero g c =
    let rows = g.R.ChordRows.rows c.args.rows.now in
    let lt : c.loop-i.i < length rows = subst (λ n. c.loop-i.i < n) c.count-i-end.ensures c.loop-i-test.true in
    kept-drop g.R.ChordRows.row_of rows _ _ c.loop-i.i c.loop-i.kept.items c.loop-i.invariant lt (inl (c.if-is_zero.ensures.0 refl)) (λ q. refl)

pub loop-i-preserved : goal.loop-i-preserved
loop-i-preserved g c =
    let rows = g.R.ChordRows.rows c.args.rows.now in
    let lt : c.loop-i.i < length rows = subst (λ n. c.loop-i.i < n) c.count-i-end.ensures c.loop-i-test.true in
    elim c.if-is_new.branch [
      | then-is_new+in_ok-push w ↦ rw (w.kept-is, w.in_ok-push.ensures.items)
          (asked-new g.R.ChordRows.row_of g.R.Key.PartialEq.eq rows c.loop-i.i c.loop-i.kept.items _ _ c.key.result c.loop-i.invariant lt c.key.ensures
          c.in_ok-is_new.is_new c.in_ok-is_new.ensures.added g.met.R.ChordRows.compares_rows c.is_zero.result c.if-is_zero.false c.is_zero.ensures.1
          w.if-is_new.true c.in_ok-is_new.ensures.updates.0)
      | else-is_new w ↦ rw w.kept-is (asked-old g.R.ChordRows.row_of g.R.Key.PartialEq.eq rows c.loop-i.i c.loop-i.kept.items _ _ c.key.result
          c.loop-i.invariant lt c.key.ensures c.in_ok-is_new.is_new c.in_ok-is_new.ensures.added w.if-is_new.false c.in_ok-is_new.ensures.unchanged)
    ]

pub returns : goal.returns
returns g c = kept-end g.R.ChordRows.row_of (g.R.ChordRows.rows c.args.rows.now) _ c.loop-i.i c.loop-i.kept.items c.loop-i.invariant
    (let past = c.loop-i-test.false in let count = c.count-i-end.ensures in omega arith)
