use Rattle.std.proofs.Common.{length, subst, sym, ◌<◌, false}
use Rattle.std.specs.Prelude.{slice_index_or}
use Rattle.rg_rows.proofs.Naming.{name_taken, name_left}
use Rattle.rg_rows.proofs.names.push_downs.Goals as goal
use Rattle.rg_rows.proofs.names.push_downs.Goals.{then-used-t+in_ok-push, else-used-t}
use Rattle.rg_cert_meaning.specs.declared.RowName.TheVariants as row_name

pub loop-t-preserved : goal.loop-t-preserved
loop-t-preserved c =
    let lt : c.loop-t.t < length c.args.used.now = subst (λ n. c.loop-t.t < n) (sym c.requires) c.loop-t-test.true in
    elim c.if-used-t.branch [
      | then-used-t+in_ok-push w ↦ rw (w.names-is, w.in_ok-push.ensures.items)
          (name_taken row_name.Down (λ t. slice_index_or c.args.used.now t false) c.loop-t.t (length c.args.used.now)
          c.loop-t.names.items _ c.loop-t.invariant lt w.if-used-t.true)
      | else-used-t w ↦ rw w.names-is (name_left row_name.Down (λ t. slice_index_or c.args.used.now t false) c.loop-t.t
          (length c.args.used.now) c.loop-t.names.items _ c.loop-t.invariant lt w.if-used-t.false)
    ]
