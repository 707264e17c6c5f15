use Rattle.std.proofs.Common.{ap, length, subst, sym, ◌<◌, false, not, ◌==◌, ◌&&◌}
use Rattle.std.specs.Prelude.{slice_index_or}
use Rattle.rg_rows.proofs.Naming.{name_taken, name_left, makes_test, consumer_test}
use Rattle.rg_rows.proofs.names.push_makes.Goals as goal
use Rattle.rg_rows.proofs.names.push_makes.Goals.{then-used-u+then-u-consumer+in_ok-push, else-used-u, else-used-u-via-then-used-u+else-u-consumer, else-used-u-via-else-used-u}
use Rattle.rg_cert_meaning.specs.declared.RowName.TheVariants as row_name

pub loop-u-preserved : goal.loop-u-preserved
loop-u-preserved c =
    let lt : c.loop-u.u < length c.args.used.now = subst (λ n. c.loop-u.u < n) (sym c.requires) c.loop-u-test.true in
    elim c.if-used-u.branch [
      | then-used-u+then-u-consumer+in_ok-push w ↦ rw (w.names-is, w.in_ok-push.ensures.items)
          (name_taken row_name.Makes (λ u. slice_index_or c.args.used.now u false && not (u == c.args.consumer)) c.loop-u.u (length c.args.used.now)
          c.loop-u.names.items _ c.loop-u.invariant lt (makes_test _ c.loop-u.u c.args.consumer w.if-used-u.true w.if-u-consumer.true))
      | else-used-u w ↦ rw w.names-is (name_left row_name.Makes
          (λ u. slice_index_or c.args.used.now u false && not (u == c.args.consumer)) c.loop-u.u
          (length c.args.used.now) c.loop-u.names.items _ c.loop-u.invariant lt (elim w.else-used-u.branch [
            | else-used-u-via-then-used-u+else-u-consumer w' ↦ consumer_test _ c.loop-u.u c.args.consumer w'.if-u-consumer.false
            | else-used-u-via-else-used-u w' ↦ ap (λ b. b && not (c.loop-u.u == c.args.consumer)) w'.if-used-u.false
          ]))
    ]
