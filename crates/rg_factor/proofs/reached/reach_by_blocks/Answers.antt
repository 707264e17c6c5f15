use Rattle.std.proofs.Common.{◌==◌, filter, slice_index, map, ap, sym, subst, ◌∙◌}
use Rattle.std.specs.List.{AllZip, range_with_len}
use Rattle.rg_product.specs.Factoring.{AreReachedBy}
use Rattle.rg_factor.specs.Blocks.{block_at}
use Rattle.rg_factor.proofs.Blocking.{own_passed}
use Rattle.rg_factor.proofs.Reaching.{reached_pushed}
use Rattle.rg_factor.proofs.reached.reach_by_blocks.Goals.{then-leasts-t+in_ok-reach_by+in_ok-push, else-leasts-t}
use Rattle.rg_factor.proofs.reached.reach_by_blocks.Goals as goal

pub loop-t-preserved : goal.loop-t-preserved
loop-t-preserved c = elim c.if-leasts-t.branch [
  | then-leasts-t+in_ok-reach_by+in_ok-push w ↦
      reached_pushed c.args.lts.now c.args.leasts.now c.loop-t.t c.loop-t.all.items c.if-leasts-t.all.items w.in_ok-reach_by.field-0 w.if-leasts-t.true w.in_ok-reach_by.ensures
      (ap (λ v. v.items) w.all-is ∙ w.in_ok-push.ensures.items) c.loop-t.invariant
  | else-leasts-t w ↦
      subst (λ v. AllZip (AreReachedBy c.args.lts.now) (map (block_at c.args.leasts.now) v) (map (λ r. r.items) c.if-leasts-t.all.items))
      (sym (own_passed c.args.leasts.now c.loop-t.t w.if-leasts-t.false))
      (subst (λ v. AllZip (AreReachedBy c.args.lts.now)
      (map (block_at c.args.leasts.now) (filter (λ t. slice_index c.args.leasts.now t == t) (range_with_len 0 c.loop-t.t)))
      (map (λ r. r.items) v)) (sym (ap (λ v. v.items) w.all-is)) c.loop-t.invariant)
]
