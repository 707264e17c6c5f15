use Rattle.std.proofs.Common.{rules, None, subst, sym, arith, below_more}
use Rattle.std.proofs.lemmas.List.{get_or_append_left, get_or_push}
use Rattle.rg_cycles.specs.Reading.{IsRead}
use Rattle.rg_cycles.proofs.reading.relations.Goals as goal

pub loop-t-preserved : goal.loop-t-preserved
loop-t-preserved c =
    let items = c.in_ok-push.ensures.items in
    let size = c.loop-t.invariant.one_each in
    record {
      one_each = search rules;
      each = below_more _ _
          (λ t lt. rw items (subst (λ o. IsRead c.args.found c.args.kept.now t o) (sym (get_or_append_left c.loop-t.relations.items _ None t (omega arith))) (c.loop-t.invariant.each t lt)))
          (rw items (subst (λ o. IsRead c.args.found c.args.kept.now c.loop-t.t o) (sym (get_or_push c.loop-t.relations.items _ None c.loop-t.t size)) c.in_ok-relation.ensures));
    }
