use Rattle.std.proofs.Common.{◌<◌, ◌≡◌, length, slice_index_or, ◌∙◌, subst, sym}
use Rattle.std.proofs.lemmas.List.{get_or_default, length-set}
use Rattle.rg_theory.specs.declared.Arc.{Arc}
use Rattle.rg_theory.specs.System.{labels}
use Rattle.rg_case_parts.proofs.Marking.{marked_next}
use Rattle.rg_case_parts.proofs.columns.used_labels.Goals as goal

pub loop-a-preserved : goal.loop-a-preserved
loop-a-preserved c =
    let none : Arc = record { from = 0; label = 0; to = 0 } in
    let arcs = c.arcs-a-items.ensures.value in
    let lt = subst (λ l. c.loop-a.a-index < length l) arcs c.loop-a-test.true in
    let same = subst (λ l. slice_index_or c.arcs-a-items.result.now c.loop-a.a-index none ≡ slice_index_or l c.loop-a.a-index none) arcs
    (λ i. slice_index_or c.arcs-a-items.result.now c.loop-a.a-index none) in
    let label = (c.arcs-a-items.ensures.well_formed.in_range.arcs c.loop-a.a-index none lt).1 in
    record {
      one_each = length-set _ _ _ ∙ c.loop-a.invariant.one_each;
      each = rw same (marked_next c.loop-a.used.items c.args.lts.now.arcs c.loop-a.a-index (labels c.args.lts.now)
          (slice_index_or c.args.lts.now.arcs c.loop-a.a-index none) lt (get_or_default c.args.lts.now.arcs c.loop-a.a-index none _ lt)
          (subst (λ n. (slice_index_or c.args.lts.now.arcs c.loop-a.a-index none).label < n) (sym c.loop-a.invariant.one_each) label) c.loop-a.invariant.each);
    }
