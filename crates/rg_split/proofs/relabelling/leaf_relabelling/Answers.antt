use Rattle.std.proofs.Common.{◌≡◌, ℕ, length, map, Option, ap, sym, subst, ◌∙◌}
use Rattle.rg_theory.specs.System.{labels}
use Rattle.rg_cert_data.specs.Trees.{named_row}
use Rattle.rg_split.specs.Parts.{arc_multiplier}
use Rattle.rg_split.specs.Leaves.{IsLeastBelow, labels_by}
use Rattle.rg_split.proofs.ArcNumbers.{leaf_small}
use Rattle.rg_split.proofs.LeafParts.{some_counts, part_of_leaf}
use Rattle.rg_split.proofs.relabelling.leaf_relabelling.Goals as goal

pub multipliers-requires-clause-small : goal.multipliers-requires-clause-small
multipliers-requires-clause-small c = leaf_small c.args.of.now (map named_row c.args.rows.now) c.requires

pub unreachable-requires : goal.unreachable-requires
unreachable-requires c =
    let of = c.args.of.now in
    let sums : c.deref.result.now ≡ map (arc_multiplier (map named_row c.args.rows.now)) of.arcs =
    c.deref.ensures.value ∙ c.in_ok-sums.ensures.sums ∙ ap (map (arc_multiplier (map named_row c.args.rows.now))) c.arcs.ensures.value in
    some_counts of (map named_row c.args.rows.now) c.deref.result.now c.is_well_formed.ensures c.requires sums
    (subst (λ (o : Option ℕ). IsLeastBelow of.arcs c.deref.result.now (length of.arcs) o) c.in-None.is
    (subst (λ l. IsLeastBelow l c.deref.result.now (length l) c.least_counting.result) c.arcs-2.ensures.value c.least_counting.ensures))

pub returns : goal.returns
returns c =
    let of = c.args.of.now in
    let rows = map named_row c.args.rows.now in
    let sums : c.deref.result.now ≡ map (arc_multiplier rows) of.arcs = c.deref.ensures.value ∙ c.in_ok-sums.ensures.sums ∙ ap (map (arc_multiplier rows)) c.arcs.ensures.value in
    let after : c.in_ok-labels_after-in-Some.field-0.items ≡ labels_by c.in-Some.label (labels of) of.arcs c.deref.result.now =
    c.in_ok-labels_after-in-Some.ensures ∙ ap (λ n. labels_by c.in-Some.label n c.arcs-in-Some.result.now c.deref-in-Some.result.now) c.labels.ensures.value
    ∙ ap (λ l. labels_by c.in-Some.label (labels of) l c.deref-in-Some.result.now) c.arcs-in-Some.ensures.value
    ∙ ap (labels_by c.in-Some.label (labels of) of.arcs) (c.deref-in-Some.ensures.value ∙ sym c.deref.ensures.value) in
    part_of_leaf of rows c.deref.result.now c.in-Some.label c.in_ok-labels_after-in-Some.field-0.items sums
    (subst (λ (o : Option ℕ). IsLeastBelow of.arcs c.deref.result.now (length of.arcs) o) c.in-Some.is
    (subst (λ l. IsLeastBelow l c.deref.result.now (length l) c.least_counting.result) c.arcs-2.ensures.value c.least_counting.ensures)) after
