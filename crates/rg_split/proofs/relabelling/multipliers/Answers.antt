use Rattle.std.proofs.Common.{◌≡◌, ◌+◌, map, take, get_or, All, ap, sym, subst, ◌∙◌, ℤ, pos}
use Rattle.std.proofs.lemmas.List.{with_items_is}
use Rattle.rg_integers.proofs.Casts.{back}
use Rattle.rg_integers.specs.Range.{InRange}
use Rattle.rg_cert_data.specs.Trees.{named_row}
use Rattle.rg_split.specs.Parts.{arc_multiplier}
use Rattle.rg_split.specs.Leaves.{added}
use Rattle.rg_split.proofs.ArcNumbers.{arc_row_added, other_row_passed, sum_fits, sums_in_range, none_yet, row_in_range}
use Rattle.rg_split.proofs.relabelling.multipliers.Goals.{in-Arc, in_default}
use Rattle.rg_split.proofs.relabelling.multipliers.Goals as goal
use Rattle.rg_cert_meaning.specs.declared.RowName.{RowName}
use Rattle.rg_cert_meaning.specs.declared.RowName.TheVariants as row_name

abbrev no_row : RowName × ℤ
no_row = (row_name.Arc (record { from = 0; label = 0; to = 0 }), pos 0)

pub loop-name-init : goal.loop-name-init
loop-name-init c = c.in_ok-sums.ensures.items_if_clones_equal (λ y e. e) ∙ none_yet c.args.arcs.now

pub add-requires-clause-in_range : goal.add-requires-clause-in_range
add-requires-clause-in_range c =
    subst (All InRange) (sym c.deref_mut.ensures.value) (sums_in_range c.args.arcs.now c.args.rows.now c.loop-name.name-index c.loop-name.sums.items c.requires.small c.loop-name.invariant)

pub add-requires-clause-fits : goal.add-requires-clause-fits
add-requires-clause-fits c =
    let rows = c.args.rows.now in
    let i = c.loop-name.name-index in
    let m = (get_or rows i no_row).1 in
    let read = back m (row_in_range rows i no_row c.requires.multipliers c.loop-name-test.true) in
    let is : get_or rows i no_row ≡ (row_name.Arc c.in-Arc.arc, m) = (λ j. (c.in-Arc.is j, m)) in
    let fits = sum_fits c.args.arcs.now rows i no_row c.in-Arc.arc m c.loop-name.sums.items c.requires.small c.loop-name-test.true is c.loop-name.invariant in
    λ k at. (rw (read, c.deref_mut.ensures.value) (fits k at))

pub loop-name-preserved : goal.loop-name-preserved
loop-name-preserved c =
    let rows = c.args.rows.now in
    let i = c.loop-name.name-index in
    let m = (get_or rows i no_row).1 in
    let read = back m (row_in_range rows i no_row c.requires.multipliers c.loop-name-test.true) in
    elim c.match-name.branch [
      | in-Arc w ↦
          arc_row_added c.args.arcs.now rows i no_row w.in-Arc.arc m c.loop-name.sums.items c.match-name.sums.items c.loop-name-test.true (λ j. (w.in-Arc.is j, m)) c.loop-name.invariant
          (ap (λ v. v.items) w.sums-is ∙ with_items_is c.loop-name.sums w.add.new.sums (w.add.auto.sums ∙ w.deref_mut.ensures.len) ∙ w.add.ensures
          ∙ ap (λ z. added w.in-Arc.arc z c.args.arcs.now w.deref_mut.result.now) read ∙ ap (added w.in-Arc.arc m c.args.arcs.now) w.deref_mut.ensures.value)
      | in_default w ↦
          subst (λ v. v ≡ map (arc_multiplier (map named_row (take (i + 1) rows))) c.args.arcs.now) (sym (ap (λ v. v.items) w.sums-is))
          (other_row_passed c.args.arcs.now rows i no_row c.loop-name.sums.items c.loop-name-test.true w.in_default.not-Arc c.loop-name.invariant)
    ]

pub returns-clause-in_range : goal.returns-clause-in_range
returns-clause-in_range c = sums_in_range c.args.arcs.now c.args.rows.now c.loop-name.name-index c.loop-name.sums.items c.requires.small c.loop-name.invariant
