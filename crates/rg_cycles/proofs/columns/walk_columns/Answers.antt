use Rattle.std.proofs.Common.{◌<◌, length, refl, subst, sym, ◌∙◌, arith, add-one}
use Rattle.std.specs.Prelude.{slice_index}
use Rattle.std.proofs.lemmas.List.Elements.{Contains-get_or}
use Rattle.rg_linear.specs.Cycle.{CycleOutcome.free_set, CycleWalkFrom, vector_system}
use Rattle.rg_cycles.proofs.Filling.{row_length}
use Rattle.rg_cycles.proofs.Showing.{count_rows, vectors_plain}
use Rattle.rg_cycles.proofs.Walking.{row_coeffs, goes_on, first_ahead, first_leads, at_end}
use Rattle.rg_cycles.proofs.columns.walk_columns.Goals as goal

pub loop-i-init : goal.loop-i-init
loop-i-init g c =
    let vectors = g.R.ChordRows.rows c.args.rows.now in
    let small = c.if-not-start.ensures.small refl in
    let columns = c.start.ensures.columns ∙ c.requires.columns in
    let members = c.if-not-start.ensures.members refl in
    record {
      columns = columns;
      are = c.if-not-start.ensures.held refl (vector_system c.args.labels vectors c.args.kept.now) (sym columns) (c.in_ok-norm.ensures c.args.labels small);
      ahead = first_ahead _ c.args.labels (rw columns at members);
      leads = first_leads c.args.labels vectors c.args.kept.now _ (rw columns at members);
    }

pub row-requires : goal.row-requires
row-requires g c = c.requires.kept (slice_index c.args.kept.now c.loop-i.i) (Contains-get_or c.args.kept.now c.loop-i.i 0 c.loop-i-test.true)

pub take-taken-requires-clause-whole : goal.take-taken-requires-clause-whole
take-taken-requires-clause-whole g c =
    let vectors = g.R.ChordRows.rows c.args.rows.now in
    let system = vector_system c.args.labels vectors c.args.kept.now in
    let is = sym (c.deref.ensures.value ∙ c.in_ok-row.ensures) in
    let count = count_rows c.args.labels vectors c.args.kept.now in
    let lt : c.loop-i.i < length system.rows = subst (λ n. c.loop-i.i < n) (sym count) c.loop-i-test.true in (
      system,
      c.loop-i.invariant.are,
      lt,
      row_coeffs c.args.labels vectors c.args.kept.now c.loop-i.i c.loop-i-test.true _ is,
      vectors_plain c.args.labels vectors c.args.kept.now c.loop-i.i lt,
    )

pub take-taken-requires-clause-ahead : goal.take-taken-requires-clause-ahead
take-taken-requires-clause-ahead g c = rw c.loop-i.invariant.columns c.loop-i.invariant.ahead

pub take-taken-requires-clause-each : goal.take-taken-requires-clause-each
take-taken-requires-clause-each g c =
    let at = slice_index c.args.kept.now c.loop-i.i in
    let below = c.requires.kept at (Contains-get_or c.args.kept.now c.loop-i.i 0 c.loop-i-test.true) in
    rw (c.deref.ensures.value, c.loop-i.invariant.columns) (row_length c.args.labels (g.R.ChordRows.rows c.args.rows.now) c.requires.rows at below c.in_ok-row.row.items c.in_ok-row.ensures)

pub loop-i-preserved : goal.loop-i-preserved
loop-i-preserved g c =
    let vectors = g.R.ChordRows.rows c.args.rows.now in
    let system = vector_system c.args.labels vectors c.args.kept.now in
    let is = sym (c.deref.ensures.value ∙ c.in_ok-row.ensures) in
    let count = count_rows c.args.labels vectors c.args.kept.now in
    let lt : c.loop-i.i < length system.rows = subst (λ n. c.loop-i.i < n) (sym count) c.loop-i-test.true in
    let coeffs = row_coeffs c.args.labels vectors c.args.kept.now c.loop-i.i c.loop-i-test.true _ is in
    let told = c.take-taken.ensures.told system c.loop-i.invariant.are lt coeffs (vectors_plain c.args.labels vectors c.args.kept.now c.loop-i.i lt) in
    let more = goes_on system c.args.labels c.loop-i.i c.loop-i.walk c.take-taken.new.self c.take-taken.result told c.in_default.not-Large refl lt c.loop-i.invariant.ahead in
    record {
      columns = c.take-taken.ensures.columns ∙ c.loop-i.invariant.columns;
      are = more.are;
      ahead = more.ahead;
      leads = λ o rest. c.loop-i.invariant.leads o (more.leads o (subst (λ n. CycleWalkFrom system c.take-taken.new.self.members n o) (add-one c.loop-i.i) rest));
    }

pub returns-clause-ends : goal.returns-clause-ends
returns-clause-ends g c =
    let vectors = g.R.ChordRows.rows c.args.rows.now in
    λ yes. c.loop-i.invariant.leads (free_set c.loop-i.walk.members)
    (at_end c.args.labels vectors c.args.kept.now c.loop-i.walk.members c.loop-i.i (let end = c.loop-i-test.false in omega arith))
