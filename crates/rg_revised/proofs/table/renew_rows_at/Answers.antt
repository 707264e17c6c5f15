use Rattle.std.proofs.Common.{rules, ◌≡◌, ◌+◌, ◌*◌, ◌-◌, ◌<◌, true, false, length, get_or, arith, le_refl, refl, subst, sym, ◌∙◌}
use Rattle.std.specs.Prelude.{FitsSigned, unsigned_abs}
use Rattle.std.specs.Int.{w64}
use Rattle.std.proofs.lemmas.Int.{to_z-of_z}
use Rattle.std.proofs.lemmas.List.{get_or_default}
use Rattle.rg_linear.proofs.TableRows.{part_is, length-part, length-put-mid, row_inside, row_other}
use Rattle.rg_revised.specs.Rows.{RowRenewed, TableRenewed}
use Rattle.rg_revised.proofs.Supported.{supported, before_part}
use Rattle.rg_revised.proofs.Tables.{rows_more}
use Rattle.rg_revised.proofs.Unchanged.{units_still, unchanged_stays}
use Rattle.rg_revised.proofs.table.renew_rows_at.Goals as goal
use Rattle.rg_revised.proofs.table.renew_rows_at.Goals.{then-changed-t+else-not-renew_row_at, else-changed-t}

pub slice_bounds-row-end : goal.slice_bounds-row-end
slice_bounds-row-end c = row_inside c.loop-t.table (length c.args.pivot.now.numbers.now) (length c.args.changed.now) c.loop-t.t
    (c.loop-t.invariant.rows.same_length ∙ c.requires.length) c.loop-t-test.true

pub renew_row_at-requires-clause-within : goal.renew_row_at-requires-clause-within
renew_row_at-requires-clause-within c =
    let fm : FitsSigned w64 c.args.most = search rules in
    let is = part_is (length c.args.pivot.now.numbers.now) c.args.table.now c.loop-t.table c.loop-t.t (c.loop-t.invariant.left c.loop-t.t (le_refl c.loop-t.t)) in
    rw (to_z-of_z w64 c.args.most fm, is) (c.requires.within c.loop-t.t c.loop-t-test.true)

pub returns-then-not-renew_row_at-clause-unit : goal.returns-then-not-renew_row_at-clause-unit
returns-then-not-renew_row_at-clause-unit c =
    let old : length c.loop-t.table ≡ length c.args.changed.now * length c.args.pivot.now.numbers.now = c.loop-t.invariant.rows.same_length ∙ c.requires.length in
    let size = length-part (length c.args.pivot.now.numbers.now) c.loop-t.table c.renew_row_at.new.row (length c.args.changed.now) c.loop-t.t old c.loop-t-test.true c.renew_row_at.auto.row in
    let k : (c.loop-t.t * length c.args.pivot.now.numbers.now + length c.args.pivot.now.numbers.now) - c.loop-t.t * length c.args.pivot.now.numbers.now
    ≡ length c.args.pivot.now.numbers.now = omega arith in
    let is : get_or c.args.changed.now c.loop-t.t true ≡ true = sym (get_or_default c.args.changed.now c.loop-t.t false true c.loop-t-test.true) ∙ c.if-changed-t.true in
    units_still (length c.args.pivot.now.numbers.now) c.args.changed.now c.loop-t.table c.renew_row_at.new.row c.loop-t.t (length c.args.changed.now) _ c.loop-t.invariant.unit old
    c.loop-t-test.true k size is

pub loop-t-preserved : goal.loop-t-preserved
loop-t-preserved c =
    let fm : FitsSigned w64 c.args.most = search rules in
    let m = to_z-of_z w64 c.args.most fm in
    let rows = rw m at c.loop-t.invariant.rows in
    let old : length c.loop-t.table ≡ length c.args.changed.now * length c.args.pivot.now.numbers.now = rows.same_length ∙ c.requires.length in
    elim c.if-changed-t.branch [
      | then-changed-t+else-not-renew_row_at w ↦ (
          let h = rw m at w.if-not-renew_row_at.ensures.renewed in
          let size = length-part (length c.args.pivot.now.numbers.now) c.loop-t.table w.renew_row_at.new.row (length c.args.changed.now) c.loop-t.t old c.loop-t-test.true w.renew_row_at.auto.row in
          let is = part_is (length c.args.pivot.now.numbers.now) c.args.table.now c.loop-t.table c.loop-t.t (c.loop-t.invariant.left c.loop-t.t (le_refl c.loop-t.t)) in
          let row = subst (λ x. RowRenewed c.args.pivot.now.numbers.now x w.renew_row_at.new.row c.args.pivot.now.p c.args.pivot.now.negative c.args.d.value (unsigned_abs c.args.most)) is (h refl) in
          let k : (c.loop-t.t * length c.args.pivot.now.numbers.now + length c.args.pivot.now.numbers.now) - c.loop-t.t * length c.args.pivot.now.numbers.now
          ≡ length c.args.pivot.now.numbers.now = omega arith in
          let inside : c.loop-t.t < length c.loop-t.supports = omega arith in
          let there : get_or c.args.changed.now c.loop-t.t true ≡ true = sym (get_or_default c.args.changed.now c.loop-t.t false true c.loop-t-test.true) ∙ w.if-changed-t.true in
          rw (w.table-is, w.supports-is) (record {
            rows = rw m (rows_more (length c.args.pivot.now.numbers.now) c.args.pivot.now.numbers.now c.args.table.now c.loop-t.table w.renew_row_at.new.row
                c.args.pivot.now.p c.args.pivot.now.negative c.args.d.value (unsigned_abs c.args.most) c.loop-t.t (length c.args.changed.now) _ rows c.requires.length c.loop-t-test.true k size row
                (length-put-mid (length c.args.pivot.now.numbers.now) c.loop-t.table w.renew_row_at.new.row (length c.args.changed.now) c.loop-t.t _ old c.loop-t-test.true size k ∙ rows.same_length));
            left = λ v le. row_other (length c.args.pivot.now.numbers.now) c.loop-t.table w.renew_row_at.new.row
                (length c.args.changed.now) c.loop-t.t _ v old c.loop-t-test.true size k (λ e. omega arith)
                ∙ c.loop-t.invariant.left v (omega arith);
            supports = λ all. supported (length c.args.pivot.now.numbers.now) c.loop-t.table w.renew_row_at.new.row c.loop-t.supports w.renew_row_at.new.support c.loop-t.t
                (length c.args.changed.now) _
                (c.loop-t.invariant.supports all) old c.loop-t-test.true k size (w.renew_row_at.ensures.support
                (before_part (length c.args.pivot.now.numbers.now) c.loop-t.table c.loop-t.supports c.loop-t.t (c.loop-t.invariant.supports all) inside));
            unit = units_still (length c.args.pivot.now.numbers.now) c.args.changed.now c.loop-t.table w.renew_row_at.new.row c.loop-t.t (length c.args.changed.now) _ c.loop-t.invariant.unit old
                c.loop-t-test.true k size there;
          }))
      | else-changed-t w ↦ (
          let isnt : get_or c.args.changed.now c.loop-t.t true ≡ false = sym (get_or_default c.args.changed.now c.loop-t.t false true c.loop-t-test.true) ∙ w.if-changed-t.false in
          rw (w.table-is, w.supports-is) (record {
            rows = rw m (unchanged_stays (length c.args.pivot.now.numbers.now) c.args.changed.now c.args.pivot.now.numbers.now c.args.table.now c.loop-t.table
                c.args.pivot.now.p c.args.pivot.now.negative c.args.d.value (unsigned_abs c.args.most) c.loop-t.t rows c.requires.size c.requires.unit c.requires.leaving isnt c.loop-t-test.true
                c.requires.length c.requires.index c.requires.within (c.loop-t.invariant.left c.loop-t.t (le_refl c.loop-t.t)));
            left = λ v le. c.loop-t.invariant.left v (omega arith);
            supports = c.loop-t.invariant.supports;
            unit = c.loop-t.invariant.unit;
          }))
    ]

pub returns-clause-renewed : goal.returns-clause-renewed
returns-clause-renewed c =
    let fm : FitsSigned w64 c.args.most = search rules in
    let m = to_z-of_z w64 c.args.most fm in
    let rows = rw m at c.loop-t.invariant.rows in
    let end : c.loop-t.t ≡ length c.args.changed.now = omega arith in
    λ yes. subst (TableRenewed (length c.args.pivot.now.numbers.now) c.args.pivot.now.numbers.now c.args.table.now c.loop-t.table
    c.args.pivot.now.p c.args.pivot.now.negative c.args.d.value (unsigned_abs c.args.most)) end rows

pub returns-then-not-renew_row_at-clause-supports : goal.returns-then-not-renew_row_at-clause-supports
returns-then-not-renew_row_at-clause-supports c = λ all.
    let old : length c.loop-t.table ≡ length c.args.changed.now * length c.args.pivot.now.numbers.now = c.loop-t.invariant.rows.same_length ∙ c.requires.length in
    let size = length-part (length c.args.pivot.now.numbers.now) c.loop-t.table c.renew_row_at.new.row (length c.args.changed.now) c.loop-t.t old c.loop-t-test.true c.renew_row_at.auto.row in
    let k : (c.loop-t.t * length c.args.pivot.now.numbers.now + length c.args.pivot.now.numbers.now) - c.loop-t.t * length c.args.pivot.now.numbers.now
    ≡ length c.args.pivot.now.numbers.now = omega arith in
    let inside : c.loop-t.t < length c.loop-t.supports = omega arith in
    supported (length c.args.pivot.now.numbers.now) c.loop-t.table c.renew_row_at.new.row c.loop-t.supports c.renew_row_at.new.support c.loop-t.t
    (length c.args.changed.now) _ (c.loop-t.invariant.supports all) old
    c.loop-t-test.true k size (c.renew_row_at.ensures.support (before_part (length c.args.pivot.now.numbers.now) c.loop-t.table c.loop-t.supports c.loop-t.t (c.loop-t.invariant.supports all) inside))
