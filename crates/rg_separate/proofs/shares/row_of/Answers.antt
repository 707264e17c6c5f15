use Rattle.std.proofs.Common.{◌≡◌, ◌-◌, ◌<◌, List, length, map, false, ap, sym, subst, ◌∙◌, arith}
use Rattle.std.specs.Prelude.{ℤ, pos, slice_index_or}
use Rattle.rg_integers.specs.Range.{InRange}
use Rattle.rg_integers.proofs.Casts.{back}
use Rattle.rg_fraction.specs.Fractions.{IsValue}
use Rattle.rg_folds.specs.Fold.{ratio_of}
use Rattle.rg_case_folds.specs.Spreading.{side_at}
use Rattle.rg_rows.specs.declared.named_form.NamedForm.{NamedForm}
use Rattle.rg_rows.specs.Forms.{split_of}
use Rattle.rg_separate.specs.Casing.{sides_among}
use Rattle.rg_separate.proofs.Factors.{own_name, own_factor, factor_of_split}
use Rattle.rg_separate.proofs.shares.row_of.Goals as goal

pub name-requires : goal.name-requires
name-requires c = let lt = c.if-row-rows.true in let many = c.count-rows.ensures in omega arith

pub factor-requires : goal.factor-requires
factor-requires c = let lt = c.if-row-rows.true in let many = c.count-rows.ensures in omega arith

pub returns-then-row-rows-clause-name : goal.returns-then-row-rows-clause-name
returns-then-row-rows-clause-name c = λ case shows.
    let lt : c.args.row < length c.args.named.now.system.rows = (let t = c.if-row-rows.true in let many = c.count-rows.ensures in omega arith) in
    sym (c.name.ensures c.name.result) ∙ own_name c.args.named.now case shows c.args.row c.name.result lt

pub returns-then-row-rows-clause-factor : goal.returns-then-row-rows-clause-factor
returns-then-row-rows-clause-factor c = λ case shows.
    let lt : c.args.row < length c.args.named.now.system.rows = (let t = c.if-row-rows.true in let many = c.count-rows.ensures in omega arith) in
    ap ratio_of (sym (c.factor.ensures c.factor.result))
    ∙ own_factor c.args.named.now case shows c.args.above.now (sides_among (map split_of c.args.named.now.forms) c.args.above.now) c.args.row c.factor.result lt

pub returns-clause-factor : goal.returns-clause-factor
returns-clause-factor c = λ case shows.
    let named = c.args.named.now in
    let many = c.count-rows.ensures in
    let depth : c.args.row - c.count-rows.result < length c.args.above.now = (let r = c.requires.row in let t = c.if-row-rows.false in omega arith) in
    let within = c.requires.sides (c.args.row - c.count-rows.result) (record { form = 0; at = pos 0; high = false }) depth in
    let value = subst (λ (z : ℤ). IsValue c.new.result z (pos 1)) (back c.split_factor-factor.result c.split_factor-factor.ensures.in_range) c.new.ensures in
    let side = side_at c.args.above.now (c.args.row - c.count-rows.result) in
    let form : slice_index_or named.forms side.form c.index-forms-form.result ≡ c.index-forms-form.result =
    ap (λ (fs : List NamedForm). slice_index_or fs side.form c.index-forms-form.result) (sym c.forms.ensures) ∙ sym c.index-forms-form.is in
    factor_of_split named case shows c.args.above.now c.args.row side c.index-forms-form.result c.new.result c.split_factor-factor.result
    (let t = c.if-row-rows.false in omega arith) (let d = depth in let t = c.if-row-rows.false in omega arith)
    (ap (λ n. side_at c.args.above.now (c.args.row - n)) (sym many))
    within form value c.split_factor-factor.ensures.factor
