use Rattle.std.proofs.Common.{rules, ◌≡◌, ◌+◌, ◌<◌, List, [], ◌∷◌, ◌++◌, take, length, get_or, ap, ap₂, sym, subst, ◌∙◌}
use Rattle.std.proofs.lemmas.List.{take_all}
use Rattle.std.specs.Prelude.{ℤ, FitsSigned}
use Rattle.std.specs.Int.{w64, w128}
use Rattle.std.proofs.lemmas.Int.{to_z-of_z}
use Rattle.rg_branch.specs.declared.bounded.Bounded.{Bounded}
use Rattle.rg_rows.specs.declared.named_form.NamedForm.{NamedForm}
use Rattle.rg_separate.specs.Bounding.{AreBoundedOf}
use Rattle.rg_separate.proofs.Branched.{copy_of, copy_seen, bounded_more}
use Rattle.rg_separate.proofs.case.bounded_forms.Goals as goal

pub loop-form-preserved : goal.loop-form-preserved
loop-form-preserved c =
    let scale : FitsSigned w128 c.form-item.result.scale = search rules in
    let low : FitsSigned w64 c.form-item.result.low = search rules in
    let high : FitsSigned w64 c.form-item.result.high = search rules in
    let times : FitsSigned w128 c.form-item.result.times = search rules in
    let items : c.push.new.self.items ≡ c.loop-form.bounded.items ++ copy_of c.form-item.result c.in_ok-to_vec.field-0 ∷ [] =
    rw (to_z-of_z w128 _ scale, to_z-of_z w64 _ low, to_z-of_z w64 _ high, to_z-of_z w128 _ times) at c.in_ok-push.ensures.items in
    let same : c.in_ok-to_vec.field-0.items ≡ c.form-item.result.coeffs.items = search rules in
    subst (AreBoundedOf (take (c.loop-form.form-index + 1) c.args.forms.now)) (sym items)
    (bounded_more c.args.forms.now c.loop-form.form-index c.loop-form.bounded.items c.form-item.result (copy_of c.form-item.result c.in_ok-to_vec.field-0)
    c.loop-form-test.true (sym c.form-item.is) (copy_seen c.form-item.result c.in_ok-to_vec.field-0 same) c.loop-form.invariant)

pub returns : goal.returns
returns c = subst (λ (l : List NamedForm). AreBoundedOf l c.loop-form.bounded.items) (take_all c.loop-form.form-index c.args.forms.now c.loop-form-test.false) c.loop-form.invariant
