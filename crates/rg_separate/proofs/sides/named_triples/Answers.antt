use Rattle.std.proofs.Common.{rules, ◌≡◌, ◌+◌, List, map, take, false, ap, sym, subst}
use Rattle.std.specs.Prelude.{pos, slice_index_or, FitsSigned, Bool, ℤ}
use Rattle.std.specs.Int.{w64}
use Rattle.std.proofs.lemmas.Int.{to_z-of_z}
use Rattle.rg_cert_meaning.specs.declared.Form.{Form}
use Rattle.rg_cert_meaning.specs.Sides.{side_of}
use Rattle.rg_rows.specs.Forms.{split_of}
use Rattle.rg_separate.specs.Casing.{sides_among}
use Rattle.rg_separate.proofs.Siding.{triples_more}
use Rattle.rg_separate.proofs.sides.named_triples.Goals as goal

pub bounds-forms-form : goal.bounds-forms-form
bounds-forms-form c = c.requires c.loop-form.form-index _ c.loop-form-test.true

pub bounds-forms-form-in-loop-form : goal.bounds-forms-form-in-loop-form
bounds-forms-form-in-loop-form c = c.requires c.loop-form.form-index _ c.loop-form-test.true

pub loop-form-init : goal.loop-form-init
loop-form-init c = ap (λ (xs : List (Form × ℤ × Bool)). map side_of xs) c.new-triples.ensures.items

pub loop-form-preserved : goal.loop-form-preserved
loop-form-preserved c =
    let within = c.requires c.loop-form.form-index _ c.loop-form-test.true in
    let fits : FitsSigned w64 (slice_index_or c.args.above.now c.loop-form.form-index (record { form = 0; at = pos 0; high = false })).at = search rules in
    subst (λ (xs : List (Form × ℤ × Bool)). map side_of xs ≡ sides_among (map split_of c.args.forms.now) (take (c.loop-form.form-index + 1) c.args.above.now)) (sym c.in_ok-push.ensures.items)
    (rw (to_z-of_z w64 _ fits)
    (triples_more c.args.forms.now c.args.above.now c.loop-form.form-index _ _ c.loop-form.triples.items c.loop-form-test.true within c.loop-form.invariant))
