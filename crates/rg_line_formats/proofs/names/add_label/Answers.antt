use Rattle.rg_line_formats.proofs.Things.{stands_last}
use Rattle.rg_line_formats.proofs.Growing.{label_there, label_new, one_more, room}
use Rattle.rg_theory.specs.Limits.{most_labels}
use Rattle.rg_lts.specs.Draft.{Draft}
use Rattle.std.proofs.Common.{◌≡◌, ◌∷◌, ◌++◌, [], Some, slice_get, ◌∙◌, Err, sym, ap, subst}
use Rattle.rg_theory.proofs.Lists.{there_at}
use Rattle.rg_line_formats.proofs.names.add_label.Goals as goal

pub returns-in-Some-clause-ok : goal.returns-in-Some-clause-ok
returns-in-Some-clause-ok c =
    label_there c.args.builder.now c.args.name.now (there_at c.args.builder.now.label_names c.in-Some.t c.args.name.now c.in-Some.ensures.found)

pub returns-in-Ok-clause-ok : goal.returns-in-Ok-clause-ok
returns-in-Ok-clause-ok c = c.in-Ok.ensures.added ∙ label_new c.args.builder.now c.args.name.now c.in_default.ensures.none

pub returns-in-Err-TooManyLabels-clause-one_more : goal.returns-in-Err-TooManyLabels-clause-one_more
returns-in-Err-TooManyLabels-clause-one_more c = λ _.
    let many = c.in-Err-TooManyLabels.ensures.too_many.0 (ap Err c.in-Err-TooManyLabels.field-0-is) in
    one_more c.args.builder.now.label_names c.args.name.now most_labels many.0 many.1

pub returns-in-Ok-clause-few : goal.returns-in-Ok-clause-few
returns-in-Ok-clause-few c = λ before.
    room c.args.builder.now.label_names c.args.name.now most_labels c.label.new.self.label_names c.in_default.ensures.none before
    (λ full. let e = c.in-Ok.ensures.too_many.1 full in cc) (ap (λ (d : Draft). d.label_names) c.in-Ok.ensures.added)

pub returns-in-Ok-clause-at : goal.returns-in-Ok-clause-at
returns-in-Ok-clause-at c =
    let names = c.args.builder.now.label_names in
    let name = c.args.name.now in
    subst (λ l. slice_get l c.in-Ok.t ≡ Some name) (sym (ap (λ (d : Draft). d.label_names) c.in-Ok.ensures.added))
    (subst (λ n. slice_get (names ++ name ∷ []) n ≡ Some name) (sym c.in-Ok.ensures.ok) (stands_last names name))
