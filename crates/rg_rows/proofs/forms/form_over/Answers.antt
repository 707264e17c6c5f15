use Rattle.std.proofs.Common.{map, ap, sym, subst, ◌∙◌, of_z, to_z}
use Rattle.std.specs.Prelude.{pos, ◌*ℤ◌}
use Rattle.std.specs.Int.{w128}
use Rattle.rg_integers.proofs.Casts.{back, zero_of_bits}
use Rattle.rg_rows.proofs.FormTimes.{Tells, part_of_none, part_of_some}
use Rattle.rg_rows.proofs.forms.form_over.Goals as goal
use Rattle.rg_rows.proofs.forms.form_over.Goals.{then-times-eq0, else-times-eq0}

pub returns-clause-row : goal.returns-clause-row
returns-clause-row c =
    let (d, some, are) = c.requires in
    let t = c.times-times.result in
    let same = back t c.times-times.ensures.in_range in
    let told = c.times-times.ensures.times d some (c.deref.ensures.value ∙ are ∙ ap (map (λ z. pos d *ℤ z)) (sym c.deref-2.ensures.value)) in
    let items = c.args.terms.coeffs.items in
    let tells = subst (Tells t d) c.deref.ensures.value told in
    elim c.if-times-eq0.branch [
      | then-times-eq0 w ↦ part_of_none (to_z w128 (of_z w128 t)) t items
          c.args.row.now.coeffs.items c.if-times-eq0.result c.args.index d some w.result-is same
          (zero_of_bits t c.times-times.ensures.in_range w.if-times-eq0.true) tells
      | else-times-eq0 w ↦ part_of_some (to_z w128 (of_z w128 t)) t items
          c.args.row.now.coeffs.items c.if-times-eq0.result c.args.index d some w.result-is same (λ e. w.if-times-eq0.false (ap (of_z w128) e)) are tells
    ]
