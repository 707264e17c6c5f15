use Rattle.std.proofs.Common.{◌≡◌, ◌++◌, max, map, ap, sym, subst, ◌∙◌}
use Rattle.std.proofs.lemmas.List.{map-append}
use Rattle.rg_linear.specs.Norm.{greatest_norm, kept_norm}
use Rattle.rg_linear.specs.View.{linear_row, linear_system, IsWellFormed}
use Rattle.rg_linear.proofs.Norms.{greatest_of_lists}
use Rattle.rg_linear.proofs.joined.JoinedSystem.new.Goals as goal

pub invariant_of-result : goal.invariant_of-result
invariant_of-result c =
    let own = map linear_row c.args.own.now in
    let shared = map linear_row c.args.shared.now.rows.items in
    let norm : c.max-norm.result ≡ kept_norm (greatest_norm (map linear_row (c.args.own.now ++ c.args.shared.now.rows.items))) =
    c.max-norm.ensures
    ∙ ap (λ k. max k c.args.shared.now.norm) c.largest_norm.ensures
    ∙ ap (λ k. max (kept_norm (greatest_norm own)) k) c.args.shared.now.norm_is
    ∙ sym (greatest_of_lists own shared)
    ∙ ap (λ rows. kept_norm (greatest_norm rows)) (sym (map-append linear_row c.args.own.now c.args.shared.now.rows.items)) in
    record {
      well_formed = subst (λ rows. IsWellFormed (linear_system c.args.columns (c.args.own.now ++ rows))) (sym c.deref.ensures.value) c.requires;
      norm_is = norm ∙ ap (λ rows. kept_norm (greatest_norm (map linear_row (c.args.own.now ++ rows)))) (sym c.deref.ensures.value);
    }
