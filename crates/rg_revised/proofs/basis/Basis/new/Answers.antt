use Rattle.std.proofs.Common.{rules, ◌≡◌, ◌+◌, ◌<◌, length, true, get_or, ap, subst, sym, ◌∙◌}
use Rattle.std.specs.Prelude.{pos}
use Rattle.std.proofs.Math.ListN.{replicate}
use Rattle.std.proofs.lemmas.List.{get_or-replicate, length-replicate}
use Rattle.rg_linear.specs.Table.{row_at}
use Rattle.rg_revised.specs.Supports.{IsSupport, blank}
use Rattle.rg_revised.proofs.Unchanged.{kept, all_changed}
use Rattle.rg_revised.proofs.basis.Basis.new.Goals as goal

pub invariant_of-result : goal.invariant_of-result
invariant_of-result c =
    let changed : c.in_ok-changed.changed.items ≡ replicate c.args.columns true = c.in_ok-changed.ensures.items_if_clones_equal (search rules) in
    let supports : c.in_ok-supports.supports.items ≡ replicate c.args.columns c.unknown.result = c.in_ok-supports.ensures.items_if_clones_equal (search rules) in
    kept c.in_ok-slots.slots.items (pos 1) c.in_ok-table.table.items c.in_ok-changed.changed.items c.in_ok-supports.supports.items c.args.columns
    (search rules) (search rules) (sym c.in_ok-table.table.ok.0 ∙ c.in_ok-table.ensures.len ∙ c.in-Some.ensures.1) (ap (λ xs. length xs) changed ∙ length-replicate c.args.columns true)
    (all_changed (c.args.columns + 1) c.in_ok-changed.changed.items c.in_ok-table.table.items
    (λ t lt. rw changed (get_or-replicate c.args.columns t true true (subst (λ n. t < n) (ap (λ xs. length xs) changed ∙ length-replicate c.args.columns true) lt))))
    (ap (λ xs. length xs) supports ∙ length-replicate c.args.columns c.unknown.result)
    (λ t lt. subst (λ s. IsSupport (row_at (c.args.columns + 1) c.in_ok-table.table.items t) s)
    (sym (ap (λ xs. get_or xs t blank) supports ∙ get_or-replicate c.args.columns t c.unknown.result blank
    (subst (λ n. t < n) (ap (λ xs. length xs) supports ∙ length-replicate c.args.columns c.unknown.result) lt)))
    (c.unknown.ensures (row_at (c.args.columns + 1) c.in_ok-table.table.items t)))
