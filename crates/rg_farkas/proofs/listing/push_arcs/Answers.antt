use Rattle.std.proofs.Common.{◌++◌, rules, map, ap, sym, ◌∙◌}
use Rattle.std.specs.Prelude.{FitsSigned}
use Rattle.std.specs.Int.{w128, cast_signed, cast_unsigned}
use Rattle.std.proofs.lemmas.Int.{to_z-of_z}
use Rattle.rg_cert_data.specs.Trees.{named_row}
use Rattle.rg_case_folds.specs.Spreading.{not_zero, multiplier_among, arc_name}
use Rattle.rg_case_folds.proofs.Items.{map_push}
use Rattle.rg_farkas.proofs.Located.{row_kept, row_left}
use Rattle.rg_farkas.proofs.listing.push_arcs.Goals as goal
use Rattle.rg_farkas.proofs.listing.push_arcs.Goals.{then-multiplier-ne0+in_ok-push, else-multiplier-ne0}

pub loop-k-preserved : goal.loop-k-preserved
loop-k-preserved c =
    let f = multiplier_among c.args.arcs.now c.args.multipliers.now in
    let system = c.args.system.now in
    let numbers = c.in_ok-system_multipliers.system_multipliers.items in
    let z = c.index-multiplier.result.now in
    let fits : FitsSigned w128 c.index-multiplier.result.now = search rules in
    let own = to_z-of_z w128 c.index-multiplier.result.now fits in
    let target = map named_row c.args.rows.now.items ++ not_zero (map (λ a. record { multiplier = f a; name = arc_name a }) system) in
    elim c.if-multiplier-ne0.branch [
      | then-multiplier-ne0+in_ok-push w ↦ rw w.rows-is
          (row_kept f system numbers c.in_ok-system_multipliers.ensures c.loop-k.k record { from = 0; label = 0; to = 0 } z c.loop-k-test.true c.index-multiplier.ensures
          (map named_row c.loop-k.rows.items) target c.loop-k.invariant (map named_row w.push.new.self.items)
          (λ is. w.if-multiplier-ne0.true (ap (cast_unsigned w128) is)) (map_push named_row c.loop-k.rows.items w.push.new.self.items _ (rw own at w.in_ok-push.ensures.items)))
      | else-multiplier-ne0 w ↦ rw w.rows-is
          (row_left f system numbers c.in_ok-system_multipliers.ensures c.loop-k.k record { from = 0; label = 0; to = 0 } z c.loop-k-test.true c.index-multiplier.ensures
          (map named_row c.loop-k.rows.items) target c.loop-k.invariant
          (sym own ∙ ap (cast_signed w128) w.if-multiplier-ne0.false))
    ]
