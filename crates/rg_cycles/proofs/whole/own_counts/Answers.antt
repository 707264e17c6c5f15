use Rattle.std.proofs.Common.{◌≡◌, ◌<◌, ◌+◌, ◌++◌, ◌∷◌, [], length, map, take, ap, subst, sym, ◌∙◌, add-one}
use Rattle.std.specs.Prelude.{slice_index, FitsSigned}
use Rattle.std.specs.Int.{w64}
use Rattle.std.proofs.lemmas.Int.{to_z-of_z}
use Rattle.std.proofs.lemmas.List.{map-append}
use Rattle.std.proofs.Math.Seq.{take-suc}
use Rattle.rg_integers.specs.Sum.{number_at}
use Rattle.rg_integers.proofs.Casts.{back}
use Rattle.rg_folds.specs.Substitution.{free_labels}
use Rattle.rg_cycles.specs.View.{labels_of, cycle_of}
use Rattle.rg_cycles.proofs.Folding.{free_below}
use Rattle.rg_cycles.proofs.whole.own_counts.Goals as goal

pub bounds-counts-label : goal.bounds-counts-label
bounds-counts-label c =
    let lt = subst (λ l. c.loop-label.label-index < length l) c.free-label-items.ensures c.loop-label-test.true in
    rw (c.free-label-items.ensures, c.requires.counts) (free_below (labels_of c.args.basis.now) (cycle_of c.args.basis.now) c.loop-label.label-index lt)

pub loop-label-preserved : goal.loop-label-preserved
loop-label-preserved c =
    let free = free_labels (labels_of c.args.basis.now) (cycle_of c.args.basis.now) in
    let lt = subst (λ l. c.loop-label.label-index < length l) c.free-label-items.ensures c.loop-label-test.true in
    let label = slice_index free c.loop-label.label-index in
    let given = c.in-Ok.ensures {u = tt} in
    let told = rw c.free-label-items.ensures at given in
    let below = subst (λ m. label < m) (sym c.requires.counts) (free_below (labels_of c.args.basis.now) (cycle_of c.args.basis.now) c.loop-label.label-index lt) in
    let same = told.1 ∙ back (number_at c.args.counts.now label) (c.requires.in_range label below) in
    let z = to_z-of_z w64 c.in-Ok.count (subst (FitsSigned w64) (sym told.1) told.0) in
    let counts = number_at c.args.counts.now in
    let next : map counts (take c.loop-label.label-index free) ++ counts label ∷ [] ≡ map counts (take (c.loop-label.label-index + 1) free) =
    sym (map-append counts (take c.loop-label.label-index free) (label ∷ []))
    ∙ ap (map counts) (sym (take-suc free c.loop-label.label-index 0 lt) ∙ ap (λ m. take m free) (sym (add-one c.loop-label.label-index))) in
    rw (c.in_ok-push-in-Ok.ensures.items, z, same, c.loop-label.invariant) next
