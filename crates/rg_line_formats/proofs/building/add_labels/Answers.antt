use Rattle.std.proofs.Common.{◌≡◌, ◌≤◌, ℕ, List, [], length, map, take, get_or, slice_get, Some, Contains, rules, ap, subst, Bor}
use Rattle.std.specs.Result.{IsErrOf}
use Rattle.rg_theory.specs.Limits.{most_labels}
use Rattle.rg_lts.specs.Draft.{Draft}
use Rattle.rg_lts.specs.declared.fault.BuildFault.TheVariants as fault
use Rattle.rg_line_formats.proofs.Built.{name_at, is_name_at, is_new_at, has_room, label_next}
use Rattle.rg_line_formats.proofs.building.add_labels.Goals as goal

abbrev nowhere : Bor (List ℕ)
nowhere = record { ref_ptr = (0, 0); now = [] }

pub label-requires : goal.label-requires
label-requires c =
    let k = c.loop-name.name-index in
    is_name_at (map (λ (n : Bor (List ℕ)). n.now) c.args.names.now) k (get_or c.args.names.now k nowhere).now c.requires.names
    (name_at (λ (n : Bor (List ℕ)). n.now) c.args.names.now k nowhere c.loop-name-test.true)

pub unreachable-requires : goal.unreachable-requires
unreachable-requires c =
    let names : List (List ℕ) = map (λ (n : Bor (List ℕ)). n.now) c.args.names.now in
    let k = c.loop-name.name-index in
    let name : List ℕ = (get_or c.args.names.now k nowhere).now in
    let at : slice_get names k ≡ Some name = name_at (λ (n : Bor (List ℕ)). n.now) c.args.names.now k nowhere c.loop-name-test.true in
    let was : c.loop-name.builder.label_names ≡ take k names = ap (λ (d : Draft). d.label_names) c.loop-name.invariant in
    let room : IsErrOf c.label.result fault.TooManyLabels → ⊥ = λ e.
    has_room (λ (n : Bor (List ℕ)). n.now) c.args.names.now k most_labels c.loop-name-test.true c.requires.few (subst (λ l. most_labels ≤ length l) was (c.label.ensures.too_many.0 e).1) in
    let new : IsErrOf c.label.result fault.TwiceLabel → ⊥ = λ e.
    is_new_at names k name c.requires.names at (subst (λ l. Contains l name) was (c.label.ensures.twice.0 e)) in
    search rules

pub loop-name-preserved : goal.loop-name-preserved
loop-name-preserved c =
    let k = c.loop-name.name-index in
    label_next c.args.builder.now c.loop-name.builder c.label.new.self (map (λ (n : Bor (List ℕ)). n.now) c.args.names.now) k (get_or c.args.names.now k nowhere).now
    (name_at (λ (n : Bor (List ℕ)). n.now) c.args.names.now k nowhere c.loop-name-test.true) c.loop-name.invariant c.in-Ok.ensures.added
