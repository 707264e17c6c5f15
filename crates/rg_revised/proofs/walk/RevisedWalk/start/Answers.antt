use Rattle.std.proofs.Common.{rules, ◌≡◌, ℕ, List, length, ap, sym, ◌∙◌}
use Rattle.std.specs.Prelude.{FitsSigned, unsigned_abs}
use Rattle.std.specs.Int.{w64}
use Rattle.std.specs.Vec.{with_items}
use Rattle.std.proofs.lemmas.Int.{to_z-of_z}
use Rattle.std.proofs.lemmas.List.{with_items_is}
use Rattle.rg_linear.specs.Dictionary.{numbers_from}
use Rattle.rg_revised.proofs.WalkStates.{walk_started}
use Rattle.rg_revised.proofs.walk.RevisedWalk.start.Goals as goal

pub returns-clause-held : goal.returns-clause-held
returns-clause-held c = λ yes system columns norms.
    let fits : FitsSigned w64 c.in-Some.most = search rules in
    let (some, room) = c.in-Some.ensures.some in
    let same : system.columns ≡ length c.self.inside.basis.slots = columns ∙ c.restart.ensures.columns in
    let members = with_items_is c.self.inside.members.variables c.number_slots.new.slots (c.number_slots.auto.slots ∙ c.deref_mut.ensures.len)
    ∙ c.number_slots.ensures ∙ ap (numbers_from 0) (ap (λ (xs : List ℕ). length xs) c.deref_mut.ensures.value ∙ c.self.invariant.members_size ∙ sym same) in
    rw (to_z-of_z w64 c.in-Some.most fits)
    (walk_started system (record {
      columns = length c.restart.new.self.slots;
      members = (with_items c.self.inside.members.variables c.number_slots.new.slots).items;
      basis = c.restart.new.self;
      most = unsigned_abs c.in-Some.most;
    }) c.args.norm _ c.restart.ensures.unit same members norms some room)
