use Rattle.std.proofs.Common.{rules, ◌+◌, List, length, drop, ap, refl, subst, sym, ◌∙◌}
use Rattle.std.specs.Prelude.{ℤ, FitsSigned}
use Rattle.std.specs.Int.{w64, w128}
use Rattle.std.proofs.lemmas.Int.{to_z-of_z}
use Rattle.std.proofs.lemmas.List.{with_items_is}
use Rattle.rg_revised.specs.declared.support.Support.{Support}
use Rattle.rg_revised.specs.View.{BasisState}
use Rattle.rg_revised.specs.Reading.{IsRead}
use Rattle.rg_revised.specs.State.{CanRead}
use Rattle.rg_revised.proofs.States.{written_back}
use Rattle.rg_revised.proofs.Unchanged.{kept}
use Rattle.rg_revised.proofs.Stepping.{own_rows, small_row, numbers_small, read_each}
use Rattle.rg_revised.proofs.basis.Basis.read.Goals as goal

pub read_row-requires : goal.read_row-requires
read_row-requires c =
    let fd : FitsSigned w64 c.self.inside.d = search rules in
    let fk : FitsSigned w128 c.args.constant = search rules in
    let r = subst (λ (b : BasisState). CanRead b c.args.coeffs.now c.args.constant) (sym c.self.view_is) c.requires.row in
    let width = ap (λ (xs : List ℤ). length xs) c.deref_mut-2.ensures.value ∙ c.requires.width ∙ ap (λ (b : BasisState). length b.slots + 1) (sym c.self.view_is) in
    let (norm, is) = small_row r.system r.members _ r.most r.small r.i c.args.coeffs.now c.args.constant r.row r.room in
    rw (c.deref.ensures.value, c.deref-2.ensures.value, to_z-of_z w64 c.self.inside.d fd, to_z-of_z w128 c.args.constant fk, width, c.deref_mut.ensures.value) (record {
      columns = read_each _ _ _ r;
      supports = c.self.invariant.known_count;
      width = refl;
      size = c.self.invariant.shape.size;
      own = own_rows r.system r.members _ r.most r.small;
      known = c.self.invariant.known;
      small = (norm, r.most, is, r.small.within, r.small.d_within);
    })

pub returns-clause-read : goal.returns-clause-read
returns-clause-read c =
    let fd : FitsSigned w64 c.self.inside.d = search rules in
    let fk : FitsSigned w128 c.args.constant = search rules in
    let width = ap (λ (xs : List ℤ). length xs) c.deref_mut-2.ensures.value ∙ c.requires.width ∙ ap (λ (b : BasisState). length b.slots + 1) (sym c.self.view_is) in
    let read = rw (c.deref-2.ensures.value, to_z-of_z w64 c.self.inside.d fd, to_z-of_z w128 c.args.constant fk, width) at c.read_row.ensures.read in
    let same = written_back c.args.numbers.now.len c.read_row.new.numbers (drop (length c.read_row.new.numbers) c.args.numbers.now.items)
    (read.same_length ∙ ap (λ (b : BasisState). length b.slots + 1) c.self.view_is ∙ sym c.requires.width ∙ sym c.args.numbers.now.ok.0) in
    subst (IsRead (length c.args.self.now.slots + 1) c.args.coeffs.now c.args.constant c.args.self.now.table c.args.self.now.d) (sym same)
    (subst (λ (b : BasisState). IsRead (length b.slots + 1) c.args.coeffs.now c.args.constant b.table b.d c.read_row.new.numbers) c.self.view_is read)

pub invariant_of-self : goal.invariant_of-self
invariant_of-self c =
    let width = ap (λ (xs : List ℤ). length xs) c.deref_mut-2.ensures.value ∙ c.requires.width ∙ ap (λ (b : BasisState). length b.slots + 1) (sym c.self.view_is) in
    let supports = with_items_is c.self.inside.supports c.read_row.new.supports (c.read_row.auto.supports ∙ c.deref_mut.ensures.len) in
    rw supports (kept c.self.inside.slots.items c.self.inside.d c.self.inside.table.items c.self.inside.changed.items c.read_row.new.supports (length c.self.inside.slots.items) refl
    c.self.invariant.shape.few c.self.invariant.shape.size c.self.invariant.count c.self.invariant.unit
    (c.read_row.auto.supports ∙ ap (λ (xs : List Support). length xs) c.deref_mut.ensures.value ∙ c.self.invariant.known_count)
    (rw (width, c.deref-2.ensures.value) at c.read_row.ensures.known))

pub returns-clause-small : goal.returns-clause-small
returns-clause-small c =
    let r = c.requires.row in
    numbers_small r.system r.members _ r.most r.small r.i c.args.coeffs.now c.args.constant r.row _ (returns-clause-read c) r.room
