use Rattle.std.proofs.Common.{rules, ◌+◌, ◌*◌, ◌-◌, ◌∷◌, length, ap, subst, sym, ◌∙◌, arith}
use Rattle.std.proofs.Math.ListN.{set, length-set}
use Rattle.std.specs.Prelude.{FitsSigned}
use Rattle.std.specs.Int.{w64, w128}
use Rattle.std.proofs.lemmas.Int.{to_z-of_z}
use Rattle.rg_integers.proofs.Casts.{back}
use Rattle.rg_integers.proofs.Short.{short_in_range}
use Rattle.rg_revised.specs.Rows.{TableWithin}
use Rattle.rg_revised.specs.Reading.{IsRead}
use Rattle.rg_revised.specs.View.{BasisState}
use Rattle.rg_revised.specs.State.{CanSum}
use Rattle.rg_revised.proofs.Stepping.{summable_row}
use Rattle.rg_revised.proofs.LongRows.{headed, length-rest, in_range-headed}
use Rattle.rg_revised.proofs.basis.Basis.sum.Goals as goal

pub sum_row-requires : goal.sum_row-requires
sum_row-requires c =
    let fd : FitsSigned w64 c.self.inside.d = search rules in
    let fk : FitsSigned w128 c.args.constant = search rules in
    let r = subst (λ (b : BasisState). CanSum b c.args.coeffs.now c.args.constant) (sym c.self.view_is) c.requires.row in
    let width = c.requires.width ∙ ap (λ (b : BasisState). length b.slots + 2) (sym c.self.view_is) in
    let d = c.from.ensures ∙ to_z-of_z w64 c.self.inside.d fd in
    let rest = length-rest c.args.sums.now c.self.inside.d (length c.self.inside.slots.items + 1) (omega (arith, width)) in
    let each = r.row.each ∙ sym r.small.held.count in
    rw (d, back c.self.inside.d (short_in_range c.self.inside.d fd), rest, c.deref.ensures.value, to_z-of_z w64 c.self.inside.d fd, to_z-of_z w128 c.args.constant fk) (record {
      width = omega arith;
      size = c.self.invariant.shape.size ∙ ap (λ n. n * (length c.self.inside.slots.items + 1)) (sym each);
      small = (
        r.norm,
        r.most,
        summable_row r.system r.members _ r.most r.small r.i c.args.coeffs.now c.args.constant r.row r.norm r.long r.room,
        subst (λ n. TableWithin (length c.self.inside.slots.items + 1) n r.most c.self.inside.table.items) (sym each) r.small.within,
        r.small.d_within,
      );
    })

pub returns-clause-sums : goal.returns-clause-sums
returns-clause-sums c =
    let fd : FitsSigned w64 c.self.inside.d = search rules in
    let fk : FitsSigned w128 c.args.constant = search rules in
    let width = c.requires.width ∙ ap (λ (b : BasisState). length b.slots + 2) (sym c.self.view_is) in
    let d = c.from.ensures ∙ to_z-of_z w64 c.self.inside.d fd in
    let rest = length-rest c.args.sums.now c.self.inside.d (length c.self.inside.slots.items + 1) (omega (arith, width)) in
    let read = rw (d, back c.self.inside.d (short_in_range c.self.inside.d fd), rest, c.deref.ensures.value, to_z-of_z w64 c.self.inside.d fd, to_z-of_z w128 c.args.constant fk) at
    c.sum_row.ensures.read in
    rw (d, back c.self.inside.d (short_in_range c.self.inside.d fd)) (
      c.sum_row.new.sums,
      headed c.args.sums.now c.sum_row.new.sums c.self.inside.d (length (set c.args.sums.now 0 c.self.inside.d) - 1) (omega (arith, width, read.same_length))
          (let n = length-set c.args.sums.now 0 c.self.inside.d in omega (arith, width, read.same_length))
          ∙ ap (λ (b : BasisState). b.d ∷ c.sum_row.new.sums) c.self.view_is,
      subst (λ (b : BasisState). IsRead (length b.slots + 1) c.args.coeffs.now c.args.constant b.table b.d c.sum_row.new.sums) c.self.view_is read,
    )

pub returns-clause-in_range : goal.returns-clause-in_range
returns-clause-in_range c =
    let fd : FitsSigned w64 c.self.inside.d = search rules in
    let fk : FitsSigned w128 c.args.constant = search rules in
    let width = c.requires.width ∙ ap (λ (b : BasisState). length b.slots + 2) (sym c.self.view_is) in
    let d = c.from.ensures ∙ to_z-of_z w64 c.self.inside.d fd in
    let rest = length-rest c.args.sums.now c.self.inside.d (length c.self.inside.slots.items + 1) (omega (arith, width)) in
    let read = rw (d, back c.self.inside.d (short_in_range c.self.inside.d fd), rest, c.deref.ensures.value, to_z-of_z w64 c.self.inside.d fd, to_z-of_z w128 c.args.constant fk) at
    c.sum_row.ensures.read in
    let range = rw (d, back c.self.inside.d (short_in_range c.self.inside.d fd), rest) at c.sum_row.ensures.in_range in
    let is = headed c.args.sums.now c.sum_row.new.sums c.self.inside.d (length (set c.args.sums.now 0 c.self.inside.d) - 1) (omega (arith, width, read.same_length))
    (let n = length-set c.args.sums.now 0 c.self.inside.d in omega (arith, width, read.same_length)) in
    rw (d, back c.self.inside.d (short_in_range c.self.inside.d fd), is) (λ n lt.
    in_range-headed c.self.inside.d c.sum_row.new.sums (short_in_range c.self.inside.d fd) (λ k less. range k (omega (arith, read.same_length))) n (let l = read.same_length in omega arith))
