use Rattle.std.proofs.Common.{rules, ◌≡◌, ℕ, ◌<◌, length, subst, ◌∙◌, arith}
use Rattle.std.specs.Prelude.{pos, slice_index, FitsSigned}
use Rattle.std.specs.Int.{w64}
use Rattle.std.proofs.lemmas.Int.{to_z-of_z}
use Rattle.std.proofs.lemmas.List.{get_or_default}
use Rattle.rg_integers.specs.Sum.{number_at}
use Rattle.rg_revised.specs.View.{TableauState}
use Rattle.rg_revised.proofs.tableau.Tableau.number_of.Goals as goal

pub returns-in-Some-clause-found : goal.returns-in-Some-clause-found
returns-in-Some-clause-found c =
    let (lt, at) = rw c.slots.ensures at c.in-Some.ensures.found in
    let inside : c.in-Some.slot < length c.self.inside.numbers.items = omega (arith, lt, c.self.invariant.numbers) in
    let fits : FitsSigned w64 c.index.result.now = search rules in
    rw (to_z-of_z w64 c.index.result.now fits)
    (subst (λ (t : TableauState). (s : ℕ) × (s < length t.basis.slots) × (slice_index t.basis.slots s ≡ c.args.variable) × (c.index.result.now ≡ number_at t.numbers s)) c.self.view_is
    (c.in-Some.slot, lt, at, c.index.ensures ∙ get_or_default c.self.inside.numbers.items c.in-Some.slot c.index.result.now (pos 0) inside))
