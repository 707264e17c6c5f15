use Rattle.std.proofs.Common.{rules, ◌^◌, ◌<◌, ap, refl, subst, sym, ◌∙◌, arith}
use Rattle.std.specs.Prelude.{ℤ, pos, ◌<ℤ◌, unsigned_abs, FitsSigned}
use Rattle.std.specs.Int.{w64}
use Rattle.std.proofs.lemmas.Int.{to_z-of_z, ints}
use Rattle.rg_revised.specs.View.{TableauState}
use Rattle.rg_revised.specs.State.{CanExchange}
use Rattle.rg_revised.proofs.Advancing.{long_exchange}
use Rattle.rg_revised.proofs.tableau.Tableau.exchange_long.Goals as goal

pub returns-clause-exchanged : goal.returns-clause-exchanged
returns-clause-exchanged c =
    let fo : FitsSigned w64 c.self.inside.over = search rules in
    let fl : FitsSigned w64 c.largest_size-largest.result = search rules in
    let fm : FitsSigned w64 c.largest-self-inside.result = search rules in
    let at = subst (λ (t : TableauState). CanExchange t c.args.p c.args.variable) (sym c.self.view_is) c.requires.relation in
    let long = ap (λ (t : TableauState). t.long) c.self.view_is ∙ c.requires.long in
    let d = rw (to_z-of_z w64 c.self.inside.over fo) at c.largest_size-largest.ensures.d in
    let within = rw c.deref.ensures.value at c.largest_size-largest.ensures.within in
    let fits = rw (to_z-of_z w64 c.largest_size-largest.result fl) at c.if-not-fits_exchange.ensures in
    let exchange = rw (to_z-of_z w64 c.self.inside.over fo, c.deref_mut.ensures.value) at c.if-not-exchange_long.ensures.exchanged in
    rw (to_z-of_z w64 c.largest-self-inside.result fm, ← c.self.view_is)
    (λ yes. long_exchange _ c.self.inside.numbers.items c.args.p c.args.variable c.exchange_long.new.self c.largest_size-largest.result
    c.largest-self-inside.result long d within (fits refl) (exchange refl) (record {
      d = c.largest-self-inside.ensures.d;
      within = c.largest-self-inside.ensures.within;
      positive = c.largest-self-inside.ensures.positive;
      short = below c.largest-self-inside.result c.largest-self-inside.ensures.positive fm;
    }))
  where
    below : (z : ℤ) → pos 0 <ℤ z → FitsSigned w64 z → unsigned_abs z < 2 ^ 63
    below z h f = omega (arith, ints)
