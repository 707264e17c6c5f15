use Rattle.std.proofs.Common.{rules, ◌≡◌, sym, ◌∙◌, arith}
use Rattle.std.specs.Prelude.{pos, ◌*ℤ◌, ◌-ℤ◌, FitsSigned}
use Rattle.std.specs.Int.{w64}
use Rattle.std.proofs.lemmas.Int.{to_z-of_z, ints}
use Rattle.rg_revised.proofs.row_factors.Factors.short_quotient.Goals as goal

pub returns-then-difference-n-clause-value : goal.returns-then-difference-n-clause-value
returns-then-difference-n-clause-value c =
    let fq : FitsSigned w64 c.candidate-q.result = search rules in
    let fv : FitsSigned w64 c.args.self.by.value = search rules in
    let fs : FitsSigned w64 c.args.self.size = search rules in
    let fl : FitsSigned w64 c.args.self.leaving = search rules in
    let fa : FitsSigned w64 c.args.a = search rules in
    let fc : FitsSigned w64 c.args.c = search rules in
    let q = to_z-of_z w64 c.candidate-q.result fq in
    let v = to_z-of_z w64 c.args.self.by.value fv in
    let s = to_z-of_z w64 c.args.self.size fs in
    let l = to_z-of_z w64 c.args.self.leaving fl in
    let a = to_z-of_z w64 c.args.a fa in
    let b = to_z-of_z w64 c.args.c fc in
    let same : c.difference.result ≡ c.difference-n.result = search rules in
    let is = rw (q, v) at c.difference.ensures.value in
    let n = rw (a, s, b, l) at c.difference-n.ensures.value in
    let none : (c.args.self.by.value *ℤ c.candidate-q.result) ≡ (c.args.self.by.value *ℤ c.candidate-q.result) -ℤ (pos 0 *ℤ pos 0) = omega (arith, ints) in
    rw q (none ∙ sym is ∙ same ∙ n)
