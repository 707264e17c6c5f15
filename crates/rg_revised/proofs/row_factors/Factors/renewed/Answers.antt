use Rattle.std.proofs.Common.{rules}
use Rattle.std.specs.Prelude.{FitsSigned}
use Rattle.std.specs.Int.{w64}
use Rattle.std.proofs.lemmas.Int.{to_z-of_z}
use Rattle.rg_revised.proofs.row_factors.Factors.renewed.Goals as goal

pub returns-clause-value : goal.returns-clause-value
returns-clause-value c =
    let fs : FitsSigned w64 c.args.self.size = search rules in
    let fl : FitsSigned w64 c.args.self.leaving = search rules in
    let fa : FitsSigned w64 c.args.a = search rules in
    let fc : FitsSigned w64 c.args.c = search rules in
    let s = to_z-of_z w64 c.args.self.size fs in
    let l = to_z-of_z w64 c.args.self.leaving fl in
    let a = to_z-of_z w64 c.args.a fa in
    let b = to_z-of_z w64 c.args.c fc in
    rw (a, s, b, l) at c.renew_number.ensures.value

pub returns-clause-within : goal.returns-clause-within
returns-clause-within c =
    let fm : FitsSigned w64 c.args.self.most = search rules in
    let m = to_z-of_z w64 c.args.self.most fm in
    rw m at c.renew_number.ensures.within
