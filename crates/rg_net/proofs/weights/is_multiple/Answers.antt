use Rattle.std.proofs.Common.{◌↔◌, ◌%◌, ◌==◌, IsTrue, sym, subst}
use Rattle.rg_theory.specs.Class.{IsMultiple}
use Rattle.rg_net.proofs.Multiples.{multiple_by_rest}
use Rattle.rg_net.proofs.weights.is_multiple.Goals as goal

pub returns : goal.returns
returns c = subst (λ k. IsTrue ((c.args.number % k) == 0) ↔ IsMultiple c.args.n c.args.number) (sym c.from.ensures) (multiple_by_rest c.args.n c.args.number c.if-n-eq0.false)
