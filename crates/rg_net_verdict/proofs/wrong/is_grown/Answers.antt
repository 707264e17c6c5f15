use Rattle.std.proofs.Common.{◌<◌, length, None, sym, ◌∙◌, arith}
use Rattle.std.proofs.lemmas.Bool.Decides.{Decides-eqb}
use Rattle.std.proofs.lemmas.List.{get_or_default}
use Rattle.rg_theory.proofs.Arcs.{arc_in_range}
use Rattle.rg_net_verdict.proofs.Treading.{grown_fires}
use Rattle.rg_net_verdict.proofs.wrong.is_grown.Goals as goal

pub returns-then-a-s : goal.returns-then-a-s
returns-then-a-s c =
    let m = c.args.marked in
    let is = c.requires.marked in
    let parents = m.tree.now.parents.items in
    let range = arc_in_range m.lts.now is.system c.args.s c.args.t c.args.to c.requires.arc in
    let within : c.args.to < length parents = (let n = is.tree.one_each in let lt = range.2 in omega arith) in
    let at = sym (c.index.ensures ∙ get_or_default parents c.args.to c.index.result.now None within) ∙ c.in-Some.is in
    λ e. grown_fires m is c.in-Some.a c.args.s c.args.t c.args.to at c.if-a-s.true ((Decides-eqb c.in-Some.a.label c.args.t).0 e)
