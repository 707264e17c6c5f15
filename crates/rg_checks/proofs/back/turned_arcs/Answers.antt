-- A sort by the state that is left keeps the arcs.
use Rattle.std.proofs.Common.{rules, map, subst, sym, ap, Contains, ◌∙◌, arith}
use Rattle.std.proofs.lemmas.List.Sorted.{IsNonDecreasingBy-from_sort_by_key, Contains-permutation, IsPermutation-sym}
use Rattle.rg_theory.specs.declared.Arc.{Arc}
use Rattle.rg_checks.specs.Back.{turned}
use Rattle.rg_checks.proofs.Returning.{turned_there, turned_from}
use Rattle.rg_checks.proofs.back.turned_arcs.Goals as goal

pub returns : goal.returns
returns c =
    let arcs = c.sort_by_key.new.self.items in
    let rises = IsNonDecreasingBy-from_sort_by_key (λ (a : Arc). a.from) arcs c.in_ok-sort_by_key.ensures.sorted (λ a r q k. search rules) in
    let same = c.in_ok-sort_by_key.ensures.permutation in
    let from = c.in_ok-arcs.ensures ∙ ap (map turned) c.arcs.ensures.value in
    record {
      members = λ a. (
        (λ has. turned_from c.args.lts.now.arcs a (subst (λ xs. Contains xs a) from (Contains-permutation _ _ a (IsPermutation-sym _ _ same) has))),
        (λ has. Contains-permutation _ _ a same (subst (λ xs. Contains xs a) (sym from) (turned_there c.args.lts.now.arcs (turned a) has))),
      );
      order = λ i j d less lt. rises i j d (omega (arith, less)) lt;
    }
