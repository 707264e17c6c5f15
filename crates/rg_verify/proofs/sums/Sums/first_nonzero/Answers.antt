use Rattle.std.proofs.Common.{[], ◌∷◌, ◌++◌, take, get_or, sym, subst, ap, ◌∙◌}
use Rattle.std.proofs.lemmas.List.{take_more, take_all}
use Rattle.rg_verify.specs.Sums.{signed_of}
use Rattle.rg_verify.proofs.Leftovers.{TellsFirst, tells_zero, tells_left, first_of_all, listed_entry}
use Rattle.rg_verify.proofs.sums.Sums.first_nonzero.Goals as goal
use Rattle.rg_verify.proofs.sums.Sums.first_nonzero.Goals.{then-not-is_zero, else-not-is_zero}
use Rattle.rg_cert_meaning.specs.declared.Variable.TheVariants.{Tokens}

pub get-requires : goal.get-requires
get-requires c = listed_entry c.args.self.now c.deref-variable-items.result.now c.loop-variable.variable-index (Tokens 0) c.requires c.loop-variable.invariant.items c.loop-variable-test.true

pub loop-variable-preserved : goal.loop-variable-preserved
loop-variable-preserved c = record {
  items = c.loop-variable.invariant.items;
  found =
      let more = take_more c.deref-variable-items.result.now c.loop-variable.variable-index (Tokens 0) c.loop-variable-test.true in
      let u = get_or c.deref-variable-items.result.now c.loop-variable.variable-index (Tokens 0) in
      let before = take c.loop-variable.variable-index c.deref-variable-items.result.now in
      let is = ap signed_of c.get.ensures in
      rw more (elim c.if-not-is_zero.branch [
        | then-not-is_zero w ↦ subst (TellsFirst c.args.self.now (before ++ u ∷ [])) (sym w.first-is)
            (tells_left c.args.self.now before c.loop-variable.first u w.first_of.result c.loop-variable.invariant.found
            (listed_entry c.args.self.now c.deref-variable-items.result.now c.loop-variable.variable-index
            (Tokens 0) c.requires c.loop-variable.invariant.items c.loop-variable-test.true)
            (λ e. absurd (let z = c.is_zero.ensures.1 (sym is ∙ e) in let f = w.if-not-is_zero.true in cc)) w.first_of.ensures)
        | else-not-is_zero w ↦ subst (TellsFirst c.args.self.now (before ++ u ∷ [])) (sym w.first-is)
            (tells_zero c.args.self.now before c.loop-variable.first u c.loop-variable.invariant.found (is ∙ c.is_zero.ensures.0 (let f = w.if-not-is_zero.false in f)))
      ]);
}

pub returns : goal.returns
returns c =
    let all = take_all c.loop-variable.variable-index c.deref-variable-items.result.now c.loop-variable-test.false in
    first_of_all c.args.self.now c.deref-variable-items.result.now c.loop-variable.first c.requires c.loop-variable.invariant.items
    (subst (λ vs. TellsFirst c.args.self.now vs c.loop-variable.first) all c.loop-variable.invariant.found)
