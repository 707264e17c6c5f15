use Rattle.std.proofs.Common.{rules, ◌≡◌, ◌++◌, ◌∷◌, [], length, length-append, sym, ap, subst, ◌∙◌, arith}
use Rattle.rg_outcome.specs.Coming.{IsNext}
use Rattle.rg_outcome.specs.Blocks.{IsBlock, last_of}
use Rattle.rg_blocks.proofs.LeftLemmas.{block_more, last_more}
use Rattle.rg_blocks.proofs.block.next_block.Goals as goal

pub loop-i-preserved : goal.loop-i-preserved
loop-i-preserved g c =
    let lts = c.args.lts.now in
    let kept = g.K.Keeping.places c.args.kept.now in
    let last = c.args.last in
    let block = c.loop-i.block.items in
    let p = c.in-Some.problem in
    let items : c.push.new.self.items ≡ block ++ p ∷ [] = search rules in
    let found : IsNext lts kept c.loop-i.at p = c.in-Some.ensures.some in
    let next : IsNext lts kept (last_of last block) p = subst (λ a. IsNext lts kept a p) c.loop-i.invariant.1 found in (
      subst (IsBlock lts kept last) (sym items) (block_more lts kept last block p c.loop-i.invariant.0 next),
      sym (ap (last_of last) items ∙ last_more last block p),
      found.0.0.0,
      (let l = length-append block (p ∷ []) in let e = ap length items in let f = c.loop-i.invariant.3 in omega arith),
    )
