use Rattle.std.proofs.Common.{rules, ◌≡◌, ◌<◌, length, All, sym, subst}
use Rattle.rg_outcome.specs.Coming.{IsLeft}
use Rattle.rg_blocks.specs.Taking.{IsTakenOver}
use Rattle.rg_blocks.proofs.RankLemmas.{behind_falls}
use Rattle.rg_blocks.proofs.SolvedLemmas.{block_is_left, empty_is_done, end_is}
use Rattle.rg_blocks.proofs.SeparationLemmas.{block_leads, block_ends, block_sound, all_end}
use Rattle.rg_blocks.proofs.separation.solve_all.Goals as goal

pub take_block-requires-clause-left : goal.take_block-requires-clause-left
take_block-requires-clause-left g c κs within =
    let kept = g.K.Keeping.places c.loop-block.progress.kept in
    subst (λ xs. All (IsLeft c.args.search.now.lts.now kept) xs) (sym c.deref.ensures.value)
    (block_is_left c.args.search.now.lts.now kept c.loop-block.last c.in_ok-block.block.items c.in_ok-block.ensures.block)

pub returns-then-is_empty-clause-comes : goal.returns-then-is_empty-clause-comes
returns-then-is_empty-clause-comes g c =
    let lts = c.args.search.now.lts.now in
    let now = g.K.Keeping.places c.loop-block.progress.kept in
    let none : length c.in_ok-block.block.items ≡ 0 = search rules in
    let done = empty_is_done lts now c.loop-block.last c.in_ok-block.block.items none c.in_ok-block.ensures.end in
    all_end lts (g.S.Solving.comes c.args.search.now.solving.now) (g.K.Keeping.places c.args.progress.now.kept) now c.loop-block.last c.next_problem.result
    c.requires.can.reachable done c.loop-block.invariant.0 c.loop-block.invariant.2 c.next_problem.ensures.some c.next_problem.ensures.none

pub returns-in-Some-clause-comes : goal.returns-in-Some-clause-comes
returns-in-Some-clause-comes g c =
    let lts = c.args.search.now.lts.now in
    let comes = g.S.Solving.comes c.args.search.now.solving.now in
    let before = g.K.Keeping.places c.args.progress.now.kept in
    let now = g.K.Keeping.places c.loop-block.progress.kept in
    let after = g.K.Keeping.places c.take_block.new.progress.kept in
    let taken = subst (λ xs. IsTakenOver lts comes now xs after c.in_ok-refuted.field-0) c.deref.ensures.value c.in_ok-refuted.ensures.taken in
    block_ends lts comes before now after c.loop-block.last c.in_ok-block.block.items c.in-Some.refuted c.loop-block.invariant.0
    c.in_ok-block.ensures.block (subst (IsTakenOver lts comes now c.in_ok-block.block.items after) c.in-Some.is taken)

pub loop-block-smaller : goal.loop-block-smaller
loop-block-smaller g c =
    let some : 0 < length c.in_ok-block.block.items = search rules in
    let n : c.len.result ≡ length c.in_ok-block.block.items = search rules in
    let end = end_is c.args.search.now.lts.now
    (g.K.Keeping.places c.loop-block.progress.kept) c.loop-block.last c.in_ok-block.block.items c.index-end.result.now c.len.result
    c.in_ok-block.ensures.block some n c.index-end.ensures in
    behind_falls c.args.search.now.lts.now c.loop-block.last c.index-end.result.now c.loop-block.invariant.1 end.1 end.2

pub loop-block-preserved : goal.loop-block-preserved
loop-block-preserved g c =
    let lts = c.args.search.now.lts.now in
    let comes = g.S.Solving.comes c.args.search.now.solving.now in
    let before = g.K.Keeping.places c.args.progress.now.kept in
    let now = g.K.Keeping.places c.loop-block.progress.kept in
    let after = g.K.Keeping.places c.take_block.new.progress.kept in
    let some : 0 < length c.in_ok-block.block.items = search rules in
    let n : c.len.result ≡ length c.in_ok-block.block.items = search rules in
    let end = end_is lts now c.loop-block.last c.in_ok-block.block.items c.index-end.result.now c.len.result c.in_ok-block.ensures.block some n c.index-end.ensures in
    let taken = subst (λ xs. IsTakenOver lts comes now xs after c.in_ok-refuted.field-0) c.deref.ensures.value c.in_ok-refuted.ensures.taken in
    let taken_all = subst (IsTakenOver lts comes now c.in_ok-block.block.items after) c.in_default.is taken in (
      block_leads lts comes before now after c.loop-block.last _ c.in_ok-block.block.items c.loop-block.invariant.0 c.in_ok-block.ensures.block end.0 taken_all,
      end.1,
      block_sound lts comes now after c.loop-block.last _ c.in_ok-block.block.items c.requires.can.reachable c.requires.can.separating
          c.loop-block.invariant.2 c.in_ok-block.ensures.block end.0 taken_all,
      c.in_ok-refuted.ensures.searching,
    )
