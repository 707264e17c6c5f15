use Rattle.std.proofs.Common.{◌≡◌, ◌+◌, ◌∷◌, [], Ok, IfOk, OnOk, get_or, take, refl, sym, subst, ◌∙◌}
use Rattle.rg_theory.specs.declared.Problem.TheVariants.{Event}
use Rattle.rg_blocks.specs.Taking.{IsTakenOver}
use Rattle.rg_blocks.specs.Searching.{IsSearching}
use Rattle.rg_blocks.proofs.TakingLemmas.{turn_more, turn_ended}
use Rattle.rg_blocks.proofs.taking.solve_in_turn.Goals.{in-Some, in-None}
use Rattle.rg_blocks.proofs.taking.solve_in_turn.Goals as goal

pub loop-i-preserved : goal.loop-i-preserved
loop-i-preserved g c =
    let lts = c.args.search.now.lts.now in
    let comes = g.S.Solving.comes c.args.search.now.solving.now in
    let before = g.K.Keeping.places c.args.progress.now.kept in
    let now = g.K.Keeping.places c.loop-i.progress.kept in
    let problems = c.args.problems.now in
    let i = c.loop-i.i in
    let end = c.in_ok-refuted.refuted in
    elim c.match-refuted.branch [
      | in-Some w ↦
          let same : c.loop-i.refuted ≡ end = (let e = w.taken-is in let f = c.in_ok-refuted.was in cc) in
          subst (λ progress. IsSearching c.args.search.now g.K.Keeping.keeps_for g.S.Solving.serves g.S.Solving.proves progress
          × IsTakenOver lts comes before (take (i + 1) problems) (g.K.Keeping.places progress.kept) end) (sym w.progress-is) (
            c.loop-i.invariant.0,
            subst (IsTakenOver lts comes before (take (i + 1) problems) now) same
                (turn_ended lts comes before now now c.loop-i.refuted problems i (Event 0 0) w.in-Some.field-0 c.loop-i-test.true w.in-Some.is c.loop-i.invariant.1),
          )
      | in-None w ↦
          let after = g.K.Keeping.places w.take-taken.new.progress.kept in
          let is : w.take-taken.result ≡ Ok end = sym w.taken-is ∙ c.in_ok-refuted.was in
          subst (λ progress. IsSearching c.args.search.now g.K.Keeping.keeps_for g.S.Solving.serves g.S.Solving.proves progress
          × IsTakenOver lts comes before (take (i + 1) problems) (g.K.Keeping.places progress.kept) end) (sym w.progress-is) (
            subst (λ r. OnOk r (IsSearching c.args.search.now g.K.Keeping.keeps_for g.S.Solving.serves g.S.Solving.proves w.take-taken.new.progress)) is w.take-taken.ensures.searching,
            turn_more lts comes before now after end problems i (get_or problems i (Event 0 0)) (Event 0 0) c.loop-i-test.true refl
                (subst (IsTakenOver lts comes before (take i problems) now) w.in-None.is c.loop-i.invariant.1)
                (subst (λ r. IfOk r (IsTakenOver lts comes now (get_or problems i (Event 0 0) ∷ []) after)) is w.take-taken.ensures.taken),
          )
    ]
