use Rattle.std.proofs.Common.{rules, ◌+◌, ◌<◌, [], ◌∷◌, length, get_or, map, Ok, Err, ap, sym, subst, ◌∙◌, arith}
use Rattle.std.proofs.lemmas.List.{length-map, length-append, get_or-map}
use Rattle.std.specs.Prelude.{pos, ◌≤ℤ◌, FitsSigned}
use Rattle.std.specs.Int.{w128}
use Rattle.std.proofs.lemmas.Int.{to_z-of_z}
use Rattle.rg_linear.specs.Branching.{Weight}
use Rattle.rg_case_folds.specs.Spreading.{share_fold}
use Rattle.rg_case_folds.proofs.Items.{item_next, item_fails, items_end, map_push}
use Rattle.rg_branch.specs.View.{weight_of}
use Rattle.rg_rows.specs.Forms.{split_of}
use Rattle.rg_farkas.specs.Leaves.{share_of}
use Rattle.rg_separate.specs.Casing.{sides_among}
use Rattle.rg_separate.proofs.Siding.{weight_is}
use Rattle.rg_separate.proofs.shares.shares.Goals as goal

-- a weight for a list that has none
none : Weight
none = record { row = 0; multiplier = pos 0 }

pub share-requires-clause-row : goal.share-requires-clause-row
share-requires-clause-row c = weight_is (λ (w : Weight). w.row < length c.args.named.now.system.rows + length c.args.above.now) c.args.weights.now
    c.loop-row.row-index _ c.requires.rows c.loop-row-test.true

pub share-requires-clause-not_negative : goal.share-requires-clause-not_negative
share-requires-clause-not_negative c =
    let fits : FitsSigned w128 (get_or c.args.weights.now c.loop-row.row-index (0, pos 0)).1 = search rules in
    let least = weight_is (λ (w : Weight). pos 0 ≤ℤ w.multiplier) c.args.weights.now c.loop-row.row-index (0, pos 0) c.requires.not_negative c.loop-row-test.true in
    subst (λ z. pos 0 ≤ℤ z) {x = (get_or c.args.weights.now c.loop-row.row-index (0, pos 0)).1} (sym (to_z-of_z w128 _ fits)) least

pub returns-in-Err-clause-comes : goal.returns-in-Err-clause-comes
returns-in-Err-clause-comes c = λ case shows.
    let weights = c.args.weights.now in
    let i = c.loop-row.row-index in
    let fold = share_fold case c.args.above.now (sides_among (map split_of c.args.named.now.forms) c.args.above.now) in
    let fits : FitsSigned w128 (get_or weights i (0, pos 0)).1 = search rules in
    let one = subst (λ z. fold (record { row = (get_or weights i (0, pos 0)).0; multiplier = z }) (Err c.in-Err.wide))
    (to_z-of_z w128 (get_or weights i (0, pos 0)).1 fits) (c.in-Err.ensures case shows) in
    let here = subst (λ (x : Weight). fold x (Err c.in-Err.wide)) (sym (get_or-map weight_of weights i (0, pos 0) none c.loop-row-test.true)) one in
    item_fails fold (map weight_of weights) i none (map share_of c.loop-row.shares.items) (c.loop-row.invariant.so_far case shows)
    (let t = c.loop-row-test.true in let e = length-map weights weight_of in omega arith) c.in-Err.wide here

pub loop-row-preserved : goal.loop-row-preserved
loop-row-preserved c = record {
  so_far = λ case shows.
      (let weights = c.args.weights.now in
      let i = c.loop-row.row-index in
      let fold = share_fold case c.args.above.now (sides_among (map split_of c.args.named.now.forms) c.args.above.now) in
      let fits : FitsSigned w128 (get_or weights i (0, pos 0)).1 = search rules in
      let one = subst (λ z. fold (record { row = (get_or weights i (0, pos 0)).0; multiplier = z }) (Ok (share_of c.in-Ok.share)))
      (to_z-of_z w128 (get_or weights i (0, pos 0)).1 fits) (c.in-Ok.ensures case shows) in
      let here = subst (λ (x : Weight). fold x (Ok (share_of c.in-Ok.share))) (sym (get_or-map weight_of weights i (0, pos 0) none c.loop-row-test.true)) one in
      rw (map_push share_of c.loop-row.shares.items c.push.new.self.items c.in-Ok.share c.in_ok-push-in-Ok.ensures.items)
      (item_next fold (map weight_of weights) i none (map share_of c.loop-row.shares.items) (c.loop-row.invariant.so_far case shows)
      (let t = c.loop-row-test.true in let e = length-map weights weight_of in omega arith) (share_of c.in-Ok.share) here));
  one_each = ap length c.in_ok-push-in-Ok.ensures.items ∙ length-append c.loop-row.shares.items (c.in-Ok.share ∷ []) ∙ (let e = c.loop-row.invariant.one_each in omega arith);
}

pub returns-clause-comes : goal.returns-clause-comes
returns-clause-comes c = λ case shows. items_end
    (share_fold case c.args.above.now (sides_among (map split_of c.args.named.now.forms) c.args.above.now))
    (map weight_of c.args.weights.now) c.loop-row.row-index none (map share_of c.loop-row.shares.items) (c.loop-row.invariant.so_far case shows)
    (let t = c.loop-row-test.false in let e = length-map c.args.weights.now weight_of in omega arith)
