use Rattle.std.proofs.Common.{◌<◌, ◌≤◌, ◌+◌, List, ◌∷◌, map, length, drop, get_or, sym, subst, ap, ◌∙◌}
use Rattle.std.specs.Int.{w64}
use Rattle.std.proofs.lemmas.Int.{to_z-of_z, fits_signed_from_abs}
use Rattle.std.proofs.lemmas.List.{length-map}
use Rattle.std.proofs.Math.ListN.{drop_of_length-le}
use Rattle.rg_cert_data.specs.declared.certificate.Node.{Node}
use Rattle.rg_cert_data.specs.Certificates.{case_tree, IsNodeOf}
use Rattle.rg_branch_trees.specs.Trees.{TreeNode.leaf_node}
use Rattle.rg_cert_data.specs.Trees.{TreeNode, named_row, node_of, nodes_of}
use Rattle.rg_verify.proofs.Walking.{IsAtNode, at_first, node_in_range, after_split, after_leaf, found_at, found_split, at_last}
use Rattle.rg_verify.proofs.Places.{drop_image}
use Rattle.rg_verify.proofs.cases.case_defect.Goals as goal
use Rattle.rg_verify.proofs.cases.case_defect.Goals.{in-Split+else-not-stands+in_ok-push-in-Split, in-Leaf+in_ok-defect-in-Leaf+in_default}
use Rattle.rg_cert_meaning.specs.Row.{Side}

pub loop-node-init : goal.loop-node-init
loop-node-init c = record {
  items = c.deref-content-items.ensures.value;
  clear = c.requires.clear;
  at_node = subst (λ (sides : List Side). IsAtNode c.args.lts.now c.args.problem_case.class c.args.problem_case.problem c.args.problem_case.number
      (case_tree c.args.case.now) (nodes_of c.args.case.now) 0 sides) (sym c.new-above.ensures.items)
      (at_first c.args.lts.now c.args.problem_case.class c.args.problem_case.problem c.args.problem_case.number (case_tree c.args.case.now) (nodes_of c.args.case.now) c.requires.whole);
}

pub leaf_defect-requires-clause-rows : goal.leaf_defect-requires-clause-rows
leaf_defect-requires-clause-rows c =
    let items = c.loop-node.invariant.items in
    let lt = subst (λ (xs : List Node). c.loop-node.node < length xs) items c.loop-node-test.true in
    let at = c.content-item.is ∙ ap (λ (xs : List Node). get_or xs c.loop-node.node c.content-item.result) items in
    let is = ap node_of c.in-Leaf.is ∙ ap (λ rows. leaf_node (map named_row rows)) (sym c.deref-in-Leaf.ensures.value) in
    subst (IsNodeOf c.args.lts.now) is (node_in_range c.args.lts.now c.args.case.now c.loop-node.node c.content-item.result c.requires.whole c.requires.in_range lt at)

pub returns-in-Some-clause-judged : goal.returns-in-Some-clause-judged
returns-in-Some-clause-judged c =
    let items = c.loop-node.invariant.items in
    let lt = subst (λ (xs : List Node). c.loop-node.node < length xs) items c.loop-node-test.true in
    let at = c.content-item.is ∙ ap (λ (xs : List Node). get_or xs c.loop-node.node c.content-item.result) items in
    let is = ap node_of c.in-Leaf.is ∙ ap (λ rows. leaf_node (map named_row rows)) (sym c.deref-in-Leaf.ensures.value) in
    let rest = drop_image node_of c.args.case.now.nodes.items c.loop-node.node c.content-item.result lt at ∙ ap (λ (n : TreeNode). n ∷ drop (c.loop-node.node + 1) (nodes_of c.args.case.now)) is in
    let judged = rw (c.in-Some.is, c.deref.ensures.value) at c.in_ok-defect-in-Leaf.ensures.judged in
    found_at c.args.lts.now c.args.problem_case.class c.args.problem_case.problem c.args.problem_case.number (case_tree c.args.case.now)
    (nodes_of c.args.case.now) c.loop-node.node c.loop-node.above.items c.loop-node.invariant.at_node
    (map named_row c.deref-in-Leaf.result.now) c.in-Some.defect rest judged

pub returns-then-not-stands-clause-judged : goal.returns-then-not-stands-clause-judged
returns-then-not-stands-clause-judged c =
    let items = c.loop-node.invariant.items in
    let lt = subst (λ (xs : List Node). c.loop-node.node < length xs) items c.loop-node-test.true in
    let at = c.content-item.is ∙ ap (λ (xs : List Node). get_or xs c.loop-node.node c.content-item.result) items in
    let is = ap node_of c.in-Split.is in
    let rest = drop_image node_of c.args.case.now.nodes.items c.loop-node.node c.content-item.result lt at ∙ ap (λ (n : TreeNode). n ∷ drop (c.loop-node.node + 1) (nodes_of c.args.case.now)) is in
    found_split c.args.lts.now c.args.problem_case.class c.args.problem_case.problem c.args.problem_case.number (case_tree c.args.case.now)
    (nodes_of c.args.case.now) c.loop-node.node c.loop-node.above.items c.loop-node.invariant.at_node
    c.in-Split.form c.in-Split.at rest (λ stands. (let e = c.stands.ensures.1 stands in let f = c.if-not-stands.true in cc))

pub loop-node-preserved : goal.loop-node-preserved
loop-node-preserved c =
    let items = c.loop-node.invariant.items in
    let lt = subst (λ (xs : List Node). c.loop-node.node < length xs) items c.loop-node-test.true in
    let at = c.content-item.is ∙ ap (λ (xs : List Node). get_or xs c.loop-node.node c.content-item.result) items in
    let rest = drop_image node_of c.args.case.now.nodes.items c.loop-node.node c.content-item.result lt at in
    let good = node_in_range c.args.lts.now c.args.case.now c.loop-node.node c.content-item.result c.requires.whole c.requires.in_range lt at in
    let at_next = λ (sides : List Side). IsAtNode c.args.lts.now c.args.problem_case.class c.args.problem_case.problem c.args.problem_case.number
    (case_tree c.args.case.now) (nodes_of c.args.case.now) (c.loop-node.node + 1) sides in
    elim c.match-content.branch [
      | in-Split+else-not-stands+in_ok-push-in-Split w ↦
          let is = ap node_of w.in-Split.is in
          let range = subst (IsNodeOf c.args.lts.now) is good in
          let back = to_z-of_z w64 w.in-Split.at (fits_signed_from_abs w64 w.in-Split.at range.1) in
          let pushed = rw back at w.in_ok-push-in-Split.ensures.items in
          let sides = pushed in
          rw (w.sums-is, w.above-is) (record {
            items = items;
            clear = c.loop-node.invariant.clear;
            at_node = subst at_next (sym sides) (after_split c.args.lts.now c.args.problem_case.class c.args.problem_case.problem
                c.args.problem_case.number (case_tree c.args.case.now) (nodes_of c.args.case.now) c.loop-node.node c.loop-node.above.items
                c.loop-node.invariant.at_node w.in-Split.form w.in-Split.at
                (rest ∙ ap (λ (n : TreeNode). n ∷ drop (c.loop-node.node + 1) (nodes_of c.args.case.now)) is) range (w.stands.ensures.0 w.if-not-stands.false));
          })
      | in-Leaf+in_ok-defect-in-Leaf+in_default w ↦
          let is = ap node_of w.in-Leaf.is ∙ ap (λ rows. leaf_node (map named_row rows)) (sym w.deref-in-Leaf.ensures.value) in
          let refutes = rw (w.in_default.is, w.deref.ensures.value) at w.in_ok-defect-in-Leaf.ensures.judged in
          rw (w.sums-is, w.above-is) (record {
            items = items;
            clear = w.in_ok-defect-in-Leaf.ensures.clear;
            at_node = subst at_next (sym w.turn.ensures)
                (after_leaf c.args.lts.now c.args.problem_case.class c.args.problem_case.problem c.args.problem_case.number
                (case_tree c.args.case.now) (nodes_of c.args.case.now) c.loop-node.node c.loop-node.above.items
                c.loop-node.invariant.at_node (map named_row w.deref-in-Leaf.result.now) (rest ∙ ap (λ (n : TreeNode). n ∷ drop (c.loop-node.node + 1) (nodes_of c.args.case.now)) is) refutes);
          })
    ]

pub returns-clause-judged : goal.returns-clause-judged
returns-clause-judged c =
    let past = subst (λ (xs : List Node). length xs ≤ c.loop-node.node) c.loop-node.invariant.items c.loop-node-test.false in
    at_last c.args.lts.now c.args.problem_case.class c.args.problem_case.problem c.args.problem_case.number (case_tree c.args.case.now)
    (nodes_of c.args.case.now) c.loop-node.node c.loop-node.above.items c.loop-node.invariant.at_node
    (drop_of_length-le (nodes_of c.args.case.now) (rw length-map past))
