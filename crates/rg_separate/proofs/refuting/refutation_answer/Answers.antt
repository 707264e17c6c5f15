use Rattle.std.proofs.Common.{◌≡◌, ℕ, ◌+◌, ◌<◌, List, [], ◌∷◌, All, length, get_or, map, Err, ap, sym, subst, ◌∙◌, arith}
use Rattle.std.proofs.lemmas.List.{length-map, get_or-map, map-append}
use Rattle.rg_integers.specs.declared.term.Wide.{Wide}
use Rattle.rg_cert_meaning.specs.Row.{Side}
use Rattle.rg_cert_meaning.specs.Sides.{side_of}
use Rattle.rg_linear.specs.Branching.{SplitSide}
use Rattle.rg_case_folds.specs.Shown.{Shown, ShownWide}
use Rattle.rg_cert_data.specs.Trees as reasons
use Rattle.rg_outcome.specs.Casing.{CaseResult.passes, CaseComes}
use Rattle.rg_branch.specs.View.{node_of}
use Rattle.rg_branch.specs.declared.whole.RawNode.{RawNode}
use Rattle.rg_rows.specs.declared.named_form.NamedForm.{NamedForm}
use Rattle.rg_rows.specs.Forms.{split_of}
use Rattle.rg_cert_data.specs.declared.wide_at.Stage.TheVariants.{Spread}
use Rattle.rg_case_parts.specs.SettingViews.{shown_case}
use Rattle.rg_separate.specs.Casing.{forms_in, sides_among, VisitStands, next_sides, IsMadeOf, LeafPasses}
use Rattle.rg_separate.specs.Passing.{passed_at}
use Rattle.rg_separate.proofs.Branched.{room_after}
use Rattle.rg_separate.proofs.Leaves.{leaf_shown}
use Rattle.rg_separate.proofs.Siding.{sides_of_visit, sides_on_named}
use Rattle.rg_separate.proofs.Walking.{IsWalk, walk_start, walk_stands, walk_next, walk_refutes, walk_comes, walk_passes}
use Rattle.rg_separate.proofs.refuting.refutation_answer.Goals as goal

pub loop-node-init : goal.loop-node-init
loop-node-init c = walk_start c.args.c c.args.named.now (map node_of c.args.nodes.now) c.new-above.result.items
    (map reasons.node_of c.new-made.result.items) c.requires.tree c.new-above.ensures.items (ap (map reasons.node_of) c.new-made.ensures.items)

-- the node that is visited
within : (nodes : List RawNode) (i : ℕ) → i < length nodes → i < length (map node_of nodes)
within nodes i lt = let e = length-map nodes node_of in omega arith

visited : (nodes : List RawNode) (i : ℕ) (node : RawNode) → i < length nodes → node ≡ get_or nodes i node → get_or (map node_of nodes) i (node_of node) ≡ node_of node
visited nodes i node lt is = get_or-map node_of nodes i node (node_of node) lt ∙ ap node_of (sym is)

pub node_below-requires-clause-node : goal.node_below-requires-clause-node
node_below-requires-clause-node c =
    let named = c.args.named.now in
    let nodes = c.args.nodes.now in
    let i = c.loop-node.node-index in
    subst (λ above. VisitStands named.system (forms_in named) (record { above = above; node = node_of c.node-item.result })) (sym c.deref.ensures.value)
    (walk_stands c.args.c named (map node_of nodes) i c.loop-node.above.items
    (map reasons.node_of c.loop-node.made.items) c.loop-node.invariant c.requires.system.bounded
    (room_after named.system named.before named.forms c.requires.system.forms) (node_of c.node-item.result) (within nodes i c.loop-node-test.true)
    (visited nodes i c.node-item.result c.loop-node-test.true c.node-item.is))

pub named_triples-requires : goal.named_triples-requires
named_triples-requires c =
    let named = c.args.named.now in
    let nodes = c.args.nodes.now in
    let i = c.loop-node.node-index in
    let stands = walk_stands c.args.c named (map node_of nodes) i c.loop-node.above.items
    (map reasons.node_of c.loop-node.made.items) c.loop-node.invariant c.requires.system.bounded
    (room_after named.system named.before named.forms c.requires.system.forms) (node_of c.node-item.result) (within nodes i c.loop-node-test.true)
    (visited nodes i c.node-item.result c.loop-node-test.true c.node-item.is) in
    subst (λ above. All (λ (s : SplitSide). s.form < length c.forms.result.now) above) (sym c.deref-in-Err-Wide.ensures.value)
    (subst (λ (fs : List NamedForm). All (λ (s : SplitSide). s.form < length fs) c.loop-node.above.items) (sym c.forms.ensures)
    (sides_on_named named.forms c.loop-node.above.items (sides_of_visit (forms_in named) c.loop-node.above.items stands.sides)))

pub returns-in-Err-Wide-clause-tells : goal.returns-in-Err-Wide-clause-tells
returns-in-Err-Wide-clause-tells c =
    let lts = c.args.c.setting.lts.now in
    let class = c.args.c.setting.class in
    let named = c.args.named.now in
    let nodes = c.args.nodes.now in
    let i = c.loop-node.node-index in
    let sides = c.loop-node.above.items in
    let by_name = c.in_ok-above-in-Err-Wide.ensures
    ∙ ap (λ (fs : List NamedForm). sides_among (map split_of fs) c.deref-in-Err-Wide.result.now) c.forms.ensures
    ∙ ap (λ above. sides_among (map split_of named.forms) above) c.deref-in-Err-Wide.ensures.value
    ∙ ap (λ fs. sides_among fs sides) c.requires.system.by_name in
    let fails = subst (λ above. LeafPasses c.args.c named above (node_of c.node-item.result) c.in-Err-Wide.wide) c.deref.ensures.value
    (c.in-Err-Wide.ensures.wide c.in-Err-Wide.wide (ap Err c.in-Err-Wide.field-0-is)) in
    subst (λ (w : Shown). ShownWide lts class w)
    (sym (c.wide_case.ensures ∙ ap (λ (v : Wide). passed_at Spread c.args.c (map side_of c.in_ok-above-in-Err-Wide.above.items) v)
    c.in-Err-Wide.wide-is ∙ ap (λ (ss : List Side). passed_at Spread c.args.c ss c.in-Err-Wide.wide) by_name))
    (leaf_shown c.args.c named (map node_of nodes) i sides (map reasons.node_of c.loop-node.made.items)
    (node_of c.node-item.result) c.in-Err-Wide.wide c.requires.case c.requires.system c.loop-node.invariant (within nodes i c.loop-node-test.true)
    (visited nodes i c.node-item.result c.loop-node-test.true c.node-item.is) fails)

pub returns-in-Err-Wide-clause-comes : goal.returns-in-Err-Wide-clause-comes
returns-in-Err-Wide-clause-comes c =
    let lts = c.args.c.setting.lts.now in
    let class = c.args.c.setting.class in
    let named = c.args.named.now in
    let nodes = c.args.nodes.now in
    let i = c.loop-node.node-index in
    let sides = c.loop-node.above.items in
    let by_name = c.in_ok-above-in-Err-Wide.ensures
    ∙ ap (λ (fs : List NamedForm). sides_among (map split_of fs) c.deref-in-Err-Wide.result.now) c.forms.ensures
    ∙ ap (λ above. sides_among (map split_of named.forms) above) c.deref-in-Err-Wide.ensures.value
    ∙ ap (λ fs. sides_among fs sides) c.requires.system.by_name in
    let fails = subst (λ above. LeafPasses c.args.c named above (node_of c.node-item.result) c.in-Err-Wide.wide) c.deref.ensures.value
    (c.in-Err-Wide.ensures.wide c.in-Err-Wide.wide (ap Err c.in-Err-Wide.field-0-is)) in
    subst (λ (w : Shown). CaseComes (shown_case c.args.c) (passes w))
    (sym (c.wide_case.ensures ∙ ap (λ (v : Wide). passed_at Spread c.args.c (map side_of c.in_ok-above-in-Err-Wide.above.items) v) c.in-Err-Wide.wide-is
    ∙ ap (λ (ss : List Side). passed_at Spread c.args.c ss c.in-Err-Wide.wide) by_name))
    (walk_passes c.args.c named c.requires.system (map node_of nodes) i sides (map reasons.node_of c.loop-node.made.items)
    (node_of c.node-item.result) c.in-Err-Wide.wide c.loop-node.invariant (within nodes i c.loop-node-test.true)
    (visited nodes i c.node-item.result c.loop-node-test.true c.node-item.is) fails)

pub loop-node-preserved : goal.loop-node-preserved
loop-node-preserved c =
    let named = c.args.named.now in
    let nodes = c.args.nodes.now in
    let i = c.loop-node.node-index in
    let is = subst (λ above. IsMadeOf c.args.c named above (node_of c.node-item.result) (reasons.node_of c.in-Ok.node)) c.deref.ensures.value c.in-Ok.ensures.made in
    let next = walk_next c.args.c named (map node_of nodes) i c.loop-node.above.items (map reasons.node_of c.loop-node.made.items) c.loop-node.invariant
    (node_of c.node-item.result) (reasons.node_of c.in-Ok.node) (within nodes i c.loop-node-test.true)
    (visited nodes i c.node-item.result c.loop-node-test.true c.node-item.is) is c.in-Ok.ensures.in_range in
    subst (λ above. IsWalk c.args.c named (map node_of nodes) (i + 1) above (map reasons.node_of c.push.new.self.items)) (sym c.in_ok-go_on.ensures)
    (subst (λ made. IsWalk c.args.c named (map node_of nodes) (i + 1) (next_sides c.loop-node.above.items (node_of c.node-item.result)) made)
    (sym (ap (map reasons.node_of) c.in_ok-push-in-Ok.ensures.items ∙ map-append reasons.node_of c.loop-node.made.items (c.in-Ok.node ∷ []))) next)

pub returns-clause-tells : goal.returns-clause-tells
returns-clause-tells c = walk_refutes c.args.c c.args.named.now (map node_of c.args.nodes.now) c.loop-node.node-index c.loop-node.above.items
    (record { nodes = c.loop-node.made }) c.loop-node.invariant (let t = c.loop-node-test.false in let e = length-map c.args.nodes.now node_of in omega arith)

pub returns-clause-comes : goal.returns-clause-comes
returns-clause-comes c = walk_comes c.args.c c.args.named.now c.requires.system (map node_of c.args.nodes.now) c.loop-node.node-index c.loop-node.above.items
    (record { nodes = c.loop-node.made }) c.loop-node.invariant (let t = c.loop-node-test.false in let e = length-map c.args.nodes.now node_of in omega arith)
