use Rattle.std.proofs.Common.{rules, ◌≡◌, ℕ, ◌<◌, List, map, length, ap, sym, subst, ◌∙◌}
use Rattle.std.specs.Prelude.{ℤ, ◌≤ℤ◌, FitsSigned, slice_index_or}
use Rattle.std.specs.Int.{w64}
use Rattle.std.proofs.lemmas.Int.{to_z-of_z}
use Rattle.rg_linear.specs.Branching.{form_at}
use Rattle.rg_branch_trees.specs.Trees.{TreeNode.split_node, TreeNode.leaf_node}
use Rattle.rg_cert_data.specs.Certificates.{IsNodeOf}
use Rattle.rg_rows.specs.declared.named_form.NamedForm.{NamedForm}
use Rattle.rg_branch.specs.View.{weight_of, node_of}
use Rattle.rg_branch.specs.declared.whole.RawNode.{RawNode}
use Rattle.rg_separate.specs.Casing.{forms_in, VisitStands, LeafPasses}
use Rattle.rg_separate.proofs.Leaves.{split_fits}
use Rattle.rg_separate.proofs.refuting.node_below.Goals as goal

pub returns-in-Split-clause-in_range : goal.returns-in-Split-clause-in_range
returns-in-Split-clause-in_range c =
    let named = c.args.named.now in
    let fits : FitsSigned w64 c.in-Split.at = search rules in
    let stands = subst (λ (n : RawNode). VisitStands named.system (forms_in named) (record { above = c.args.above.now; node = node_of n })) c.in-Split.is c.requires.node in
    let node : (c.in-Split.form < length (forms_in named)) × ((form_at (forms_in named) c.in-Split.form).low ≤ℤ c.in-Split.at) = stands.node in
    let here : slice_index_or c.forms.result.now c.in-Split.form c.index-forms-form.result ≡ slice_index_or named.forms c.in-Split.form c.index-forms-form.result =
    ap (λ (fs : List NamedForm). slice_index_or fs c.in-Split.form c.index-forms-form.result) c.forms.ensures in
    subst (λ (z : ℤ). IsNodeOf c.args.c.setting.lts.now (split_node (slice_index_or c.forms.result.now c.in-Split.form c.index-forms-form.result).form z)) (sym (to_z-of_z w64 c.in-Split.at fits))
    (subst (λ (f : NamedForm). IsNodeOf c.args.c.setting.lts.now (split_node f.form c.in-Split.at)) (sym here)
    (split_fits c.args.c named c.in-Split.form c.in-Split.at c.index-forms-form.result c.requires.system node.0 node.1 fits))

pub returns-in-Leaf-clause-wide : goal.returns-in-Leaf-clause-wide
returns-in-Leaf-clause-wide c = λ w is.
    subst (λ (n : RawNode). LeafPasses c.args.c c.args.named.now c.args.above.now (node_of n) w) (sym c.in-Leaf.is)
    (subst (λ (ws : List (ℕ × ℤ)). LeafPasses c.args.c c.args.named.now c.args.above.now (leaf_node (map weight_of ws)) w) c.deref.ensures.value (c.leaf.ensures.wide w is))
