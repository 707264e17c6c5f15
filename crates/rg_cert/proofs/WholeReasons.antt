-- Reasons of whole cases.
use Rattle.std.proofs.Common.{◌≡◌, false, ◌||◌, List, [], ◌∷◌, ◌++◌, map, codes, All, refl, sym, ap, ap₂, subst, ◌∙◌}
use Rattle.std.specs.List.{flat_map, list_any}
use Rattle.std.proofs.lemmas.List.Folds.{list_any-append, list_any_none}
use Rattle.std.proofs.lemmas.List.Elements.{All-nil, All-cons, All-head, All-tail, All-weaker}
use Rattle.rg_theory.specs.System.{System}
use Rattle.rg_cert_data.specs.declared.certificate.Case.{Case}
use Rattle.rg_cert_data.specs.declared.certificate.Reason.{Reason}
use Rattle.rg_cert_data.specs.declared.certificate.Reason.TheVariants.{Unreachable, Fork, Event, States}
use Rattle.rg_branch_trees.specs.Trees.{preorder}
use Rattle.rg_cert_data.specs.Trees.{TreeNode, IsWholeTree, tree_of, nodes_of}
use Rattle.rg_cert_data.specs.Certificates.{case_tree, reason_of, IsWhole, HasWholeCases, IsNodeOf, IsTreeOf, IsReasonOf}
use Rattle.rg_cert.specs.Text.{Version, version_one, splits_start, reason_nodes, node_lines, case_lines, reason_lines}
use Rattle.rg_cert.specs.Drafts.{head_fields, IsHeadOf, nodes_lines, IsNodeIn, IsCase}
use Rattle.rg_cert.specs.View.{reason_head, reason_cases}
use Rattle.rg_cert_data.proofs.Trees.{whole_is}

-- the nodes of a case are those of its tree
pub whole_nodes : (lts : System) (version : Version) (nodes : List TreeNode) → IsCase lts version nodes → IsWholeTree nodes (tree_of nodes)
whole_nodes lts version nodes is = whole_is nodes is.tree is.whole

nodes_in_range : (lts : System) (version : Version) (nodes : List TreeNode) → IsCase lts version nodes → IsTreeOf lts (tree_of nodes)
nodes_in_range lts version nodes is = subst (All (IsNodeOf lts)) (whole_nodes lts version nodes is) (All-weaker (IsNodeIn lts version) (IsNodeOf lts) (λ n h. h.of_system) nodes is.each)

same_case : (lts : System) (version : Version) (nodes : List TreeNode) → IsCase lts version nodes → case_lines lts (tree_of nodes) ≡ nodes_lines lts nodes
same_case lts version nodes is = ap (λ l. (codes "case" ∷ []) ∷ flat_map (node_lines lts) l) (sym (whole_nodes lts version nodes is))

all_whole : (lts : System) (version : Version) (cases : List Case) → All (IsCase lts version) (map nodes_of cases) → All IsWhole cases
all_whole lts version [] each = All-nil IsWhole
all_whole lts version (case ∷ cases) each =
    All-cons IsWhole case cases (whole_nodes lts version (nodes_of case) (All-head (IsCase lts version) (nodes_of case) (map nodes_of cases) each))
    (all_whole lts version cases (All-tail (IsCase lts version) (nodes_of case) (map nodes_of cases) each))

all_in_range : (lts : System) (version : Version) (cases : List Case) → All (IsCase lts version) (map nodes_of cases) → All (IsTreeOf lts) (map case_tree cases)
all_in_range lts version [] each = All-nil (IsTreeOf lts)
all_in_range lts version (case ∷ cases) each =
    All-cons (IsTreeOf lts) (case_tree case) (map case_tree cases) (nodes_in_range lts version (nodes_of case) (All-head (IsCase lts version) (nodes_of case) (map nodes_of cases) each))
    (all_in_range lts version cases (All-tail (IsCase lts version) (nodes_of case) (map nodes_of cases) each))

all_same : (lts : System) (version : Version) (cases : List Case) → All (IsCase lts version) (map nodes_of cases)
    → flat_map (case_lines lts) (map case_tree cases) ≡ flat_map (nodes_lines lts) (map nodes_of cases)
all_same lts version [] each = refl
all_same lts version (case ∷ cases) each =
    ap₂ ◌++◌ (same_case lts version (nodes_of case) (All-head (IsCase lts version) (nodes_of case) (map nodes_of cases) each))
    (all_same lts version cases (All-tail (IsCase lts version) (nodes_of case) (map nodes_of cases) each))

pub whole_cases : (lts : System) (version : Version) (reason : Reason) → All (IsCase lts version) (reason_cases reason) → HasWholeCases reason
whole_cases lts version (Unreachable s) each = tt
whole_cases lts version (Fork s t s₁ s₂) each = tt
whole_cases lts version (Event s t case) each = whole_nodes lts version (nodes_of case) (All-head (IsCase lts version) (nodes_of case) [] each)
whole_cases lts version (States s s' cases) each = all_whole lts version cases.items each

pub reason_in_range : (lts : System) (version : Version) (reason : Reason) → IsHeadOf lts (reason_head reason) → All (IsCase lts version) (reason_cases reason) → IsReasonOf lts (reason_of reason)
reason_in_range lts version (Unreachable s) head each = head
reason_in_range lts version (Fork s t s₁ s₂) head each = head
reason_in_range lts version (Event s t case) head each =
    (head.0, head.1, refl, All-cons (IsTreeOf lts) (case_tree case) [] (nodes_in_range lts version (nodes_of case) (All-head (IsCase lts version) (nodes_of case) [] each)) (All-nil (IsTreeOf lts)))
reason_in_range lts version (States s s' cases) head each = (head.0, head.1, all_in_range lts version cases.items each)

-- the lines of a reason are that of its head and those of its cases
pub lines_of_reason : (lts : System) (version : Version) (reason : Reason) → All (IsCase lts version) (reason_cases reason)
    → reason_lines lts (reason_of reason) ≡ head_fields lts (reason_head reason) ∷ flat_map (nodes_lines lts) (reason_cases reason)
lines_of_reason lts version (Unreachable s) each = refl
lines_of_reason lts version (Fork s t s₁ s₂) each = refl
lines_of_reason lts version (Event s t case) each =
    ap (λ l. head_fields lts (reason_head (Event s t case)) ∷ (l ++ [])) (same_case lts version (nodes_of case) (All-head (IsCase lts version) (nodes_of case) [] each))
lines_of_reason lts version (States s s' cases) each = ap (λ l. head_fields lts (reason_head (States s s' cases)) ∷ l) (all_same lts version cases.items each)

-- the nodes of all cases are those of all trees
all_nodes : (cases : List Case) → All IsWhole cases → flat_map (λ nodes. nodes) (map nodes_of cases) ≡ flat_map preorder (map case_tree cases)
all_nodes [] whole = refl
all_nodes (case ∷ cases) whole = ap₂ ◌++◌ (All-head IsWhole case cases whole) (all_nodes cases (All-tail IsWhole case cases whole))

pub reason_nodes_are : (reason : Reason) → HasWholeCases reason → flat_map (λ nodes. nodes) (reason_cases reason) ≡ reason_nodes (reason_of reason)
reason_nodes_are (Unreachable s) whole = refl
reason_nodes_are (Fork s t s₁ s₂) whole = refl
reason_nodes_are (Event s t case) whole = ap (λ l. l ++ []) whole
reason_nodes_are (States s s' cases) whole = all_nodes cases.items whole

none_splits : (lts : System) (version : Version) (cases : List (List TreeNode)) → All (IsCase lts version) cases → version ≡ version_one
    → list_any splits_start (flat_map (λ nodes. nodes) cases) ≡ false
none_splits lts version [] each one = refl
none_splits lts version (nodes ∷ cases) each one =
    let first = All-head (IsCase lts version) nodes cases each in
    list_any-append splits_start nodes (flat_map (λ n. n) cases)
    ∙ ap₂ ◌||◌ (list_any_none splits_start nodes (All-weaker (IsNodeIn lts version) (λ n. splits_start n ≡ false) (λ n h. h.fits one) nodes first.each))
    (none_splits lts version cases (All-tail (IsCase lts version) nodes cases each) one)

-- no node splits on the start, where the version is the first
pub reason_fits : (lts : System) (version : Version) (reason : Reason) → All (IsCase lts version) (reason_cases reason) → version ≡ version_one
    → list_any splits_start (reason_nodes (reason_of reason)) ≡ false
reason_fits lts version reason each one =
    ap (list_any splits_start) (sym (reason_nodes_are reason (whole_cases lts version reason each))) ∙ none_splits lts version (reason_cases reason) each one
