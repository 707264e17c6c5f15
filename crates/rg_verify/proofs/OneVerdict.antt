-- A certificate has one verdict.
use Rattle.std.proofs.Common.{◌≡◌, ◌⊎◌, ℕ, ◌<◌, List, [], ◌∷◌, ◌++◌, Some, take, slice_get, All, inl, inr, refl, sym, subst, ap, ◌∙◌, arith}
use Rattle.std.proofs.lemmas.Bool.{cases_order}
use Rattle.std.proofs.lemmas.List.{length-take, get_or-take}
use Rattle.std.proofs.lemmas.List.Elements.{All-nil, All-cons, All-append}
use Rattle.std.proofs.lemmas.Option.{same_Some, slice_get_within, get_or_from_slice_get}
use Rattle.rg_theory.specs.System.{System}
use Rattle.rg_theory.specs.declared.Class.{Class}
use Rattle.rg_theory.specs.declared.Problem.{Problem}
use Rattle.rg_cert_meaning.specs.Expression.{Expression}
use Rattle.rg_cert_meaning.specs.Row.{RowStands, row_expression, Side}
use Rattle.rg_cert_meaning.specs.declared.RowName.{RowName}
use Rattle.rg_branch_trees.specs.Trees.{Tree.leaf, Tree.split, TreeNode.leaf_node, TreeNode.split_node, low_side, high_side, placed_nodes}
use Rattle.rg_cert_meaning.specs.Refutes.{NamedRow, LeafRefutes, Tree, TreeRefutes, IsSeparationProblem, IsRefuted, Accepts}
use Rattle.rg_cert_meaning.specs.Refutes as refutes
use Rattle.rg_cert_data.specs.Trees.{TreeNode}
use Rattle.rg_cert_data.specs.Certificates.{Claim, IsVariableOf}
use Rattle.rg_verify.specs.declared.verdict.Defect.{Defect}
use Rattle.rg_verify.specs.declared.verdict.Defect.TheVariants.{WrongRow, NotPositive, LeftOver, NoContradiction, SumPasses, WrongForm, CaseMissing, NotSo}
use Rattle.rg_verify.specs.declared.verdict.Verdict.{Verdict}
use Rattle.rg_verify.specs.declared.verdict.Verdict.TheVariants.{Accepted, Refused}
use Rattle.rg_verify.specs.Judged.{IsReached, IsVariableBefore, IsRightRow, IsFirstLeft, IsDefectOf, PlacedNode, HoldsAt, NodeHolds, IsNodeDefect, IsDefectIn, HasAllCases, IsDefectAmong, IsDefectFor, IsFirstDefect, Holds, Judges}
use Rattle.rg_verify.proofs.Variables.{before_or_not}
use Rattle.rg_cert_meaning.specs.declared.Variable.{Variable}

-- ---- the first item for which a fact doesn't hold

-- the fact holds of each item before
before_holds : {X : Type 0} (P : X → Type 0) (xs : List X) (i j : ℕ) (x : X) → All P (take j xs) → i < j → slice_get xs i ≡ Some x → P x
before_holds P xs i j x each lt at =
    let within = slice_get_within xs i x at in
    let count = length-take j xs in
    subst P (get_or-take j xs i x lt ∙ get_or_from_slice_get xs i x x at) (each i x (omega arith))

reached_once : {X : Type 0} (P : X → Type 0) (xs : List X) (i j : ℕ) (x y : X) → IsReached P xs i x → (P x → ⊥) → IsReached P xs j y → (P y → ⊥) → x ≡ y
reached_once P xs i j x y one not_x other not_y = by (cases_order i j)
  where
    by : (i ≡ j) ⊎ ((i < j) ⊎ (j < i)) → x ≡ y
    by (inl e) = same_Some x y (sym one.here ∙ ap (slice_get xs) e ∙ other.here)
    by (inr (inl l)) = absurd (not_x (before_holds P xs i j x other.before l one.here))
    by (inr (inr l)) = absurd (not_y (before_holds P xs j i y one.before l other.here))

place_once : {X : Type 0} (P : X → Type 0) (xs : List X) (i j : ℕ) (x y : X) → IsReached P xs i x → (P x → ⊥) → IsReached P xs j y → (P y → ⊥) → i ≡ j
place_once P xs i j x y one not_x other not_y = by (cases_order i j)
  where
    by : (i ≡ j) ⊎ ((i < j) ⊎ (j < i)) → i ≡ j
    by (inl e) = e
    by (inr (inl l)) = absurd (not_x (before_holds P xs i j x other.before l one.here))
    by (inr (inr l)) = absurd (not_y (before_holds P xs j i y one.before l other.here))

-- the fact doesn't hold of all items
not_all : {X : Type 0} (P : X → Type 0) (xs : List X) (i : ℕ) (x : X) → IsReached P xs i x → (P x → ⊥) → All P xs → ⊥
not_all P xs i x reached not each = not (subst P (get_or_from_slice_get xs i x x reached.here) (each i x (slice_get_within xs i x reached.here)))

-- ---- leaves

-- a leaf with a defect doesn't refute
no_defect : (lts : System) (stands : RowName → Type 0) (expression : RowName → Expression) (rows : List NamedRow) (d : Defect)
    → IsDefectOf lts stands expression rows d → LeafRefutes stands expression rows → ⊥
no_defect lts stands expression rows WrongRow (i, r, reached, not) good = not_all (IsRightRow stands) rows i r reached (λ right. not right.0) (λ k x lt. (good.stand k x lt, good.positive k x lt))
no_defect lts stands expression rows NotPositive (i, r, reached, stand, not) good =
    not_all (IsRightRow stands) rows i r reached (λ right. not right.1) (λ k x lt. (good.stand k x lt, good.positive k x lt))
no_defect lts stands expression rows SumPasses (right, not) good = not good.small
no_defect lts stands expression rows (LeftOver v) (summed, left) good = left.left (good.cancels v)
no_defect lts stands expression rows NoContradiction (summed, cancels, not) good = not good.contradicts
no_defect lts stands expression rows WrongForm wrong good = wrong
no_defect lts stands expression rows CaseMissing wrong good = wrong
no_defect lts stands expression rows NotSo wrong good = wrong

first_once : (lts : System) (expression : RowName → Expression) (rows : List NamedRow) (v w : Variable) → IsFirstLeft lts expression rows v → IsFirstLeft lts expression rows w → v ≡ w
first_once lts expression rows v w one other = by (before_or_not v w)
  where
    by : IsVariableBefore v w ⊎ ((v ≡ w) ⊎ IsVariableBefore w v) → v ≡ w
    by (inl l) = absurd (one.left (other.first v l))
    by (inr (inl e)) = e
    by (inr (inr l)) = absurd (other.left (one.first w l))

-- what a defect says of the rows: which kind comes first
wrong_row : (lts : System) (stands : RowName → Type 0) (expression : RowName → Expression) (rows : List NamedRow) → IsDefectOf lts stands expression rows WrongRow → All (IsRightRow stands) rows → ⊥
wrong_row lts stands expression rows (i, r, reached, not) each = not_all (IsRightRow stands) rows i r reached (λ right. not right.0) each

not_positive : (lts : System) (stands : RowName → Type 0) (expression : RowName → Expression) (rows : List NamedRow)
    → IsDefectOf lts stands expression rows NotPositive → All (IsRightRow stands) rows → ⊥
not_positive lts stands expression rows (i, r, reached, stand, not) each = not_all (IsRightRow stands) rows i r reached (λ right. not right.1) each

one_kind : (lts : System) (stands : RowName → Type 0) (expression : RowName → Expression) (rows : List NamedRow)
    → IsDefectOf lts stands expression rows WrongRow → IsDefectOf lts stands expression rows NotPositive → ⊥
one_kind lts stands expression rows (i, r, reached, not) (j, q, reached', stand, not') =
    not (subst (λ (x : NamedRow). stands x.name) (reached_once (IsRightRow stands) rows j i q r reached' (λ right. not' right.1) reached (λ right. not right.0)) stand)

one_defect : (lts : System) (stands : RowName → Type 0) (expression : RowName → Expression) (rows : List NamedRow) (d e : Defect)
    → IsDefectOf lts stands expression rows d → IsDefectOf lts stands expression rows e → d ≡ e
one_defect lts stands expression rows WrongRow WrongRow h k = refl
one_defect lts stands expression rows WrongRow NotPositive h k = absurd (one_kind lts stands expression rows h k)
one_defect lts stands expression rows WrongRow SumPasses h k = absurd (wrong_row lts stands expression rows h k.0)
one_defect lts stands expression rows WrongRow (LeftOver v) h k = absurd (wrong_row lts stands expression rows h k.0.right)
one_defect lts stands expression rows WrongRow NoContradiction h k = absurd (wrong_row lts stands expression rows h k.0.right)
one_defect lts stands expression rows NotPositive WrongRow h k = absurd (one_kind lts stands expression rows k h)
one_defect lts stands expression rows NotPositive NotPositive h k = refl
one_defect lts stands expression rows NotPositive SumPasses h k = absurd (not_positive lts stands expression rows h k.0)
one_defect lts stands expression rows NotPositive (LeftOver v) h k = absurd (not_positive lts stands expression rows h k.0.right)
one_defect lts stands expression rows NotPositive NoContradiction h k = absurd (not_positive lts stands expression rows h k.0.right)
one_defect lts stands expression rows SumPasses WrongRow h k = absurd (wrong_row lts stands expression rows k h.0)
one_defect lts stands expression rows SumPasses NotPositive h k = absurd (not_positive lts stands expression rows k h.0)
one_defect lts stands expression rows SumPasses SumPasses h k = refl
one_defect lts stands expression rows SumPasses (LeftOver v) h k = absurd (h.1 k.0.small)
one_defect lts stands expression rows SumPasses NoContradiction h k = absurd (h.1 k.0.small)
one_defect lts stands expression rows (LeftOver v) WrongRow h k = absurd (wrong_row lts stands expression rows k h.0.right)
one_defect lts stands expression rows (LeftOver v) NotPositive h k = absurd (not_positive lts stands expression rows k h.0.right)
one_defect lts stands expression rows (LeftOver v) SumPasses h k = absurd (k.1 h.0.small)
one_defect lts stands expression rows (LeftOver v) (LeftOver w) h k = ap LeftOver (first_once lts expression rows v w h.1 k.1)
one_defect lts stands expression rows (LeftOver v) NoContradiction h k = absurd (h.1.left (k.1 v))
one_defect lts stands expression rows NoContradiction WrongRow h k = absurd (wrong_row lts stands expression rows k h.0.right)
one_defect lts stands expression rows NoContradiction NotPositive h k = absurd (not_positive lts stands expression rows k h.0.right)
one_defect lts stands expression rows NoContradiction SumPasses h k = absurd (k.1 h.0.small)
one_defect lts stands expression rows NoContradiction (LeftOver w) h k = absurd (k.1.left (h.1 w))
one_defect lts stands expression rows NoContradiction NoContradiction h k = refl
one_defect lts stands expression rows WrongForm e h k = absurd h
one_defect lts stands expression rows CaseMissing e h k = absurd h
one_defect lts stands expression rows NotSo e h k = absurd h
one_defect lts stands expression rows d WrongForm h k = absurd k
one_defect lts stands expression rows d CaseMissing h k = absurd k
one_defect lts stands expression rows d NotSo h k = absurd k

-- ---- trees

-- the nodes of a tree that refutes
nodes_hold : (lts : System) (class : Class) (problem : Problem) (number : ℕ) (above : List Side) (tree : Tree)
    → TreeRefutes lts class problem number above tree → All (NodeHolds lts class problem number) (placed_nodes above tree)
nodes_hold lts class problem number above (leaf rows) good = All-cons (NodeHolds lts class problem number) (record { above = above; node = leaf_node rows }) [] good (All-nil _)
nodes_hold lts class problem number above (split form at low high) (form_stands, left, right) =
    All-cons (NodeHolds lts class problem number) (record { above = above; node = split_node form at })
    (placed_nodes (above ++ low_side form at ∷ []) low ++ placed_nodes (above ++ high_side form at ∷ []) high) form_stands
    (All-append (NodeHolds lts class problem number) (placed_nodes (above ++ low_side form at ∷ []) low) (placed_nodes (above ++ high_side form at ∷ []) high)
    (nodes_hold lts class problem number (above ++ low_side form at ∷ []) low left)
    (nodes_hold lts class problem number (above ++ high_side form at ∷ []) high right))

not_holding : (lts : System) (class : Class) (problem : Problem) (number : ℕ) (above : List Side) (node : TreeNode) (d : Defect)
    → IsNodeDefect lts class problem number above node d → HoldsAt lts class problem number above node → ⊥
not_holding lts class problem number above (leaf_node rows) d wrong good = no_defect lts (RowStands lts class problem number above) (row_expression lts class problem number above) rows d wrong good
not_holding lts class problem number above (split_node form at) d (is, none) good = none good

no_defect_in : (lts : System) (class : Class) (problem : Problem) (number : ℕ) (tree : Tree) (n : ℕ) (d : Defect)
    → IsDefectIn lts class problem number tree n d → TreeRefutes lts class problem number [] tree → ⊥
no_defect_in lts class problem number tree n d (v, reached, wrong) good =
    not_all (NodeHolds lts class problem number) (placed_nodes [] tree) n v reached (not_holding lts class problem number v.above v.node d wrong) (nodes_hold lts class problem number [] tree good)

one_node_defect : (lts : System) (class : Class) (problem : Problem) (number : ℕ) (above : List Side) (node : TreeNode) (d e : Defect)
    → IsNodeDefect lts class problem number above node d → IsNodeDefect lts class problem number above node e → d ≡ e
one_node_defect lts class problem number above (leaf_node rows) d e h k = one_defect lts (RowStands lts class problem number above) (row_expression lts class problem number above) rows d e h k
one_node_defect lts class problem number above (split_node form at) d e (is, none) (is', none') = is ∙ sym is'

one_in_tree : (lts : System) (class : Class) (problem : Problem) (number : ℕ) (tree : Tree) (n m : ℕ) (d e : Defect)
    → IsDefectIn lts class problem number tree n d → IsDefectIn lts class problem number tree m e → (n ≡ m) × (d ≡ e)
one_in_tree lts class problem number tree n m d e (v, reached, wrong) (w, reached', wrong') =
    let not_v = not_holding lts class problem number v.above v.node d wrong in
    let not_w = not_holding lts class problem number w.above w.node e wrong' in
    let same = reached_once (NodeHolds lts class problem number) (placed_nodes [] tree) n m v w reached not_v reached' not_w in (
      place_once (NodeHolds lts class problem number) (placed_nodes [] tree) n m v w reached not_v reached' not_w,
      one_node_defect lts class problem number v.above v.node d e wrong (subst (λ (x : PlacedNode). IsNodeDefect lts class problem number x.above x.node e) (sym same) wrong'),
    )

-- ---- cases

one_among : (lts : System) (class : Class) (problem : Problem) (trees : List Tree) (c n b m : ℕ) (d e : Defect)
    → IsDefectAmong lts class problem trees c n d → IsDefectAmong lts class problem trees b m e → Refused c n d ≡ Refused b m e
one_among lts class problem trees c n b m d e one other = by (cases_order c b)
  where
    by : (c ≡ b) ⊎ ((c < b) ⊎ (b < c)) → Refused c n d ≡ Refused b m e
    by (inl same) =
        let tree = same_Some one.tree other.tree (sym one.here ∙ ap (slice_get trees) same ∙ other.here) in
        let there : IsDefectIn lts class problem c one.tree m e =
        subst (λ k. IsDefectIn lts class problem k one.tree m e) (sym same) (subst (λ t. IsDefectIn lts class problem b t m e) (sym tree) other.found) in
        let both = one_in_tree lts class problem c one.tree n m d e one.found there in
        let f = both.0 in let g = both.1 in cc
    by (inr (inl l)) = absurd (no_defect_in lts class problem c one.tree n d one.found (other.before c one.tree l one.here))
    by (inr (inr l)) = absurd (no_defect_in lts class problem b other.tree m e other.found (one.before b other.tree l other.here))

-- a defect of trees is one of three kinds
abbrev IsOfKind : System → Class → Problem → List Tree → ℕ → ℕ → Defect → Type 0
IsOfKind lts class problem trees case node defect =
    ((case ≡ 0) × (node ≡ 0) × (defect ≡ NotSo) × (IsSeparationProblem lts problem → ⊥))
    ⊎ (((case ≡ 0) × (node ≡ 0) × (defect ≡ CaseMissing) × IsSeparationProblem lts problem × (HasAllCases lts class problem trees → ⊥))
    ⊎ IsDefectAmong lts class problem trees case node defect)

kind_of : (lts : System) (class : Class) (problem : Problem) (trees : List Tree) (case node : ℕ) (defect : Defect)
    → IsDefectFor lts class problem trees case node defect → IsOfKind lts class problem trees case node defect
kind_of lts class problem trees case node NotSo (c, n, not) = inl (c, n, refl, not)
kind_of lts class problem trees case node CaseMissing (c, n, asked, not) = inr (inl (c, n, refl, asked, not))
kind_of lts class problem trees case node WrongRow h = inr (inr h)
kind_of lts class problem trees case node NotPositive h = inr (inr h)
kind_of lts class problem trees case node (LeftOver v) h = inr (inr h)
kind_of lts class problem trees case node NoContradiction h = inr (inr h)
kind_of lts class problem trees case node SumPasses h = inr (inr h)
kind_of lts class problem trees case node WrongForm h = inr (inr h)

same_refusal : (c n b m : ℕ) (d e : Defect) → c ≡ b → n ≡ m → d ≡ e → Refused c n d ≡ Refused b m e
same_refusal c n b m d e p q r = cc

one_of_kind : (lts : System) (class : Class) (problem : Problem) (trees : List Tree) (c n b m : ℕ) (d e : Defect)
    → IsOfKind lts class problem trees c n d → IsOfKind lts class problem trees b m e → Refused c n d ≡ Refused b m e
one_of_kind lts class problem trees c n b m d e (inl (p, q, r, not)) (inl (p', q', r', not')) = same_refusal c n b m d e (p ∙ sym p') (q ∙ sym q') (r ∙ sym r')
one_of_kind lts class problem trees c n b m d e (inl (p, q, r, not)) (inr (inl (p', q', r', asked, missing))) = absurd (not asked)
one_of_kind lts class problem trees c n b m d e (inl (p, q, r, not)) (inr (inr among)) = absurd (not among.asked)
one_of_kind lts class problem trees c n b m d e (inr (inl (p, q, r, asked, missing))) (inl (p', q', r', not)) = absurd (not asked)
one_of_kind lts class problem trees c n b m d e (inr (inl (p, q, r, asked, missing))) (inr (inl (p', q', r', asked', missing'))) = same_refusal c n b m d e (p ∙ sym p') (q ∙ sym q') (r ∙ sym r')
one_of_kind lts class problem trees c n b m d e (inr (inl (p, q, r, asked, missing))) (inr (inr among)) = absurd (missing among.cases)
one_of_kind lts class problem trees c n b m d e (inr (inr among)) (inl (p, q, r, not)) = absurd (not among.asked)
one_of_kind lts class problem trees c n b m d e (inr (inr among)) (inr (inl (p, q, r, asked, missing))) = absurd (missing among.cases)
one_of_kind lts class problem trees c n b m d e (inr (inr among)) (inr (inr among')) = one_among lts class problem trees c n b m d e among among'

none_of_kind : (lts : System) (class : Class) (problem : Problem) (trees : List Tree) (c n : ℕ) (d : Defect) → IsRefuted lts class problem trees → IsOfKind lts class problem trees c n d → ⊥
none_of_kind lts class problem trees c n d good (inl (p, q, r, not)) = not good.asked
none_of_kind lts class problem trees c n d good (inr (inl (p, q, r, asked, missing))) = missing (good.cases, good.some)
none_of_kind lts class problem trees c n d good (inr (inr among)) = no_defect_in lts class problem c among.tree n d among.found (good.each c among.tree among.here)

-- ---- certificates

no_first : (lts : System) (class : Class) (reason : refutes.Reason) (c n : ℕ) (d : Defect) → Accepts lts class reason → IsFirstDefect lts class reason c n d → ⊥
no_first lts class (refutes.unreachable s) c n d good (p, q, r, not) = not good
no_first lts class (refutes.fork s t s₁ s₂) c n d good (p, q, r, not) = not good
no_first lts class (refutes.refuted problem trees) c n d good h = none_of_kind lts class problem trees c n d good (kind_of lts class problem trees c n d h)

one_first : (lts : System) (class : Class) (reason : refutes.Reason) (c n b m : ℕ) (d e : Defect) → IsFirstDefect lts class reason c n d
    → IsFirstDefect lts class reason b m e → Refused c n d ≡ Refused b m e
one_first lts class (refutes.unreachable s) c n b m d e (p, q, r, not) (p', q', r', not') = same_refusal c n b m d e (p ∙ sym p') (q ∙ sym q') (r ∙ sym r')
one_first lts class (refutes.fork s t s₁ s₂) c n b m d e (p, q, r, not) (p', q', r', not') = same_refusal c n b m d e (p ∙ sym p') (q ∙ sym q') (r ∙ sym r')
one_first lts class (refutes.refuted problem trees) c n b m d e h k =
    one_of_kind lts class problem trees c n b m d e (kind_of lts class problem trees c n d h) (kind_of lts class problem trees b m e k)

pub one_verdict : (lts : System) (claim : Claim) (v w : Verdict) → Judges lts claim v → Judges lts claim w → v ≡ w
one_verdict lts claim Accepted Accepted h k = refl
one_verdict lts claim Accepted (Refused c n d) h k = absurd (no_first lts claim.class claim.reason c n d h k)
one_verdict lts claim (Refused c n d) Accepted h k = absurd (no_first lts claim.class claim.reason c n d k h)
one_verdict lts claim (Refused c n d) (Refused b m e) h k = one_first lts claim.class claim.reason c n b m d e h k

-- a claim that is refused doesn't hold
pub refused_fails : (lts : System) (claim : Claim) (case node : ℕ) (defect : Defect) → Judges lts claim (Refused case node defect) → Holds lts claim → ⊥
refused_fails lts claim case node defect judged holds = no_first lts claim.class claim.reason case node defect holds judged

-- the variable that is left over is the system's
pub left_in_range : (lts : System) (claim : Claim) (case node : ℕ) (v : Variable) → Judges lts claim (Refused case node (LeftOver v)) → IsVariableOf lts v
left_in_range lts claim case node v judged = by claim.reason judged
  where
    left_of : (problem : Problem) (above : List Side) (n : TreeNode) → IsNodeDefect lts claim.class problem case above n (LeftOver v) → IsVariableOf lts v
    left_of problem above (leaf_node rows) wrong = wrong.1.in_range
    left_of problem above (split_node form at) (is, none) = absurd cc

    by : (reason : refutes.Reason) → IsFirstDefect lts claim.class reason case node (LeftOver v) → IsVariableOf lts v
    by (refutes.unreachable s) (c, n, is, not) = absurd cc
    by (refutes.fork s t s₁ s₂) (c, n, is, not) = absurd cc
    by (refutes.refuted problem trees) among = let (v, reached, wrong) = among.found in left_of problem v.above v.node wrong
