-- Verdicts on trees, and on certificates.
use Rattle.std.proofs.Common.{◌≡◌, ◌↔◌, ℕ, ◌<◌, ◌≤◌, Bool, false, List, [], ◌∷◌, Some, map, length, slice_get, get_or, option_map, ◌+◌, ◌==◌, ◌⊎◌, inl, inr, eqb-true, eq-eqb, Result, Ok, Err, IfOk, IsTrue, true≢false, refl, sym, subst, ap, ◌∙◌, arith}
use Rattle.std.proofs.lemmas.List.{length-map}
use Rattle.std.proofs.lemmas.Option.{same_Some, slice_get-map, slice_get_read, slice_get_within}
use Rattle.std.proofs.lemmas.List.Elements.{All-head}
use Rattle.std.proofs.lemmas.Bool.{cases_lt, eqb-false}
use Rattle.rg_theory.specs.System.{System, states, labels, IsInRange}
use Rattle.rg_theory.specs.declared.Class.{Class}
use Rattle.rg_theory.specs.Class.{NoNet}
use Rattle.rg_theory.specs.declared.Problem.{Problem}
use Rattle.rg_theory.specs.declared.Problem.TheVariants.{Event, States}
use Rattle.rg_cert_meaning.specs.Row.{HasArcAt, RowStands, row_expression, cases_of, Side}
use Rattle.rg_cert_meaning.specs.Refutes.{Tree, TreeRefutes, IsSeparationProblem, IsRefuted}
use Rattle.rg_cert_meaning.proofs.Accepted.{accepted}
use Rattle.rg_cert_data.specs.declared.certificate.Case.{Case}
use Rattle.rg_cert_data.specs.declared.certificate.Certificate.{Certificate}
use Rattle.rg_cert_data.specs.declared.certificate.Reason.TheVariants as reason
use Rattle.rg_branch_trees.specs.Trees.{TreeNode.leaf_node, TreeNode.split_node}
use Rattle.rg_cert_data.specs.Trees.{TreeNode}
use Rattle.rg_cert_data.specs.Certificates.{claim_of, IsCertificateOf, IsTreeOf, case_tree, reason_of}
use Rattle.rg_verify.specs.declared.verdict.Verdict.{Verdict}
use Rattle.rg_verify.specs.declared.verdict.Verdict.TheVariants.{Accepted, Refused}
use Rattle.rg_verify.specs.declared.verdict.Defect.{Defect}
use Rattle.rg_verify.specs.declared.verdict.Defect.TheVariants.{WrongRow, NotPositive, LeftOver, NoContradiction, SumPasses, WrongForm, CaseMissing, NotSo}
use Rattle.rg_verify.specs.Judged.{IsDefectOf, IsNodeDefect, HasAllCases, IsDefectAmong, IsDefectFor, IsDefectIn, JudgesTrees, Judges}

-- no node has the defect that cases are missing, or that the problem isn't asked
neither : (lts : System) (class : Class) (problem : Problem) (number : ℕ) (above : List Side) (node : TreeNode) (defect : Defect)
    → (defect ≡ CaseMissing) ⊎ (defect ≡ NotSo) → IsNodeDefect lts class problem number above node defect → ⊥
neither lts class problem number above (leaf_node rows) defect (inl is) wrong =
    subst (IsDefectOf lts (RowStands lts class problem number above) (row_expression lts class problem number above) rows) is wrong
neither lts class problem number above (leaf_node rows) defect (inr is) wrong =
    subst (IsDefectOf lts (RowStands lts class problem number above) (row_expression lts class problem number above) rows) is wrong
neither lts class problem number above (split_node form at) defect (inl is) (form_is, none) = let both : CaseMissing ≡ WrongForm = sym is ∙ form_is in absurd cc
neither lts class problem number above (split_node form at) defect (inr is) (form_is, none) = let both : NotSo ≡ WrongForm = sym is ∙ form_is in absurd cc

-- a node's defect is neither that the problem isn't asked nor that cases are missing
pub defect_for : (lts : System) (class : Class) (problem : Problem) (trees : List Tree) (case node : ℕ) (defect : Defect)
    → IsDefectAmong lts class problem trees case node defect → IsDefectFor lts class problem trees case node defect
defect_for lts class problem trees case node WrongRow among = among
defect_for lts class problem trees case node NotPositive among = among
defect_for lts class problem trees case node (LeftOver v) among = among
defect_for lts class problem trees case node NoContradiction among = among
defect_for lts class problem trees case node SumPasses among = among
defect_for lts class problem trees case node WrongForm among = among
defect_for lts class problem trees case node CaseMissing among = let (v, reached, wrong) = among.found in absurd (neither lts class problem case v.above v.node CaseMissing (inl refl) wrong)
defect_for lts class problem trees case node NotSo among = let (v, reached, wrong) = among.found in absurd (neither lts class problem case v.above v.node NotSo (inr refl) wrong)

-- the image of the item at a place
image_is : {X Y : Type 0} (f : X → Y) (xs : List X) (i : ℕ) (x : X) → i < length xs → x ≡ get_or xs i x → slice_get (map f xs) i ≡ Some (f x)
image_is f xs i x lt is = slice_get-map f xs i ∙ ap (option_map f) (slice_get_read xs (length xs) i x refl lt is)

-- ---- events

pub asked_event : (lts : System) (s t : ℕ) (b : Bool) → s < states lts → t < labels lts → IsTrue b ↔ HasArcAt lts s t → b ≡ false → IsSeparationProblem lts (Event s t)
asked_event lts s t b state label told none = (state, label, λ s' has. true≢false (sym (told.1 (s', has)) ∙ none))

pub defect_event : (lts : System) (class : Class) (s t : ℕ) (tree : Tree) (node : ℕ) (defect : Defect) → IsSeparationProblem lts (Event s t)
    → IsDefectIn lts class (Event s t) 0 tree node defect → IsDefectFor lts class (Event s t) (tree ∷ []) 0 node defect
defect_event lts class s t tree node defect asked found = defect_for lts class (Event s t) (tree ∷ []) 0 node defect (record {
  asked = asked;
  cases = (refl, omega arith);
  tree = tree;
  here = refl;
  before = λ number earlier lt e. absurd (omega arith);
  found = found;
})

-- ---- states

-- whether there are all cases is told by how many there are
pub all_cases_iff : {X : Type 0} (lts : System) (class : Class) (s other : ℕ) (f : X → Tree) (xs : List X) (n : ℕ) (empty : Bool)
    → n ≡ cases_of lts class (States s other) → empty ≡ (length xs == 0) → empty ≡ false
    → IsTrue (length xs == n) ↔ HasAllCases lts class (States s other) (map f xs)
all_cases_iff lts class s other f xs n empty is tells some =
    let longer : 0 < length xs = let h = eqb-false (length xs) 0 (sym tells ∙ some) in omega arith in
    ((λ e. (length-map xs f ∙ eqb-true (length xs) n e ∙ is, rw length-map longer)), (λ all. eq-eqb (length xs) n (sym (length-map xs f) ∙ all.0 ∙ sym is)))

-- the trees of the first cases refute
pub more_refute : {X : Type 0} (lts : System) (class : Class) (problem : Problem) (f : X → Tree) (xs : List X) (i : ℕ) (x : X) → i < length xs → x ≡ get_or xs i x
    → ((number : ℕ) (tree : Tree) → number < i → slice_get (map f xs) number ≡ Some tree → TreeRefutes lts class problem number [] tree) → TreeRefutes lts class problem i [] (f x)
    → (number : ℕ) (tree : Tree) → number < i + 1 → slice_get (map f xs) number ≡ Some tree → TreeRefutes lts class problem number [] tree
more_refute lts class problem f xs i x lt is before here number tree less at = by (cases_lt number i)
  where
    by : (number < i) ⊎ (i ≤ number) → TreeRefutes lts class problem number [] tree
    by (inl l) = before number tree l at
    by (inr l) =
        let same : number ≡ i = omega arith in
        let e = sym (image_is f xs i x lt is) ∙ ap (slice_get (map f xs)) (sym same) ∙ at in
        rw (same, ← same_Some (f x) tree e) here

pub defect_states : {X : Type 0} (lts : System) (class : Class) (problem : Problem) (f : X → Tree) (xs : List X) (i : ℕ) (x : X) (node : ℕ)
    (defect : Defect) → IsSeparationProblem lts problem → HasAllCases lts class problem (map f xs) → i < length xs → x ≡ get_or xs i x
    → ((number : ℕ) (tree : Tree) → number < i → slice_get (map f xs) number ≡ Some tree → TreeRefutes lts class problem number [] tree)
    → IsDefectIn lts class problem i (f x) node defect → IsDefectFor lts class problem (map f xs) i node defect
defect_states lts class problem f xs i x node defect asked cases lt is before found = defect_for lts class problem (map f xs) i node defect (record {
  asked = asked;
  cases = cases;
  tree = f x;
  here = image_is f xs i x lt is;
  before = before;
  found = found;
})

pub refuted_states : {X : Type 0} (lts : System) (class : Class) (problem : Problem) (f : X → Tree) (xs : List X) (i : ℕ)
    → IsSeparationProblem lts problem → HasAllCases lts class problem (map f xs) → length xs ≤ i
    → ((number : ℕ) (tree : Tree) → number < i → slice_get (map f xs) number ≡ Some tree → TreeRefutes lts class problem number [] tree) → IsRefuted lts class problem (map f xs)
refuted_states lts class problem f xs i asked cases past before = record {
  asked = asked;
  cases = cases.0;
  some = cases.1;
  each = λ number tree e. before number tree (let l = slice_get_within (map f xs) number tree e in let m = length-map xs f in omega arith) e;
}

-- ---- certificates

-- the verdict on the trees of a reason is that on the certificate
pub judged_event : {E : Type 0} (lts : System) (cert : Certificate) (s t : ℕ) (case : Case) (r : Result Verdict E)
    → cert.reason ≡ reason.Event s t case → IfOk r (JudgesTrees lts cert.class (Event s t) (case_tree case ∷ [])) → IfOk r (Judges lts (claim_of cert))
judged_event lts cert s t case (Ok Accepted) is h = rw is h
judged_event lts cert s t case (Ok (Refused c n d)) is h = rw is h
judged_event lts cert s t case (Err e) is h = tt

pub event_in_range : (lts : System) (cert : Certificate) (s t : ℕ) (case : Case) → cert.reason ≡ reason.Event s t case → IsCertificateOf lts cert → IsTreeOf lts (case_tree case)
event_in_range lts cert s t case is good = let range = rw is at good.claim.reason in All-head (IsTreeOf lts) (case_tree case) [] range.3

-- an accepted certificate leaves no net of its class
pub no_net : {E : Type 0} (lts : System) (cert : Certificate) (r : Result Verdict E) → IsInRange lts → IfOk r (Judges lts (claim_of cert)) → IfOk r (λ v. v ≡ Accepted → NoNet lts cert.class)
no_net lts cert (Ok Accepted) fine h = λ e. accepted lts cert.class (reason_of cert.reason) fine h
no_net lts cert (Ok (Refused c n d)) fine h = λ e. absurd cc
no_net lts cert (Err e) fine h = tt
