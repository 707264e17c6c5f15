-- A text spells one claim.
use Rattle.std.proofs.Common.{◌≡◌, ⊎_elim, ℕ, ◌<◌, ◌^◌, Bool, true, false, List, [], ◌∷◌, ◌++◌, length, get_or, codes, map, decimal, All, ℤ, nat_abs, append-nil, append_assoc, refl, sym, ap, ap₂, subst, ◌∙◌, true≢false, arith}
use Rattle.std.specs.List.{flat_map}
use Rattle.std.specs.Fmt.{signed_decimal}
use Rattle.std.specs.Str.{bytes_eq}
use Rattle.std.specs.Str.Parse.{digits_value}
use Rattle.std.proofs.lemmas.Slice.Eq.{bytes_eq-Decides}
use Rattle.std.proofs.lemmas.Bool.{cases_lt}
use Rattle.std.proofs.lemmas.Grind.{flat_map-append}
use Rattle.std.proofs.lemmas.List.{append_cancel_right}
use Rattle.std.proofs.lemmas.List.Elements.{All-head, All-tail}
use Rattle.rg_text.specs.Line.{fed, fields}
use Rattle.rg_theory.specs.System.{arc, System}
use Rattle.rg_theory.specs.declared.Problem.TheVariants.{Event, States}
use Rattle.rg_theory.specs.ClassWords.{NamesClass}
use Rattle.rg_theory.proofs.ClassTold.{one_class}
use Rattle.rg_lts.specs.WellFormed.{AreNames, IsWellFormed}
use Rattle.rg_cert_meaning.specs.declared.Form.{Form}
use Rattle.rg_cert_meaning.specs.declared.RowName.{RowName}
use Rattle.rg_cert_meaning.specs.Refutes as refutes
use Rattle.rg_branch_trees.specs.Trees.{Tree.leaf, Tree.split, TreeNode.leaf_node, TreeNode.split_node, preorder}
use Rattle.rg_cert_meaning.specs.Refutes.{NamedRow, Tree}
use Rattle.rg_cert_data.specs.Certificates.{Claim, IsRowNameOf, IsRowOf, IsFormOf, IsNodeOf, IsTreeOf, IsReasonOf, IsClaimOf}
use Rattle.rg_cert.specs.Text.{Version, state_name, label_name, row_fields, named_fields, form_fields, node_lines, case_lines, reason_lines, spaced, cert_lines, text_with, cert_text}
use Rattle.rg_cert.specs.Spells.{Spells}
use Rattle.rg_cert.specs.Numerals.{IsNumeral}
use Rattle.rg_cert.specs.Lines.{at_heading, at_end}
use Rattle.rg_cert.proofs.Decimal.{written_numeral, decimal_value, one_number as one_numeral}
use Rattle.rg_cert.proofs.FormKeys.{begins_word, numeral_low}
use Rattle.rg_cert.proofs.Canonical.{TextsLeadAll, lead_all_of, IsTold, all_told, claim_leads, sides}
use Rattle.rg_cert.specs.declared.fault.CertFault.{CertFault}
use Rattle.rg_cert.specs.Faults.{FirstFault}
use Rattle.rg_cert.proofs.OneFault.{one_walk, no_fault}
use Rattle.rg_cert.proofs.Printed.{text_spells}
use Rattle.rg_cert_meaning.specs.declared.RowName.TheVariants as row_name
use Rattle.rg_cert_meaning.specs.declared.Form.TheVariants as split_form

told_back : (xs : List (List (List ℕ))) → All IsTold xs → map fields (map spaced xs) ≡ xs
told_back [] told = refl
told_back (x ∷ xs) told = ap₂ ◌∷◌ (All-head IsTold x xs told) (told_back xs (All-tail IsTold x xs told))

-- a text has one list of lines, and each has its texts
one_lines : (lts : System) (bytes : List ℕ) (a b : List (List (List ℕ))) → TextsLeadAll lts at_heading a at_end → TextsLeadAll lts at_heading b at_end
    → bytes ≡ fed (map spaced a) → bytes ≡ fed (map spaced b) → a ≡ b
one_lines lts bytes a b x y is is' =
    let same = one_walk lts at_heading bytes (map spaced a) (map spaced b) (is ∙ sym (append-nil (fed (map spaced a)))) (lead_all_of lts at_heading a at_end x)
    (is' ∙ sym (append-nil (fed (map spaced b)))) (lead_all_of lts at_heading b at_end y) in
    sym (told_back a (all_told lts at_heading a at_end x)) ∙ ap (map fields) same ∙ told_back b (all_told lts at_heading b at_end y)

-- a name has one number
one_number : (names : List (List ℕ)) (i j : ℕ) → AreNames names → i < length names → j < length names → get_or names i [] ≡ get_or names j [] → i ≡ j
one_number names i j are less less' same =
    ⊎_elim (λ before. absurd (are.differ i j [] before less' same))
    (λ behind. ⊎_elim (λ after. absurd (are.differ j i [] after less (sym same))) (λ other. omega arith) (cases_lt j i)) (cases_lt i j)

one_decimal : (m n : ℕ) → m < 10 ^ 64 → n < 10 ^ 64 → decimal m ≡ decimal n → m ≡ n
one_decimal m n x y same = sym (decimal_value m x) ∙ ap (digits_value 10) same ∙ decimal_value n y

one_signed : (y z : ℤ) → nat_abs y < 10 ^ 64 → nat_abs z < 10 ^ 64 → signed_decimal y ≡ signed_decimal z → y ≡ z
one_signed y z few few' same = one_numeral (signed_decimal z) y z (subst (λ t. IsNumeral t y) same (written_numeral y few)) (written_numeral z few')

first_same : {X : Type 0} (x : X) (xs : List X) (y : X) (ys : List X) → x ∷ xs ≡ y ∷ ys → x ≡ y
first_same x xs y ys e = cc

-- fields that begin with other words
other_words : (v w : List ℕ) (a b : List (List ℕ)) → v ∷ a ≡ w ∷ b → bytes_eq v w ≡ false → ⊥
other_words v w a b e other = true≢false (sym ((bytes_eq-Decides v w).1 (first_same v a w b e)) ∙ other)

one_name : (lts : System) (m n : RowName) → IsWellFormed lts → IsRowNameOf lts m → IsRowNameOf lts n → row_fields lts m ≡ row_fields lts n → m ≡ n
one_name lts (row_name.Arc one) (row_name.Arc other) fine x y e =
    let a : state_name lts one.from ≡ state_name lts other.from = cc in
    let b : label_name lts one.label ≡ label_name lts other.label = cc in
    let c : state_name lts one.to ≡ state_name lts other.to = cc in
    let i = one_number lts.state_names one.from other.from fine.state_names x.0 y.0 a in
    let j = one_number lts.label_names one.label other.label fine.label_names x.1 y.1 b in
    let k = one_number lts.state_names one.to other.to fine.state_names x.2 y.2 c in
    (λ n. row_name.Arc (arc (i n) (j n) (k n)))
one_name lts (row_name.Tokens q) (row_name.Tokens r) fine x y e = let same : state_name lts q ≡ state_name lts r = cc in ap row_name.Tokens (one_number lts.state_names q r fine.state_names x y same)
one_name lts (row_name.Cap q) (row_name.Cap r) fine x y e = let same : state_name lts q ≡ state_name lts r = cc in ap row_name.Cap (one_number lts.state_names q r fine.state_names x y same)
one_name lts (row_name.Up t) (row_name.Up u) fine x y e = let same : label_name lts t ≡ label_name lts u = cc in ap row_name.Up (one_number lts.label_names t u fine.label_names x y same)
one_name lts (row_name.Down t) (row_name.Down u) fine x y e = let same : label_name lts t ≡ label_name lts u = cc in ap row_name.Down (one_number lts.label_names t u fine.label_names x y same)
one_name lts (row_name.Makes t) (row_name.Makes u) fine x y e = let same : label_name lts t ≡ label_name lts u = cc in ap row_name.Makes (one_number lts.label_names t u fine.label_names x y same)
one_name lts (row_name.Stop q) (row_name.Stop r) fine x y e = let same : state_name lts q ≡ state_name lts r = cc in ap row_name.Stop (one_number lts.state_names q r fine.state_names x y same)
one_name lts row_name.Block row_name.Block fine x y e = refl
one_name lts row_name.Empty row_name.Empty fine x y e = refl
one_name lts (row_name.Full q) (row_name.Full r) fine x y e = let same : state_name lts q ≡ state_name lts r = cc in ap row_name.Full (one_number lts.state_names q r fine.state_names x y same)
one_name lts row_name.Keep row_name.Keep fine x y e = refl
one_name lts row_name.Apart row_name.Apart fine x y e = refl
one_name lts (row_name.Above d) (row_name.Above c) fine x y e = let same : decimal d ≡ decimal c = cc in ap row_name.Above (one_decimal d c (omega (arith, x)) (omega (arith, y)) same)
one_name lts m n fine x y e = absurd (other_words _ _ _ _ e refl)

one_row : (lts : System) (r s : NamedRow) → IsWellFormed lts → IsRowOf lts r → IsRowOf lts s → named_fields lts r ≡ named_fields lts s → r ≡ s
one_row lts r s fine x y e =
    let number : signed_decimal r.multiplier ≡ signed_decimal s.multiplier = cc in
    let name : row_fields lts r.name ≡ row_fields lts s.name = cc in
    let k = one_signed r.multiplier s.multiplier (omega (arith, x.multiplier)) (omega (arith, y.multiplier)) number in
    let n = one_name lts r.name s.name fine x.name y.name name in
    (λ i. record { multiplier = k i; name = n i })

one_form_of_split : (lts : System) (v w : Form) (a b : List ℕ) → IsWellFormed lts → IsFormOf lts v → IsFormOf lts w
    → form_fields lts v ++ a ∷ [] ≡ form_fields lts w ++ b ∷ [] → (v ≡ w) × (a ≡ b)
one_form_of_split lts (split_form.Tokens q) (split_form.Tokens r) a b fine x y e =
    let same : state_name lts q ≡ state_name lts r = cc in (ap split_form.Tokens (one_number lts.state_names q r fine.state_names x y same), cc)
one_form_of_split lts (split_form.Effect t) (split_form.Effect u) a b fine x y e =
    let same : label_name lts t ≡ label_name lts u = cc in (ap split_form.Effect (one_number lts.label_names t u fine.label_names x y same), cc)
one_form_of_split lts split_form.Start split_form.Start a b fine x y e = (refl, cc)
one_form_of_split lts v w a b fine x y e = absurd (other_words _ _ _ _ e refl)

-- the lines don't begin with a row
abbrev starts_word : List (List ℕ) → Bool
starts_word [] = true
starts_word (w ∷ more) = begins_word w

abbrev NoRow : List (List (List ℕ)) → Type 0
NoRow [] = Unit {0}
NoRow (line ∷ more) = starts_word line ≡ true

row_starts : (lts : System) (r : NamedRow) → IsRowOf lts r → starts_word (named_fields lts r) ≡ false
row_starts lts r is = numeral_low (signed_decimal r.multiplier) r.multiplier (written_numeral r.multiplier (omega (arith, is.multiplier)))

one_leaf : (lts : System) (rows others : List NamedRow) (xs ys : List (List (List ℕ))) → IsWellFormed lts → All (IsRowOf lts) rows → All (IsRowOf lts) others → NoRow xs → NoRow ys
    → map (named_fields lts) rows ++ xs ≡ map (named_fields lts) others ++ ys → (rows ≡ others) × (xs ≡ ys)
one_leaf lts [] [] xs ys fine x y nx ny e = (refl, e)
one_leaf lts [] (s ∷ others) [] ys fine x y nx ny e = absurd cc
one_leaf lts [] (s ∷ others) (line ∷ xs) ys fine x y nx ny e =
    let same : line ≡ named_fields lts s = cc in
    let starts : true ≡ false = sym nx ∙ ap starts_word same ∙ row_starts lts s (All-head (IsRowOf lts) s others y) in
    absurd cc
one_leaf lts (r ∷ rows) [] xs [] fine x y nx ny e = absurd cc
one_leaf lts (r ∷ rows) [] xs (line ∷ ys) fine x y nx ny e =
    let same : line ≡ named_fields lts r = cc in
    let starts : true ≡ false = sym ny ∙ ap starts_word same ∙ row_starts lts r (All-head (IsRowOf lts) r rows x) in
    absurd cc
one_leaf lts (r ∷ rows) (s ∷ others) xs ys fine x y nx ny e =
    let head : named_fields lts r ≡ named_fields lts s = cc in
    let tail : map (named_fields lts) rows ++ xs ≡ map (named_fields lts) others ++ ys = cc in
    let more = one_leaf lts rows others xs ys fine (All-tail (IsRowOf lts) r rows x) (All-tail (IsRowOf lts) s others y) nx ny tail in
    (ap₂ ◌∷◌ (one_row lts r s fine (All-head (IsRowOf lts) r rows x) (All-head (IsRowOf lts) s others y) head) more.0, more.1)

tree_no_row : (lts : System) (tree : Tree) (xs : List (List (List ℕ))) → NoRow (flat_map (node_lines lts) (preorder tree) ++ xs)
tree_no_row lts (leaf rows) xs = refl
tree_no_row lts (split form at low high) xs = refl

split_parts : (lts : System) (low high : Tree) (xs : List (List (List ℕ)))
    → flat_map (node_lines lts) (preorder low ++ preorder high) ++ xs ≡ flat_map (node_lines lts) (preorder low) ++ (flat_map (node_lines lts) (preorder high) ++ xs)
split_parts lts low high xs =
    ap (λ l. l ++ xs) (flat_map-append (node_lines lts) (preorder low) (preorder high)) ∙ append_assoc (flat_map (node_lines lts) (preorder low)) (flat_map (node_lines lts) (preorder high)) xs

leaf_parts : (lts : System) (rows : List NamedRow) (xs : List (List (List ℕ)))
    → flat_map (node_lines lts) (preorder (leaf rows)) ++ xs ≡ (codes "leaf" ∷ []) ∷ (map (named_fields lts) rows ++ xs)
leaf_parts lts rows xs = ap (λ l. l ++ xs) (append-nil (node_lines lts (leaf_node rows)))

-- lines begin with one tree
one_tree : (lts : System) (t u : Tree) (xs ys : List (List (List ℕ))) → IsWellFormed lts → IsTreeOf lts t → IsTreeOf lts u → NoRow xs → NoRow ys
    → flat_map (node_lines lts) (preorder t) ++ xs ≡ flat_map (node_lines lts) (preorder u) ++ ys → (t ≡ u) × (xs ≡ ys)
one_tree lts (leaf rows) (leaf others) xs ys fine x y nx ny e =
    let whole = sym (leaf_parts lts rows xs) ∙ e ∙ leaf_parts lts others ys in
    let tail : map (named_fields lts) rows ++ xs ≡ map (named_fields lts) others ++ ys = cc in
    let more = one_leaf lts rows others xs ys fine (All-head (IsNodeOf lts) (leaf_node rows) [] x) (All-head (IsNodeOf lts) (leaf_node others) [] y) nx ny tail in
    (ap leaf more.0, more.1)
one_tree lts (leaf rows) (split form at low high) xs ys fine x y nx ny e = absurd (other_words _ _ _ _ (first_same _ _ _ _ e) refl)
one_tree lts (split form at low high) (leaf rows) xs ys fine x y nx ny e = absurd (other_words _ _ _ _ (first_same _ _ _ _ e) refl)
one_tree lts (split f a low high) (split g b low' high') xs ys fine x y nx ny e =
    let first : form_fields lts f ++ signed_decimal a ∷ [] ≡ form_fields lts g ++ signed_decimal b ∷ [] = cc in
    let rest : flat_map (node_lines lts) (preorder low ++ preorder high) ++ xs ≡ flat_map (node_lines lts) (preorder low' ++ preorder high') ++ ys = cc in
    let x₀ = All-head (IsNodeOf lts) (split_node f a) (preorder low ++ preorder high) x in
    let y₀ = All-head (IsNodeOf lts) (split_node g b) (preorder low' ++ preorder high') y in
    let x₁ = sides (IsNodeOf lts) (preorder low) (preorder high) (All-tail (IsNodeOf lts) (split_node f a) (preorder low ++ preorder high) x) in
    let y₁ = sides (IsNodeOf lts) (preorder low') (preorder high') (All-tail (IsNodeOf lts) (split_node g b) (preorder low' ++ preorder high') y) in
    let v = one_form_of_split lts f g (signed_decimal a) (signed_decimal b) fine x₀.0 y₀.0 first in
    let n = one_signed a b (omega (arith, x₀.1)) (omega (arith, y₀.1)) v.1 in
    let l = one_tree lts low low' (flat_map (node_lines lts) (preorder high) ++ xs) (flat_map (node_lines lts) (preorder high') ++ ys) fine x₁.0 y₁.0
    (tree_no_row lts high xs) (tree_no_row lts high' ys) (sym (split_parts lts low high xs) ∙ rest ∙ split_parts lts low' high' ys) in
    let h = one_tree lts high high' xs ys fine x₁.1 y₁.1 nx ny l.1 in
    ((λ i. split (v.0 i) (n i) (l.0 i) (h.0 i)), h.1)

cases_no_row : (lts : System) (trees : List Tree) → NoRow (flat_map (case_lines lts) trees)
cases_no_row lts [] = tt
cases_no_row lts (tree ∷ trees) = refl

one_cases : (lts : System) (ts us : List Tree) → IsWellFormed lts → All (IsTreeOf lts) ts → All (IsTreeOf lts) us → flat_map (case_lines lts) ts ≡ flat_map (case_lines lts) us → ts ≡ us
one_cases lts [] [] fine x y e = refl
one_cases lts [] (u ∷ us) fine x y e = absurd cc
one_cases lts (t ∷ ts) [] fine x y e = absurd cc
one_cases lts (t ∷ ts) (u ∷ us) fine x y e =
    let rest : flat_map (node_lines lts) (preorder t) ++ flat_map (case_lines lts) ts ≡ flat_map (node_lines lts) (preorder u) ++ flat_map (case_lines lts) us = cc in
    let first = one_tree lts t u (flat_map (case_lines lts) ts) (flat_map (case_lines lts) us) fine (All-head (IsTreeOf lts) t ts x) (All-head (IsTreeOf lts) u us y)
    (cases_no_row lts ts) (cases_no_row lts us) rest in
    ap₂ ◌∷◌ first.0 (one_cases lts ts us fine (All-tail (IsTreeOf lts) t ts x) (All-tail (IsTreeOf lts) u us y) first.1)

one_reason : (lts : System) (a b : refutes.Reason) → IsWellFormed lts → IsReasonOf lts a → IsReasonOf lts b → reason_lines lts a ≡ reason_lines lts b → a ≡ b
one_reason lts (refutes.unreachable s) (refutes.unreachable r) fine x y e =
    let same : state_name lts s ≡ state_name lts r = cc in ap refutes.unreachable (one_number lts.state_names s r fine.state_names x y same)
one_reason lts (refutes.fork s t s₁ s₂) (refutes.fork r u r₁ r₂) fine x y e =
    let p : state_name lts s ≡ state_name lts r = cc in
    let q : label_name lts t ≡ label_name lts u = cc in
    let p₁ : state_name lts s₁ ≡ state_name lts r₁ = cc in
    let p₂ : state_name lts s₂ ≡ state_name lts r₂ = cc in
    let i = one_number lts.state_names s r fine.state_names x.0 y.0 p in
    let j = one_number lts.label_names t u fine.label_names x.1 y.1 q in
    let i₁ = one_number lts.state_names s₁ r₁ fine.state_names x.2 y.2 p₁ in
    let i₂ = one_number lts.state_names s₂ r₂ fine.state_names x.3 y.3 p₂ in
    (λ k. refutes.fork (i k) (j k) (i₁ k) (i₂ k))
one_reason lts (refutes.refuted (Event s t) ts) (refutes.refuted (Event r u) us) fine x y e =
    let p : state_name lts s ≡ state_name lts r = cc in
    let q : label_name lts t ≡ label_name lts u = cc in
    let rest : flat_map (case_lines lts) ts ≡ flat_map (case_lines lts) us = cc in
    let i = one_number lts.state_names s r fine.state_names x.0 y.0 p in
    let j = one_number lts.label_names t u fine.label_names x.1 y.1 q in
    let trees = one_cases lts ts us fine x.3 y.3 rest in
    (λ k. refutes.refuted (Event (i k) (j k)) (trees k))
one_reason lts (refutes.refuted (States s s') ts) (refutes.refuted (States r r') us) fine x y e =
    let p : state_name lts s ≡ state_name lts r = cc in
    let q : state_name lts s' ≡ state_name lts r' = cc in
    let rest : flat_map (case_lines lts) ts ≡ flat_map (case_lines lts) us = cc in
    let i = one_number lts.state_names s r fine.state_names x.0 y.0 p in
    let j = one_number lts.state_names s' r' fine.state_names x.1 y.1 q in
    let trees = one_cases lts ts us fine x.2 y.2 rest in
    (λ k. refutes.refuted (States (i k) (j k)) (trees k))
one_reason lts (refutes.unreachable s) (refutes.fork r u r₁ r₂) fine x y e = absurd (other_words _ _ _ _ (first_same _ _ _ _ e) refl)
one_reason lts (refutes.unreachable s) (refutes.refuted (Event r u) us) fine x y e = absurd (other_words _ _ _ _ (first_same _ _ _ _ e) refl)
one_reason lts (refutes.unreachable s) (refutes.refuted (States r r') us) fine x y e = absurd (other_words _ _ _ _ (first_same _ _ _ _ e) refl)
one_reason lts (refutes.fork s t s₁ s₂) (refutes.unreachable r) fine x y e = absurd (other_words _ _ _ _ (first_same _ _ _ _ e) refl)
one_reason lts (refutes.fork s t s₁ s₂) (refutes.refuted (Event r u) us) fine x y e = absurd (other_words _ _ _ _ (first_same _ _ _ _ e) refl)
one_reason lts (refutes.fork s t s₁ s₂) (refutes.refuted (States r r') us) fine x y e = absurd (other_words _ _ _ _ (first_same _ _ _ _ e) refl)
one_reason lts (refutes.refuted (Event s t) ts) (refutes.unreachable r) fine x y e = absurd (other_words _ _ _ _ (first_same _ _ _ _ e) refl)
one_reason lts (refutes.refuted (Event s t) ts) (refutes.fork r u r₁ r₂) fine x y e = absurd (other_words _ _ _ _ (first_same _ _ _ _ e) refl)
one_reason lts (refutes.refuted (Event s t) ts) (refutes.refuted (States r r') us) fine x y e = absurd (other_words _ _ _ _ (first_same _ _ _ _ e) refl)
one_reason lts (refutes.refuted (States s s') ts) (refutes.unreachable r) fine x y e = absurd (other_words _ _ _ _ (first_same _ _ _ _ e) refl)
one_reason lts (refutes.refuted (States s s') ts) (refutes.fork r u r₁ r₂) fine x y e = absurd (other_words _ _ _ _ (first_same _ _ _ _ e) refl)
one_reason lts (refutes.refuted (States s s') ts) (refutes.refuted (Event r u) us) fine x y e = absurd (other_words _ _ _ _ (first_same _ _ _ _ e) refl)

-- the class and the reason of lines
line_parts : (lts : System) (v w : Version) (m n : List ℕ) (a b : refutes.Reason) → cert_lines v m lts a ≡ cert_lines w n lts b → (m ≡ n) × (reason_lines lts a ≡ reason_lines lts b)
unfolding cert_lines
line_parts lts v w m n a b e =
    let class : m ≡ n = cc in
    let rest : reason_lines lts a ++ (codes "end" ∷ []) ∷ [] ≡ reason_lines lts b ++ (codes "end" ∷ []) ∷ [] = cc in
    (class, append_cancel_right (reason_lines lts a) (reason_lines lts b) ((codes "end" ∷ []) ∷ []) rest)

pub spelled_lines : (bytes : List ℕ) (lts : System) (claim : Claim) → (is : Spells bytes lts claim) → bytes ≡ fed (map spaced (cert_lines is.version is.class lts claim.reason))
unfolding text_with
spelled_lines bytes lts claim is = is.text

pub one_claim : (bytes : List ℕ) (lts : System) (a b : Claim) → IsWellFormed lts → Spells bytes lts a → Spells bytes lts b → a ≡ b
one_claim bytes lts a b fine x y =
    let lines = one_lines lts bytes (cert_lines x.version x.class lts a.reason) (cert_lines y.version y.class lts b.reason)
    (claim_leads lts x.version x.class a fine x.named x.in_range.reason x.fits) (claim_leads lts y.version y.class b fine y.named y.in_range.reason y.fits)
    (spelled_lines bytes lts a x) (spelled_lines bytes lts b y) in
    let parts = line_parts lts x.version y.version x.class y.class a.reason b.reason lines in
    let class = one_class y.class a.class b.class (subst (λ t. NamesClass t a.class) parts.0 x.named) y.named in
    let reason = one_reason lts a.reason b.reason fine x.in_range.reason y.in_range.reason parts.1 in
    (λ i. record { class = class i; reason = reason i })

pub told : (lts : System) (a b : Claim) → IsWellFormed lts → IsClaimOf lts a → IsClaimOf lts b → cert_text a lts ≡ cert_text b lts → a ≡ b
told lts a b fine x y same =
    one_claim (cert_text a lts) lts a b fine (text_spells a lts (cert_text a lts) x refl) (text_spells b lts (cert_text a lts) y same)

-- a text that spells a claim has no fault
pub not_both : (bytes : List ℕ) (lts : System) (claim : Claim) (fault : CertFault) → IsWellFormed lts → Spells bytes lts claim → FirstFault bytes lts fault → ⊥
not_both bytes lts claim fault fine is fails =
    let lines = cert_lines is.version is.class lts claim.reason in
    no_fault lts at_heading bytes 1 (map spaced lines) fault (record {
      cut = spelled_lines bytes lts claim is ∙ sym (append-nil (fed (map spaced lines)));
      lines = lead_all_of lts at_heading lines at_end (claim_leads lts is.version is.class claim fine is.named is.in_range.reason is.fits);
    }) fails
