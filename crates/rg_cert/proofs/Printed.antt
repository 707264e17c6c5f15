-- The text of a certificate, piece by piece.
use Rattle.std.proofs.Common.{◌≡◌, Bool, true, false, if◌then◌else◌, refl, ℕ, ◌+◌, ◌<◌, List, [], ◌∷◌, ◌++◌, length, map, drop, get_or, codes, All, sym, ap, ap₂, subst, ◌∙◌, append_assoc, arith}
use Rattle.std.specs.List.{flat_map}
use Rattle.std.proofs.Math.ListN.{get_or-map}
use Rattle.std.proofs.lemmas.List.{drop_more, map-append, length-map}
use Rattle.std.proofs.lemmas.List.Elements.{All-nil, All-cons, All-head, All-tail, All-weaker}
use Rattle.rg_text.specs.Line.{fed}
use Rattle.rg_theory.specs.System.{System}
use Rattle.rg_theory.specs.ClassWords.{class_text}
use Rattle.rg_theory.proofs.ClassWritten.{written}
use Rattle.rg_cert_data.specs.declared.certificate.Case.{Case}
use Rattle.rg_cert_data.specs.declared.certificate.Reason.{Reason}
use Rattle.rg_cert_data.specs.declared.certificate.Reason.TheVariants.{Unreachable, Fork, Event, States}
use Rattle.rg_cert_data.specs.Trees.{nodes_of}
use Rattle.rg_cert_data.specs.Certificates.{Claim, reason_of, case_tree, IsWhole, HasWholeCases, IsNodeOf, IsTreeOf, IsReasonOf, IsClaimOf}
use Rattle.rg_cert.specs.Text.{Version, version_one, version_two, heading, version_of, asks_two, reason_lines, spaced, cert_lines, text_with, cert_text}
use Rattle.rg_cert.specs.Spells.{Spells}
use Rattle.rg_cert.specs.Drafts.{head_fields, IsHeadOf, nodes_lines, IsNodeIn, IsCase}
use Rattle.rg_cert.specs.View.{reason_head, reason_cases}
use Rattle.rg_text.proofs.Grown.{fed-append as fed_append}
use Rattle.rg_cert.proofs.WholeReasons.{lines_of_reason}

-- what holds of each, of the one at a position
pub all_at : {X Y : Type 0} (P : Y → Type 0) (g : X → Y) (xs : List X) (i : ℕ) (x : X) → All P (map g xs) → i < length xs → x ≡ get_or xs i x → P (g x)
all_at P g xs i x each less is =
    subst P (get_or-map g xs i x ∙ ap g (sym is)) (each i (g x) (omega (arith, less, length-map xs g)))

pub row_at : {X Y : Type 0} (P : Y → Type 0) (g : X → Y) (xs : List X) (i : ℕ) (d : X) → All P (map g xs) → i < length xs → P (g (get_or xs i d))
row_at P g xs i d each less = subst P (get_or-map g xs i d) (each i (g d) (omega (arith, less, length-map xs g)))

-- the lines of one more thing
pub more_lines : {X Y : Type 0} (g : X → Y) (f : Y → List (List (List ℕ))) (xs : List X) (i : ℕ) (x : X) (t t' w : List ℕ) → i < length xs → x ≡ get_or xs i x
    → t' ≡ t ++ fed (map spaced (f (g x))) → t ++ fed (map spaced (flat_map f (map g (drop i xs)))) ≡ w → t' ++ fed (map spaced (flat_map f (map g (drop (i + 1) xs)))) ≡ w
more_lines g f xs i x t t' w less is grown whole =
    let rest = flat_map f (map g (drop (i + 1) xs)) in
    let first : drop i xs ≡ x ∷ drop (i + 1) xs = drop_more xs i x less ∙ ap (λ y. y ∷ drop (i + 1) xs) (sym is) in
    ap (λ l. l ++ fed (map spaced rest)) grown ∙ append_assoc t (fed (map spaced (f (g x)))) (fed (map spaced rest))
    ∙ ap (λ l. t ++ l) (sym (fed_append (map spaced (f (g x))) (map spaced rest)) ∙ ap fed (sym (map-append spaced (f (g x)) rest)))
    ∙ ap (λ l. t ++ fed (map spaced (flat_map f (map g l)))) (sym first) ∙ whole

-- the line of one more row
pub more_rows : {X Y : Type 0} (g : X → Y) (f : Y → List (List ℕ)) (xs : List X) (i : ℕ) (d : X) (t t' w : List ℕ) → i < length xs
    → t' ≡ t ++ (spaced (f (g (get_or xs i d))) ++ 10 ∷ []) → t ++ fed (map spaced (map f (map g (drop i xs)))) ≡ w → t' ++ fed (map spaced (map f (map g (drop (i + 1) xs)))) ≡ w
more_rows g f xs i d t t' w less grown whole =
    let x = get_or xs i d in
    let rest = fed (map spaced (map f (map g (drop (i + 1) xs)))) in
    ap (λ l. l ++ rest) grown ∙ append_assoc t (spaced (f (g x)) ++ 10 ∷ []) rest ∙ ap (λ l. t ++ l) (append_assoc (spaced (f (g x))) (10 ∷ []) rest)
    ∙ ap (λ l. t ++ fed (map spaced (map f (map g l)))) (sym (drop_more xs i d less)) ∙ whole

case_is : (lts : System) (case : Case) → IsWhole case → IsTreeOf lts (case_tree case) → IsCase lts version_two (nodes_of case)
case_is lts case whole tree = record {
  tree = case_tree case;
  whole = whole;
  each = All-weaker (IsNodeOf lts) (IsNodeIn lts version_two)
      (λ n h. record { of_system = h; fits = λ e. let both : version_two ≡ version_one = e in absurd cc }) (nodes_of case) (subst (All (IsNodeOf lts)) (sym whole) tree);
}

cases_are : (lts : System) (cases : List Case) → All IsWhole cases → All (IsTreeOf lts) (map case_tree cases) → All (IsCase lts version_two) (map nodes_of cases)
cases_are lts [] whole trees = All-nil (IsCase lts version_two)
cases_are lts (case ∷ cases) whole trees =
    All-cons (IsCase lts version_two) (nodes_of case) (map nodes_of cases)
    (case_is lts case (All-head IsWhole case cases whole) (All-head (IsTreeOf lts) (case_tree case) (map case_tree cases) trees))
    (cases_are lts cases (All-tail IsWhole case cases whole) (All-tail (IsTreeOf lts) (case_tree case) (map case_tree cases) trees))

-- the head and the cases of a reason whose numbers are in range
pub reason_parts : (lts : System) (reason : Reason) → HasWholeCases reason → IsReasonOf lts (reason_of reason) → IsHeadOf lts (reason_head reason) × All (IsCase lts version_two) (reason_cases reason)
reason_parts lts (Unreachable s) whole is = (is, All-nil (IsCase lts version_two))
reason_parts lts (Fork s t s₁ s₂) whole is = (is, All-nil (IsCase lts version_two))
reason_parts lts (Event s t case) whole is =
    ((is.0, is.1), All-cons (IsCase lts version_two) (nodes_of case) [] (case_is lts case whole (All-head (IsTreeOf lts) (case_tree case) [] is.3)) (All-nil (IsCase lts version_two)))
reason_parts lts (States s s' cases) whole is = ((is.0, is.1), cases_are lts cases.items whole is.2)

-- the text that grows by these pieces
pub grown_text : (lts : System) (version : Version) (class : List ℕ) (reason : Reason) (t₀ t t₁ t₂ t₃ t₄ t₅ : List ℕ) → All (IsCase lts version_two) (reason_cases reason) → t₀ ≡ []
    → t ≡ t₀ ++ (spaced (heading version) ++ 10 ∷ []) → t₁ ≡ t ++ codes "class "
    → t₂ ≡ t₁ ++ class → t₃ ≡ t₂ ++ 10 ∷ [] → t₄ ≡ t₃ ++ fed (map spaced (head_fields lts (reason_head reason) ∷ flat_map (nodes_lines lts) (reason_cases reason)))
    → t₅ ≡ t₄ ++ codes "end\n" → t₅ ≡ text_with version class lts (reason_of reason)
unfolding text_with cert_lines
grown_text lts version class reason t₀ t t₁ t₂ t₃ t₄ t₅ each e₀ e e₁ e₂ e₃ e₄ e₅ =
    let lines = reason_lines lts (reason_of reason) in
    let first = spaced (heading version) ++ 10 ∷ [] in
    e₅ ∙ ap (λ t. t ++ codes "end\n") (e₄ ∙ ap₂ (λ t l. t ++ fed (map spaced l))
    (e₃ ∙ ap (λ t. t ++ 10 ∷ []) (e₂ ∙ ap (λ t. t ++ class) (e₁ ∙ ap (λ t. t ++ codes "class ") (e ∙ ap (λ t. t ++ first) e₀))))
    (sym (lines_of_reason lts version_two reason each)))
    ∙ parts first (codes "class ") class (fed (map spaced lines))
    ∙ ap (λ l. first ++ (codes "class " ++ (class ++ 10 ∷ l))) (sym (fed_append (map spaced lines) (codes "end" ∷ [])) ∙ ap fed (sym (map-append spaced lines ((codes "end" ∷ []) ∷ []))))
    ∙ append_assoc (spaced (heading version)) (10 ∷ []) (codes "class " ++ (class ++ 10 ∷ fed (map spaced (lines ++ (codes "end" ∷ []) ∷ []))))
  where
    parts : (f a b l : List ℕ) → ((((f ++ a) ++ b) ++ 10 ∷ []) ++ l) ++ codes "end\n" ≡ f ++ (a ++ (b ++ 10 ∷ (l ++ codes "end\n")))
    parts f a b l = simp append_assoc

version_fits : (b : Bool) → (if b then version_two else version_one) ≡ version_one → b ≡ false
version_fits true first = let both : version_two ≡ version_one = first in absurd cc
version_fits false first = refl

-- the text of a claim spells it
pub text_spells : (claim : Claim) (lts : System) (text : List ℕ) → IsClaimOf lts claim → text ≡ cert_text claim lts → Spells text lts claim
text_spells claim lts text given is = record {
  in_range = given;
  version = version_of claim;
  fits = version_fits (asks_two claim);
  class = class_text claim.class;
  named = written claim.class given.numbers;
  text = is;
}
