-- The text of a net is read as the items of that net.
use Rattle.std.proofs.Common.{◌≡◌, ℕ, ◌+◌, ◌<◌, ◌^◌, List, [], ◌∷◌, ◌++◌, length, map, codes, All, refl, sym, ap, ◌∙◌, arith, append_assoc}
use Rattle.std.specs.List.{range_with_len}
use Rattle.std.proofs.lemmas.List.{length-map}
use Rattle.std.proofs.lemmas.List.Elements.{All-head, All-tail}
use Rattle.rg_text.specs.Byte.{IsName}
use Rattle.rg_text.specs.Line.{fed}
use Rattle.rg_theory.specs.Net.{Place, Net, pre_weight, post_weight}
use Rattle.rg_lexer.specs.Lexeme.{Lexeme}
use Rattle.rg_lexer.specs.declared.token.Kind.TheVariants.{Name, Word, Colon, Arrow}
use Rattle.rg_lexer.proofs.Printed.{Reads, Then, reads_same, reads_more, reads_token, reads_blank, reads_name, reads_word, reads_end, literal_name}
use Rattle.rg_grammar.specs.Entry.{AreEach}
use Rattle.rg_grammar.proofs.Printed.{NamesThen, reads_names}
use Rattle.rg_net.specs.NetText.{place_name, set_text, taken_by, put_by, starts, flow_lines}
use Rattle.rg_net_grammar.specs.Item.{Flow, IsFlow}
use Rattle.rg_netfile.specs.LabelledTexts.{lines_with}
use Rattle.rg_netfile.proofs.PlaceNames.{IsPrefix}
use Rattle.rg_netfile.proofs.SetTexts.{AreMembers, SetThen, reads_set}
use Rattle.rg_netfile.proofs.Texts.{parts_with, place_lines, flows_of, marking_of}

-- these are the flows of the labels from t on
abbrev pub AreFlows : List ℕ → Net → ℕ → List (List ℕ) → List Flow → Type 0
AreFlows q net t [] fs = fs ≡ []
AreFlows q net t (name ∷ names) fs = (f : Flow) × (more : List Flow) × (fs ≡ f ∷ more) × (f.name.text ≡ name)
    × AreMembers q 0 (taken_by net t) f.pre × AreMembers q 0 (put_by net t) f.post × AreFlows q net (t + 1) names more

-- the numbers are small enough to be printed whole
pub record IsPrintable (net : Net) : Type 0 where
  pub few : length net.places < 10 ^ 64
  pub pre : (t : ℕ) → All (λ w. w < 10 ^ 64) (taken_by net t)
  pub post : (t : ℕ) → All (λ w. w < 10 ^ 64) (put_by net t)
  pub start : All (λ w. w < 10 ^ 64) (starts net)

pub record FlowsThen (q : List ℕ) (net : Net) (t : ℕ) (names : List (List ℕ)) (P : List Lexeme → Type 0) (xs : List Lexeme) : Type 0 where
  pub flows : List Flow
  pub front : List Lexeme
  pub others : List Lexeme
  pub are : AreFlows q net t names flows
  pub each : AreEach IsFlow flows front
  pub rest : P others
  pub whole : xs ≡ front ++ others

-- the tokens of a flow, and then others
abbrev FlowTokens : List ℕ → Net → ℕ → List ℕ → (List Lexeme → Type 0) → List Lexeme → Type 0
FlowTokens q net t name P = Then Name name (Then Colon (codes ":") (SetThen q (taken_by net t) (Then Arrow (codes "->") (SetThen q (put_by net t) P))))

flow_then : (q : List ℕ) (net : Net) (t : ℕ) (name : List ℕ) (names : List (List ℕ)) (P : List Lexeme → Type 0) (xs : List Lexeme)
    → FlowTokens q net t name (FlowsThen q net (t + 1) names P) xs → FlowsThen q net t (name ∷ names) P xs
flow_then q net t name names P xs (x, after_x, kind, text, (colon, after_colon, colon_kind, colon_text, pre, whole₂), whole₁) =
    by pre.rest
  where
    by : Then Arrow (codes "->") (SetThen q (put_by net t) (FlowsThen q net (t + 1) names P)) pre.others → FlowsThen q net t (name ∷ names) P xs
    by (arrow, after_arrow, arrow_kind, arrow_text, post, whole₃) =
        let then = post.rest in
        let flow : Flow = record { name = x; pre = pre.members; post = post.members } in
        let tokens = x ∷ colon ∷ (pre.front ++ arrow ∷ post.front) in
        record {
          flows = flow ∷ then.flows;
          front = tokens ++ then.front;
          others = then.others;
          are = (flow, then.flows, refl, text, pre.are, post.are, then.are);
          each = (
            tokens,
            then.front,
            (kind, (colon, pre.front, arrow, post.front, colon_kind, pre.is, arrow_kind, post.is, refl)),
            then.each,
            refl,
          );
          rest = then.rest;
          whole = whole₁ ∙ ap (λ l. x ∷ l) (whole₂ ∙ ap (λ l. colon ∷ l)
              (pre.whole ∙ ap (λ l. pre.front ++ l) (whole₃ ∙ ap (λ l. arrow ∷ l) (post.whole ∙ ap (λ l. post.front ++ l) then.whole))
              ∙ joined pre.front post.front then.front then.others arrow));
        }
      where
        joined : (a b c d : List Lexeme) (y : Lexeme) → a ++ y ∷ (b ++ (c ++ d)) ≡ ((a ++ y ∷ b) ++ c) ++ d
        joined a b c d y = sym (append_assoc (a ++ y ∷ b) c d ∙ append_assoc a (y ∷ b) (c ++ d))

line_parts : (name s₁ s₂ rest text : List ℕ)
    → name ++ 58 ∷ 32 ∷ (s₁ ++ 32 ∷ 45 ∷ 62 ∷ 32 ∷ (s₂ ++ 10 ∷ (rest ++ text))) ≡ ((name ++ codes ": " ++ s₁ ++ codes " -> " ++ s₂) ++ 10 ∷ rest) ++ text
line_parts name s₁ s₂ rest text =
    sym (append_assoc (name ++ codes ": " ++ s₁ ++ codes " -> " ++ s₂) (10 ∷ rest) text
    ∙ append_assoc (name ++ codes ": " ++ s₁ ++ codes " -> ") s₂ (10 ∷ (rest ++ text))
    ∙ append_assoc (name ++ codes ": " ++ s₁) (codes " -> ") (s₂ ++ 10 ∷ (rest ++ text))
    ∙ append_assoc (name ++ codes ": ") s₁ (codes " -> " ++ (s₂ ++ 10 ∷ (rest ++ text)))
    ∙ append_assoc name (codes ": ") (s₁ ++ (codes " -> " ++ (s₂ ++ 10 ∷ (rest ++ text)))))

reads_flows : (q : List ℕ) (net : Net) (t : ℕ) (names : List (List ℕ)) (text : List ℕ) (P : List Lexeme → Type 0) → IsPrefix q → IsPrintable net → All IsName names
    → Reads text P → Reads (fed (flow_lines q net t names) ++ text) (FlowsThen q net t names P)
reads_flows q net t [] text P prefix small are reads =
    reads_more text P (FlowsThen q net t [] P) (λ xs p. record { flows = []; front = []; others = xs; are = refl; each = refl; rest = p; whole = refl }) reads
reads_flows q net t (name ∷ names) text P prefix small are reads =
    let rest = fed (flow_lines q net (t + 1) names) in
    let More = FlowsThen q net (t + 1) names P in
    let pre = set_text q (taken_by net t) in
    let post = set_text q (put_by net t) in
    let Post = SetThen q (put_by net t) More in
    let Arrow_then = Then Arrow (codes "->") Post in
    let Pre = SetThen q (taken_by net t) Arrow_then in
    let long = length-map net.places (λ p. pre_weight p t) in
    let long' = length-map net.places (λ p. post_weight p t) in
    let few = small.few in
    let after_post = 10 ∷ (rest ++ text) in
    let after_arrow = 32 ∷ (post ++ after_post) in
    let after_pre = 32 ∷ 45 ∷ 62 ∷ after_arrow in
    let after_colon = 32 ∷ (pre ++ after_pre) in
    reads_same (name ++ 58 ∷ after_colon) (fed (flow_lines q net t (name ∷ names)) ++ text) (FlowsThen q net t (name ∷ names) P)
    (line_parts name pre post rest text)
    (reads_more (name ++ 58 ∷ after_colon) (FlowTokens q net t name More) (FlowsThen q net t (name ∷ names) P) (λ xs. flow_then q net t name names P xs)
    (reads_name name 58 after_colon (Then Colon (codes ":") Pre) (All-head IsName name names are) refl
    (reads_token Colon (codes ":") after_colon Pre refl tt
    (reads_blank 32 (pre ++ after_pre) Pre refl
    (reads_set q (taken_by net t) after_pre Arrow_then prefix (omega arith) (small.pre t)
    (reads_blank 32 (45 ∷ 62 ∷ after_arrow) Arrow_then refl
    (reads_token Arrow (codes "->") after_arrow Post refl tt
    (reads_blank 32 (post ++ after_post) Post refl
    (reads_set q (put_by net t) after_post More prefix (omega arith) (small.post t)
    (reads_blank 10 (rest ++ text) More refl
    (reads_flows q net (t + 1) names text P prefix small (All-tail IsName name names are) reads)))))))))))

-- nothing follows
abbrev Ends : List Lexeme → Type 0
Ends xs = xs ≡ []

-- the tokens from each section on
abbrev pub MarkingSection : List ℕ → Net → List Lexeme → Type 0
MarkingSection q net = Then Word (codes ".initial_marking") (SetThen q (starts net) Ends)

abbrev pub FlowSection : List ℕ → Net → List (List ℕ) → List Lexeme → Type 0
FlowSection q net names = Then Word (codes ".flows") (FlowsThen q net 0 names (MarkingSection q net))

abbrev pub TransitionSection : List ℕ → Net → List (List ℕ) → List Lexeme → Type 0
TransitionSection q net names = Then Word (codes ".transitions") (NamesThen names (FlowSection q net names))

abbrev pub PlaceSection : List ℕ → Net → List (List ℕ) → List Lexeme → Type 0
PlaceSection q net names =
    Then Word (codes ".places") (NamesThen (map (place_name q) (range_with_len 0 (length net.places))) (TransitionSection q net names))

abbrev pub TypeSection : List ℕ → List ℕ → Net → List (List ℕ) → List Lexeme → Type 0
TypeSection type q net names = Then Word (codes ".type") (Then Name type (PlaceSection q net names))

reads_marking : (q : List ℕ) (net : Net) → IsPrefix q → IsPrintable net → Reads (marking_of q net) (MarkingSection q net)
reads_marking q net prefix small =
    let set = set_text q (starts net) in
    let Set_then = SetThen q (starts net) Ends in
    let few = small.few in
    let long = length-map net.places (λ (p : Place). p.start) in
    reads_same (46 ∷ (codes "initial_marking" ++ 32 ∷ (set ++ 10 ∷ []))) (marking_of q net) (MarkingSection q net)
    (sym (append_assoc (codes ".initial_marking ") set (10 ∷ [])))
    (reads_word (codes "initial_marking") 32 (set ++ 10 ∷ []) Set_then (literal_name (codes "initial_marking") (omega arith) (omega arith) refl) refl
    (reads_blank 32 (set ++ 10 ∷ []) Set_then refl
    (reads_set q (starts net) (10 ∷ []) Ends prefix (omega arith) small.start
    (reads_blank 10 [] Ends refl (reads_end Ends refl)))))

-- the lines of a net of a type
abbrev pub typed_lines : List ℕ → List ℕ → Net → List (List ℕ) → List (List ℕ)
typed_lines type q net names = lines_with (codes ".type " ++ type) names q net names

pub reads_net : (type q : List ℕ) (net : Net) (names : List (List ℕ)) → IsName type → IsPrefix q → IsPrintable net → All IsName names
    → All IsName (map (place_name q) (range_with_len 0 (length net.places))) → Reads (fed (typed_lines type q net names)) (TypeSection type q net names)
reads_net type q net names typed prefix small are places =
    let marking = marking_of q net in
    let flows = flows_of q net names ++ marking in
    let transitions = fed names ++ (codes ".flows\n" ++ flows) in
    let lines = place_lines q (length net.places) ++ (codes ".transitions\n" ++ transitions) in
    let Flows = FlowsThen q net 0 names (MarkingSection q net) in
    let Transitions = NamesThen names (FlowSection q net names) in
    let Places = NamesThen (map (place_name q) (range_with_len 0 (length net.places))) (TransitionSection q net names) in
    let Type_name = Then Name type (PlaceSection q net names) in
    let after_type = type ++ (codes "\n.places\n" ++ lines) in
    reads_same (codes ".type " ++ after_type) (fed (typed_lines type q net names)) (TypeSection type q net names)
    (sym (parts_with (codes ".type " ++ type ++ codes "\n.places\n") (codes ".type " ++ type) names q net names (λ more. ap (λ l. codes ".type " ++ l) (sym (append_assoc type (codes "\n.places\n") (fed more))))
    ∙ ap (λ l. codes ".type " ++ l) (append_assoc type (codes "\n.places\n") lines)))
    (reads_word (codes "type") 32 after_type Type_name (literal_name (codes "type") (omega arith) (omega arith) refl) refl
    (reads_blank 32 after_type Type_name refl
    (reads_name type 10 (codes ".places\n" ++ lines) (PlaceSection q net names) typed refl
    (reads_blank 10 (codes ".places\n" ++ lines) (PlaceSection q net names) refl
    (reads_word (codes "places") 10 lines Places (literal_name (codes "places") (omega arith) (omega arith) refl) refl
    (reads_blank 10 lines Places refl
    (reads_names (map (place_name q) (range_with_len 0 (length net.places))) (codes ".transitions\n" ++ transitions) (TransitionSection q net names) places
    (reads_word (codes "transitions") 10 transitions Transitions (literal_name (codes "transitions") (omega arith) (omega arith) refl) refl
    (reads_blank 10 transitions Transitions refl
    (reads_names names (codes ".flows\n" ++ flows) (FlowSection q net names) are
    (reads_word (codes "flows") 10 flows Flows (literal_name (codes "flows") (omega arith) (omega arith) refl) refl
    (reads_blank 10 flows Flows refl
    (reads_flows q net 0 names marking (MarkingSection q net) prefix small are (reads_marking q net prefix small))))))))))))))
