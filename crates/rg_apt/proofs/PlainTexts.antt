-- Plain texts are read by the whole grammar as the system that they show.
use Rattle.std.proofs.Common.{◌≡◌, ◌↔◌, inl, inr, ℕ, ◌+◌, Bool, true, false, cond, eqb, ◌||◌, List, [], ◌∷◌, ◌++◌, get_or, map, Contains, All, Some, codes, refl, sym, ap, subst, ◌∙◌, arith, append_assoc, append-nil}
use Rattle.std.specs.List.{list_any}
use Rattle.std.specs.Str.{bytes_eq}
use Rattle.std.proofs.lemmas.List.Elements.{All-head, All-tail, All-contains, Contains-get_or}
use Rattle.std.proofs.lemmas.Option.{slice_get-get_or}
use Rattle.rg_text.specs.Byte.{IsName}
use Rattle.rg_text.specs.Line.{fed}
use Rattle.rg_theory.specs.declared.Arc.{Arc}
use Rattle.rg_theory.specs.System.{System, IsArcInRange}
use Rattle.rg_lexer.specs.Lexeme.{Lexeme}
use Rattle.rg_lexer.specs.declared.token.Kind.TheVariants.{Name, Word, LeftBracket, RightBracket}
use Rattle.rg_lexer.proofs.Printed.{Reads, Then, reads_lexemes, reads_same, reads_more, reads_end, reads_token, reads_blank, reads_name, reads_word, literal_name}
use Rattle.rg_grammar.specs.declared.list_position.Setting.TheVariants.{Alone}
use Rattle.rg_grammar.specs.Entry.{Entry, IsEntry, AreEach}
use Rattle.rg_grammar.proofs.Printed.{bare, NamesThen, reads_names}
use Rattle.rg_lts.specs.WellFormed.{IsWellFormed}
use Rattle.rg_apt.specs.Item.{Triple, Item, IsTriple, AreItems}
use Rattle.rg_apt.specs.Item as item
use Rattle.rg_apt.specs.Contents.{StateEntry, ArcNames, Declared, declared, marks}
use Rattle.rg_apt.specs.Spells.{Spells}
use Rattle.rg_apt.specs.Plain.{state_line, state_lines, name_at, arc_line, plain_lines, lts_text, IsPlainText}
use Rattle.rg_apt.proofs.PrintSteps.{text_parts}
use Rattle.rg_apt.proofs.Declares.{AreStatesOf, AreArcsOf, Declares, declares_none, declares_system}

abbrev state_of : Entry → StateEntry Lexeme
state_of e = record { name = e.name; initial = list_any marks e.settings }

abbrev names_of : Triple → ArcNames Lexeme
names_of t = record { from = t.from; label = t.label; to = t.to }

-- the entries of states, of which one is marked, and then tokens of which P holds
pub record StatesThen (initial s : ℕ) (names : List (List ℕ)) (P : List Lexeme → Type 0) (xs : List Lexeme) : Type 0 where
  pub entries : List Entry
  pub front : List Lexeme
  pub others : List Lexeme
  pub are : AreEach IsEntry entries front
  pub states : AreStatesOf initial s names (map state_of entries)
  pub rest : P others
  pub whole : xs ≡ front ++ others

plain_then : (initial s : ℕ) (name : List ℕ) (names : List (List ℕ)) (P : List Lexeme → Type 0) (xs : List Lexeme) → eqb s initial ≡ false
    → Then Name name (StatesThen initial (s + 1) names P) xs → StatesThen initial s (name ∷ names) P xs
plain_then initial s name names P xs e (x, more, kind, text, then, whole) = record {
  entries = record { name = x; settings = [] } ∷ then.entries;
  front = x ∷ then.front;
  others = then.others;
  are = (x ∷ [], then.front, (kind, ([], inr (refl, refl), refl)), then.are, refl);
  states = (text, sym e, then.states);
  rest = then.rest;
  whole = whole ∙ ap (λ l. x ∷ l) then.whole;
}

-- the tokens of the mark
abbrev MarkThen : (List Lexeme → Type 0) → List Lexeme → Type 0
MarkThen P = Then LeftBracket (codes "[") (Then Name (codes "initial") (Then RightBracket (codes "]") P))

marked_then : (initial s : ℕ) (name : List ℕ) (names : List (List ℕ)) (P : List Lexeme → Type 0) (xs : List Lexeme) → eqb s initial ≡ true
    → Then Name name (MarkThen (StatesThen initial (s + 1) names P)) xs → StatesThen initial s (name ∷ names) P xs
marked_then initial s name names P xs e
    (x, after_x, kind, text, (left, after_left, left_kind, left_text, (key, after_key, key_kind, key_text, (right, more, right_kind, right_text, then, whole₄), whole₃), whole₂), whole₁) = record {
      entries = record { name = x; settings = Alone key ∷ [] } ∷ then.entries;
      front = x ∷ left ∷ key ∷ right ∷ then.front;
      others = then.others;
      are = (
        x ∷ left ∷ key ∷ right ∷ [],
        then.front,
        (kind, (left ∷ key ∷ right ∷ [], inl (left, key ∷ [], right, left_kind, (key_kind, refl), right_kind, refl), refl)),
        then.are,
        refl,
      );
      states = (text, ap (λ t. bytes_eq t (codes "initial") || false) key_text ∙ sym e, then.states);
      rest = then.rest;
      whole = whole₁ ∙ ap (λ l. x ∷ l) (whole₂ ∙ ap (λ l. left ∷ l) (whole₃ ∙ ap (λ l. key ∷ l) (whole₄ ∙ ap (λ l. right ∷ l) then.whole)));
    }

initial_name : IsName (codes "initial")
initial_name = literal_name (codes "initial") (omega arith) (omega arith) refl

reads_states : (initial s : ℕ) (names : List (List ℕ)) (text : List ℕ) (P : List Lexeme → Type 0) → All IsName names → Reads text P
    → Reads (fed (state_lines initial s names) ++ text) (StatesThen initial s names P)
reads_states initial s [] text P are reads =
    reads_more text P (StatesThen initial s [] P)
    (λ xs p. record { entries = []; front = []; others = xs; are = refl; states = tt; rest = p; whole = refl }) reads
reads_states initial s (name ∷ names) text P are reads =
    by (eqb s initial) refl (reads_states initial (s + 1) names text P (All-tail IsName name names are) reads)
  where
    by : (b : Bool) → eqb s initial ≡ b → Reads (fed (state_lines initial (s + 1) names) ++ text) (StatesThen initial (s + 1) names P)
        → Reads (fed (state_lines initial s (name ∷ names)) ++ text) (StatesThen initial s (name ∷ names) P)
    by false e then =
        let line : state_line initial s name ≡ name = ap (λ b. cond b (name ++ codes "[initial]") name) e in
        let tail = fed (state_lines initial (s + 1) names) in
        let More = StatesThen initial (s + 1) names P in
        let Whole = StatesThen initial s (name ∷ names) P in
        reads_same (name ++ 10 ∷ (tail ++ text)) (fed (state_lines initial s (name ∷ names)) ++ text) Whole
        (sym (ap (λ l. (l ++ 10 ∷ tail) ++ text) line ∙ append_assoc name (10 ∷ tail) text))
        (reads_more (name ++ 10 ∷ (tail ++ text)) (Then Name name More) Whole (λ xs. plain_then initial s name names P xs e)
        (reads_name name 10 (tail ++ text) More (All-head IsName name names are) refl (reads_blank 10 (tail ++ text) More refl then)))
    by true e then =
        let line : state_line initial s name ≡ name ++ codes "[initial]" = ap (λ b. cond b (name ++ codes "[initial]") name) e in
        let tail = fed (state_lines initial (s + 1) names) in
        let More = StatesThen initial (s + 1) names P in
        let Whole = StatesThen initial s (name ∷ names) P in
        let Right = Then RightBracket (codes "]") More in
        let Key = Then Name (codes "initial") Right in
        let spelled = name ++ 91 ∷ (codes "initial" ++ 93 ∷ 10 ∷ (tail ++ text)) in
        reads_same spelled (fed (state_lines initial s (name ∷ names)) ++ text) Whole
        (sym (ap (λ l. (l ++ 10 ∷ tail) ++ text) line ∙ append_assoc (name ++ codes "[initial]") (10 ∷ tail) text
        ∙ append_assoc name (codes "[initial]") (10 ∷ (tail ++ text))))
        (reads_more spelled (Then Name name (MarkThen More)) Whole (λ xs. marked_then initial s name names P xs e)
        (reads_name name 91 (codes "initial" ++ 93 ∷ 10 ∷ (tail ++ text)) (MarkThen More) (All-head IsName name names are) refl
        (reads_token LeftBracket (codes "[") (codes "initial" ++ 93 ∷ 10 ∷ (tail ++ text)) Key refl tt
        (reads_name (codes "initial") 93 (10 ∷ (tail ++ text)) Right initial_name refl
        (reads_token RightBracket (codes "]") (10 ∷ (tail ++ text)) More refl tt
        (reads_blank 10 (tail ++ text) More refl then))))))

-- the triples of these arcs, and nothing else
pub record ArcsRead (lts : System) (arcs : List Arc) (xs : List Lexeme) : Type 0 where
  pub triples : List Triple
  pub are : AreEach IsTriple triples xs
  pub listed : AreArcsOf lts arcs (map names_of triples)

-- three names, and then tokens of which P holds
abbrev ThreeThen : List ℕ → List ℕ → List ℕ → (List Lexeme → Type 0) → List Lexeme → Type 0
ThreeThen from label to P = Then Name from (Then Name label (Then Name to P))

arc_then : (lts : System) (a : Arc) (arcs : List Arc) (xs : List Lexeme) → IsArcInRange lts a
    → ThreeThen (name_at lts.state_names a.from) (name_at lts.label_names a.label) (name_at lts.state_names a.to) (ArcsRead lts arcs) xs
    → ArcsRead lts (a ∷ arcs) xs
arc_then lts a arcs xs within (x, after_x, x_kind, x_text, (y, after_y, y_kind, y_text, (z, more, z_kind, z_text, then, whole₃), whole₂), whole₁) = record {
  triples = record { from = x; label = y; to = z; settings = [] } ∷ then.triples;
  are = (
    x ∷ y ∷ z ∷ [],
    more,
    (x_kind, y_kind, z_kind, ([], inr (refl, refl), refl)),
    then.are,
    whole₁ ∙ ap (λ l. x ∷ l) (whole₂ ∙ ap (λ l. y ∷ l) whole₃),
  );
  listed = (
    (
      slice_get-get_or lts.state_names a.from [] within.0 ∙ ap Some (sym x_text),
      slice_get-get_or lts.label_names a.label [] within.1 ∙ ap Some (sym y_text),
      slice_get-get_or lts.state_names a.to [] within.2 ∙ ap Some (sym z_text),
    ),
    then.listed,
  );
}

reads_arcs : (lts : System) (arcs : List Arc) → IsWellFormed lts → All (IsArcInRange lts) arcs → Reads (fed (map (arc_line lts) arcs)) (ArcsRead lts arcs)
reads_arcs lts [] formed within = reads_end (ArcsRead lts []) (record { triples = []; are = refl; listed = tt })
reads_arcs lts (a ∷ arcs) formed within =
    let here = All-head (IsArcInRange lts) a arcs within in
    let from = name_at lts.state_names a.from in
    let label = name_at lts.label_names a.label in
    let to = name_at lts.state_names a.to in
    let rest = fed (map (arc_line lts) arcs) in
    let More = ArcsRead lts arcs in
    let Last = Then Name to More in
    let spelled = from ++ 32 ∷ (label ++ 32 ∷ (to ++ 10 ∷ rest)) in
    reads_same spelled (fed (map (arc_line lts) (a ∷ arcs))) (ArcsRead lts (a ∷ arcs))
    (sym (append_assoc from (32 ∷ (label ++ 32 ∷ to)) (10 ∷ rest) ∙ ap (λ l. from ++ 32 ∷ l) (append_assoc label (32 ∷ to) (10 ∷ rest))))
    (reads_more spelled (ThreeThen from label to More) (ArcsRead lts (a ∷ arcs)) (λ xs. arc_then lts a arcs xs here)
    (reads_name from 32 (label ++ 32 ∷ (to ++ 10 ∷ rest)) (Then Name label Last) (formed.state_names.each a.from [] here.0) refl
    (reads_blank 32 (label ++ 32 ∷ (to ++ 10 ∷ rest)) (Then Name label Last) refl
    (reads_name label 32 (to ++ 10 ∷ rest) Last (formed.label_names.each a.label [] here.1) refl
    (reads_blank 32 (to ++ 10 ∷ rest) Last refl
    (reads_name to 10 rest More (formed.state_names.each a.to [] here.2) refl
    (reads_blank 10 rest More refl
    (reads_arcs lts arcs formed (All-tail (IsArcInRange lts) a arcs within)))))))))

-- the tokens from each section on
abbrev ArcSection : System → List Arc → List Lexeme → Type 0
ArcSection lts listed = Then Word (codes ".arcs") (ArcsRead lts listed)

abbrev LabelSection : System → List Arc → List Lexeme → Type 0
LabelSection lts listed = Then Word (codes ".labels") (NamesThen lts.label_names (ArcSection lts listed))

abbrev StateSection : System → List Arc → List Lexeme → Type 0
StateSection lts listed = Then Word (codes ".states") (StatesThen lts.initial 0 lts.state_names (LabelSection lts listed))

abbrev TypeSection : System → List Arc → List Lexeme → Type 0
TypeSection lts listed = Then Word (codes ".type") (Then Name (codes "LTS") (StateSection lts listed))

reads_sections : (lts : System) (listed : List Arc) → IsWellFormed lts → All (IsArcInRange lts) listed
    → Reads (fed (plain_lines lts listed)) (TypeSection lts listed)
reads_sections lts listed formed within =
    let arcs = fed (map (arc_line lts) listed) in
    let labels = fed lts.label_names ++ (codes ".arcs\n" ++ arcs) in
    let states = fed (state_lines lts.initial 0 lts.state_names) ++ (codes ".labels\n" ++ labels) in
    let Labels = NamesThen lts.label_names (ArcSection lts listed) in
    let States = StatesThen lts.initial 0 lts.state_names (LabelSection lts listed) in
    let Type_name = Then Name (codes "LTS") (StateSection lts listed) in
    reads_same (codes ".type LTS\n.states\n" ++ states) (fed (plain_lines lts listed)) (TypeSection lts listed) (sym (text_parts lts listed))
    (reads_word (codes "type") 32 (codes "LTS\n.states\n" ++ states) Type_name (literal_name (codes "type") (omega arith) (omega arith) refl) refl
    (reads_blank 32 (codes "LTS\n.states\n" ++ states) Type_name refl
    (reads_name (codes "LTS") 10 (codes ".states\n" ++ states) (StateSection lts listed) (literal_name (codes "LTS") (omega arith) (omega arith) refl) refl
    (reads_blank 10 (codes ".states\n" ++ states) (StateSection lts listed) refl
    (reads_word (codes "states") 10 states States (literal_name (codes "states") (omega arith) (omega arith) refl) refl
    (reads_blank 10 states States refl
    (reads_states lts.initial 0 lts.state_names (codes ".labels\n" ++ labels) (LabelSection lts listed) formed.state_names.each
    (reads_word (codes "labels") 10 labels Labels (literal_name (codes "labels") (omega arith) (omega arith) refl) refl
    (reads_blank 10 labels Labels refl
    (reads_names lts.label_names (codes ".arcs\n" ++ arcs) (ArcSection lts listed) formed.label_names.each
    (reads_word (codes "arcs") 10 arcs (ArcsRead lts listed) (literal_name (codes "arcs") (omega arith) (omega arith) refl) refl
    (reads_blank 10 arcs (ArcsRead lts listed) refl
    (reads_arcs lts listed formed within)))))))))))))

bare_names : (xs : List Lexeme) → map (λ (e : Entry). e.name) (map bare xs) ≡ xs
bare_names [] = refl
bare_names (x ∷ xs) = ap (λ l. x ∷ l) (bare_names xs)

-- the tokens are items that declare the system
pub record AreItemsOf (lts : System) (listed : List Arc) (xs : List Lexeme) : Type 0 where
  pub items : List Item
  pub are : AreItems items xs
  pub declares : Declares lts listed (declared items)

items_of : (lts : System) (listed : List Arc) (xs : List Lexeme) → TypeSection lts listed xs → AreItemsOf lts listed xs
items_of lts listed xs (type_word, after_type, type_kind, type_text, (name, after_name, name_kind, name_text, (state_word, after_states, state_kind, state_text, states, whole₂), whole₁), whole₀) =
    let labels = states.rest in
    let arcs = labels.4.rest in
    let triples = arcs.4 in
    let last = (arcs.0 ∷ arcs.1) ++ [] in
    let third = (labels.0 ∷ labels.4.named) ++ last in
    let second = (state_word ∷ states.front) ++ third in
    let found : Declared = record {
      typed = true;
      states = map state_of states.entries;
      labels = labels.4.named;
      arcs = map names_of triples.triples;
    } in
    let items = item.type name ∷ item.states states.entries ∷ item.labels (map bare labels.4.named) ∷ item.arcs triples.triples ∷ [] in
    let same : found ≡ declared items = λ i. record {
      typed = true;
      states = sym (append-nil (map state_of states.entries)) i;
      labels = (sym (bare_names labels.4.named) ∙ sym (append-nil (map (λ (e : Entry). e.name) (map bare labels.4.named)))) i;
      arcs = sym (append-nil (map names_of triples.triples)) i;
    } in
    record {
      items = items;
      are = (
        type_word ∷ name ∷ [],
        second,
        (type_word, (type_kind, type_text), (name_kind, inl name_text), refl),
        (
          state_word ∷ states.front,
          third,
          (state_word, states.front, (state_kind, state_text), states.are, refl),
          (
            labels.0 ∷ labels.4.named,
            last,
            (labels.0, labels.4.named, (labels.2, labels.3), labels.4.entries, refl),
            (
              arcs.0 ∷ arcs.1,
              [],
              (arcs.0, arcs.1, (arcs.2, arcs.3), triples.are, refl),
              refl,
              refl,
            ),
            refl,
          ),
          refl,
        ),
        whole₀ ∙ ap (λ l. type_word ∷ l) (whole₁ ∙ ap (λ l. name ∷ l) (whole₂ ∙ ap (λ l. state_word ∷ l) (states.whole
            ∙ ap (λ l. states.front ++ l) (labels.5 ∙ ap (λ l. labels.0 ∷ l) (labels.4.whole
            ∙ ap (λ l. labels.4.named ++ l) (arcs.5 ∙ sym (append-nil (arcs.0 ∷ arcs.1)))))))),
      );
      declares = subst (Declares lts listed) same (record {
        typed = refl;
        states = states.states;
        labels = labels.4.texts;
        arcs = triples.listed;
      });
    }

listed_in_range : (lts : System) (listed : List Arc) → IsWellFormed lts → ((a : Arc) → Contains listed a ↔ Contains lts.arcs a) → All (IsArcInRange lts) listed
listed_in_range lts listed formed members = λ k d lt. All-contains (IsArcInRange lts) lts.arcs (get_or listed k d) formed.in_range.arcs
    ((members (get_or listed k d)).0 (Contains-get_or listed k d lt))

pub plain_spelled : (bytes : List ℕ) (lts : System) → IsPlainText bytes lts → Spells bytes lts
plain_spelled bytes lts plain =
    let formed = plain.well_formed in
    let text = fed (plain_lines lts plain.listed) in
    let read = reads_lexemes text (TypeSection lts plain.listed)
    (reads_sections lts plain.listed formed (listed_in_range lts plain.listed formed plain.members)) in
    let items = items_of lts plain.listed read.0 read.2 in
    subst (λ t. Spells t lts) (sym plain.text) (
      read.0,
      items.items,
      read.1,
      items.are,
      declares_none lts plain.listed (declared items.items) formed plain.members items.declares,
      declares_system lts plain.listed (declared items.items) formed plain.members items.declares,
    )

-- what is printed is a plain text
pub printed_spelled : (lts : System) → IsWellFormed lts → Spells (lts_text lts) lts
printed_spelled lts formed =
    plain_spelled (lts_text lts) lts (record { well_formed = formed; listed = lts.arcs; members = λ a. (λ h. h, λ h. h); text = refl })
