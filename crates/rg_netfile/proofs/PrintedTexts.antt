-- The text of a net spells that net.
use Rattle.std.proofs.Common.{◌≡◌, ℕ, zero, suc, ◌<◌, ◌≤◌, ◌^◌, ◌⊎◌, inl, inr, true, List, [], ◌∷◌, ◌++◌, length, map, None, codes, get_or, All, refl, sym, ap, subst, ◌∙◌, arith, append-nil}
use Rattle.std.specs.List.{range_with_len}
use Rattle.std.proofs.lemmas.List.{length-map}
use Rattle.std.proofs.lemmas.List.FromFn.{get_or-map-range_with_len, length-range_with_len}
use Rattle.std.proofs.lemmas.List.Elements.{All-map, All-weaker}
use Rattle.rg_text.specs.Byte.{IsName}
use Rattle.rg_text.specs.Line.{fed}
use Rattle.rg_theory.specs.System.{System, labels}
use Rattle.rg_theory.specs.Net.{Place, Net, pre_weight, post_weight}
use Rattle.rg_lexer.specs.Lexeme.{Lexeme}
use Rattle.rg_lexer.proofs.Printed.{reads_lexemes, literal_name}
use Rattle.rg_lts.specs.WellFormed.{IsWellFormed}
use Rattle.rg_grammar.specs.Entry.{Entry}
use Rattle.rg_grammar.proofs.Printed.{bare, lexeme_text}
use Rattle.rg_net.specs.Range.{IsNetInRange, IsPlaceInRange}
use Rattle.rg_integers.specs.Range.{greatest}
use Rattle.rg_net.specs.NetText.{place_name, place_prefix, net_text}
use Rattle.rg_net_grammar.specs.Item.{Item, AreItems}
use Rattle.rg_net_grammar.specs.Item as item
use Rattle.rg_net_grammar.specs.declared.found.Transition.{Transition}
use Rattle.rg_net_grammar.specs.Contents.{Declared, declared, first_label, label_of}
use Rattle.rg_netfile.specs.Contents.{most_places}
use Rattle.rg_netfile.specs.Spells.{Spells}
use Rattle.rg_netfile.proofs.PlaceNames.{prefix_is, place_name_is}
use Rattle.rg_netfile.proofs.NetTexts.{IsPrintable, TypeSection, typed_lines, reads_net}
use Rattle.rg_netfile.proofs.PrintedNets.{Declares, names_of, declares_none, declares_net}

abbrev transition_of : Entry → Transition Lexeme
transition_of e = record { name = e.name; label = first_label e.settings }

bare_names : (xs : List Lexeme) → map (λ (e : Entry). e.name) (map bare xs) ≡ xs
bare_names [] = refl
bare_names (x ∷ xs) = ap (λ l. x ∷ l) (bare_names xs)

-- a transition without options has its own name as its label
abbrev plain : Lexeme → Transition Lexeme
plain x = record { name = x; label = None }

bare_transitions : (xs : List Lexeme) → map transition_of (map bare xs) ≡ map plain xs
bare_transitions [] = refl
bare_transitions (x ∷ xs) = ap (λ l. plain x ∷ l) (bare_transitions xs)

plain_names : (xs : List Lexeme) → map (λ (t : Transition Lexeme). t.name.text) (map plain xs) ≡ map lexeme_text xs
plain_names [] = refl
plain_names (x ∷ xs) = ap (λ l. x.text ∷ l) (plain_names xs)

plain_labels : (xs : List Lexeme) → map label_of (map plain xs) ≡ map lexeme_text xs
plain_labels [] = refl
plain_labels (x ∷ xs) = ap (λ l. x.text ∷ l) (plain_labels xs)

-- the tokens are items that declare the net
record AreItemsOfNet (q : List ℕ) (lts : System) (net : Net) (xs : List Lexeme) : Type 0 where
  items : List Item
  are : AreItems items xs
  declares : Declares q lts net (declared items)

-- the types of nets that a file may name
abbrev pub IsTypeOfNets : List ℕ → Type 0
IsTypeOfNets type = (type ≡ codes "PN") ⊎ (type ≡ codes "LPN")

items_of : (type q : List ℕ) (lts : System) (net : Net) (xs : List Lexeme) → IsTypeOfNets type → TypeSection type q net lts.label_names xs → AreItemsOfNet q lts net xs
items_of type q lts net xs typed (type_word, after_type, type_kind, type_text, (name, after_name, name_kind, name_text, (place_word, after_places, place_kind, place_text, places, whole₂), whole₁), whole₀) =
    let transitions = places.rest in
    let flows = transitions.4.rest in
    let marking = flows.4.rest in
    let set = marking.4 in
    let fifth = (marking.0 ∷ set.front) ++ [] in
    let fourth = (flows.0 ∷ flows.4.front) ++ fifth in
    let third = (transitions.0 ∷ transitions.4.named) ++ fourth in
    let second = (place_word ∷ places.named) ++ third in
    let found : Declared = record {
      typed = true;
      places = places.named;
      transitions = map plain transitions.4.named;
      flows = flows.4.flows;
      marking = set.members;
    } in
    let items = item.type name ∷ item.places (map bare places.named) ∷ item.transitions (map bare transitions.4.named) ∷ item.flows flows.4.flows ∷ item.marking set.members ∷ [] in
    let same : found ≡ declared items = λ i. record {
      typed = true;
      places = (sym (bare_names places.named) ∙ sym (append-nil (map (λ (e : Entry). e.name) (map bare places.named)))) i;
      transitions = (sym (bare_transitions transitions.4.named) ∙ sym (append-nil (map transition_of (map bare transitions.4.named)))) i;
      flows = sym (append-nil flows.4.flows) i;
      marking = sym (append-nil set.members) i;
    } in
    record {
      items = items;
      are = (
        type_word ∷ name ∷ [],
        second,
        (type_word, (type_kind, type_text), (name_kind, subst IsTypeOfNets (sym name_text) typed), refl),
        (
          place_word ∷ places.named,
          third,
          (place_word, places.named, (place_kind, place_text), places.entries, refl),
          (
            transitions.0 ∷ transitions.4.named,
            fourth,
            (transitions.0, transitions.4.named, (transitions.2, transitions.3), transitions.4.entries, refl),
            (
              flows.0 ∷ flows.4.front,
              fifth,
              (flows.0, flows.4.front, (flows.2, flows.3), flows.4.each, refl),
              (
                marking.0 ∷ set.front,
                [],
                (marking.0, set.front, (marking.2, marking.3), set.is, refl),
                refl,
                refl,
              ),
              refl,
            ),
            refl,
          ),
          refl,
        ),
        whole₀ ∙ ap (λ l. type_word ∷ l) (whole₁ ∙ ap (λ l. name ∷ l) (whole₂ ∙ ap (λ l. place_word ∷ l) (places.whole
            ∙ ap (λ l. places.named ++ l) (transitions.5 ∙ ap (λ l. transitions.0 ∷ l) (transitions.4.whole
            ∙ ap (λ l. transitions.4.named ++ l) (flows.5 ∙ ap (λ l. flows.0 ∷ l) (flows.4.whole
            ∙ ap (λ l. flows.4.front ++ l) (marking.5 ∙ ap (λ l. marking.0 ∷ l) (set.whole ∙ ap (λ l. set.front ++ l) set.rest))))))))),
      );
      declares = subst (Declares q lts net) same (record {
        typed = refl;
        places = places.texts;
        names = plain_names transitions.4.named ∙ transitions.4.texts;
        own_labels = plain_labels transitions.4.named ∙ transitions.4.texts;
        flows = flows.4.are;
        marking = set.are;
      });
    }

small_weights : (net : Net) → IsNetInRange net → (f : Place → ℕ) → ((p : Place) → IsPlaceInRange p → f p ≤ greatest) → All (λ w. w < 10 ^ 64) (map f net.places)
small_weights net range f below =
    All-map (λ w. w < 10 ^ 64) f net.places (All-weaker IsPlaceInRange (λ p. f p < 10 ^ 64) (λ p in'. let h = below p in' in omega arith) net.places range.places)

-- a weight of a list in range, past its end too
weight_below : (ws : List ℕ) (t : ℕ) → All (λ w. w ≤ greatest) ws → get_or ws t 0 ≤ greatest
weight_below [] t all = omega arith
weight_below (w ∷ ws) zero all = all 0 0 (omega arith)
weight_below (w ∷ ws) (suc t) all = weight_below ws t (λ k d lt. all (suc k) d (omega arith))

pub printable : (net : Net) → IsNetInRange net → IsPrintable net
printable net range = record {
  few = omega (arith, range.few);
  pre = λ t. small_weights net range (λ p. pre_weight p t) (λ p in'. weight_below p.pre t in'.pre);
  post = λ t. small_weights net range (λ p. post_weight p t) (λ p in'. weight_below p.post t in'.post);
  start = small_weights net range (λ p. p.start) (λ p in'. in'.start);
}

pub place_names_are : (q : List ℕ) (n : ℕ) → ((i : ℕ) → i < n → IsName (place_name q i)) → All IsName (names_of q n)
place_names_are q n each = λ k d lt.
    let less : k < n = omega (arith, length-map (range_with_len 0 n) (place_name q), length-range_with_len 0 n) in
    subst IsName (sym (get_or-map-range_with_len (place_name q) 0 n k k d less (omega arith))) (each k less)

-- the lines of the net for the system, of one type or the other, spell it
pub lines_spelled : (type : List ℕ) (net : Net) (lts : System) → IsTypeOfNets type → IsWellFormed lts → net.labels ≡ labels lts → IsNetInRange net → length net.places ≤ most_places
    → Spells (fed (typed_lines type (place_prefix lts.label_names) net lts.label_names)) lts net
lines_spelled type net lts typed formed same range few =
    let q = place_prefix lts.label_names in
    let prefix = prefix_is lts.label_names in
    let read = reads_lexemes (fed (typed_lines type q net lts.label_names)) (TypeSection type q net lts.label_names)
    (reads_net type q net lts.label_names (name_of typed) prefix (printable net range) formed.label_names.each
    (place_names_are q (length net.places) (λ i lt. place_name_is q i prefix (omega (arith, few))))) in
    let items = items_of type q lts net read.0 typed read.2 in (
      items.items,
      (read.0, read.1, items.are),
      declares_none q lts net (declared items.items) formed same range few items.declares,
      declares_net q lts net (declared items.items) formed same range few items.declares,
    )
  where
    name_of : IsTypeOfNets type → IsName type
    name_of (inl e) = subst IsName (sym e) (literal_name (codes "PN") (omega arith) (omega arith) refl)
    name_of (inr e) = subst IsName (sym e) (literal_name (codes "LPN") (omega arith) (omega arith) refl)

pub printed_spelled : (net : Net) (lts : System) → IsWellFormed lts → net.labels ≡ labels lts → IsNetInRange net → length net.places ≤ most_places
    → Spells (net_text net lts) lts net
printed_spelled net lts = lines_spelled (codes "PN") net lts (inl refl)
