-- Whole files: items lead to a position where the file may end, and what is found is what they declare.
use Rattle.std.proofs.Common.{◌≡◌, ◌⊎◌, inl, inr, Bool, true, false, cond, ◌||◌, ℕ, List, [], ◌∷◌, ◌++◌, map, Option, None, Some, codes, refl, sym, ap, ◌∙◌, append_assoc, append-nil, flat_map}
use Rattle.std.specs.List.{list_any}
use Rattle.rg_lexer.specs.Lexeme.{Lexeme}
use Rattle.rg_lexer.specs.declared.token.Kind.TheVariants.{Name, Word, Text}
use Rattle.rg_grammar.specs.Grammar.{Finds, read_on}
use Rattle.rg_grammar.proofs.Moves.{take_all, each_move}
use Rattle.rg_grammar.proofs.Words.{ItemPosition, word_moves, differ, or_false, or_true, or_assoc}
use Rattle.rg_grammar.proofs.Words as words
use Rattle.rg_net_grammar.specs.Item.{Item, IsItem, AreItems, IsOtherWord}
use Rattle.rg_net_grammar.specs.Item as item
use Rattle.rg_net_grammar.specs.Table.{Section, Places, Transitions, Marking, Position, Start, TypeName, PassedText, InSection, AfterEntry, InFlows, BeforeSet, after_word, is_type_name}
use Rattle.rg_net_grammar.specs.Contents.{Declared, is_type, places_in, transitions_in, flows_in, marking_in, declared}
use Rattle.rg_net_grammar.specs.Reading.{nothing, net_grammar}
use Rattle.rg_net_grammar.proofs.Walk.{Moves, kind_step, free, name_of, transition_of, places_move, transitions_move, marking_moves, flows_move}

-- where an item may begin
abbrev Begins : Position Lexeme → Type 0
Begins p = words.Begins net_grammar after_word p

abbrev ItemAt : Type 0
ItemAt = ItemPosition net_grammar after_word

section_begins : Begins Start
section_begins = record { word = λ x d w. kind_step Start (after_word x.text) d d x Word w refl refl; end = refl }

free_begins : (s : Section) (b : Bool) → Begins (free s b)
free_begins s true = record { word = λ x d w. kind_step (InSection s) (after_word x.text) d d x Word w refl refl; end = refl }
free_begins s false = record { word = λ x d w. kind_step (AfterEntry s) (after_word x.text) d d x Word w refl refl; end = refl }

flows_begin : Begins InFlows
flows_begin = record { word = λ x d w. kind_step InFlows (after_word x.text) d d x Word w refl refl; end = refl }

-- what an item declares, behind what is found
abbrev with_item : Item → Declared → Declared
with_item i d = record {
  typed = d.typed || is_type i;
  places = d.places ++ places_in i;
  transitions = d.transitions ++ transitions_in i;
  flows = d.flows ++ flows_in i;
  marking = d.marking ++ marking_in i;
}

abbrev with_items : List Item → Declared → Declared
with_items is d = record {
  typed = d.typed || list_any is_type is;
  places = d.places ++ flat_map places_in is;
  transitions = d.transitions ++ flat_map transitions_in is;
  flows = d.flows ++ flat_map flows_in is;
  marking = d.marking ++ flat_map marking_in is;
}

same_declared : (d e : Declared) → d.typed ≡ e.typed → d.places ≡ e.places → d.transitions ≡ e.transitions → d.flows ≡ e.flows → d.marking ≡ e.marking → d ≡ e
same_declared d e a b c f g = λ i. record { typed = a i; places = b i; transitions = c i; flows = f i; marking = g i }

type_names : (text : List ℕ) → (text ≡ codes "PN") ⊎ (text ≡ codes "LPN") → is_type_name text ≡ true
type_names text (inl e) = ap is_type_name e
type_names text (inr e) = ap is_type_name e

other_word : (word : Lexeme) → IsOtherWord word → after_word word.text ≡ PassedText
other_word word is =
    rw (
      differ word.text (codes ".type") is.no_type,
      differ word.text (codes ".places") is.no_places,
      differ word.text (codes ".transitions") is.no_transitions,
      differ word.text (codes ".flows") is.no_flows,
      differ word.text (codes ".initial_marking") is.no_marking,
    ) refl

item_moves : (b : ItemAt) (d : Declared) (i : Item) (xs : List Lexeme) → IsItem i xs → (c : ItemAt) × Moves b.0 d xs c.0 (with_item i d)
item_moves b d (item.type name) xs is =
    let made = with_item (item.type name) d in
    let found : Declared = record d { typed = true } in
    word_moves net_grammar after_word b (Start, section_begins) TypeName d found made is.0 (name ∷ []) xs is.1.0 (ap after_word is.1.1)
    (kind_step TypeName Start d found name Name is.2.0 (ap (λ t. cond t (Some Start) None) (type_names name.text is.2.1)) refl) is.3
    (same_declared found made (or_true d.typed) (sym (append-nil d.places)) (sym (append-nil d.transitions)) (sym (append-nil d.flows)) (sym (append-nil d.marking)))
item_moves b d (item.places es) xs is =
    let made = with_item (item.places es) d in
    let found : Declared = record d { places = d.places ++ map name_of es } in
    let more = places_move d es is.1 is.3 in
    word_moves net_grammar after_word b (free Places more.0, free_begins Places more.0) (InSection Places) d found made is.0 is.1 xs is.2.0 (ap after_word is.2.1) more.1 is.4
    (same_declared found made (or_false d.typed) refl (sym (append-nil d.transitions)) (sym (append-nil d.flows)) (sym (append-nil d.marking)))
item_moves b d (item.transitions es) xs is =
    let made = with_item (item.transitions es) d in
    let found : Declared = record d { transitions = d.transitions ++ map transition_of es } in
    let more = transitions_move d es is.1 is.3 in
    word_moves net_grammar after_word b (free Transitions more.0, free_begins Transitions more.0) (InSection Transitions) d found made is.0 is.1 xs is.2.0 (ap after_word is.2.1) more.1 is.4
    (same_declared found made (or_false d.typed) (sym (append-nil d.places)) refl (sym (append-nil d.flows)) (sym (append-nil d.marking)))
item_moves b d (item.flows many) xs is =
    let made = with_item (item.flows many) d in
    let found : Declared = record d { flows = d.flows ++ many } in
    word_moves net_grammar after_word b (InFlows, flows_begin) InFlows d found made is.0 is.1 xs is.2.0 (ap after_word is.2.1) (flows_move d many is.1 is.3) is.4
    (same_declared found made (or_false d.typed) (sym (append-nil d.places)) (sym (append-nil d.transitions)) refl (sym (append-nil d.marking)))
item_moves b d (item.marking members) xs is =
    let made = with_item (item.marking members) d in
    let found : Declared = record d { marking = d.marking ++ members } in
    word_moves net_grammar after_word b (Start, section_begins) (BeforeSet Marking) d found made is.0 is.1 xs is.2.0 (ap after_word is.2.1) (marking_moves d members is.1 is.3) is.4
    (same_declared found made (or_false d.typed) (sym (append-nil d.places)) (sym (append-nil d.transitions)) (sym (append-nil d.flows)) refl)
item_moves b d item.other xs is =
    let made = with_item item.other d in
    word_moves net_grammar after_word b (Start, section_begins) PassedText d d made is.0 (is.1 ∷ []) xs is.2.kind (other_word is.0 is.2)
    (kind_step PassedText Start d d is.1 Text is.3 refl refl) is.4
    (same_declared d made (or_false d.typed) (sym (append-nil d.places)) (sym (append-nil d.transitions)) (sym (append-nil d.flows)) (sym (append-nil d.marking)))

all_items : (is : List Item) (d : Declared) → take_all with_item is d ≡ with_items is d
all_items [] d =
    same_declared d (with_items [] d) (or_false d.typed) (sym (append-nil d.places)) (sym (append-nil d.transitions)) (sym (append-nil d.flows)) (sym (append-nil d.marking))
all_items (i ∷ is) d =
    all_items is (with_item i d)
    ∙ same_declared (with_items is (with_item i d)) (with_items (i ∷ is) d) (or_assoc d.typed (is_type i) (list_any is_type is))
    (append_assoc d.places (places_in i) (flat_map places_in is)) (append_assoc d.transitions (transitions_in i) (flat_map transitions_in is))
    (append_assoc d.flows (flows_in i) (flat_map flows_in is)) (append_assoc d.marking (marking_in i) (flat_map marking_in is))

-- items are read to what they declare
pub items_read : (is : List Item) (xs : List Lexeme) → AreItems is xs → Finds net_grammar xs (declared is)
items_read is xs are =
    let all = each_move net_grammar (λ (b : ItemAt). b.0) IsItem with_item item_moves (Start, section_begins) nothing is xs are in (
      all.0.0,
      all.0.1.end,
      ap (read_on net_grammar Start nothing) (sym (append-nil xs)) ∙ all.1 [] ∙ ap {B = Option (Position Lexeme × Declared)} (λ (d : Declared). Some (all.0.0, d)) (all_items is nothing),
    )
