-- Whole files: items lead to a position where the file may end, and what is found is what they declare.
use Rattle.std.proofs.Common.{◌≡◌, ◌⊎◌, inl, inr, true, false, cond, ◌||◌, ℕ, Bool, List, [], ◌∷◌, ◌++◌, map, Option, None, Some, codes, refl, sym, ap, ◌∙◌, append_assoc, append-nil, flat_map}
use Rattle.std.specs.List.{list_any}
use Rattle.rg_lexer.specs.Lexeme.{Lexeme}
use Rattle.rg_lexer.specs.declared.token.Kind.TheVariants.{Name, Word, Text}
use Rattle.rg_grammar.specs.Grammar.{Finds, read_on}
use Rattle.rg_grammar.proofs.Moves.{take_all, each_move}
use Rattle.rg_grammar.proofs.Words.{ItemPosition, word_moves, differ, or_false, or_true, or_assoc}
use Rattle.rg_grammar.proofs.Words as words
use Rattle.rg_apt.specs.Item.{Item, IsItem, AreItems, IsOtherWord}
use Rattle.rg_apt.specs.Item as item
use Rattle.rg_apt.specs.Table.{Section, States, Labels, Arcs, Position, Start, TypeName, PassedText, InSection, AfterEntry, after_word, is_type_name}
use Rattle.rg_apt.specs.Contents.{Declared, is_type, states_in, labels_in, arcs_in, declared}
use Rattle.rg_apt.specs.Reading.{nothing, system_grammar}
use Rattle.rg_apt.proofs.Walk.{Moves, kind_step, free, state_of, name_of, names_of, states_move, labels_move, arcs_move}

-- where an item may begin
abbrev Begins : Position Lexeme → Type 0
Begins p = words.Begins system_grammar after_word p

abbrev ItemAt : Type 0
ItemAt = ItemPosition system_grammar after_word

section_begins : Begins Start
section_begins = record { word = λ x d w. kind_step Start (after_word x.text) d d x Word w refl refl; end = refl }

free_begins : (s : Section) (b : Bool) → Begins (free s b)
free_begins s true = record { word = λ x d w. kind_step (InSection s) (after_word x.text) d d x Word w refl refl; end = refl }
free_begins s false = record { word = λ x d w. kind_step (AfterEntry s) (after_word x.text) d d x Word w refl refl; end = refl }

-- what an item declares, behind what is declared
abbrev with_item : Item → Declared → Declared
with_item i d = record { typed = d.typed || is_type i; states = d.states ++ states_in i; labels = d.labels ++ labels_in i; arcs = d.arcs ++ arcs_in i }

abbrev with_items : List Item → Declared → Declared
with_items is d = record { typed = d.typed || list_any is_type is; states = d.states ++ flat_map states_in is; labels = d.labels ++ flat_map labels_in is; arcs = d.arcs ++ flat_map arcs_in is }

same_declared : (d e : Declared) → d.typed ≡ e.typed → d.states ≡ e.states → d.labels ≡ e.labels → d.arcs ≡ e.arcs → d ≡ e
same_declared d e a b c f = λ i. record { typed = a i; states = b i; labels = c i; arcs = f i }

type_names : (text : List ℕ) → (text ≡ codes "LTS") ⊎ (text ≡ codes "TS") → is_type_name text ≡ true
type_names text (inl e) = ap is_type_name e
type_names text (inr e) = ap is_type_name e

other_word : (word : Lexeme) → IsOtherWord word → after_word word.text ≡ PassedText
other_word word is =
    rw (differ word.text (codes ".type") is.no_type, differ word.text (codes ".states") is.no_states, differ word.text (codes ".labels") is.no_labels, differ word.text (codes ".arcs") is.no_arcs) refl

item_moves : (b : ItemAt) (d : Declared) (i : Item) (xs : List Lexeme) → IsItem i xs → (c : ItemAt) × Moves b.0 d xs c.0 (with_item i d)
item_moves b d (item.type name) xs is =
    let made = with_item (item.type name) d in
    let found : Declared = record d { typed = true } in
    word_moves system_grammar after_word b (Start, section_begins) TypeName d found made is.0 (name ∷ []) xs is.1.0 (ap after_word is.1.1)
    (kind_step TypeName Start d found name Name is.2.0 (ap (λ t. cond t (Some Start) None) (type_names name.text is.2.1)) refl) is.3
    (same_declared found made (or_true d.typed) (sym (append-nil d.states)) (sym (append-nil d.labels)) (sym (append-nil d.arcs)))
item_moves b d (item.states es) xs is =
    let made = with_item (item.states es) d in
    let found : Declared = record d { states = d.states ++ map state_of es } in
    let more = states_move d es is.1 is.3 in
    word_moves system_grammar after_word b (free States more.0, free_begins States more.0) (InSection States) d found made is.0 is.1 xs is.2.0 (ap after_word is.2.1) more.1 is.4
    (same_declared found made (or_false d.typed) refl (sym (append-nil d.labels)) (sym (append-nil d.arcs)))
item_moves b d (item.labels es) xs is =
    let made = with_item (item.labels es) d in
    let found : Declared = record d { labels = d.labels ++ map name_of es } in
    let more = labels_move d es is.1 is.3 in
    word_moves system_grammar after_word b (free Labels more.0, free_begins Labels more.0) (InSection Labels) d found made is.0 is.1 xs is.2.0 (ap after_word is.2.1) more.1 is.4
    (same_declared found made (or_false d.typed) (sym (append-nil d.states)) refl (sym (append-nil d.arcs)))
item_moves b d (item.arcs ts) xs is =
    let made = with_item (item.arcs ts) d in
    let found : Declared = record d { arcs = d.arcs ++ map names_of ts } in
    let more = arcs_move d ts is.1 is.3 in
    word_moves system_grammar after_word b (free Arcs more.0, free_begins Arcs more.0) (InSection Arcs) d found made is.0 is.1 xs is.2.0 (ap after_word is.2.1) more.1 is.4
    (same_declared found made (or_false d.typed) (sym (append-nil d.states)) (sym (append-nil d.labels)) refl)
item_moves b d item.other xs is =
    let made = with_item item.other d in
    word_moves system_grammar after_word b (Start, section_begins) PassedText d d made is.0 (is.1 ∷ []) xs is.2.kind (other_word is.0 is.2)
    (kind_step PassedText Start d d is.1 Text is.3 refl refl) is.4
    (same_declared d made (or_false d.typed) (sym (append-nil d.states)) (sym (append-nil d.labels)) (sym (append-nil d.arcs)))

all_items : (is : List Item) (d : Declared) → take_all with_item is d ≡ with_items is d
all_items [] d = same_declared d (with_items [] d) (or_false d.typed) (sym (append-nil d.states)) (sym (append-nil d.labels)) (sym (append-nil d.arcs))
all_items (i ∷ is) d =
    all_items is (with_item i d)
    ∙ same_declared (with_items is (with_item i d)) (with_items (i ∷ is) d) (or_assoc d.typed (is_type i) (list_any is_type is))
    (append_assoc d.states (states_in i) (flat_map states_in is)) (append_assoc d.labels (labels_in i) (flat_map labels_in is)) (append_assoc d.arcs (arcs_in i) (flat_map arcs_in is))

-- items are read to what they declare
pub items_read : (is : List Item) (xs : List Lexeme) → AreItems is xs → Finds system_grammar xs (declared is)
items_read is xs are =
    let all = each_move system_grammar (λ (b : ItemAt). b.0) IsItem with_item item_moves (Start, section_begins) nothing is xs are in (
      all.0.0,
      all.0.1.end,
      ap (read_on system_grammar Start nothing) (sym (append-nil xs)) ∙ all.1 [] ∙ ap {B = Option (Position Lexeme × Declared)} (λ (d : Declared). Some (all.0.0, d)) (all_items is nothing),
    )
