-- Entries and triples lead through the table, and what is found on the way is what they declare.
use Rattle.std.proofs.Common.{◌≡◌, Bool, true, false, ◌||◌, List, [], ◌∷◌, ◌++◌, map, Some, refl, sym, ap, subst, ◌∙◌, append_assoc, append-nil}
use Rattle.std.specs.List.{list_any}
use Rattle.rg_lexer.specs.Lexeme.{Lexeme}
use Rattle.rg_lexer.specs.declared.token.Kind.{Kind}
use Rattle.rg_lexer.specs.declared.token.Kind.TheVariants.{Name, LeftBracket}
use Rattle.rg_grammar.specs.declared.list_position.Setting.{Setting}
use Rattle.rg_grammar.specs.Entry.{Entry, IsOptionally, IsEntry, AreEach}
use Rattle.rg_grammar.specs.declared.list_position.ListPosition.TheVariants.{FirstKey}
use Rattle.rg_grammar.proofs.Last.{change_push}
use Rattle.rg_grammar.proofs.Moves.{moves_both, moves_same, step, take_all, each_move}
use Rattle.rg_grammar.proofs.Moves as moves
use Rattle.rg_grammar.proofs.Lists.{HasLists, free_of, optional_move}
use Rattle.rg_grammar.specs.declared.fault.ItemFault.{ItemFault}
use Rattle.rg_apt.specs.Item.{Triple, IsTriple}
use Rattle.rg_apt.specs.Table.{Section, States, Labels, Arcs, Position, InSection, AfterEntry, Second, Third, InList, leads_by}
use Rattle.rg_apt.specs.Contents.{StateEntry, ArcNames, marks, Declared}
use Rattle.rg_apt.specs.Reading.{marked_entry, mark_last, marked, with_setting, with_name, adds_by, system_grammar}

-- from a position the tokens lead to another, whatever follows them
abbrev pub Moves : Position Lexeme → Declared → List Lexeme → Position Lexeme → Declared → Type 0
Moves p d xs q e = moves.Moves system_grammar p d xs q e

-- one token
pub kind_step : (p q : Position Lexeme) (d e : Declared) (x : Lexeme) (kind : Kind) → x.kind ≡ kind → leads_by p kind x ≡ Some q → adds_by p kind x d ≡ e → Moves p d (x ∷ []) q e
kind_step p q d e x kind same lead add = step system_grammar p q d e x (ap (λ k. leads_by p k x) same ∙ lead) (ap (λ k. adds_by p k x d) same ∙ add)

both : (p q r : Position Lexeme) (d e f : Declared) (xs ys : List Lexeme) → Moves p d xs q e → Moves q e ys r f → Moves p d (xs ++ ys) r f
both p q r d e f xs ys one two = moves_both system_grammar p q r d e f xs ys one two

lists : (s : Section) → HasLists (Position Lexeme) Declared ItemFault system_grammar (InList s) (AfterEntry s) (InSection s) (with_setting s)
lists s = record {
  opens = λ d x bracket. kind_step (AfterEntry s) (InList s FirstKey) d d x LeftBracket bracket refl refl;
  leads = λ position x. refl;
  adds = λ position x d. refl;
}

-- marks join
mark_last-twice : (es : List (StateEntry Lexeme)) → mark_last (mark_last es) ≡ mark_last es
mark_last-twice [] = refl
mark_last-twice (e ∷ []) = refl
mark_last-twice (e ∷ f ∷ []) = refl
mark_last-twice (e ∷ f ∷ g ∷ more) = ap (λ l. e ∷ l) (mark_last-twice (f ∷ g ∷ more))

marked-marked : (s : Section) (a b : Bool) (d : Declared) → marked s b (marked s a d) ≡ marked s (a || b) d
marked-marked States true true d = ap (λ l. record d { states = l }) (mark_last-twice d.states)
marked-marked States true false d = refl
marked-marked States false b d = refl
marked-marked Labels a b d = refl
marked-marked Arcs a b d = refl

marked_none : (s : Section) (d : Declared) → d ≡ marked s false d
marked_none States d = refl
marked_none Labels d = refl
marked_none Arcs d = refl

all_marked : (s : Section) (settings : List (Setting Lexeme)) (d : Declared) → take_all (with_setting s) settings d ≡ marked s (list_any marks settings) d
all_marked s [] d = marked_none s d
all_marked s (setting ∷ more) d = all_marked s more (marked s (marks setting) d) ∙ marked-marked s (marks setting) (list_any marks more) d

-- where an entry, a triple or a word may stand
abbrev pub free : Section → Bool → Position Lexeme
free s b = free_of (AfterEntry s) (InSection s) b

-- the tokens lead to such a position
abbrev pub MovesFree : Position Lexeme → Declared → List Lexeme → Section → Declared → Type 0
MovesFree p d xs s e = (b : Bool) × Moves p d xs (free s b) e

optional_moves : (s : Section) (d : Declared) (settings : List (Setting Lexeme)) (xs : List Lexeme) → IsOptionally settings xs → MovesFree (AfterEntry s) d xs s (marked s (list_any marks settings) d)
optional_moves s d settings xs is =
    let to = optional_move system_grammar (InList s) (AfterEntry s) (InSection s) (with_setting s) (lists s) d settings xs is in (
      to.0,
      moves_same system_grammar (AfterEntry s) (free s to.0) d (take_all (with_setting s) settings d) (marked s (list_any marks settings) d) xs (all_marked s settings d) to.1,
    )

abbrev pub state_of : Entry → StateEntry Lexeme
state_of e = record { name = e.name; initial = list_any marks e.settings }

marked_name : (x : Lexeme) (mark : Bool) (d : Declared) → marked States mark (with_name States x d) ≡ record d { states = d.states ++ record { name = x; initial = mark } ∷ [] }
marked_name x true d = ap (λ l. record d { states = l }) (change_push marked_entry d.states (record { name = x; initial = false }))
marked_name x false d = refl

name_moves : (b : Bool) (s : Section) (d : Declared) (x : Lexeme) → x.kind ≡ Name → (q : Position Lexeme) → leads_by (InSection s) Name x ≡ Some q → Moves (free s b) d (x ∷ []) q (with_name s x d)
name_moves true s d x name q lead = kind_step (InSection s) q d (with_name s x d) x Name name lead refl
name_moves false s d x name q lead = kind_step (AfterEntry s) q d (with_name s x d) x Name name lead refl

abbrev with_state : Entry → Declared → Declared
with_state e d = record d { states = d.states ++ state_of e ∷ [] }

state_moves : (b : Bool) (d : Declared) (e : Entry) (xs : List Lexeme) → IsEntry e xs → MovesFree (free States b) d xs States (with_state e d)
state_moves b d e xs is =
    let d' = with_name States e.name d in
    let more = optional_moves States d' e.settings is.1.0 is.1.1 in (
      more.0,
      subst (λ l. Moves (free States b) d l (free States more.0) (with_state e d)) (sym is.1.2)
          (moves_same system_grammar (free States b) (free States more.0) d (marked States (list_any marks e.settings) d') (with_state e d) (e.name ∷ is.1.0)
          (marked_name e.name (list_any marks e.settings) d)
          (both (free States b) (AfterEntry States) (free States more.0) d d' (marked States (list_any marks e.settings) d') (e.name ∷ []) is.1.0
          (name_moves b States d e.name is.0 (AfterEntry States) refl) more.1)),
    )

all_states : (es : List Entry) (d : Declared) → take_all with_state es d ≡ record d { states = d.states ++ map state_of es }
all_states [] d = ap (λ l. record d { states = l }) (sym (append-nil d.states))
all_states (e ∷ es) d = all_states es (with_state e d) ∙ ap (λ l. record d { states = l }) (append_assoc d.states (state_of e ∷ []) (map state_of es))

-- entries and triples, one after the other
pub states_move : (d : Declared) (es : List Entry) (xs : List Lexeme) → AreEach IsEntry es xs → MovesFree (InSection States) d xs States (record d { states = d.states ++ map state_of es })
states_move d es xs is =
    let to = each_move system_grammar (free States) IsEntry with_state state_moves true d es xs is in (
      to.0,
      moves_same system_grammar (InSection States) (free States to.0) d (take_all with_state es d) (record d { states = d.states ++ map state_of es }) xs (all_states es d) to.1,
    )

abbrev pub name_of : Entry → Lexeme
name_of e = e.name

abbrev with_label : Entry → Declared → Declared
with_label e d = record d { labels = d.labels ++ e.name ∷ [] }

label_moves : (b : Bool) (d : Declared) (e : Entry) (xs : List Lexeme) → IsEntry e xs → MovesFree (free Labels b) d xs Labels (with_label e d)
label_moves b d e xs is =
    let d' = with_name Labels e.name d in
    let more = optional_moves Labels d' e.settings is.1.0 is.1.1 in (
      more.0,
      subst (λ l. Moves (free Labels b) d l (free Labels more.0) d') (sym is.1.2)
          (both (free Labels b) (AfterEntry Labels) (free Labels more.0) d d' d' (e.name ∷ []) is.1.0
          (name_moves b Labels d e.name is.0 (AfterEntry Labels) refl) more.1),
    )

all_labels : (es : List Entry) (d : Declared) → take_all with_label es d ≡ record d { labels = d.labels ++ map name_of es }
all_labels [] d = ap (λ l. record d { labels = l }) (sym (append-nil d.labels))
all_labels (e ∷ es) d = all_labels es (with_label e d) ∙ ap (λ l. record d { labels = l }) (append_assoc d.labels (e.name ∷ []) (map name_of es))

pub labels_move : (d : Declared) (es : List Entry) (xs : List Lexeme) → AreEach IsEntry es xs → MovesFree (InSection Labels) d xs Labels (record d { labels = d.labels ++ map name_of es })
labels_move d es xs is =
    let to = each_move system_grammar (free Labels) IsEntry with_label label_moves true d es xs is in (
      to.0,
      moves_same system_grammar (InSection Labels) (free Labels to.0) d (take_all with_label es d) (record d { labels = d.labels ++ map name_of es }) xs (all_labels es d) to.1,
    )

abbrev pub names_of : Triple → ArcNames Lexeme
names_of t = record { from = t.from; label = t.label; to = t.to }

abbrev with_arc : Triple → Declared → Declared
with_arc t d = record d { arcs = d.arcs ++ names_of t ∷ [] }

arc_moves : (b : Bool) (d : Declared) (t : Triple) (xs : List Lexeme) → IsTriple t xs → MovesFree (free Arcs b) d xs Arcs (with_arc t d)
arc_moves b d t xs is =
    let d' = with_arc t d in
    let more = optional_moves Arcs d' t.settings is.3.0 is.3.1 in
    let P = free Arcs b in
    let Q = free Arcs more.0 in (
      more.0,
      subst (λ l. Moves P d l Q d') (sym is.3.2)
          (both P (Second t.from) Q d d d' (t.from ∷ []) (t.label ∷ t.to ∷ is.3.0) (name_moves b Arcs d t.from is.0 (Second t.from) refl)
          (both (Second t.from) (Third t.from t.label) Q d d d' (t.label ∷ []) (t.to ∷ is.3.0) (kind_step (Second t.from) (Third t.from t.label) d d t.label Name is.1 refl refl)
          (both (Third t.from t.label) (AfterEntry Arcs) Q d d' d' (t.to ∷ []) is.3.0 (kind_step (Third t.from t.label) (AfterEntry Arcs) d d' t.to Name is.2 refl refl) more.1))),
    )

all_arcs : (ts : List Triple) (d : Declared) → take_all with_arc ts d ≡ record d { arcs = d.arcs ++ map names_of ts }
all_arcs [] d = ap (λ l. record d { arcs = l }) (sym (append-nil d.arcs))
all_arcs (t ∷ ts) d = all_arcs ts (with_arc t d) ∙ ap (λ l. record d { arcs = l }) (append_assoc d.arcs (names_of t ∷ []) (map names_of ts))

pub arcs_move : (d : Declared) (ts : List Triple) (xs : List Lexeme) → AreEach IsTriple ts xs → MovesFree (InSection Arcs) d xs Arcs (record d { arcs = d.arcs ++ map names_of ts })
arcs_move d ts xs is =
    let to = each_move system_grammar (free Arcs) IsTriple with_arc arc_moves true d ts xs is in (
      to.0,
      moves_same system_grammar (InSection Arcs) (free Arcs to.0) d (take_all with_arc ts d) (record d { arcs = d.arcs ++ map names_of ts }) xs (all_arcs ts d) to.1,
    )
