-- The lines of certificates: their forms, and which may follow which.
use Rattle.std.specs.Prelude.{◌≡◌, ℕ, zero, suc, ◌^◌, List, [], ◌∷◌, Contains, codes, ℤ, ◌<◌, pos}
use Rattle.rg_text.specs.Byte.{IsName}
use Rattle.rg_theory.specs.System.{System}
use Rattle.rg_theory.specs.declared.Class.{Class}
use Rattle.rg_theory.specs.ClassWords.{NamesClass}
use Rattle.rg_cert_data.specs.Certificates.{IsMultiplierInRange, IsSplitInRange}
use Rattle.rg_cert.specs.Numerals.{IsNumeral}
use Rattle.rg_cert.specs.Text.{Version, version_one, version_two, version_digits, class_version, spaced}

-- the ranges of numbers
pub data Range : Type 0 where
  multiplier : Range
  split_value : Range
  depth : Range

-- the number is in the range
abbrev pub IsIn : Range → ℤ → Type 0
IsIn multiplier z = IsMultiplierInRange z
IsIn split_value z = IsSplitInRange z
IsIn depth z = (d : ℕ) × (z ≡ pos d) × (d < 2 ^ 32)

-- what a field of a line must be
pub data Field : Type 0 where
  word : List ℕ → Field
  one_of : List (List ℕ) → Field  -- one of these words
  class_words : Version → Field  -- the first version whose texts have the class
  state : Field
  label : Field
  number : Range → Field

-- the field has the required form: a word, one of some words, what names a class, a name, or a number
abbrev pub HasFieldForm : Field → List ℕ → Type 0
HasFieldForm (word w) text = text ≡ w
HasFieldForm (one_of words) text = Contains words text
HasFieldForm (class_words version) text = (class : Class) × NamesClass text class × (class_version class ≡ version)
HasFieldForm state text = IsName text
HasFieldForm label text = IsName text
HasFieldForm (number range) text = (z : ℤ) × IsNumeral text z

-- the field, if it is a number, is one in its range
abbrev pub IsFieldInRange : Field → List ℕ → Type 0
IsFieldInRange (number range) text = (z : ℤ) × IsNumeral text z × IsIn range z
IsFieldInRange _ text = Unit {0}

-- the field, if it is a name, is that of a state or label
abbrev pub IsFieldKnown : System → Field → List ℕ → Type 0
IsFieldKnown lts state text = Contains lts.state_names text
IsFieldKnown lts label text = Contains lts.label_names text
IsFieldKnown lts _ text = Unit {0}

-- each text is as its field asks, and there are no more of them
abbrev pub AreAsked : (Field → List ℕ → Type 0) → List Field → List (List ℕ) → Type 0
AreAsked P [] [] = Unit {0}
AreAsked P [] (text ∷ texts) = ⊥
AreAsked P (field ∷ fields) [] = ⊥
AreAsked P (field ∷ fields) (text ∷ texts) = P field text × AreAsked P fields texts

-- the words of rows that speak of nothing, of a state, and of a label
abbrev pub lone_words : List (List ℕ)
lone_words = codes "block" ∷ codes "empty" ∷ codes "keep" ∷ codes "apart" ∷ []

abbrev pub state_words : List (List ℕ)
state_words = codes "tokens" ∷ codes "cap" ∷ codes "stop" ∷ codes "full" ∷ []

abbrev pub label_words : List (List ℕ)
label_words = codes "up" ∷ codes "down" ∷ codes "makes" ∷ []

-- the rows of a leaf, by what they speak of: nothing, an arc, a state, a label, or the depth of a split
pub data RowForm : Type 0 where
  lone_form : RowForm
  arc_form : RowForm
  state_form : RowForm
  label_form : RowForm
  depth_form : RowForm

-- the forms of lines
pub data LineForm : Type 0 where
  heading_line : Version → LineForm
  class_line : Version → LineForm
  unreachable_line : LineForm
  fork_line : LineForm
  event_line : LineForm
  states_line : LineForm
  case_line : LineForm
  split_tokens_line : LineForm
  split_effect_line : LineForm
  split_start_line : LineForm
  leaf_line : LineForm
  row_line : RowForm → LineForm
  end_line : LineForm

-- the fields of a row's name
abbrev pub row_form_fields : RowForm → List Field
row_form_fields lone_form = one_of lone_words ∷ []
row_form_fields arc_form = word (codes "arc") ∷ state ∷ label ∷ state ∷ []
row_form_fields state_form = one_of state_words ∷ state ∷ []
row_form_fields label_form = one_of label_words ∷ label ∷ []
row_form_fields depth_form = word (codes "above") ∷ number depth ∷ []

-- the fields of a line
abbrev pub fields_of : LineForm → List Field
fields_of (heading_line version) = word (codes "certificate") ∷ word (version_digits version) ∷ []
fields_of (class_line version) = word (codes "class") ∷ class_words version ∷ []
fields_of unreachable_line = word (codes "unreachable") ∷ state ∷ []
fields_of fork_line = word (codes "fork") ∷ state ∷ label ∷ state ∷ state ∷ []
fields_of event_line = word (codes "event") ∷ state ∷ label ∷ []
fields_of states_line = word (codes "states") ∷ state ∷ state ∷ []
fields_of case_line = word (codes "case") ∷ []
fields_of split_tokens_line = word (codes "split") ∷ word (codes "tokens") ∷ state ∷ number split_value ∷ []
fields_of split_effect_line = word (codes "split") ∷ word (codes "effect") ∷ label ∷ number split_value ∷ []
fields_of split_start_line = word (codes "split") ∷ word (codes "start") ∷ number split_value ∷ []
fields_of leaf_line = word (codes "leaf") ∷ []
fields_of (row_line row) = number multiplier ∷ row_form_fields row
fields_of end_line = word (codes "end") ∷ []

-- the line has the form, with these texts in its fields
pub record HasForm (form : LineForm) (line : List ℕ) (texts : List (List ℕ)) : Type 0 where
  pub fields : AreAsked HasFieldForm (fields_of form) texts
  pub spelled : line ≡ spaced texts

-- how many cases a certificate has: one, or any number
pub data Count : Type 0 where
  one : Count
  several : Count

-- the position of a line in a text of a version
pub data Position : Type 0 where
  at_heading : Position
  at_class : Version → Position
  at_reason : Version → Position
  at_last : Position  -- after `unreachable` or `fork`
  at_one_case : Version → Position  -- after `event`
  at_cases : Version → Position  -- after `states`
  at_node : Version → Count → ℕ → Position  -- in a tree; a node is due, and so many after it
  at_row : Version → Count → ℕ → Position  -- in a leaf; so many nodes are due after it
  at_end : Position  -- after `end`

-- what comes of a line of some form at a position
pub data Next : Type 0 where
  to : Position → Next
  short : Next  -- a node is due
  long : Next  -- the tree is whole
  refused : Next

-- what comes of a line that texts of the second version alone have
abbrev pub if_two : Version → Next → Next
if_two version_one next = refused
if_two version_two next = next

-- a node, a case or the end, in a tree that needs a node here, and so many after it
abbrev pub in_tree : Version → Count → ℕ → LineForm → Next
in_tree version count due split_tokens_line = to (at_node version count (suc due))
in_tree version count due split_effect_line = to (at_node version count (suc due))
in_tree version count due split_start_line = if_two version (to (at_node version count (suc due)))
in_tree version count due leaf_line = to (at_row version count due)
in_tree version count due case_line = short
in_tree version count due end_line = short
in_tree version count due _ = refused

-- a node, a case or the end, after a whole tree
abbrev pub after_tree : Version → Count → LineForm → Next
after_tree version count split_tokens_line = long
after_tree version count split_effect_line = long
after_tree version count split_start_line = if_two version long
after_tree version count leaf_line = long
after_tree version several case_line = to (at_node version several 0)
after_tree version count end_line = to at_end
after_tree version count _ = refused

-- another row, or what follows the leaf
abbrev pub in_leaf : Version → Count → ℕ → LineForm → Next
in_leaf version count due (row_line row) = to (at_row version count due)
in_leaf version count zero form = after_tree version count form
in_leaf version count (suc due) form = in_tree version count due form

-- which lines may follow which
abbrev pub follows : Position → LineForm → Next
follows at_heading (heading_line version) = to (at_class version)
follows (at_class version) (class_line version_one) = to (at_reason version)
follows (at_class version) (class_line version_two) = if_two version (to (at_reason version))
follows (at_reason version) unreachable_line = to at_last
follows (at_reason version) fork_line = to at_last
follows (at_reason version) event_line = to (at_one_case version)
follows (at_reason version) states_line = to (at_cases version)
follows at_last end_line = to at_end
follows (at_one_case version) case_line = to (at_node version one 0)
follows (at_cases version) case_line = to (at_node version several 0)
follows (at_cases version) end_line = to at_end
follows (at_node version count due) form = in_tree version count due form
follows (at_row version count due) form = in_leaf version count due form
follows _ _ = refused
