-- The net of what a net file declares for a system, or what is wrong with it.
use Rattle.std.specs.Prelude.{◌≡◌, ℕ, ◌+◌, ◌==◌, nat_le, nat_lt, Bool, true, false, not, ◌&&◌, List, [], ◌∷◌, ◌++◌, length, map, sum_by, count_by, Option, None, Some, slice_get, if◌then◌else◌}
use Rattle.std.specs.List.{list_any, list_all, flat_map}
use Rattle.std.specs.Str.{bytes_eq}
use Rattle.std.specs.Str.Parse.{digits_value}
use Rattle.rg_theory.specs.System.{System, labels}
use Rattle.rg_theory.specs.Net.{Place, Net, HasAllWeights, IsPlaceAt, pre_weight, post_weight}
use Rattle.rg_lexer.specs.Lexeme.{Lexeme}
use Rattle.rg_text.specs.Faults.{faults_after, if_not}
use Rattle.rg_integers.specs.Range.{greatest}
use Rattle.rg_net_grammar.specs.declared.found.Member.{Member}
use Rattle.rg_net_grammar.specs.Item.{Flow}
use Rattle.rg_net_grammar.specs.declared.found.Transition.{Transition}
use Rattle.rg_net_grammar.specs.Contents.{Declared, label_of}
use Rattle.rg_netfile.specs.declared.fault.NetFault.{NetFault}
use Rattle.rg_netfile.specs.declared.fault.NetFault.TheVariants.{NoType, TwicePlace, TooManyPlaces, TwiceTransition, TransitionsDiffer, UnknownTransition, UnknownPlace, NumberPasses}

-- the most places of a net file
abbrev pub most_places : ℕ
most_places = 16384

abbrev pub place_names : Declared → List (List ℕ)
place_names d = map (λ (x : Lexeme). x.text) d.places

abbrev pub transition_names : Declared → List (List ℕ)
transition_names d = map (λ (t : Transition Lexeme). t.name.text) d.transitions

abbrev pub is_among : List (List ℕ) → List ℕ → Bool
is_among names name = list_any (bytes_eq name) names

-- how many tokens a member means: its number, or one if it has none
abbrev pub count_of : Option Lexeme → ℕ
count_of None = 1
count_of (Some number) = digits_value 10 number.text

-- the first token of a member: its number, if it has one
abbrev pub first_token : Option Lexeme → Lexeme → Lexeme
first_token None place = place
first_token (Some number) place = number

-- the place of a member in the text
abbrev pub member_at : Member Lexeme → ℕ
member_at m = (first_token m.number m.place).at

-- what tokens of a place are counted: those that a transition takes, those that it puts, or those at the start
pub data Cell : Type 0 where
  taken : List ℕ → Cell
  put : List ℕ → Cell
  start : Cell

abbrev pub same_cell : Cell → Cell → Bool
same_cell (taken a) (taken b) = bytes_eq a b
same_cell (put a) (put b) = bytes_eq a b
same_cell start start = true
same_cell _ _ = false

-- a flow of the transition with this name begins, or a member adds to what is counted
pub data Step : Type 0 where
  flow_of : Lexeme → Step
  adds : Cell → Member Lexeme → Step

abbrev pub steps_of_flow : Flow → List Step
steps_of_flow f = flow_of f.name ∷ (map (adds (taken f.name.text)) f.pre ++ map (adds (put f.name.text)) f.post)

-- what the flows and then the initial markings say, in the order of the file
abbrev pub steps : Declared → List Step
steps d = flat_map steps_of_flow d.flows ++ map (adds start) d.marking

-- how many tokens of the place with this name a step adds
abbrev pub added : Cell → List ℕ → Step → ℕ
added cell place (flow_of name) = 0
added cell place (adds other m) = if same_cell cell other && bytes_eq place m.place.text then count_of m.number else 0

-- how many tokens the steps add up to
abbrev pub total : Cell → List ℕ → List Step → ℕ
total cell place all = sum_by (added cell place) all

-- the fault of a place's entry, by the entries before it
abbrev pub place_fault : List Lexeme → Lexeme → Option NetFault
place_fault before x =
    if list_any (λ (b : Lexeme). bytes_eq x.text b.text) before then Some (TwicePlace x.at)
    else (if nat_le most_places (length before) then Some (TooManyPlaces x.at)
    else None)

-- the fault of a transition's entry, by the entries before it
abbrev pub transition_fault : List (Transition Lexeme) → Transition Lexeme → Option NetFault
transition_fault before t =
    if list_any (λ (b : Transition Lexeme). bytes_eq t.name.text b.name.text) before then Some (TwiceTransition t.name.at) else None

-- each transition has one of the labels, and each label is that of one transition
abbrev pub have_each_once : List (List ℕ) → List (Transition Lexeme) → Bool
have_each_once label_names transitions =
    list_all (λ (t : Transition Lexeme). is_among label_names (label_of t)) transitions
    && list_all (λ label. count_by (λ (t : Transition Lexeme). bytes_eq label (label_of t)) transitions == 1) label_names

-- the fault of a step, by the steps before it; names of places and of transitions are given
abbrev pub step_fault : List (List ℕ) → List (List ℕ) → List Step → Step → Option NetFault
step_fault places transitions before (flow_of name) =
    if is_among transitions name.text then None else Some (UnknownTransition name.at)
step_fault places transitions before (adds cell m) =
    if nat_lt greatest (count_of m.number) then Some (NumberPasses (member_at m))
    else (if not (is_among places m.place.text) then Some (UnknownPlace m.place.at)
    else (if nat_lt greatest (total cell m.place.text before + count_of m.number) then Some (NumberPasses (member_at m))
    else None))

-- what may be wrong with the names of places and transitions, and with the transitions' labels
abbrev pub name_faults : System → Declared → List (Option NetFault)
name_faults lts d =
    faults_after place_fault [] d.places
    ++ faults_after transition_fault [] d.transitions
    ++ if_not (have_each_once lts.label_names d.transitions) TransitionsDiffer

-- all that may be wrong with what is declared, in the order in which it counts
abbrev pub faults : System → Declared → List (Option NetFault)
faults lts d =
    if_not d.typed NoType
    ++ name_faults lts d
    ++ faults_after (step_fault (place_names d) (transition_names d)) [] (steps d)

-- the numbers of the place with this name are what the steps add up to; a label's are those of the transition that has it
pub record IsPlaceOf (lts : System) (d : Declared) (name : List ℕ) (p : Place) : Type 0 where
  pub starts : p.start ≡ total start name (steps d)
  pub takes : (i k : ℕ) (t : Transition Lexeme) → slice_get d.transitions i ≡ Some t → slice_get lts.label_names k ≡ Some (label_of t)
      → pre_weight p k ≡ total (taken t.name.text) name (steps d)
  pub puts : (i k : ℕ) (t : Transition Lexeme) → slice_get d.transitions i ≡ Some t → slice_get lts.label_names k ≡ Some (label_of t)
      → post_weight p k ≡ total (put t.name.text) name (steps d)

-- the net of what is declared: a place for each entry, in their order
pub record IsNetOf (lts : System) (d : Declared) (net : Net) : Type 0 where
  pub for_labels : net.labels ≡ labels lts
  pub weights : HasAllWeights net
  pub count : length net.places ≡ length d.places
  pub each : (i : ℕ) (x : Lexeme) (p : Place) → slice_get d.places i ≡ Some x → IsPlaceAt net i p → IsPlaceOf lts d x.text p
