-- A system that is being built, and what each call of the builder does to it.
use Rattle.std.specs.Prelude.{◌≡◌, ◌≢◌, ◌↔◌, ◌⊎◌, ℕ, ◌<◌, ◌≤◌, List, [], length, All, AllPairs, Contains, Option, Some, None, IfSome, IsSomeAnd, slice_get}
use Rattle.rg_theory.specs.declared.Arc.{Arc}
use Rattle.rg_theory.specs.System.{System, IsArcInRange, IsArcBefore}
use Rattle.rg_theory.specs.Limits.{most_states, most_labels, most_arcs}
use Rattle.rg_lts.specs.WellFormed.{AreNames}

-- the names so far, each arc once and in order, and the initial state where one is named
pub record Draft : Type 0 where
  pub state_names : List (List ℕ)
  pub label_names : List (List ℕ)
  pub arcs : List Arc
  pub initial : Option ℕ

-- nothing yet
abbrev pub blank : Draft
blank = record { state_names = []; label_names = []; arcs = []; initial = None }

-- the draft with these names, arcs and initial state
abbrev pub draft_of : List (List ℕ) → List (List ℕ) → List Arc → Option ℕ → Draft
draft_of state_names label_names arcs initial =
    record { state_names = state_names; label_names = label_names; arcs = arcs; initial = initial }

-- the draft with these names alone
abbrev pub names_alone : List (List ℕ) → List (List ℕ) → Draft
names_alone state_names label_names = draft_of state_names label_names [] None

-- the system of the draft, with this initial state
abbrev pub finished : Draft → ℕ → System
finished d s = record { state_names = d.state_names; label_names = d.label_names; arcs = d.arcs; initial = s }

-- the draft can become a well formed system
pub record IsWellFormedDraft (d : Draft) : Type 0 where
  pub arcs : All (IsArcInRange (finished d 0)) d.arcs
  pub initial : IfSome d.initial (λ s. s < length d.state_names)
  pub state_names : AreNames d.state_names
  pub label_names : AreNames d.label_names
  pub arc_order : AllPairs IsArcBefore d.arcs
  pub few_states : length d.state_names ≤ most_states
  pub few_labels : length d.label_names ≤ most_labels
  pub few_arcs : length d.arcs ≤ most_arcs

-- the numbers of the arc name states and a label that are there
abbrev pub IsArcWithin : Draft → Arc → Type 0
IsArcWithin d a = IsArcInRange (finished d 0) a

-- the state's name is at the index of its number
abbrev pub IsStateNamed : Draft → ℕ → List ℕ → Type 0
IsStateNamed d s name = slice_get d.state_names s ≡ Some name

-- the label's name is at the index of its number
abbrev pub IsLabelNamed : Draft → ℕ → List ℕ → Type 0
IsLabelNamed d t name = slice_get d.label_names t ≡ Some name

-- a is the arc with these three names
pub record IsArcNamed (d : Draft) (source step target : List ℕ) (a : Arc) : Type 0 where
  pub from : IsStateNamed d a.from source
  pub label : IsLabelNamed d a.label step
  pub to : IsStateNamed d a.to target

-- the arc is added to those that were there, and everything else stays
pub record AddsArc (old new : Draft) (a : Arc) : Type 0 where
  pub rest : new ≡ record old { arcs = new.arcs }
  pub members : (b : Arc) → Contains new.arcs b ↔ (Contains old.arcs b ⊎ (b ≡ a))

-- all three names of the arc are there
pub record HasNames (d : Draft) (source step target : List ℕ) : Type 0 where
  pub from : Contains d.state_names source
  pub label : Contains d.label_names step
  pub to : Contains d.state_names target

-- of the three names of an arc, in the order from, label, to, the first that isn't there is one of a state
abbrev pub LacksState : Draft → List ℕ → List ℕ → List ℕ → Type 0
LacksState d from label to =
    (¬ Contains d.state_names from)
    ⊎ (Contains d.state_names from × Contains d.label_names label × ¬ Contains d.state_names to)

-- of the three, the first that isn't there is that of the label
abbrev pub LacksLabel : Draft → List ℕ → List ℕ → Type 0
LacksLabel d from label = Contains d.state_names from × ¬ Contains d.label_names label

-- the arc with these names is new, and there is no room for one more
pub record IsArcOverLimit (d : Draft) (from label to : List ℕ) : Type 0 where
  pub names : HasNames d from label to
  pub new : (a : Arc) → IsArcNamed d from label to a → ¬ Contains d.arcs a
  pub limit : most_arcs ≤ length d.arcs

-- the named state is there, and another one is initial
abbrev pub IsOtherInitial : Draft → List ℕ → Type 0
IsOtherInitial d name = Contains d.state_names name × IsSomeAnd d.initial (λ s. slice_get d.state_names s ≢ Some name)
