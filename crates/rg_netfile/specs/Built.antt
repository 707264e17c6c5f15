-- How far a net is built of what is declared. Contracts of the crate's private functions cite it.
use Rattle.std.specs.Prelude.{◌≡◌, ℕ, ◌+◌, ◌<◌, ◌≤◌, ◌==◌, List, [], ◌∷◌, ◌++◌, length, All, Some, slice_get, slice_set, slice_index, count_by}
use Rattle.rg_lexer.specs.Lexeme.{Lexeme}
use Rattle.rg_theory.specs.Net.{Place, Net, IsPlaceAt, pre_weight, post_weight}
use Rattle.rg_theory.specs.System.{System}
use Rattle.rg_text.specs.Faults.{faults_after, IsFirst, AreNone}
use Rattle.rg_net_grammar.specs.declared.found.Transition.{Transition}
use Rattle.rg_net_grammar.specs.Contents.{Declared, label_of}
use Rattle.rg_netfile.specs.declared.fault.NetFault.{NetFault}
use Rattle.rg_netfile.specs.declared.slot.Slot.{Slot}
use Rattle.rg_netfile.specs.declared.slot.Slot.TheVariants.{Start, Taken, Put}
use Rattle.rg_netfile.specs.Contents.{Cell, taken, put, start, Step, total, step_fault, place_names, transition_names}

-- no two places of the list have the same thing
pub record AreApart {X : Type 0} (xs : List X) : Type 0 where
  pub same : (i j : ℕ) (x : X) → slice_get xs i ≡ Some x → slice_get xs j ≡ Some x → i ≡ j

-- the names that flows and markings may use, and the label of each transition, as its number
pub record KnownNames : Type 0 where
  pub places : List (List ℕ)
  pub transitions : List (List ℕ)
  pub labels : List ℕ

-- names differ, each transition has a label, and no two have the same
pub record IsKnown (k : KnownNames) : Type 0 where
  pub places_apart : AreApart k.places
  pub transitions_apart : AreApart k.transitions
  pub labels_apart : AreApart k.labels
  pub paired : length k.labels ≡ length k.transitions

-- the label of the transition with this name
abbrev pub HasLabel : KnownNames → List ℕ → ℕ → Type 0
HasLabel k name t = (i : ℕ) × (slice_get k.transitions i ≡ Some name) × (slice_get k.labels i ≡ Some t)

-- the numbers of the transitions' labels
abbrev pub AreNumbers : List (List ℕ) → List (Transition Lexeme) → List ℕ → Type 0
AreNumbers label_names [] [] = Unit {0}
AreNumbers label_names (t ∷ transitions) (n ∷ numbers) = (slice_get label_names n ≡ Some (label_of t)) × AreNumbers label_names transitions numbers
AreNumbers label_names _ _ = ⊥

-- how often each of so many numbers occurs in the list
pub record AreCounts (labels : ℕ) (numbers counts : List ℕ) : Type 0 where
  pub many : length counts ≡ labels
  pub each : (k : ℕ) → k < labels → slice_index counts k ≡ count_by (λ n. n == k) numbers

-- the names that are declared
pub record IsKnownOf (lts : System) (d : Declared) (k : KnownNames) : Type 0 where
  pub places : k.places ≡ place_names d
  pub transitions : k.transitions ≡ transition_names d
  pub numbers : AreNumbers lts.label_names d.transitions k.labels

-- a place's number in the slot
abbrev pub number_in : Place → Slot → ℕ
number_in p Start = p.start
number_in p (Taken t) = pre_weight p t
number_in p (Put t) = post_weight p t

-- the place with so many more in the slot
abbrev pub with_more : Place → Slot → ℕ → Place
with_more p Start n = record p { start = p.start + n }
with_more p (Taken t) n = record p { pre = slice_set p.pre t (pre_weight p t + n) }
with_more p (Put t) n = record p { post = slice_set p.post t (post_weight p t + n) }

-- the slot's label is one of so many
abbrev pub IsSlotIn : ℕ → Slot → Type 0
IsSlotIn labels Start = Unit {0}
IsSlotIn labels (Taken t) = t < labels
IsSlotIn labels (Put t) = t < labels

-- place i has so many more in the slot, and all else stays
abbrev pub AddsTo : Net → ℕ → Slot → ℕ → Net → Type 0
AddsTo old i slot n new =
    (p : Place) × IsPlaceAt old i p × (new ≡ record old { places = slice_set old.places i (with_more p slot n) })

-- the number that is there and those that come are more than the limit
abbrev pub IsOver : Net → ℕ → Slot → ℕ → ℕ → Type 0
IsOver net i slot n most = (p : Place) × IsPlaceAt net i p × (most < number_in p slot + n)

abbrev pub IsWithin : Net → ℕ → Slot → ℕ → ℕ → Type 0
IsWithin net i slot n most = (p : Place) × IsPlaceAt net i p × (number_in p slot + n ≤ most)

-- as many labels and places
pub record SameSize (old new : Net) : Type 0 where
  pub same_labels : new.labels ≡ old.labels
  pub same_places : length new.places ≡ length old.places

-- the net has the known places, and the labels of the known transitions
pub record Fits (k : KnownNames) (net : Net) : Type 0 where
  pub places : length net.places ≡ length k.places
  pub labels : All (λ t. t < net.labels) k.labels

-- the slot is where the cell's tokens are counted
abbrev pub IsSlotFor : KnownNames → Slot → Cell → Type 0
IsSlotFor k Start start = Unit {0}
IsSlotFor k (Taken t) (taken name) = HasLabel k name t
IsSlotFor k (Put t) (put name) = HasLabel k name t
IsSlotFor k _ _ = ⊥

-- the numbers of the net are what these steps add up to
pub record HasSums (k : KnownNames) (before : List Step) (net : Net) : Type 0 where
  pub sums : (i : ℕ) (name : List ℕ) (p : Place) (slot : Slot) (cell : Cell) → slice_get k.places i ≡ Some name → IsPlaceAt net i p
      → IsSlotFor k slot cell → number_in p slot ≡ total cell name before

-- after any steps before, these have no fault and lead from one net to the other
pub record Passes (k : KnownNames) (more : List Step) (old new : Net) : Type 0 where
  pub none : (before : List Step) → HasSums k before old → AreNone (faults_after (step_fault k.places k.transitions) before more)
  pub sums : (before : List Step) → HasSums k before old → HasSums k (before ++ more) new

-- after any steps before, this is the first fault of these
pub record Stops (k : KnownNames) (more : List Step) (old : Net) (fault : NetFault) : Type 0 where
  pub first : (before : List Step) → HasSums k before old → IsFirst (faults_after (step_fault k.places k.transitions) before more) fault
