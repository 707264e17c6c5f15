-- How far a word list is read. Contracts of the crate's private functions cite it.
use Rattle.rg_words.specs.declared.reading.Tree.{Tree}
use Rattle.std.specs.Prelude.{None, ◌≡◌, ◌↔◌, ◌⊎◌, ℕ, ◌+◌, ◌<◌, ◌≤◌, slice_get, List, [], ◌∷◌, ◌++◌, length, map, Some, Contains}
use Rattle.std.specs.List.{enumerate_from, flat_map}
use Rattle.rg_text.specs.Faults.{faults_after, IsFirst, AreNone}
use Rattle.rg_theory.specs.Limits.{most_states, most_labels}
use Rattle.rg_theory.specs.declared.Arc.{Arc}
use Rattle.rg_theory.specs.System.{arc}
use Rattle.rg_lts.specs.Draft.{Draft}
use Rattle.rg_line_formats.specs.Numbered.{Line}
use Rattle.rg_line_formats.specs.Words.{words}
use Rattle.rg_words.specs.declared.fault.WordFault.{WordFault}
use Rattle.rg_words.specs.Contents.{Word, Use, uses_from, word_of, prefixes, label_names, state_names, arc_of, use_fault}

abbrev pub use_of : ℕ → Word → List ℕ → Use
use_of n before label = record { line = n; before = before; label = label }

-- the arcs of steps, the first of which leads to state k
abbrev pub arcs_from : ℕ → List (ℕ × ℕ) → List Arc
arcs_from k [] = []
arcs_from k (step ∷ steps) = arc step.0 step.1 k ∷ arcs_from (k + 1) steps

abbrev pub step_arcs : List (ℕ × ℕ) → List Arc
step_arcs steps = arcs_from 1 steps

-- a step leads from the state of a prefix, by a label, to state k, that of the prefix with this label
pub record LeadsTo (prefixes_so_far : List Word) (names : List (List ℕ)) (step : ℕ × ℕ) (k : ℕ) : Type 0 where
  pub word : Word
  pub label : List ℕ
  pub from : slice_get prefixes_so_far step.0 ≡ Some word
  pub named : slice_get names step.1 ≡ Some label
  pub to : slice_get prefixes_so_far k ≡ Some (word ++ label ∷ [])

-- the arcs, as the numbers of their states and labels
abbrev pub arcs_of : List Use → List Arc
arcs_of all = map (arc_of (prefixes all) (label_names all)) all

-- the steps are those of the tree of these uses
pub record AreSteps (all : List Use) (steps : List (ℕ × ℕ)) : Type 0 where
  pub size : length (prefixes all) ≡ length steps + 1
  pub leads : (i : ℕ) (step : ℕ × ℕ) → slice_get steps i ≡ Some step → LeadsTo (prefixes all) (label_names all) step (i + 1)
  pub same : (a : Arc) → Contains (step_arcs steps) a ↔ Contains (arcs_of all) a
  pub known : (u : Use) → Contains all u → Contains (prefixes all) u.before

-- the draft is the system of the steps, which are few enough
pub record IsDraftOf (d : Draft) (steps : List (ℕ × ℕ)) : Type 0 where
  pub states : d.state_names ≡ state_names (length steps + 1)
  pub initial : d.initial ≡ Some 0
  pub arcs : (a : Arc) → Contains d.arcs a ↔ Contains (step_arcs steps) a
  pub few_steps : length steps < most_states
  pub few_labels : length d.label_names ≤ most_labels

-- the names and the steps are those of the tree of these uses, in which the word has the state
pub record IsAt (all : List Use) (word : Word) (names : List (List ℕ)) (steps : List (ℕ × ℕ)) (state : ℕ) : Type 0 where
  pub labels : names ≡ label_names all
  pub tree : AreSteps all steps
  pub index : slice_get (prefixes all) state ≡ Some word

-- whatever uses came before, and whatever word has the state: the tree has one use more after it, of this label in the line, which leads to
-- the state `to` and has no fault
abbrev pub Leads : Tree → ℕ → List ℕ → ℕ → Tree → ℕ → Type 0
Leads old state label line new to = (all : List Use) (word : Word) → IsAt all word old.builder.label_names old.steps.keys state
    → IsAt (all ++ use_of line word label ∷ []) (word ++ label ∷ []) new.builder.label_names new.steps.keys to × (use_fault all (use_of line word label) ≡ None)

-- the use of this label after the word of the state has the fault
abbrev pub Refuses : Tree → ℕ → List ℕ → ℕ → WordFault → Type 0
Refuses old state label line f = (all : List Use) (word : Word) → IsAt all word old.builder.label_names old.steps.keys state → use_fault all (use_of line word label) ≡ Some f

-- a state is added, and the arc, which leads to it
pub record IsGrown (old new : Draft) (a : Arc) : Type 0 where
  pub rest : new ≡ record old { state_names = state_names (a.to + 1); arcs = new.arcs }
  pub arcs : (b : Arc) → Contains new.arcs b ↔ (Contains old.arcs b ⊎ (b ≡ a))

-- the uses of a line, and of lines
abbrev pub uses_of : Line → List Use
uses_of line = uses_from line.0 [] (word_of (words line.1))

-- all uses are those before and the rest, as far as they count
pub record GoesTo (all before rest : List Use) : Type 0 where
  pub whole : all ≡ before ++ rest
  pub first : (f : WordFault) → IsFirst (faults_after use_fault before rest) f → IsFirst (faults_after use_fault [] all) f
  pub none : AreNone (faults_after use_fault before rest) → AreNone (faults_after use_fault [] all)

-- an index in a text: the uses before it are those of the tree, in which the word at the index has the state, and the rest follows
pub record Stands (all rest : List Use) (word : Word) (names : List (List ℕ)) (steps : List (ℕ × ℕ)) (state : ℕ) : Type 0 where
  pub before : List Use
  pub goes : GoesTo all before rest
  pub at : IsAt before word names steps state

-- these uses are next: the tree has them after it, and the rest follows
abbrev pub TakesUses : Tree → List Use → Tree → Type 0
TakesUses old now new = (all more : List Use) → Stands all (now ++ more) [] old.builder.label_names old.steps.keys 0 → Stands all more [] new.builder.label_names new.steps.keys 0

-- the fault is the first one of all, where these uses are next
abbrev pub HasFirstFault : Tree → List Use → WordFault → Type 0
HasFirstFault old now f = (all more : List Use) → Stands all (now ++ more) [] old.builder.label_names old.steps.keys 0 → IsFirst (faults_after use_fault [] all) f

-- the uses of the lines of a text, the first of which has this number
abbrev pub uses_in : ℕ → List (List ℕ) → List Use
uses_in n rows = flat_map uses_of (enumerate_from n rows)
