-- How `isomorphic FILE FILE2` ends where FILE spells a system.
use Rattle.std.specs.Prelude.{◌⊎◌, ◌↔◌, ℕ, List, Option}
use Rattle.rg_ports.specs.Shelf.{Files}
use Rattle.rg_theory.specs.System.{System}
use Rattle.rg_checks.specs.declared.flaw.Flaw.{Flaw}
use Rattle.rg_checks.specs.Flaws.{IsFlawless, IsFirstFlaw}
use Rattle.rg_lts.specs.WellFormed.{IsWellFormed}
use Rattle.rg_iso.specs.Isomorphic.{AreIsomorphic}
use Rattle.rg_iso.specs.Compared.{Told, Told.map as as_map, Compares, IsMap}
use Rattle.rg_commands.specs.declared.forms.Form.{Form}
use Rattle.rg_messages.specs.FlawTexts.{file_flaw_line}
use Rattle.rg_messages.specs.ComparedTexts.{told_text}
use Rattle.rg_messages.specs.declared.fault.Fault.{Fault}
use Rattle.rg_top.specs.Given.{IsNoSystem, IsSystemFile}
use Rattle.rg_top.specs.Second.{second_fault}
use Rattle.rg_top.specs.End.{End, says_yes, says_no, refuses_file}
use Rattle.rg_top.specs.declared.status.Status.{Status}
use Rattle.rg_top.specs.declared.status.Status.TheVariants.{Done, No, File}

-- a map is the command's yes, and a difference its no
abbrev pub told_end : Told → List ℕ → End
told_end (as_map map) text = says_yes text
told_end _ text = says_no text

-- the end for two systems: one has a flaw, or both are flawless, and are isomorphic just where a map is found
pub data PairEnds (a b : System) : End → Type 0 where
  first_flawed : (flaw : Flaw) → IsFirstFlaw a flaw → PairEnds a b (says_no (file_flaw_line 1 a flaw))
  second_flawed : (flaw : Flaw) → IsFlawless a → IsFirstFlaw b flaw → PairEnds a b (says_no (file_flaw_line 2 b flaw))
  compared : (told : Told) → IsFlawless a → IsFlawless b → Compares a b told → IsMap told ↔ AreIsomorphic a b → PairEnds a b (told_end told (told_text a b told))

-- the end is that of the second file: it is none of a system, or it is one
pub data IsomorphicEnds (files : Option Files) (named : List ℕ) (form : Form) (lts : System) : End → Type 0 where
  unread : (fault : Fault) → IsNoSystem files form named fault → IsomorphicEnds files named form lts (refuses_file (second_fault fault))
  read : (other : System) (end : End) → IsSystemFile files form named other → IsWellFormed other → PairEnds lts other end → IsomorphicEnds files named form lts end

-- the two systems are flawless, and isomorphic
pub record AreFoundSame (files : Option Files) (named : List ℕ) (form : Form) (lts : System) : Type 0 where
  pub other : System
  pub file : IsSystemFile files form named other
  pub first : IsFlawless lts
  pub second : IsFlawless other
  pub isomorphic : AreIsomorphic lts other

-- one of them has a flaw, or they aren't isomorphic
pub record AreFoundOther (files : Option Files) (named : List ℕ) (form : Form) (lts : System) : Type 0 where
  pub other : System
  pub file : IsSystemFile files form named other
  pub why : (¬ IsFlawless lts) ⊎ ((¬ IsFlawless other) ⊎ (¬ AreIsomorphic lts other))

-- when each status is expected
pub data IsomorphicIsDue (files : Option Files) (named : List ℕ) (form : Form) (lts : System) : Status → Type 0 where
  by_no_system : (fault : Fault) → IsNoSystem files form named fault → IsomorphicIsDue files named form lts (File (second_fault fault))
  by_same : AreFoundSame files named form lts → IsomorphicIsDue files named form lts Done
  by_other : AreFoundOther files named form lts → IsomorphicIsDue files named form lts No
