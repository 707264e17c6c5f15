-- How `check CLASS FILE NET` ends where FILE spells a system.
use Rattle.std.specs.Prelude.{◌≢◌, ℕ, List, Option, None, Ok, Err}
use Rattle.rg_ports.specs.Shelf.{Files}
use Rattle.rg_integers.specs.Range.{greatest}
use Rattle.rg_theory.specs.System.{System}
use Rattle.rg_theory.specs.Net.{Net}
use Rattle.rg_theory.specs.Solves.{Solves}
use Rattle.rg_theory.specs.Class.{IsBounded, InClass}
use Rattle.rg_theory.specs.declared.Class.{Class}
use Rattle.rg_netfile.specs.Spells.{Spells, FirstFault}
use Rattle.rg_netfile.specs.declared.fault.NetFault.TheVariants.{NoMemory}
use Rattle.rg_net_verdict.specs.declared.verdict.CheckWide.{CheckWide}
use Rattle.rg_net_verdict.specs.declared.verdict.NetNo.{NetNo}
use Rattle.rg_net_verdict.specs.declared.verdict.NetVerdict.TheVariants as verdict
use Rattle.rg_net_verdict.specs.Verdict.{Told, IsVerdict}
use Rattle.rg_messages.specs.CheckedTexts.{yes_line, no_line}
use Rattle.rg_messages.specs.declared.fault.Fault.{Fault}
use Rattle.rg_messages.specs.declared.fault.Fault.TheVariants.{Missing, TooLong, Net as OfNet}
use Rattle.rg_messages.specs.declared.wide.WideCause.TheVariants.{Check}
use Rattle.rg_top.specs.Given.{MayHold, IsFile, IsTooLong}
use Rattle.rg_top.specs.Second.{second_fault}
use Rattle.rg_top.specs.End.{End, says_yes, says_no, refuses_file, shows_term}
use Rattle.rg_top.specs.Terms.{of_check}
use Rattle.rg_top.specs.declared.status.Status.{Status}
use Rattle.rg_top.specs.declared.status.Status.TheVariants.{Done, No, File, TooWide}

-- the file spells the net for the system
pub record IsNetFile (files : Option Files) (name : List ℕ) (lts : System) (net : Net) : Type 0 where
  pub bytes : List ℕ
  pub file : IsFile files name bytes
  pub spelled : Spells bytes lts net

-- the first fault of the bytes as a net for the system, which isn't want of memory
abbrev pub IsNetFault : List ℕ → System → Fault → Type 0
IsNetFault bytes lts (OfNet fault) = FirstFault bytes lts fault × (fault ≢ NoMemory)
IsNetFault bytes lts _ = ⊥

-- the file's text has the first fault
pub record IsFaultyNet (files : Option Files) (name : List ℕ) (lts : System) (fault : Fault) : Type 0 where
  pub bytes : List ℕ
  pub file : IsFile files name bytes
  pub first : IsNetFault bytes lts fault

-- the file is not that of a net for the system
abbrev pub IsNoNet : Option Files → List ℕ → System → Fault → Type 0
IsNoNet files name lts Missing = MayHold files name None
IsNoNet files name lts TooLong = IsTooLong files name
IsNoNet files name lts fault = IsFaultyNet files name lts fault

-- the file spells a net, and this is the verdict on it
pub record IsTold (files : Option Files) (class : Class) (name : List ℕ) (lts : System) (told : Told) : Type 0 where
  pub net : Net
  pub file : IsNetFile files name lts net
  pub judged : IsVerdict lts net class told

-- the net of the file solves the system, is of the class, and no reachable marking is out of range
pub record IsRightNet (files : Option Files) (class : Class) (name : List ℕ) (lts : System) : Type 0 where
  pub net : Net
  pub file : IsNetFile files name lts net
  pub solves : Solves net lts
  pub in_class : InClass net class
  pub narrow : IsBounded net greatest

-- the net of the file doesn't solve the system or isn't of the class
pub record IsWrongNet (files : Option Files) (class : Class) (name : List ℕ) (lts : System) : Type 0 where
  pub net : Net
  pub file : IsNetFile files name lts net
  pub wrong : Solves net lts → ¬ InClass net class

-- the end is that of the file: it is none of a net, or the judge says yes, no, or that a number is out of range
pub data CheckEnds (files : Option Files) (class : Class) (name : List ℕ) (lts : System) : End → Type 0 where
  unread : (fault : Fault) → IsNoNet files name lts fault → CheckEnds files class name lts (refuses_file (second_fault fault))
  yes : IsTold files class name lts (Ok verdict.Yes) → IsRightNet files class name lts → CheckEnds files class name lts (says_yes yes_line)
  no : (found : NetNo) → IsTold files class name lts (Ok (verdict.No found)) → IsWrongNet files class name lts → CheckEnds files class name lts (says_no (no_line lts found))
  passes : (w : CheckWide) → IsTold files class name lts (Err w) → CheckEnds files class name lts (shows_term (of_check w))

-- when each status is expected
pub data CheckIsDue (files : Option Files) (class : Class) (name : List ℕ) (lts : System) : Status → Type 0 where
  by_no_net : (fault : Fault) → IsNoNet files name lts fault → CheckIsDue files class name lts (File (second_fault fault))
  by_yes : IsTold files class name lts (Ok verdict.Yes) → CheckIsDue files class name lts Done
  by_no : (found : NetNo) → IsTold files class name lts (Ok (verdict.No found)) → CheckIsDue files class name lts No
  by_term : (w : CheckWide) → IsTold files class name lts (Err w) → CheckIsDue files class name lts (TooWide (Check w))
