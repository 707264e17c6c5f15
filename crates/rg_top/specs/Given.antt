-- The files that the words name.
use Rattle.std.specs.Prelude.{◌≡◌, ◌≢◌, ℕ, ◌<◌, ◌≤◌, List, length, Option, Some, None}
use Rattle.rg_ports.specs.Shelf.{Files, file_of}
use Rattle.rg_text.specs.Limits.{most_bytes}
use Rattle.rg_theory.specs.System.{System}
use Rattle.rg_apt.specs.Spells.{Spells as AptSpells, FirstFault as FirstAptFault}
use Rattle.rg_apt.specs.declared.fault.TextFault.TheVariants as apt_fault
use Rattle.rg_genet.specs.Spells.{Spells as GraphSpells, FirstFault as FirstGraphFault}
use Rattle.rg_genet.specs.declared.fault.GraphFault.TheVariants as graph_fault
use Rattle.rg_words.specs.Spells.{Spells as WordsSpell, FirstFault as FirstWordFault}
use Rattle.rg_words.specs.declared.fault.WordFault.TheVariants as word_fault
use Rattle.rg_commands.specs.declared.forms.Form.{Form}
use Rattle.rg_commands.specs.declared.forms.Form.TheVariants as form
use Rattle.rg_messages.specs.declared.fault.Fault.{Fault}
use Rattle.rg_messages.specs.declared.fault.Fault.TheVariants.{Missing, TooLong, Apt, Graph, Words}

-- the shelf, as far as it shows its files, has these bytes under the name, or no such file
abbrev pub MayHold : Option Files → List ℕ → Option (List ℕ) → Type 0
MayHold None name content = Unit {0}
MayHold (Some files) name content = file_of files name ≡ content

-- the file has these bytes, and not too many
pub record IsFile (files : Option Files) (name bytes : List ℕ) : Type 0 where
  pub file : MayHold files name (Some bytes)
  pub short : length bytes ≤ most_bytes

-- the file has more bytes than a file may have
pub record IsTooLong (files : Option Files) (name : List ℕ) : Type 0 where
  pub bytes : List ℕ
  pub file : MayHold files name (Some bytes)
  pub long : most_bytes < length bytes

-- the file isn't there, or is too long
abbrev pub IsUnread : Option Files → List ℕ → Fault → Type 0
IsUnread files name Missing = MayHold files name None
IsUnread files name TooLong = IsTooLong files name
IsUnread files name _ = ⊥

-- the bytes spell the system in the form
abbrev pub SpellsAs : Form → List ℕ → System → Type 0
SpellsAs form.Apt bytes lts = AptSpells bytes lts
SpellsAs form.Graph bytes lts = GraphSpells bytes lts
SpellsAs form.Words bytes lts = WordsSpell bytes lts

-- the first fault of the bytes in the form, which isn't want of memory
abbrev pub IsFaultAs : Form → List ℕ → Fault → Type 0
IsFaultAs form.Apt bytes (Apt fault) = FirstAptFault bytes fault × (fault ≢ apt_fault.NoMemory)
IsFaultAs form.Graph bytes (Graph fault) = FirstGraphFault bytes fault × (fault ≢ graph_fault.NoMemory)
IsFaultAs form.Words bytes (Words fault) = FirstWordFault bytes fault × (fault ≢ word_fault.NoMemory)
IsFaultAs _ bytes _ = ⊥

-- the file's text has the first fault in the form
pub record IsFaulty (files : Option Files) (form : Form) (name : List ℕ) (fault : Fault) : Type 0 where
  pub bytes : List ℕ
  pub file : IsFile files name bytes
  pub first : IsFaultAs form bytes fault

-- the file is not that of a system in the form
abbrev pub IsNoSystem : Option Files → Form → List ℕ → Fault → Type 0
IsNoSystem files form name Missing = MayHold files name None
IsNoSystem files form name TooLong = IsTooLong files name
IsNoSystem files form name fault = IsFaulty files form name fault

-- the file spells the system in the form
pub record IsSystemFile (files : Option Files) (form : Form) (name : List ℕ) (lts : System) : Type 0 where
  pub bytes : List ℕ
  pub file : IsFile files name bytes
  pub spelled : SpellsAs form bytes lts
