-- A file is unread, or its bytes spell a system or have a first fault.
use Rattle.std.proofs.Common.{◌≡◌, ◌≢◌, ◌⊎◌, inl, inr, ℕ, ◌<◌, ◌≤◌, leb, true, false, List, length, Option, Some, None, refl, subst}
use Rattle.std.proofs.lemmas.Bool.Decides.{leb_tells}
use Rattle.rg_ports.specs.Shelf.{Files, file_of}
use Rattle.rg_text.specs.Limits.{most_bytes}
use Rattle.rg_theory.specs.System.{System}
use Rattle.rg_lts.specs.WellFormed.{IsWellFormed}
use Rattle.rg_apt.specs.Spells.{Spells as AptSpells, FirstFault as FirstAptFault}
use Rattle.rg_apt.specs.declared.fault.TextFault.{TextFault}
use Rattle.rg_apt.specs.declared.fault.TextFault.TheVariants as apt_fault
use Rattle.rg_genet.specs.Spells.{Spells as GraphSpells, FirstFault as FirstGraphFault}
use Rattle.rg_genet.specs.declared.fault.GraphFault.{GraphFault}
use Rattle.rg_genet.specs.declared.fault.GraphFault.TheVariants as graph_fault
use Rattle.rg_words.specs.Spells.{Spells as WordsSpell, FirstFault as FirstWordFault}
use Rattle.rg_words.specs.declared.fault.WordFault.{WordFault}
use Rattle.rg_words.specs.declared.fault.WordFault.TheVariants as word_fault
use Rattle.rg_commands.specs.declared.forms.Form.{Form}
use Rattle.rg_commands.specs.declared.forms.Form.TheVariants as form
use Rattle.rg_messages.specs.declared.fault.Fault.{Fault}
use Rattle.rg_messages.specs.declared.fault.Fault.TheVariants.{Missing, TooLong, Apt, Graph, Words}
use Rattle.rg_top.specs.Given.{IsFile, IsUnread, SpellsAs, IsFaultAs, IsNoSystem, IsSystemFile}
use Rattle.rg_top.proofs.OneFile.{unread_is_no_system, faulty_is_no_system}

-- ---- files that are known

-- a file isn't there or is too long, or it has bytes, and not too many
pub data WhichFile (files : Files) (name : List ℕ) : Type 0 where
  not_read : (fault : Fault) → IsUnread (Some files) name fault → WhichFile files name
  has : (bytes : List ℕ) → IsFile (Some files) name bytes → WhichFile files name

pub which_file : (files : Files) (name : List ℕ) → WhichFile files name
which_file files name = by (file_of files name) refl
  where
    sized : (bytes : List ℕ) → file_of files name ≡ Some bytes
        → ((leb (length bytes) most_bytes ≡ true) × (length bytes ≤ most_bytes)) ⊎ ((leb (length bytes) most_bytes ≡ false) × (most_bytes < length bytes)) → WhichFile files name
    sized bytes is (inl (e, short)) = has bytes (record { file = is; short = short })
    sized bytes is (inr (e, long)) = not_read TooLong (record { bytes = bytes; file = is; long = long })

    by : (content : Option (List ℕ)) → file_of files name ≡ content → WhichFile files name
    by None is = not_read Missing is
    by (Some bytes) is = sized bytes is (leb_tells (length bytes) most_bytes)

-- ---- what bytes spell in a form

-- in each form bytes spell a system, which is well formed, or have a first fault, which isn't want of memory
pub record SomeReading : Type 0 where
  pub apt : (bytes : List ℕ) → ((a : System) × AptSpells bytes a) ⊎ ((f : TextFault) × FirstAptFault bytes f)
  pub apt_formed : (bytes : List ℕ) (lts : System) → AptSpells bytes lts → IsWellFormed lts
  pub apt_memory : (bytes : List ℕ) → ¬ FirstAptFault bytes apt_fault.NoMemory
  pub graph : (bytes : List ℕ) → ((a : System) × GraphSpells bytes a) ⊎ ((f : GraphFault) × FirstGraphFault bytes f)
  pub graph_formed : (bytes : List ℕ) (lts : System) → GraphSpells bytes lts → IsWellFormed lts
  pub graph_memory : (bytes : List ℕ) → ¬ FirstGraphFault bytes graph_fault.NoMemory
  pub words : (bytes : List ℕ) → ((a : System) × WordsSpell bytes a) ⊎ ((f : WordFault) × FirstWordFault bytes f)
  pub words_formed : (bytes : List ℕ) (lts : System) → WordsSpell bytes lts → IsWellFormed lts
  pub words_memory : (bytes : List ℕ) → ¬ FirstWordFault bytes word_fault.NoMemory

-- a system is spelled, or there is a fault
data WhichReading (form : Form) (bytes : List ℕ) : Type 0 where
  spells : (lts : System) → SpellsAs form bytes lts → IsWellFormed lts → WhichReading form bytes
  faulty : (fault : Fault) → IsFaultAs form bytes fault → WhichReading form bytes

-- a first fault isn't the one that none has
pub is_other : {X : Type 0} (P : X → Type 0) (none x : X) → P x → ¬ P none → x ≢ none
is_other P none x holds not e = not (subst P e holds)

which_reading : SomeReading → (form : Form) (bytes : List ℕ) → WhichReading form bytes
which_reading some form.Apt bytes = by (some.apt bytes)
  where
    by : ((a : System) × AptSpells bytes a) ⊎ ((f : TextFault) × FirstAptFault bytes f) → WhichReading form.Apt bytes
    by (inl (lts, h)) = spells lts h (some.apt_formed bytes lts h)
    by (inr (f, h)) = faulty (Apt f) (h, is_other (FirstAptFault bytes) apt_fault.NoMemory f h (some.apt_memory bytes))
which_reading some form.Graph bytes = by (some.graph bytes)
  where
    by : ((a : System) × GraphSpells bytes a) ⊎ ((f : GraphFault) × FirstGraphFault bytes f) → WhichReading form.Graph bytes
    by (inl (lts, h)) = spells lts h (some.graph_formed bytes lts h)
    by (inr (f, h)) = faulty (Graph f) (h, is_other (FirstGraphFault bytes) graph_fault.NoMemory f h (some.graph_memory bytes))
which_reading some form.Words bytes = by (some.words bytes)
  where
    by : ((a : System) × WordsSpell bytes a) ⊎ ((f : WordFault) × FirstWordFault bytes f) → WhichReading form.Words bytes
    by (inl (lts, h)) = spells lts h (some.words_formed bytes lts h)
    by (inr (f, h)) = faulty (Words f) (h, is_other (FirstWordFault bytes) word_fault.NoMemory f h (some.words_memory bytes))

-- ---- the file of a system

-- a file is that of a system, which is well formed, or is not
pub data WhichSystem (files : Files) (form : Form) (name : List ℕ) : Type 0 where
  of_none : (fault : Fault) → IsNoSystem (Some files) form name fault → WhichSystem files form name
  of_one : (lts : System) → IsSystemFile (Some files) form name lts → IsWellFormed lts → WhichSystem files form name

pub which_system : SomeReading → (files : Files) (form : Form) (name : List ℕ) → WhichSystem files form name
which_system some files form name = by (which_file files name)
  where
    with_bytes : (bytes : List ℕ) → IsFile (Some files) name bytes → WhichReading form bytes → WhichSystem files form name
    with_bytes bytes file (spells lts spelled formed) = of_one lts (record { bytes = bytes; file = file; spelled = spelled }) formed
    with_bytes bytes file (faulty fault first) = of_none fault (faulty_is_no_system (Some files) form name bytes fault file first)

    by : WhichFile files name → WhichSystem files form name
    by (not_read fault h) = of_none fault (unread_is_no_system (Some files) form name fault h)
    by (has bytes file) = with_bytes bytes file (which_reading some form bytes)
