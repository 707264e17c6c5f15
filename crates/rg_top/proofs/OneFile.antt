-- A file spells one system, or has one fault.
use Rattle.std.proofs.Common.{◌≡◌, ◌⊎◌, inl, inr, ℕ, ◌<◌, List, length, Option, Some, None, refl, sym, ap, subst, ◌∙◌, arith}
use Rattle.rg_ports.specs.Shelf.{Files, file_of}
use Rattle.rg_text.specs.Limits.{most_bytes}
use Rattle.rg_theory.specs.System.{System}
use Rattle.rg_apt.specs.Spells.{Spells as AptSpells, FirstFault as FirstAptFault}
use Rattle.rg_apt.specs.declared.fault.TextFault.{TextFault}
use Rattle.rg_genet.specs.Spells.{Spells as GraphSpells, FirstFault as FirstGraphFault}
use Rattle.rg_genet.specs.declared.fault.GraphFault.{GraphFault}
use Rattle.rg_words.specs.Spells.{Spells as WordsSpell, FirstFault as FirstWordFault}
use Rattle.rg_words.specs.declared.fault.WordFault.{WordFault}
use Rattle.rg_commands.specs.declared.forms.Form.{Form}
use Rattle.rg_commands.specs.declared.forms.Form.TheVariants as form
use Rattle.rg_messages.specs.declared.fault.Fault.{Fault}
use Rattle.rg_messages.specs.declared.fault.Fault.TheVariants.{Missing, TooLong, Apt, Graph, Words, Net}
use Rattle.rg_top.specs.Given.{IsFile, IsUnread, SpellsAs, IsFaultAs, IsFaulty, IsNoSystem, IsSystemFile}

-- ---- files that are known

pub same_bytes : (files : Files) (name b c : List ℕ) → IsFile (Some files) name b → IsFile (Some files) name c → b ≡ c
same_bytes files name b c p q = let e = sym p.file ∙ q.file in cc

not_there : (files : Files) (name b : List ℕ) → file_of files name ≡ None → file_of files name ≡ Some b → ⊥
not_there files name b p q = let e = sym p ∙ q in cc

too_short : (files : Files) (name b c : List ℕ) → file_of files name ≡ Some b → IsFile (Some files) name c → most_bytes < length b → ⊥
too_short files name b c is file long =
    let e = sym is ∙ file.file in
    let same : b ≡ c = cc in
    let count = ap length same in
    let short = file.short in
    omega (arith, count, short, long)

-- a file that is read isn't unread
pub unread_or_there : (files : Files) (name bytes : List ℕ) (fault : Fault) → IsUnread (Some files) name fault → IsFile (Some files) name bytes → ⊥
unread_or_there files name bytes Missing h file = not_there files name bytes h file.file
unread_or_there files name bytes TooLong h file = too_short files name h.bytes bytes h.file file h.long
unread_or_there files name bytes (Apt fault) h file = h
unread_or_there files name bytes (Graph fault) h file = h
unread_or_there files name bytes (Words fault) h file = h
unread_or_there files name bytes (Net fault) h file = h

-- and is it for one reason
data WhyUnread (files : Files) (name : List ℕ) (fault : Fault) : Type 0 where
  missing : fault ≡ Missing → file_of files name ≡ None → WhyUnread files name fault
  too_long : fault ≡ TooLong → (bytes : List ℕ) → file_of files name ≡ Some bytes → WhyUnread files name fault

why : (files : Files) (name : List ℕ) (fault : Fault) → IsUnread (Some files) name fault → WhyUnread files name fault
why files name Missing h = missing refl h
why files name TooLong h = too_long refl h.bytes h.file
why files name (Apt fault) h = absurd h
why files name (Graph fault) h = absurd h
why files name (Words fault) h = absurd h
why files name (Net fault) h = absurd h

pub one_unread : (files : Files) (name : List ℕ) (f g : Fault) → IsUnread (Some files) name f → IsUnread (Some files) name g → f ≡ g
one_unread files name f g h k = by (why files name f h) (why files name g k)
  where
    by : WhyUnread files name f → WhyUnread files name g → f ≡ g
    by (missing e h) (missing e' k) = e ∙ sym e'
    by (too_long e b h) (too_long e' c k) = e ∙ sym e'
    by (missing e h) (too_long e' c k) = absurd (not_there files name c h k)
    by (too_long e b h) (missing e' k) = absurd (not_there files name b k h)

-- ---- what bytes spell in a form

-- in each form bytes spell one system or have one first fault, never both
pub record OneReading : Type 0 where
  pub apt_system : (bytes : List ℕ) (a b : System) → AptSpells bytes a → AptSpells bytes b → a ≡ b
  pub apt_fault : (bytes : List ℕ) (f g : TextFault) → FirstAptFault bytes f → FirstAptFault bytes g → f ≡ g
  pub apt_not_both : (bytes : List ℕ) (a : System) (f : TextFault) → AptSpells bytes a → ¬ FirstAptFault bytes f
  pub graph_system : (bytes : List ℕ) (a b : System) → GraphSpells bytes a → GraphSpells bytes b → a ≡ b
  pub graph_fault : (bytes : List ℕ) (f g : GraphFault) → FirstGraphFault bytes f → FirstGraphFault bytes g → f ≡ g
  pub graph_not_both : (bytes : List ℕ) (a : System) (f : GraphFault) → GraphSpells bytes a → ¬ FirstGraphFault bytes f
  pub words_system : (bytes : List ℕ) (a b : System) → WordsSpell bytes a → WordsSpell bytes b → a ≡ b
  pub words_fault : (bytes : List ℕ) (f g : WordFault) → FirstWordFault bytes f → FirstWordFault bytes g → f ≡ g
  pub words_not_both : (bytes : List ℕ) (a : System) (f : WordFault) → WordsSpell bytes a → ¬ FirstWordFault bytes f

-- which fault it is
data WhichFault (bytes : List ℕ) : Form → Fault → Type 0 where
  of_apt : (f : TextFault) → FirstAptFault bytes f → WhichFault bytes form.Apt (Apt f)
  of_graph : (f : GraphFault) → FirstGraphFault bytes f → WhichFault bytes form.Graph (Graph f)
  of_words : (f : WordFault) → FirstWordFault bytes f → WhichFault bytes form.Words (Words f)

which : (bytes : List ℕ) (form : Form) (fault : Fault) → IsFaultAs form bytes fault → WhichFault bytes form fault
which bytes form.Apt (Apt f) h = of_apt f h.0
which bytes form.Apt Missing h = absurd h
which bytes form.Apt TooLong h = absurd h
which bytes form.Apt (Graph f) h = absurd h
which bytes form.Apt (Words f) h = absurd h
which bytes form.Apt (Net f) h = absurd h
which bytes form.Graph (Graph f) h = of_graph f h.0
which bytes form.Graph Missing h = absurd h
which bytes form.Graph TooLong h = absurd h
which bytes form.Graph (Apt f) h = absurd h
which bytes form.Graph (Words f) h = absurd h
which bytes form.Graph (Net f) h = absurd h
which bytes form.Words (Words f) h = of_words f h.0
which bytes form.Words Missing h = absurd h
which bytes form.Words TooLong h = absurd h
which bytes form.Words (Apt f) h = absurd h
which bytes form.Words (Graph f) h = absurd h
which bytes form.Words (Net f) h = absurd h

one_spelled : OneReading → (form : Form) (bytes : List ℕ) (a b : System) → SpellsAs form bytes a → SpellsAs form bytes b → a ≡ b
one_spelled one form.Apt bytes a b h k = one.apt_system bytes a b h k
one_spelled one form.Graph bytes a b h k = one.graph_system bytes a b h k
one_spelled one form.Words bytes a b h k = one.words_system bytes a b h k

same_fault : OneReading → (form : Form) (bytes : List ℕ) (f g : Fault) → WhichFault bytes form f → WhichFault bytes form g → f ≡ g
same_fault one form.Apt bytes f g (of_apt x h) (of_apt y k) = ap Apt (one.apt_fault bytes x y h k)
same_fault one form.Graph bytes f g (of_graph x h) (of_graph y k) = ap Graph (one.graph_fault bytes x y h k)
same_fault one form.Words bytes f g (of_words x h) (of_words y k) = ap Words (one.words_fault bytes x y h k)

spelled_or_not : OneReading → (form : Form) (bytes : List ℕ) (a : System) (f : Fault) → SpellsAs form bytes a → WhichFault bytes form f → ⊥
spelled_or_not one form.Apt bytes a f h (of_apt x k) = one.apt_not_both bytes a x h k
spelled_or_not one form.Graph bytes a f h (of_graph x k) = one.graph_not_both bytes a x h k
spelled_or_not one form.Words bytes a f h (of_words x k) = one.words_not_both bytes a x h k

-- ---- the file of a system

-- a file that is not that of a system is unread, or its text has a fault
unread_or_faulty : (files : Option Files) (form : Form) (name : List ℕ) (f : Fault) → IsNoSystem files form name f → IsUnread files name f ⊎ IsFaulty files form name f
unread_or_faulty files form name Missing h = inl h
unread_or_faulty files form name TooLong h = inl h
unread_or_faulty files form name (Apt f) h = inr h
unread_or_faulty files form name (Graph f) h = inr h
unread_or_faulty files form name (Words f) h = inr h
unread_or_faulty files form name (Net f) h = inr h

pub one_no_system : OneReading → (files : Files) (form : Form) (name : List ℕ) (f g : Fault) → IsNoSystem (Some files) form name f → IsNoSystem (Some files) form name g → f ≡ g
one_no_system one files form name f g h k = by (unread_or_faulty (Some files) form name f h) (unread_or_faulty (Some files) form name g k)
  where
    by : IsUnread (Some files) name f ⊎ IsFaulty (Some files) form name f → IsUnread (Some files) name g ⊎ IsFaulty (Some files) form name g → f ≡ g
    by (inl x) (inl y) = one_unread files name f g x y
    by (inl x) (inr y) = absurd (unread_or_there files name y.bytes f x y.file)
    by (inr x) (inl y) = absurd (unread_or_there files name x.bytes g y x.file)
    by (inr x) (inr y) =
        let first = subst (λ b. IsFaultAs form b f) (same_bytes files name x.bytes y.bytes x.file y.file) x.first in
        same_fault one form y.bytes f g (which y.bytes form f first) (which y.bytes form g y.first)

pub system_or_none : OneReading → (files : Files) (form : Form) (name : List ℕ) (f : Fault) (lts : System) → IsNoSystem (Some files) form name f → IsSystemFile (Some files) form name lts → ⊥
system_or_none one files form name f lts h k = by (unread_or_faulty (Some files) form name f h)
  where
    by : IsUnread (Some files) name f ⊎ IsFaulty (Some files) form name f → ⊥
    by (inl x) = unread_or_there files name k.bytes f x k.file
    by (inr x) =
        let first = subst (λ b. IsFaultAs form b f) (same_bytes files name x.bytes k.bytes x.file k.file) x.first in
        spelled_or_not one form k.bytes lts f k.spelled (which k.bytes form f first)

pub one_system : OneReading → (files : Files) (form : Form) (name : List ℕ) (a b : System) → IsSystemFile (Some files) form name a → IsSystemFile (Some files) form name b → a ≡ b
one_system one files form name a b h k =
    one_spelled one form k.bytes a b (subst (λ x. SpellsAs form x a) (same_bytes files name h.bytes k.bytes h.file k.file) h.spelled) k.spelled

-- ---- what is read of a file

pub unread_is_no_system : (files : Option Files) (form : Form) (name : List ℕ) (f : Fault) → IsUnread files name f → IsNoSystem files form name f
unread_is_no_system files form name Missing h = h
unread_is_no_system files form name TooLong h = h
unread_is_no_system files form name (Apt f) h = absurd h
unread_is_no_system files form name (Graph f) h = absurd h
unread_is_no_system files form name (Words f) h = absurd h
unread_is_no_system files form name (Net f) h = absurd h

pub faulty_is_no_system : (files : Option Files) (form : Form) (name bytes : List ℕ) (f : Fault) → IsFile files name bytes → IsFaultAs form bytes f → IsNoSystem files form name f
faulty_is_no_system files form name bytes f file first = by form f first (which bytes form f first)
  where
    by : (form : Form) (f : Fault) → IsFaultAs form bytes f → WhichFault bytes form f → IsNoSystem files form name f
    by form f first (of_apt x h) = record { bytes = bytes; file = file; first = first }
    by form f first (of_graph x h) = record { bytes = bytes; file = file; first = first }
    by form f first (of_words x h) = record { bytes = bytes; file = file; first = first }
