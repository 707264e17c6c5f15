-- `isomorphic` ends in one way for a system, a form and a file.
use Rattle.std.proofs.Common.{◌≡◌, ◌⊎◌, ◌↔◌, inl, inr, ℕ, List, Some, refl, ap, subst}
use Rattle.rg_ports.specs.Shelf.{Files}
use Rattle.rg_theory.specs.System.{System}
use Rattle.rg_checks.specs.declared.flaw.Flaw.{Flaw}
use Rattle.rg_checks.specs.Flaws.{IsFlawless, IsFirstFlaw}
use Rattle.rg_checks.proofs.FirstFlaws.{not_flawless}
use Rattle.rg_lts.specs.WellFormed.{IsWellFormed}
use Rattle.rg_iso.specs.Isomorphic.{AreIsomorphic}
use Rattle.rg_iso.specs.Compared.{Told, Told.map as as_map, Told.label as as_label, Told.differs as as_difference, Compares, IsMap}
use Rattle.rg_commands.specs.declared.forms.Form.{Form}
use Rattle.rg_messages.specs.FlawTexts.{file_flaw_line}
use Rattle.rg_messages.specs.ComparedTexts.{told_text}
use Rattle.rg_messages.specs.declared.fault.Fault.{Fault}
use Rattle.rg_top.specs.End.{End, says_no, refuses_file, HasStatus}
use Rattle.rg_top.specs.Second.{second_fault}
use Rattle.rg_top.specs.Isomorphic.{told_end, PairEnds, first_flawed, second_flawed, compared, IsomorphicEnds, unread, read}
use Rattle.rg_top.specs.Isomorphic.{IsomorphicIsDue, by_no_system, by_same, by_other}
use Rattle.rg_top.specs.declared.status.Status.{Status}
use Rattle.rg_top.specs.declared.status.Status.TheVariants.{Done, No, File}
use Rattle.rg_top.proofs.OneFile.{OneReading, one_no_system, system_or_none, one_system}
use Rattle.rg_top.proofs.Told.{TellsOne, IsEndOf, one_end}

-- a system has one first flaw, and two flawless systems have one result
pub record OneComparison : Type 0 where
  pub one_flaw : (lts : System) (f g : Flaw) → IsFirstFlaw lts f → IsFirstFlaw lts g → f ≡ g
  pub one_told : (a b : System) (x y : Told) → IsWellFormed a → IsWellFormed b → IsFlawless a → IsFlawless b → Compares a b x → Compares a b y → x ≡ y

-- ---- two systems

data Pair : Type 0 where
  first : Flaw → Pair
  second : Flaw → Pair
  both : Told → Pair

abbrev Tells : System → System → Pair → Type 0
Tells a b (first flaw) = IsFirstFlaw a flaw
Tells a b (second flaw) = IsFlawless a × IsFirstFlaw b flaw
Tells a b (both told) = IsFlawless a × IsFlawless b × Compares a b told

abbrev end_of : System → System → Pair → End
end_of a b (first flaw) = says_no (file_flaw_line 1 a flaw)
end_of a b (second flaw) = says_no (file_flaw_line 2 b flaw)
end_of a b (both told) = told_end told (told_text a b told)

one_pair : OneComparison → (a b : System) → IsWellFormed a → IsWellFormed b → TellsOne (Tells a b)
one_pair one a b f g (first x) (first y) h k = ap first (one.one_flaw a x y h k)
one_pair one a b f g (first x) (second y) h (j, k) = absurd (not_flawless a x h j)
one_pair one a b f g (first x) (both u) h (j, j', k) = absurd (not_flawless a x h j)
one_pair one a b f g (second x) (first y) (j, h) k = absurd (not_flawless a y k j)
one_pair one a b f g (second x) (second y) (j, h) (j', k) = ap second (one.one_flaw b x y h k)
one_pair one a b f g (second x) (both u) (j, h) (i, i', k) = absurd (not_flawless b x h i')
one_pair one a b f g (both t) (first y) (j, j', h) k = absurd (not_flawless a y k j)
one_pair one a b f g (both t) (second y) (j, j', h) (i, k) = absurd (not_flawless b y k j')
one_pair one a b f g (both t) (both u) (j, j', h) (i, i', k) = ap both (one.one_told a b t u f g j j' h k)

pair : (a b : System) (e : End) → PairEnds a b e → IsEndOf (Tells a b) (end_of a b) e
pair a b _ (first_flawed flaw h) = (first flaw, h, refl)
pair a b _ (second_flawed flaw j h) = (second flaw, (j, h), refl)
pair a b _ (compared told j j' h iso) = (both told, (j, j', h), refl)

-- a map is the yes, and a difference the no
map_says_yes : (told : Told) (text : List ℕ) → IsMap told → HasStatus (told_end told text) Done
map_says_yes (as_map map) text is = refl
map_says_yes (as_label file t) text is = absurd is
map_says_yes (as_difference d) text is = absurd is

other_says_no : (told : Told) (text : List ℕ) → (IsMap told → ⊥) → HasStatus (told_end told text) No
other_says_no (as_map map) text not = absurd (not tt)
other_says_no (as_label file t) text not = refl
other_says_no (as_difference d) text not = refl

same_due : (a b : System) (e : End) → PairEnds a b e → IsFlawless a → IsFlawless b → AreIsomorphic a b → HasStatus e Done
same_due a b _ (first_flawed flaw h) j j' i = absurd (not_flawless a flaw h j)
same_due a b _ (second_flawed flaw _ h) j j' i = absurd (not_flawless b flaw h j')
same_due a b _ (compared told _ _ h iso) j j' i = map_says_yes told (told_text a b told) (iso.1 i)

other_due : (a b : System) (e : End) → PairEnds a b e → (IsFlawless a → ⊥) ⊎ ((IsFlawless b → ⊥) ⊎ (AreIsomorphic a b → ⊥)) → HasStatus e No
other_due a b _ (first_flawed flaw h) why = refl
other_due a b _ (second_flawed flaw j h) why = refl
other_due a b _ (compared told j j' h iso) (inl not) = absurd (not j)
other_due a b _ (compared told j j' h iso) (inr (inl not)) = absurd (not j')
other_due a b _ (compared told j j' h iso) (inr (inr not)) = other_says_no told (told_text a b told) (λ is. not (iso.0 is))

-- ---- the file of the second

pub isomorphic_due : OneReading → (files : Files) (named : List ℕ) (form : Form) (lts : System) (e : End) (s : Status)
    → IsomorphicEnds (Some files) named form lts e → IsomorphicIsDue (Some files) named form lts s → HasStatus e s
isomorphic_due one files named form lts _ _ (unread f h) (by_no_system g k) = ap (λ x. File (second_fault x)) (one_no_system one files form named g f k h)
isomorphic_due one files named form lts _ _ (unread f h) (by_same k) = absurd (system_or_none one files form named f k.other h k.file)
isomorphic_due one files named form lts _ _ (unread f h) (by_other k) = absurd (system_or_none one files form named f k.other h k.file)
isomorphic_due one files named form lts _ _ (read other e h formed p) (by_no_system g k) = absurd (system_or_none one files form named g other k h)
isomorphic_due one files named form lts _ _ (read other e h formed p) (by_same k) =
    let same = one_system one files form named k.other other k.file h in
    same_due lts other e p k.first (subst IsFlawless same k.second) (subst (AreIsomorphic lts) same k.isomorphic)
isomorphic_due one files named form lts _ _ (read other e h formed p) (by_other k) =
    let same = one_system one files form named k.other other k.file h in
    other_due lts other e p (subst (λ x. (IsFlawless lts → ⊥) ⊎ ((IsFlawless x → ⊥) ⊎ (AreIsomorphic lts x → ⊥))) same k.why)

pub isomorphic_once : OneReading → OneComparison → (files : Files) (named : List ℕ) (form : Form) (lts : System) (e e' : End) → IsWellFormed lts
    → IsomorphicEnds (Some files) named form lts e → IsomorphicEnds (Some files) named form lts e' → e ≡ e'
isomorphic_once one told files named form lts _ _ formed (unread f h) (unread g k) = ap (λ x. refuses_file (second_fault x)) (one_no_system one files form named f g h k)
isomorphic_once one told files named form lts _ _ formed (unread f h) (read other e k fine p) = absurd (system_or_none one files form named f other h k)
isomorphic_once one told files named form lts _ _ formed (read other e h fine p) (unread g k) = absurd (system_or_none one files form named g other k h)
isomorphic_once one told files named form lts _ _ formed (read other e h fine p) (read other' e' h' fine' p') =
    let same = one_system one files form named other' other h' h in
    one_end (Tells lts other) (end_of lts other) (one_pair told lts other formed fine) e e' (pair lts other e p) (pair lts other e' (subst (λ x. PairEnds lts x e') same p'))
