-- `check` ends in one way for a system, a class and a file.
use Rattle.std.proofs.Common.{◌≡◌, ◌⊎◌, inl, inr, ℕ, List, Some, Ok, Err, refl, ap, subst}
use Rattle.rg_ports.specs.Shelf.{Files}
use Rattle.rg_theory.specs.System.{System, IsInRange}
use Rattle.rg_theory.specs.Net.{Net}
use Rattle.rg_theory.specs.declared.Class.{Class}
use Rattle.rg_netfile.specs.Spells.{Spells, FirstFault}
use Rattle.rg_netfile.specs.declared.fault.NetFault.{NetFault}
use Rattle.rg_net_verdict.specs.declared.verdict.NetVerdict.TheVariants as verdict
use Rattle.rg_net_verdict.specs.Verdict.{Told, IsVerdict}
use Rattle.rg_messages.specs.CheckedTexts.{yes_line, no_line}
use Rattle.rg_messages.specs.declared.fault.Fault.{Fault}
use Rattle.rg_messages.specs.declared.fault.Fault.TheVariants.{Missing, TooLong, Apt, Graph, Words, Net as OfNet}
use Rattle.rg_top.specs.Given.{IsUnread}
use Rattle.rg_top.specs.Second.{second_fault}
use Rattle.rg_top.specs.Check.{IsNetFile, IsNetFault, IsFaultyNet, IsNoNet, IsTold, CheckEnds, unread, yes, no, passes}
use Rattle.rg_top.specs.Check.{CheckIsDue, by_no_net, by_yes, by_no, by_term}
use Rattle.rg_top.specs.End.{End, says_yes, says_no, refuses_file, shows_term, HasStatus}
use Rattle.rg_top.specs.Terms.{of_check}
use Rattle.rg_top.specs.declared.status.Status.{Status}
use Rattle.rg_top.proofs.OneFile.{same_bytes, unread_or_there, one_unread}
use Rattle.rg_top.proofs.Told.{TellsOne, IsEndOf, IsStatusOf, one_end, due_end}

-- a text spells one net or has one first fault, and a net has one verdict
pub record OneVerdict : Type 0 where
  pub one_net : (bytes : List ℕ) (lts : System) (a b : Net) → Spells bytes lts a → Spells bytes lts b → a ≡ b
  pub one_fault : (bytes : List ℕ) (lts : System) (f g : NetFault) → FirstFault bytes lts f → FirstFault bytes lts g → f ≡ g
  pub not_both : (bytes : List ℕ) (lts : System) (net : Net) (f : NetFault) → Spells bytes lts net → ¬ FirstFault bytes lts f
  pub one_verdict : (lts : System) (net : Net) (class : Class) (v w : Told) → IsInRange lts → IsVerdict lts net class v → IsVerdict lts net class w → v ≡ w

-- ---- the file of a net

data WhichFault (bytes : List ℕ) (lts : System) : Fault → Type 0 where
  of_net : (f : NetFault) → FirstFault bytes lts f → WhichFault bytes lts (OfNet f)

which : (bytes : List ℕ) (lts : System) (fault : Fault) → IsNetFault bytes lts fault → WhichFault bytes lts fault
which bytes lts (OfNet f) h = of_net f h.0
which bytes lts Missing h = absurd h
which bytes lts TooLong h = absurd h
which bytes lts (Apt f) h = absurd h
which bytes lts (Graph f) h = absurd h
which bytes lts (Words f) h = absurd h

same_fault : OneVerdict → (bytes : List ℕ) (lts : System) (f g : Fault) → WhichFault bytes lts f → WhichFault bytes lts g → f ≡ g
same_fault one bytes lts f g (of_net x h) (of_net y k) = ap OfNet (one.one_fault bytes lts x y h k)

spelled_or_not : OneVerdict → (bytes : List ℕ) (lts : System) (net : Net) (f : Fault) → Spells bytes lts net → WhichFault bytes lts f → ⊥
spelled_or_not one bytes lts net f h (of_net x k) = one.not_both bytes lts net x h k

unread_or_faulty : (files : Files) (name : List ℕ) (lts : System) (f : Fault) → IsNoNet (Some files) name lts f → IsUnread (Some files) name f ⊎ IsFaultyNet (Some files) name lts f
unread_or_faulty files name lts Missing h = inl h
unread_or_faulty files name lts TooLong h = inl h
unread_or_faulty files name lts (Apt f) h = inr h
unread_or_faulty files name lts (Graph f) h = inr h
unread_or_faulty files name lts (Words f) h = inr h
unread_or_faulty files name lts (OfNet f) h = inr h

one_no_net : OneVerdict → (files : Files) (name : List ℕ) (lts : System) (f g : Fault) → IsNoNet (Some files) name lts f → IsNoNet (Some files) name lts g → f ≡ g
one_no_net one files name lts f g h k = by (unread_or_faulty files name lts f h) (unread_or_faulty files name lts g k)
  where
    by : IsUnread (Some files) name f ⊎ IsFaultyNet (Some files) name lts f → IsUnread (Some files) name g ⊎ IsFaultyNet (Some files) name lts g → f ≡ g
    by (inl x) (inl y) = one_unread files name f g x y
    by (inl x) (inr y) = absurd (unread_or_there files name y.bytes f x y.file)
    by (inr x) (inl y) = absurd (unread_or_there files name x.bytes g y x.file)
    by (inr x) (inr y) =
        let first = subst (λ b. IsNetFault b lts f) (same_bytes files name x.bytes y.bytes x.file y.file) x.first in
        same_fault one y.bytes lts f g (which y.bytes lts f first) (which y.bytes lts g y.first)

net_or_none : OneVerdict → (files : Files) (name : List ℕ) (lts : System) (f : Fault) (net : Net) → IsNoNet (Some files) name lts f → IsNetFile (Some files) name lts net → ⊥
net_or_none one files name lts f net h k = by (unread_or_faulty files name lts f h)
  where
    by : IsUnread (Some files) name f ⊎ IsFaultyNet (Some files) name lts f → ⊥
    by (inl x) = unread_or_there files name k.bytes f x k.file
    by (inr x) =
        let first = subst (λ b. IsNetFault b lts f) (same_bytes files name x.bytes k.bytes x.file k.file) x.first in
        spelled_or_not one k.bytes lts net f k.spelled (which k.bytes lts f first)

one_told : OneVerdict → (files : Files) (class : Class) (name : List ℕ) (lts : System) (v w : Told) → IsInRange lts
    → IsTold (Some files) class name lts v → IsTold (Some files) class name lts w → v ≡ w
one_told one files class name lts v w ranged h k =
    let same = same_bytes files name h.file.bytes k.file.bytes h.file.file k.file.file in
    let nets = one.one_net k.file.bytes lts h.net k.net (subst (λ b. Spells b lts h.net) same h.file.spelled) k.file.spelled in
    one.one_verdict lts k.net class v w ranged (subst (λ n. IsVerdict lts n class v) nets h.judged) k.judged

-- ---- the end of what is found

-- no file of a net, or the verdict on its net
data Found : Type 0 where
  none : Fault → Found
  told : Told → Found

abbrev Finds : Files → Class → List ℕ → System → Found → Type 0
Finds files class name lts (none fault) = IsNoNet (Some files) name lts fault
Finds files class name lts (told v) = IsTold (Some files) class name lts v

abbrev end_of : System → Found → End
end_of lts (none fault) = refuses_file (second_fault fault)
end_of lts (told (Ok verdict.Yes)) = says_yes yes_line
end_of lts (told (Ok (verdict.No found))) = says_no (no_line lts found)
end_of lts (told (Err w)) = shows_term (of_check w)

one_found : OneVerdict → (files : Files) (class : Class) (name : List ℕ) (lts : System) → IsInRange lts → TellsOne (Finds files class name lts)
one_found one files class name lts ranged (none f) (none g) h k = ap none (one_no_net one files name lts f g h k)
one_found one files class name lts ranged (none f) (told w) h k = absurd (net_or_none one files name lts f k.net h k.file)
one_found one files class name lts ranged (told v) (none g) h k = absurd (net_or_none one files name lts g h.net k h.file)
one_found one files class name lts ranged (told v) (told w) h k = ap told (one_told one files class name lts v w ranged h k)

found : (files : Files) (class : Class) (name : List ℕ) (lts : System) (e : End) → CheckEnds (Some files) class name lts e → IsEndOf (Finds files class name lts) (end_of lts) e
found files class name lts _ (unread f h) = (none f, h, refl)
found files class name lts _ (yes is right) = (told (Ok verdict.Yes), is, refl)
found files class name lts _ (no n is wrong) = (told (Ok (verdict.No n)), is, refl)
found files class name lts _ (passes w is) = (told (Err w), is, refl)

due : (files : Files) (class : Class) (name : List ℕ) (lts : System) (s : Status) → CheckIsDue (Some files) class name lts s → IsStatusOf (Finds files class name lts) (end_of lts) s
due files class name lts _ (by_no_net f h) = (none f, h, refl)
due files class name lts _ (by_yes is) = (told (Ok verdict.Yes), is, refl)
due files class name lts _ (by_no n is) = (told (Ok (verdict.No n)), is, refl)
due files class name lts _ (by_term w is) = (told (Err w), is, refl)

pub check_due : OneVerdict → (files : Files) (class : Class) (name : List ℕ) (lts : System) (e : End) (s : Status) → IsInRange lts
    → CheckEnds (Some files) class name lts e → CheckIsDue (Some files) class name lts s → HasStatus e s
check_due one files class name lts e s ranged x y =
    due_end (Finds files class name lts) (end_of lts) (one_found one files class name lts ranged) e s (found files class name lts e x) (due files class name lts s y)

pub check_once : OneVerdict → (files : Files) (class : Class) (name : List ℕ) (lts : System) (e e' : End) → IsInRange lts
    → CheckEnds (Some files) class name lts e → CheckEnds (Some files) class name lts e' → e ≡ e'
check_once one files class name lts e e' ranged x y =
    one_end (Finds files class name lts) (end_of lts) (one_found one files class name lts ranged) e e' (found files class name lts e x) (found files class name lts e' y)
