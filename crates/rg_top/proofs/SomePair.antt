-- `convert` has an expected status, and `isomorphic` has one for each second file.
use Rattle.std.proofs.Common.{◌≡◌, ◌⊎◌, inl, inr, ℕ, ◌<◌, ◌≤◌, leb, Bool, true, false, List, Some, refl}
use Rattle.std.proofs.lemmas.Bool.Decides.{leb_tells}
use Rattle.rg_ports.specs.Shelf.{Files}
use Rattle.rg_theory.specs.System.{System, IsInRange, states, labels}
use Rattle.rg_checks.specs.declared.flaw.Flaw.{Flaw}
use Rattle.rg_checks.specs.Flaws.{IsFlawless, IsFirstFlaw}
use Rattle.rg_checks.proofs.FirstFlaws.{not_flawless}
use Rattle.rg_theory.proofs.Deciding.{each_or_first}
use Rattle.rg_lts.specs.WellFormed.{IsWellFormed}
use Rattle.rg_genet.specs.Loss.{has_label, is_on_arc, IsLabelKept, IsFirstDead, IsFirstLost}
use Rattle.rg_iso.specs.Isomorphic.{AreIsomorphic}
use Rattle.rg_iso.specs.Compared.{Told, Told.map as as_map, Told.label as as_label, Told.differs as as_difference, Compares, Compares.same as by_map, IsMap}
use Rattle.rg_commands.specs.declared.forms.Form.{Form}
use Rattle.rg_commands.specs.declared.forms.Target.{Target}
use Rattle.rg_commands.specs.declared.forms.Target.TheVariants.{Apt, Graph}
use Rattle.rg_top.specs.Given.{IsSystemFile}
use Rattle.rg_top.specs.Second.{second_fault}
use Rattle.rg_top.specs.Convert.{ConvertIsDue, always, by_all, by_label, by_state}
use Rattle.rg_top.specs.Isomorphic.{IsomorphicIsDue, by_no_system, by_same, by_other}
use Rattle.rg_top.specs.declared.status.Status.{Status}
use Rattle.rg_top.specs.declared.status.Status.TheVariants.{Done, No, File}
use Rattle.rg_top.proofs.SomeFile.{SomeReading, WhichSystem, of_none, of_one, which_system}

-- ---- what a state graph can't hold

-- the first number below n at which the test fails
abbrev FailsFirst : (ℕ → Bool) → ℕ → ℕ → Type 0
FailsFirst test n k = (k < n) × (test k ≡ false) × ((j : ℕ) → j < k → test j ≡ true)

all_or_first : (test : ℕ → Bool) (n : ℕ) → ((k : ℕ) → k < n → test k ≡ true) ⊎ ((k : ℕ) × FailsFirst test n k)
all_or_first test n = by (each_or_first (λ k. test k ≡ true) (λ k. test k ≡ false) (λ k. true_or_false (test k)) n)
  where
    true_or_false : (b : Bool) → (b ≡ true) ⊎ (b ≡ false)
    true_or_false true = inl refl
    true_or_false false = inr refl

    by : ((k : ℕ) → k < n → test k ≡ true) ⊎ ((k : ℕ) × (k < n) × (test k ≡ false) × ((j : ℕ) → j < k → test j ≡ true))
        → ((k : ℕ) → k < n → test k ≡ true) ⊎ ((k : ℕ) × FailsFirst test n k)
    by (inl all) = inl all
    by (inr (k, within, fails, before)) = inr (k, (within, fails, before))

-- two states or more, or fewer
abbrev HasTwo : System → Type 0
HasTwo lts = ((leb 2 (states lts) ≡ true) × (2 ≤ states lts)) ⊎ ((leb 2 (states lts) ≡ false) × (states lts < 2))

pub convert_some : (lts : System) (target : Target) → (s : Status) × ConvertIsDue lts target s
convert_some lts Apt = (Done, always)
convert_some lts Graph = by_labels (all_or_first (has_label lts) (labels lts))
  where
    by_states : IsLabelKept lts → 2 ≤ states lts → ((r : ℕ) → r < states lts → is_on_arc lts r ≡ true) ⊎ ((s : ℕ) × FailsFirst (is_on_arc lts) (states lts) s)
        → (s : Status) × ConvertIsDue lts Graph s
    by_states kept several (inl all) = (Done, by_all kept (inr all))
    by_states kept several (inr (s, (within, lost, before))) = (No, by_state s (record { kept = kept; several = several; within = within; lost = lost; before = before }))

    by_number : IsLabelKept lts → HasTwo lts → (s : Status) × ConvertIsDue lts Graph s
    by_number kept (inl (e, several)) = by_states kept several (all_or_first (is_on_arc lts) (states lts))
    by_number kept (inr (e, single)) = (Done, by_all kept (inl single))

    by_labels : ((u : ℕ) → u < labels lts → has_label lts u ≡ true) ⊎ ((t : ℕ) × FailsFirst (has_label lts) (labels lts) t) → (s : Status) × ConvertIsDue lts Graph s
    by_labels (inl kept) = by_number kept (leb_tells 2 (states lts))
    by_labels (inr (t, (within, dead, before))) = (No, by_label t (record { within = within; dead = dead; before = before }))

-- ---- two systems

-- a system in range has a first flaw or is flawless; two flawless systems have a result, and a difference shows that they aren't
-- isomorphic
pub record SomeComparison : Type 0 where
  pub flaw : (lts : System) → IsInRange lts → ((f : Flaw) × IsFirstFlaw lts f) ⊎ IsFlawless lts
  pub told : (a b : System) → IsWellFormed a → IsWellFormed b → IsFlawless a → IsFlawless b → (told : Told) × Compares a b told
  pub refutes : (a b : System) (told : Told) → IsWellFormed a → IsWellFormed b → IsFlawless a → IsFlawless b → Compares a b told → ¬ IsMap told → ¬ AreIsomorphic a b

flawless_or_not : SomeComparison → (lts : System) → IsInRange lts → IsFlawless lts ⊎ (¬ IsFlawless lts)
flawless_or_not some lts in_range = by (some.flaw lts in_range)
  where
    by : ((f : Flaw) × IsFirstFlaw lts f) ⊎ IsFlawless lts → IsFlawless lts ⊎ (¬ IsFlawless lts)
    by (inl (f, is)) = inr (not_flawless lts f is)
    by (inr flawless) = inl flawless

isomorphic_or_not : SomeComparison → (a b : System) → IsWellFormed a → IsWellFormed b → IsFlawless a → IsFlawless b → AreIsomorphic a b ⊎ (¬ AreIsomorphic a b)
isomorphic_or_not some a b f g j k = let (told, compared) = some.told a b f g j k in by told compared
  where
    by : (told : Told) → Compares a b told → AreIsomorphic a b ⊎ (¬ AreIsomorphic a b)
    by _ (by_map map same is) = inl (record { labels = same; map = map; isomorphism = is })
    by (as_label file t) compared = inr (some.refutes a b (as_label file t) f g j k compared (λ none. none))
    by (as_difference d) compared = inr (some.refutes a b (as_difference d) f g j k compared (λ none. none))

pub isomorphic_some : SomeReading → SomeComparison → (files : Files) (named : List ℕ) (form : Form) (lts : System) → IsWellFormed lts
    → (s : Status) × IsomorphicIsDue (Some files) named form lts s
isomorphic_some reading some files named form lts formed = by (which_system reading files form named)
  where
    both : (other : System) → IsSystemFile (Some files) form named other → IsFlawless lts → IsFlawless other → AreIsomorphic lts other ⊎ (¬ AreIsomorphic lts other)
        → (s : Status) × IsomorphicIsDue (Some files) named form lts s
    both other file j k (inl isomorphic) = (Done, by_same (record { other = other; file = file; first = j; second = k; isomorphic = isomorphic }))
    both other file j k (inr different) = (No, by_other (record { other = other; file = file; why = inr (inr different) }))

    paired : (other : System) → IsSystemFile (Some files) form named other → IsWellFormed other → IsFlawless lts ⊎ (¬ IsFlawless lts) → IsFlawless other ⊎ (¬ IsFlawless other)
        → (s : Status) × IsomorphicIsDue (Some files) named form lts s
    paired other file formed' (inl j) (inl k) = both other file j k (isomorphic_or_not some lts other formed formed' j k)
    paired other file formed' (inl j) (inr k) = (No, by_other (record { other = other; file = file; why = inr (inl k) }))
    paired other file formed' (inr j) k = (No, by_other (record { other = other; file = file; why = inl j }))

    by : WhichSystem files form named → (s : Status) × IsomorphicIsDue (Some files) named form lts s
    by (of_none fault h) = (File (second_fault fault), by_no_system fault h)
    by (of_one other file formed') = paired other file formed' (flawless_or_not some lts formed.in_range) (flawless_or_not some other formed'.in_range)
