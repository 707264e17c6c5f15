-- What is left of a dictionary after each outcome.
use Rattle.std.proofs.Common.{◌≡◌, ℕ, List, ap, refl, subst, sym}
use Rattle.rg_linear.specs.System.{LinearSystem}
use Rattle.rg_linear.specs.Descent.{Outcome.wide, IsFeasibleAt}
use Rattle.rg_linear.specs.Width.{IsNarrow}
use Rattle.rg_linear.proofs.Widths.{narrow_is_not_wide}
use Rattle.rg_feasible.specs.Contents.{Contents, IsDictionary}
use Rattle.rg_feasible.specs.declared.settled.Settled.{Settled}
use Rattle.rg_feasible.specs.declared.settled.Settled.TheVariants.{Point, Refuted, Wide}
use Rattle.rg_feasible.specs.View.{DescentState}
use Rattle.rg_feasible.specs.Settling.{IsDictionaryOf, IsOutcome, IsLeftBy, IsNotWide, wide_at}
use Rattle.rg_feasible.proofs.Shown.{point_feasible}

-- where no row failed, or nothing is to be kept
pub left_by : (system : LinearSystem) (d : DescentState) (r : Settled) → ((i : ℕ) → r ≡ Refuted i → ⊥) → (IsNotWide r → IsDictionaryOf system d) → IsLeftBy system d r
left_by system d Point none stays = stays tt
left_by system d (Refuted i) none stays = absurd (none i refl)
left_by system d (Wide w) none stays = tt

pub point_by : (system : LinearSystem) (d : Contents) (r : Settled) → r ≡ Point → (IsNotWide r → IsDictionary system d) → IsOutcome system d.members r → IsFeasibleAt system d.members
point_by system d r e stays outcome = point_feasible system d (stays (subst IsNotWide (sym e) tt)) (subst (IsOutcome system d.members) e outcome)

pub same_refuted : (i k : ℕ) → Refuted i ≡ Refuted k → i ≡ k
same_refuted i k e = ap row e
  where
    row : Settled → ℕ
    row Point = 0
    row (Refuted i) = i
    row (Wide w) = 0

-- on few columns with small numbers no term is out of range
pub narrow_by : (system : LinearSystem) (members : List ℕ) (r : Settled) → IsNarrow system → IsOutcome system members r → IsNotWide r
narrow_by system members Point small outcome = tt
narrow_by system members (Refuted i) small outcome = tt
narrow_by system members (Wide w) small outcome = narrow_is_not_wide system (wide (wide_at members w)) small outcome
