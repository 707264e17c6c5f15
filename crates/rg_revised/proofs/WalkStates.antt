-- The states of the walk over rows without constants.
use Rattle.std.proofs.Common.{◌≡◌, ℕ, ◌+◌, ◌*◌, ◌^◌, ◌<◌, ◌≤◌, List, length, get_or, Contains, refl, subst, sym, ◌∙◌}
use Rattle.std.specs.Prelude.{ℤ, pos, slice_index}
use Rattle.rg_linear.specs.Exchange.{exchanged}
use Rattle.rg_linear.specs.System.{LinearSystem, row_at}
use Rattle.rg_linear.specs.Dictionary.{numbers_from}
use Rattle.rg_revised.specs.Basis.{HasNorms}
use Rattle.rg_revised.specs.Starting.{IsUnitBasis}
use Rattle.rg_revised.specs.Reading.{IsRead}
use Rattle.rg_revised.specs.State.{IsSmallHeld, IsExchangeOf, HasRoom, IsRow, CanRead}
use Rattle.rg_revised.specs.Walk.{WalkState, IsWalkOf, NamesColumn, WalkTells}
use Rattle.rg_revised.specs.declared.walk.Taken.TheVariants.{Skipped, Exchanged}
use Rattle.rg_revised.proofs.Units.{unit_basis_held}
use Rattle.rg_revised.proofs.Stepping.{step_fits}
use Rattle.rg_revised.proofs.Walking.{none_left, walk_skipped, walk_picks, leaves_member, walk_exchanges, members_exchanged}

pub walk_started : (system : LinearSystem) (w : WalkState) (norm columns : ℕ) → IsUnitBasis columns w.basis → system.columns ≡ columns → w.members ≡ numbers_from 0 system.columns
    → HasNorms system norm → 1 ≤ w.most → (norm + 1) * w.most < 2 ^ 63 → IsWalkOf system w
walk_started system w norm columns unit same members norms some room = record {
  held = subst (λ ms. IsSmallHeld system ms w.basis w.most) (sym members) (unit_basis_held system w.basis w.most columns unit same some);
  room = (norm, norms, some, room);
}

-- ---- a step

-- a walk that is to take a row after its members
pub record Takes (system : LinearSystem) (w : WalkState) (i : ℕ) (coeffs : List ℤ) : Type 0 where
  pub is : IsWalkOf system w
  pub row : IsRow system i coeffs (pos 0)
  pub ahead : (m : ℕ) → Contains w.members m → m < length w.basis.slots + i

pub takes : (system : LinearSystem) (w now : WalkState) (i : ℕ) (coeffs : List ℤ) → w ≡ now → w.columns ≡ length w.basis.slots → IsWalkOf system now → i < length system.rows
    → (row_at system i).coeffs ≡ coeffs → (row_at system i).constant ≡ pos 0 → length coeffs ≡ now.columns → ((m : ℕ) → Contains now.members m → m < now.columns + i) → Takes system w i coeffs
takes system w now i coeffs same columns held lt are none each ahead =
    let at = subst (IsWalkOf system) (sym same) held in
    record {
      is = at;
      row = record { inside = lt; coeffs_are = are; constant_is = none; each = subst (λ (x : WalkState). length coeffs ≡ x.columns) (sym same) each ∙ columns ∙ at.held.held.count };
      ahead = subst (λ n. (m : ℕ) → Contains w.members m → m < n + i) columns (subst (λ (x : WalkState). (m : ℕ) → Contains x.members m → m < x.columns + i) (sym same) ahead);
    }

module _ (system : LinearSystem) (w : WalkState) (i : ℕ) (coeffs : List ℤ) (t : Takes system w i coeffs) where
  pub walk_can_read : CanRead w.basis coeffs (pos 0)
  walk_can_read = record { system = system; members = w.members; most = w.most; i = i; small = t.is.held; room = t.is.room; row = t.row }

  pub walk_has_none : ¬ ((m : ℕ) × Contains w.members m × (m < length w.basis.slots)) → WalkTells system w i w Skipped
  walk_has_none none = (refl, none_left _ _ _ _ t.is.held t.is.room _ _ t.row t.ahead none, t.is)

  module _ (numbers : List ℤ) (read : IsRead (length w.basis.slots + 1) coeffs (pos 0) w.basis.table w.basis.d numbers) where
    pub walk_passes : ((q : ℕ) → ¬ NamesColumn (length w.basis.slots) w.basis.slots numbers q) → WalkTells system w i w Skipped
    walk_passes none = (refl, walk_skipped _ _ _ _ t.is.held t.is.room _ _ t.row t.ahead _ read none, t.is)

    module _ (p : ℕ) (named : NamesColumn (length w.basis.slots) w.basis.slots numbers p) where
      pub walk_leaves : Contains w.members (get_or w.basis.slots p 0)
      walk_leaves = leaves_member _ _ _ _ t.is.held t.is.room _ _ t.row t.ahead _ read p named

      pub walk_exchanged : ((q : ℕ) → NamesColumn (length w.basis.slots) w.basis.slots numbers q → slice_index w.basis.slots p ≤ slice_index w.basis.slots q) → (after : WalkState)
          → IsExchangeOf w.basis numbers p (length w.basis.slots + i) w.most after.basis → after.most ≡ w.most
          → after.members ≡ exchanged w.members (length w.basis.slots + i) (get_or w.basis.slots p 0) → WalkTells system w i after Exchanged
      walk_exchanged least after exchange same members =
          let are = members_exchanged _ _ _ _ t.is.held t.is.room _ _ t.row t.ahead _ read p named after.members members in (
            get_or w.basis.slots p 0,
            walk_picks _ _ _ _ t.is.held t.is.room _ _ t.row t.ahead _ read p named least,
            step_fits _ _ _ _ t.is.held t.is.room _ _,
            are,
            record {
              held = subst (λ n. IsSmallHeld system after.members after.basis n) (sym same) (subst (λ ms. IsSmallHeld system ms after.basis w.most) (sym are)
                  (walk_exchanges _ _ _ _ t.is.held t.is.room _ _ t.row t.ahead _ read p named after.basis exchange));
              room = subst (HasRoom system) (sym same) t.is.room;
            },
          )
