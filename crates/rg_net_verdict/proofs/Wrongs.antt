-- Labels that are right at the states so far.
use Rattle.std.proofs.Common.{◌≡◌, inl, inr, ⊎_elim, ℕ, ◌+◌, ◌<◌, ◌≤◌, List, length, get_or, All, Vec, sym, subst, arith}
use Rattle.std.specs.declared.alloc.Global.{Global}
use Rattle.std.proofs.lemmas.Bool.{cases_lt}
use Rattle.rg_integers.specs.Range.{greatest}
use Rattle.rg_theory.specs.System.{System, states, labels}
use Rattle.rg_theory.specs.Net.{Net, Marking}
use Rattle.rg_theory.specs.Solves.{marking_of}
use Rattle.rg_net.specs.ClassBreaks.{shown_markings}
use Rattle.rg_net.proofs.Rows.{row_read, all_at, rows_long as row_count}
use Rattle.rg_net_verdict.specs.Rows.{AreRows}
use Rattle.rg_net_verdict.specs.Verdict.{IsRightAt, AreRightBefore}
use Rattle.rg_net_verdict.proofs.Along.{row_at}

module _ (lts : System) (net : Net) (rows : List (Vec ℕ Global)) (are : AreRows lts net (shown_markings rows)) (s : ℕ) (lt : s < states lts) where
  pub row_within : s < length rows
  row_within = let all = are.one_each in let size = row_count rows in omega arith

  module _ (x : Vec ℕ Global) (e : x ≡ get_or rows s x) where
    pub row_is : marking_of (shown_markings rows) s ≡ x.items
    row_is = row_at rows s x row_within e

    pub row_places : length x.items ≡ length net.places
    row_places = all_at (λ m. length m ≡ length net.places) (shown_markings rows) s x.items are.places (row_read rows s x row_within e)

    pub row_in_range : All (λ n. n ≤ greatest) x.items
    row_in_range = all_at (All (λ n. n ≤ greatest)) (shown_markings rows) s x.items are.in_range (row_read rows s x row_within e)

module _ (lts : System) (net : Net) (h : ℕ → Marking) where
  -- one label more
  pub right_more : (s t : ℕ) → AreRightBefore lts net h s t → IsRightAt lts net h s t → AreRightBefore lts net h s (t + 1)
  right_more s t before here r u (inl less) lr lu = before r u (inl less) lr lu
  right_more s t before here r u (inr (same, less)) lr lu =
      ⊎_elim (λ earlier. before r u (inr (same, earlier)) lr lu)
      (λ more. (let e : t ≡ u = omega arith in subst (λ k. IsRightAt lts net h k u) (sym same) (subst (IsRightAt lts net h s) e here)))
      (cases_lt u t)

  -- one state more
  pub right_row : (s t : ℕ) → labels lts ≤ t → AreRightBefore lts net h s t → AreRightBefore lts net h (s + 1) 0
  right_row s t all before r u (inl less) lr lu = ⊎_elim (λ earlier. before r u (inl earlier) lr lu) (λ more. before r u (inr (omega arith, omega arith)) lr lu) (cases_lt r s)
  right_row s t all before r u (inr (same, less)) lr lu = absurd (omega arith)

  pub right_all : (s t : ℕ) → states lts ≤ s → AreRightBefore lts net h s t → AreRightBefore lts net h (states lts) 0
  right_all s t all before r u (inl less) lr lu = before r u (inl (omega arith)) lr lu
  right_all s t all before r u (inr (same, less)) lr lu = absurd (omega arith)

  pub right_labels : (s t : ℕ) → labels lts ≤ t → AreRightBefore lts net h s t → AreRightBefore lts net h s (labels lts)
  right_labels s t all before r u (inl less) lr lu = before r u (inl less) lr lu
  right_labels s t all before r u (inr (same, less)) lr lu = before r u (inr (same, omega arith)) lr lu
