-- The arcs of one label at one state.
use Rattle.std.proofs.Common.{◌≡◌, ◌⊎◌, ◌↔◌, ℕ, ◌+◌, ◌<◌, ◌≤◌, true, false, IsTrue, ltb, nat_eq, nat_lt, eqb-true, leb}
use Rattle.std.proofs.Common.{List, length, get_or, slice_index_or, Contains, AllPairs, inl, inr, sym, ap, subst, ◌∙◌, arith}
use Rattle.std.specs.List.Sorted.{IsNonDecreasingBy}
use Rattle.std.proofs.lemmas.Bool.{cases_lt, ltb-true, ltb-false, leb-true, leb-false, eq-eqb}
use Rattle.std.proofs.lemmas.List.{get_or_default}
use Rattle.std.proofs.lemmas.List.Elements.{Contains-get_or}
use Rattle.rg_theory.specs.declared.Arc.{Arc}
use Rattle.rg_theory.specs.System.{System, arc, IsArcBefore}
use Rattle.rg_theory.proofs.Arcs.{label_rises}
use Rattle.rg_checks.proofs.Runs.{IsRun, part, part_at, part_short, run_members}

-- the arcs leave the state
abbrev pub AreLeaving : ℕ → List Arc → Type 0
AreLeaving s arcs = (a : Arc) → Contains arcs a → a.from ≡ s

from_is : (s : ℕ) (arcs : List Arc) (k : ℕ) (d : Arc) → AreLeaving s arcs → k < length arcs → (get_or arcs k d).from ≡ s
from_is s arcs k d leaves lt = leaves (get_or arcs k d) (Contains-get_or arcs k d lt)

target_rises : (a b : Arc) → a.from ≡ b.from → a.label ≡ b.label → IsArcBefore a b → a.to < b.to
target_rises a b from label (inl lt) = absurd (omega (arith, from))
target_rises a b from label (inr (e, inl lt)) = absurd (omega (arith, label))
target_rises a b from label (inr (e, inr (f, lt))) = lt

-- arcs of one state in order are in the order of their labels
pub labels_rise : (s : ℕ) (arcs : List Arc) → AreLeaving s arcs → AllPairs IsArcBefore arcs → IsNonDecreasingBy (λ (a : Arc). a.label) arcs
labels_rise s arcs leaves order i j d le lt = go (cases_lt i j)
  where
    go : (i < j) ⊎ (j ≤ i) → (slice_index_or arcs i d).label ≤ (slice_index_or arcs j d).label
    go (inl less) =
        label_rises (get_or arcs i d) (get_or arcs j d) (from_is s arcs i d leaves (omega arith) ∙ sym (from_is s arcs j d leaves lt)) (order i j d less lt)
    go (inr ge) =
        let same : i ≡ j = omega arith in
        subst (λ k. (slice_index_or arcs i d).label ≤ (slice_index_or arcs k d).label) same (omega arith)

module _ (s t : ℕ) (arcs : List Arc) (start end : ℕ) (leaves : AreLeaving s arcs) (order : AllPairs IsArcBefore arcs)
    (r : IsRun (λ (a : Arc). a.label) arcs t start end) where
  -- those of one label are in the order of their targets
  pub targets_rise : AllPairs (λ (a b : Arc). a.to < b.to) (part arcs start end)
  targets_rise i j d less lt =
      let short = part_short arcs start end j r.within lt in
      let w = r.within in
      let at_i = part_at arcs start end i d (omega (arith, short.0)) in
      let at_j = part_at arcs start end j d short.0 in
      let in_i : start + i < length arcs = omega (arith, w, short.1) in
      let in_j : start + j < length arcs = omega (arith, w, short.1) in
      let a = get_or arcs (start + i) d in
      let b = get_or arcs (start + j) d in
      let low_i = r.from_start (start + i) d (omega arith) in_i in
      let high_i = r.to_end (start + i) d (omega (arith, short.1)) in
      let low_j = r.from_start (start + j) d (omega arith) in_j in
      let high_j = r.to_end (start + j) d short.1 in
      let rises : a.to < b.to = target_rises a b (from_is s arcs (start + i) d leaves in_i ∙ sym (from_is s arcs (start + j) d leaves in_j))
      (omega (arith, low_i, high_i, low_j, high_j)) (order (start + i) (start + j) d (omega arith) in_j) in
      subst (λ (x : Arc). x.to < (get_or (part arcs start end) j d).to) (sym at_i) (subst (λ (x : Arc). a.to < x.to) (sym at_j) rises)

  pub members : (lts : System) → ((a : Arc) → Contains arcs a ↔ (Contains lts.arcs a × (a.from ≡ s))) → (a : Arc)
      → Contains (part arcs start end) a ↔ (Contains lts.arcs a × (a.from ≡ s) × (a.label ≡ t))
  members lts leaving a = (forth, back)
    where
      m : Contains (part arcs start end) a ↔ (Contains arcs a × (a.label ≡ t))
      m = run_members (λ (x : Arc). x.label) arcs t start end r a

      forth : Contains (part arcs start end) a → Contains lts.arcs a × (a.from ≡ s) × (a.label ≡ t)
      forth has = let (there, label) = m.0 has in let (of_lts, from) = (leaving a).0 there in (of_lts, from, label)

      back : Contains lts.arcs a × (a.from ≡ s) × (a.label ≡ t) → Contains (part arcs start end) a
      back (of_lts, from, label) = m.1 ((leaving a).1 (of_lts, from), label)

-- where the lesser labels end, the label stands exactly where it is there
pub stands_there : (arcs : List Arc) (t index : ℕ) → IsNonDecreasingBy (λ (a : Arc). a.label) arcs
    → ((k : ℕ) (d : Arc) → k < index → ltb (slice_index_or arcs k d).label t ≡ true)
    → ((k : ℕ) (d : Arc) → index ≤ k → k < length arcs → ltb (slice_index_or arcs k d).label t ≡ false) → index < length arcs
    → IsTrue (nat_eq (slice_index_or arcs index (arc 0 0 0)).label t) ↔ ((a : Arc) × Contains arcs a × (a.label ≡ t))
stands_there arcs t index rises less reached lt = (forth, back)
  where
    one : Arc
    one = get_or arcs index (arc 0 0 0)

    forth : IsTrue (nat_eq one.label t) → (a : Arc) × Contains arcs a × (a.label ≡ t)
    forth is = (one, Contains-get_or arcs index (arc 0 0 0) lt, eqb-true one.label t is)

    back : (a : Arc) × Contains arcs a × (a.label ≡ t) → IsTrue (nat_eq one.label t)
    back (a, (k, in_k, at), label) = eq-eqb one.label t (omega (arith, low, high, is))
      where
        is : (get_or arcs k (arc 0 0 0)).label ≡ t
        is = ap (λ (x : Arc). x.label) (get_or_default arcs k (arc 0 0 0) a in_k ∙ at) ∙ label

        late : (k < index) ⊎ (index ≤ k) → index ≤ k
        late (inl early) = let m = ltb-true (get_or arcs k (arc 0 0 0)).label t (less k (arc 0 0 0) early) in absurd (omega (arith, m, is))
        late (inr le) = le

        low : t ≤ one.label
        low = ltb-false one.label t (reached index (arc 0 0 0) (omega arith) lt)

        high : one.label ≤ (get_or arcs k (arc 0 0 0)).label
        high = rises index k (arc 0 0 0) (late (cases_lt k index)) in_k

-- where all labels are lesser, it isn't there
pub stands_nowhere : (arcs : List Arc) (t index : ℕ) → ((k : ℕ) (d : Arc) → k < index → ltb (slice_index_or arcs k d).label t ≡ true) → length arcs ≤ index
    → IsTrue (nat_lt index (length arcs)) ↔ ((a : Arc) × Contains arcs a × (a.label ≡ t))
stands_nowhere arcs t index less past = (λ is. let m = ltb-true index (length arcs) is in absurd (omega (arith, m, past)), back)
  where
    back : (a : Arc) × Contains arcs a × (a.label ≡ t) → IsTrue (nat_lt index (length arcs))
    back (a, (k, in_k, at), label) =
        let is : (get_or arcs k a).label ≡ t = ap (λ (x : Arc). x.label) at ∙ label in
        let m = ltb-true (get_or arcs k a).label t (less k a (omega (arith, in_k, past))) in
        absurd (omega (arith, m, is))

-- where the labels that are no greater than that of arc i end, arc i is passed, and the arcs from it on have its label
pub ends_after : (arcs : List Arc) (i end : ℕ) (d : Arc) → i < length arcs
    → ((k : ℕ) (e : Arc) → end ≤ k → k < length arcs → leb (slice_index_or arcs k e).label (slice_index_or arcs i d).label ≡ false) → i < end
ends_after arcs i end d lt past = go (cases_lt i end)
  where
    go : (i < end) ⊎ (end ≤ i) → i < end
    go (inl less) = less
    go (inr le) = let n = leb-false (slice_index_or arcs i d).label (slice_index_or arcs i d).label (past i d le lt) in absurd (omega (arith, n))

pub ends_same : (arcs : List Arc) (i end : ℕ) (d : Arc) → i < length arcs → end ≤ length arcs → IsNonDecreasingBy (λ (a : Arc). a.label) arcs
    → ((k : ℕ) (e : Arc) → k < end → leb (slice_index_or arcs k e).label (slice_index_or arcs i d).label ≡ true)
    → (k : ℕ) (e : Arc) → i ≤ k → k < end → (slice_index_or arcs k e).label ≡ (slice_index_or arcs i e).label
ends_same arcs i end d lt within rises up k e le less =
    let same = ap (λ (a : Arc). a.label) (get_or_default arcs i d e lt) in
    let high = leb-true (slice_index_or arcs k e).label (slice_index_or arcs i d).label (up k e less) in
    let low = rises i k e le (omega (arith, within, less)) in
    omega (arith, same, high, low)
