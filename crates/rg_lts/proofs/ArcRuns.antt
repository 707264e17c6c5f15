-- The arcs that leave a state are a run of the arcs in order.
use Rattle.std.proofs.Common.{◌≡◌, ◌⊎◌, ◌↔◌, ℕ, ◌+◌, ◌-◌, ◌<◌, ◌≤◌, true, false, List, length, take, drop, get_or, slice_index_or, Contains, AllPairs, inl, inr, sym, subst, ap, ◌∙◌, arith, length-drop}
use Rattle.std.proofs.lemmas.Bool.{cases_lt}
use Rattle.std.proofs.lemmas.Bool.Decides.{nat_tests}
use Rattle.std.proofs.lemmas.List.{get_or-take, get_or-drop, length-take}
use Rattle.rg_theory.specs.declared.Arc.{Arc}
use Rattle.rg_theory.specs.System.{arc, IsArcBefore}
use Rattle.rg_lts.specs.WellFormed.{is_earlier}

-- where the arcs of earlier states end, and where those up to this state end
pub record IsRun (arcs : List Arc) (s start end : ℕ) : Type 0 where
  pub rises : start ≤ end
  pub within : end ≤ length arcs
  pub earlier : (k : ℕ) (d : Arc) → k < start → (slice_index_or arcs k d).from < s
  pub from_start : (k : ℕ) (d : Arc) → start ≤ k → k < length arcs → s ≤ (slice_index_or arcs k d).from
  pub to_end : (k : ℕ) (d : Arc) → k < end → (slice_index_or arcs k d).from ≤ s
  pub later : (k : ℕ) (d : Arc) → end ≤ k → k < length arcs → s < (slice_index_or arcs k d).from

earlier_leaves : (s : ℕ) (a : Arc) → is_earlier s 0 a ≡ true → a.from < s
earlier_leaves s a e = grind (arith, nat_tests)

other_leaves : (s : ℕ) (a : Arc) → is_earlier s 0 a ≡ false → s ≤ a.from
other_leaves s a e = grind (arith, nat_tests)

-- from the first index of the state's arcs to that of the next state's
pub run : (arcs : List Arc) (s start end : ℕ) → start ≤ length arcs
    → ((k : ℕ) (d : Arc) → k < start → is_earlier s 0 (slice_index_or arcs k d) ≡ true)
    → ((k : ℕ) (d : Arc) → start ≤ k → k < length arcs → is_earlier s 0 (slice_index_or arcs k d) ≡ false) → end ≤ length arcs
    → ((k : ℕ) (d : Arc) → k < end → is_earlier (s + 1) 0 (slice_index_or arcs k d) ≡ true)
    → ((k : ℕ) (d : Arc) → end ≤ k → k < length arcs → is_earlier (s + 1) 0 (slice_index_or arcs k d) ≡ false) → IsRun arcs s start end
run arcs s start end fits before behind within before_next behind_next = record {
  rises = rises (cases_lt end start);
  within = within;
  earlier = λ k d lt. earlier_leaves s (slice_index_or arcs k d) (before k d lt);
  from_start = λ k d le lt. other_leaves s (slice_index_or arcs k d) (behind k d le lt);
  to_end = λ k d lt. (let e = earlier_leaves (s + 1) (slice_index_or arcs k d) (before_next k d lt) in omega arith);
  later = λ k d le lt. (let e = other_leaves (s + 1) (slice_index_or arcs k d) (behind_next k d le lt) in omega arith);
}
  where
    rises : (end < start) ⊎ (start ≤ end) → start ≤ end
    rises (inl l) =
        let a = earlier_leaves s (slice_index_or arcs end (arc 0 0 0)) (before end (arc 0 0 0) l) in
        let b = other_leaves (s + 1) (slice_index_or arcs end (arc 0 0 0)) (behind_next end (arc 0 0 0) (omega arith) (omega (arith, fits))) in
        absurd (omega arith)
    rises (inr l) = l

abbrev pub part : List Arc → ℕ → ℕ → List Arc
part arcs start end = take (end - start) (drop start arcs)

part_at : (arcs : List Arc) (start end k : ℕ) (d : Arc) → k < end - start → get_or (part arcs start end) k d ≡ get_or arcs (start + k) d
part_at arcs start end k d lt = get_or-take (end - start) (drop start arcs) k d lt ∙ get_or-drop start arcs k d

part_short : (arcs : List Arc) (start end k : ℕ) → end ≤ length arcs → k < length (part arcs start end) → (k < end - start) × (start + k < end)
part_short arcs start end k within lt =
    let m = length-take (end - start) (drop start arcs) in
    let n = length-drop start arcs in
    (omega arith, omega arith)

pub run_order : (arcs : List Arc) (start end : ℕ) → end ≤ length arcs → AllPairs IsArcBefore arcs → AllPairs IsArcBefore (part arcs start end)
run_order arcs start end within order i j d l lt =
    let short = part_short arcs start end j within lt in
    let here : IsArcBefore (get_or arcs (start + i) d) (get_or arcs (start + j) d) = order (start + i) (start + j) d (omega arith) (omega arith) in
    let one = subst (λ x. IsArcBefore x (get_or arcs (start + j) d)) (sym (part_at arcs start end i d (omega arith))) here in
    subst (λ x. IsArcBefore (get_or (part arcs start end) i d) x) (sym (part_at arcs start end j d short.0)) one

pub run_members : (arcs : List Arc) (s start end : ℕ) → IsRun arcs s start end → (b : Arc)
    → Contains (part arcs start end) b ↔ (Contains arcs b × (b.from ≡ s))
run_members arcs s start end r b = (forth, back)
  where
    forth : Contains (part arcs start end) b → Contains arcs b × (b.from ≡ s)
    forth (k, lt, at) =
        let short = part_short arcs start end k r.within lt in
        let is : get_or arcs (start + k) b ≡ b = sym (part_at arcs start end k b short.0) ∙ at in
        let low = r.from_start (start + k) b (omega arith) (let w = r.within in omega arith) in
        let high = r.to_end (start + k) b short.1 in
        let same = ap (λ (x : Arc). x.from) is in
        ((start + k, (let w = r.within in omega arith), is), omega arith)

    back : Contains arcs b × (b.from ≡ s) → Contains (part arcs start end) b
    back ((k, lt, at), from) =
        let same = ap (λ (x : Arc). x.from) at in
        let low : start ≤ k = not_early (cases_lt k start) same in
        let high : k < end = not_late (cases_lt k end) same in
        let m = length-take (end - start) (drop start arcs) in
        let n = length-drop start arcs in
        let index : start + (k - start) ≡ k = omega arith in
        (k - start, (let w = r.within in omega arith), part_at arcs start end (k - start) b (omega arith) ∙ ap (λ i. get_or arcs i b) index ∙ at)
      where
        not_early : (k < start) ⊎ (start ≤ k) → (get_or arcs k b).from ≡ b.from → start ≤ k
        not_early (inl l) same = let e = r.earlier k b l in absurd (omega arith)
        not_early (inr l) same = l

        not_late : (k < end) ⊎ (end ≤ k) → (get_or arcs k b).from ≡ b.from → k < end
        not_late (inl l) same = l
        not_late (inr l) same = let e = r.later k b l lt in absurd (omega arith)
