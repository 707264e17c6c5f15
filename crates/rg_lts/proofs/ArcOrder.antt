-- Where the arcs of a state and a label stand in a list of arcs in order.
use Rattle.std.proofs.Common.{◌≡◌, ◌⊎◌, ℕ, ◌<◌, ◌≤◌, true, false, List, length, slice_index_or, Contains, AllPairs, inl, inr, sym, subst, ap, ◌∙◌, arith}
use Rattle.std.specs.List.Sorted.{IsPartitionedBy}
use Rattle.std.proofs.lemmas.Bool.{cases_order}
use Rattle.std.proofs.lemmas.Bool.Decides.{nat_tests}
use Rattle.rg_theory.specs.declared.Arc.{Arc}
use Rattle.rg_theory.specs.System.{arc, IsArcBefore}
use Rattle.rg_lts.specs.WellFormed.{is_earlier}

-- what the test says
abbrev IsEarlier : ℕ → ℕ → Arc → Type 0
IsEarlier s t a = (a.from < s) ⊎ ((a.from ≡ s) × (a.label < t))

earlier_says : (s t : ℕ) (a : Arc) → is_earlier s t a ≡ true → IsEarlier s t a
earlier_says s t a e = grind (arith, nat_tests)

says_earlier : (s t : ℕ) (a : Arc) → IsEarlier s t a → is_earlier s t a ≡ true
says_earlier s t a (inl lt) = grind (arith, nat_tests)
says_earlier s t a (inr both) = grind (arith, nat_tests)

-- what stands before an earlier arc is earlier
before_earlier : (s t : ℕ) (a b : Arc) → IsArcBefore a b → IsEarlier s t b → IsEarlier s t a
before_earlier s t a b (inl p) (inl q) = inl (omega arith)
before_earlier s t a b (inl p) (inr q) = inl (omega arith)
before_earlier s t a b (inr p) (inl q) = inl (omega arith)
before_earlier s t a b (inr (e, inl p)) (inr q) = inr (omega arith, omega arith)
before_earlier s t a b (inr (e, inr p)) (inr q) = inr (omega arith, omega arith)

pub arcs_parted : (s t : ℕ) (arcs : List Arc) → AllPairs IsArcBefore arcs → IsPartitionedBy (is_earlier s t) arcs
arcs_parted s t arcs order i j d le lt e = go (cases_order i j)
  where
    go : (i ≡ j) ⊎ ((i < j) ⊎ (j < i)) → is_earlier s t (slice_index_or arcs i d) ≡ true
    go (inl same) = subst (λ k. is_earlier s t (slice_index_or arcs k d) ≡ true) (sym same) e
    go (inr (inl l)) = says_earlier s t (slice_index_or arcs i d)
        (before_earlier s t (slice_index_or arcs i d) (slice_index_or arcs j d) (order i j d l lt) (earlier_says s t (slice_index_or arcs j d) e))
    go (inr (inr l)) = absurd (omega arith)

-- where some arc leaves s by t, the arc at which the earlier ones end does, and leads to the least state
pub first_of_all : (s t : ℕ) (arcs : List Arc) (index : ℕ) (a : Arc) → AllPairs IsArcBefore arcs
    → ((k : ℕ) (d : Arc) → k < index → is_earlier s t (slice_index_or arcs k d) ≡ true)
    → ((k : ℕ) (d : Arc) → index ≤ k → k < length arcs → is_earlier s t (slice_index_or arcs k d) ≡ false)
    → (index < length arcs) × ((d : Arc) → a ≡ slice_index_or arcs index d)
    → (other : ℕ) → Contains arcs (arc s t other) → (a.from ≡ s) × (a.label ≡ t) × (a.to ≤ other)
first_of_all s t arcs index a order before behind (within, is) other (k, lt, at) = go (cases_order k index)
  where
    not_earlier : IsEarlier s t (arc s t other) → ⊥
    not_earlier (inl l) = omega arith
    not_earlier (inr both) = let l = both.1 in omega arith

    not_before : IsEarlier s t a → ⊥
    not_before e =
        let yes = says_earlier s t a e in
        let no = ap (is_earlier s t) (is a) ∙ behind index a (omega arith) within in
        cc

    after : IsArcBefore a (arc s t other) → (a.from ≡ s) × (a.label ≡ t) × (a.to ≤ other)
    after (inl l) = absurd (not_before (inl l))
    after (inr (e, inl l)) = absurd (not_before (inr (e, l)))
    after (inr (e, inr (f, l))) = (e, f, omega arith)

    go : (k ≡ index) ⊎ ((k < index) ⊎ (index < k)) → (a.from ≡ s) × (a.label ≡ t) × (a.to ≤ other)
    go (inl same) =
        let here : a ≡ arc s t other = is (arc s t other) ∙ ap (λ i. slice_index_or arcs i (arc s t other)) (sym same) ∙ at in
        (ap (λ (x : Arc). x.from) here, ap (λ (x : Arc). x.label) here, (let e = ap (λ (x : Arc). x.to) here in omega arith))
    go (inr (inl l)) = absurd (not_earlier (earlier_says s t (arc s t other) (subst (λ x. is_earlier s t x ≡ true) at (before k (arc s t other) l))))
    go (inr (inr l)) = after (subst (IsArcBefore a) at
        (subst (λ x. IsArcBefore x (slice_index_or arcs k (arc s t other))) (sym (is (arc s t other))) (order index k (arc s t other) l lt)))
