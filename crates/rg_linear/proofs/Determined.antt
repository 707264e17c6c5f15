-- A descent has one outcome.
use Rattle.std.proofs.Common.{◌≡◌, ◌⊎◌, ℕ, suc, ◌<◌, ◌≤◌, List, ◌∷◌, ap, refl, subst, sym, inl, inr, arith}
use Rattle.std.specs.Prelude.{pos, ◌<ℤ◌}
use Rattle.std.proofs.lemmas.Int.{ints}
use Rattle.std.proofs.lemmas.Bool.{cases_lt}
use Rattle.rg_linear.specs.System.{LinearSystem, row_variable}
use Rattle.rg_linear.specs.Dictionary.{Relation, DictionaryRow}
use Rattle.rg_integers.specs.declared.term.Wide.{Wide}
use Rattle.rg_linear.specs.Exchange.{exchanged, AllFit, FirstWide}
use Rattle.rg_linear.specs.Descent.{Outcome, Outcome.point, Outcome.refuted, Outcome.wide, IsStop, IsSatisfied, IsStuck, Chooses, DescentFrom, DescentFrom.after_last, DescentFrom.satisfied, DescentFrom.stuck, DescentFrom.passes, DescentFrom.stops_below, DescentFrom.goes_on}
use Rattle.rg_linear.proofs.Unique.{same_relation}
use Rattle.rg_linear.proofs.Terms.{same_wide}

-- what happens at a row
pub data Kind : Type 0 where
  is_satisfied : Kind
  is_stuck : Kind
  is_chosen : ℕ → Kind

abbrev pub IsKind : LinearSystem → List ℕ → List ℕ → ℕ → Kind → Type 0
IsKind system members fixed i is_satisfied = IsSatisfied system members i
IsKind system members fixed i is_stuck = IsStuck system members fixed i
IsKind system members fixed i (is_chosen j) = Chooses system members fixed i j

-- a row that is satisfied doesn't fail
satisfied_or_fails : (system : LinearSystem) (members : List ℕ) (i : ℕ) (k : Relation) → IsSatisfied system members i → DictionaryRow system members (row_variable system i) k → k.constant <ℤ pos 0 → ⊥
satisfied_or_fails system members i k (inl member) row negative = row.outside member
satisfied_or_fails system members i k (inr (l, row', least)) row negative =
    let e : l.constant ≡ k.constant = ap (λ x. x.constant) (same_relation system members (row_variable system i) l k row' row) in
    omega (arith, ints)

stuck_or_chosen : (system : LinearSystem) (members fixed : List ℕ) (i j : ℕ) → IsStuck system members fixed i → Chooses system members fixed i j → ⊥
stuck_or_chosen system members fixed i j s c =
    c.named (subst (λ x. x.coefficient j ≡ pos 0) (same_relation system members (row_variable system i) s.k c.k s.row c.row) (s.none j c.member c.not_fixed))

not_before : (system : LinearSystem) (members fixed : List ℕ) (i j j' : ℕ) → Chooses system members fixed i j → Chooses system members fixed i j' → j < j' → ⊥
not_before system members fixed i j j' c c' lt =
    c.named (subst (λ x. x.coefficient j ≡ pos 0) (same_relation system members (row_variable system i) c'.k c.k c'.row c.row) (c'.least j c.member c.not_fixed lt))

pub same_choice : (system : LinearSystem) (members fixed : List ℕ) (i j j' : ℕ) → Chooses system members fixed i j → Chooses system members fixed i j' → j ≡ j'
same_choice system members fixed i j j' c c' = go (cases_lt j j') (cases_lt j' j)
  where
    go : (j < j') ⊎ (j' ≤ j) → (j' < j) ⊎ (j ≤ j') → j ≡ j'
    go (inl lt) _ = absurd (not_before system members fixed i j j' c c' lt)
    go (inr ge) (inl lt) = absurd (not_before system members fixed i j' j c' c lt)
    go (inr ge) (inr le) = omega arith

pub same_kind : (system : LinearSystem) (members fixed : List ℕ) (i : ℕ) (a b : Kind) → IsKind system members fixed i a → IsKind system members fixed i b → a ≡ b
same_kind system members fixed i is_satisfied is_satisfied p q = refl
same_kind system members fixed i is_satisfied is_stuck p s = absurd (satisfied_or_fails system members i s.k p s.row s.negative)
same_kind system members fixed i is_satisfied (is_chosen j) p c = absurd (satisfied_or_fails system members i c.k p c.row c.negative)
same_kind system members fixed i is_stuck is_satisfied s p = absurd (satisfied_or_fails system members i s.k p s.row s.negative)
same_kind system members fixed i is_stuck is_stuck s s' = refl
same_kind system members fixed i is_stuck (is_chosen j) s c = absurd (stuck_or_chosen system members fixed i j s c)
same_kind system members fixed i (is_chosen j) is_satisfied c p = absurd (satisfied_or_fails system members i c.k p c.row c.negative)
same_kind system members fixed i (is_chosen j) is_stuck c s = absurd (stuck_or_chosen system members fixed i j s c)
same_kind system members fixed i (is_chosen j) (is_chosen j') c c' = ap is_chosen (same_choice system members fixed i j j' c c')

-- a term out of range
pub record Stopped (system : LinearSystem) (members : List ℕ) (i j : ℕ) (o : Outcome) : Type 0 where
  pub w : ℕ
  pub n : ℕ
  pub t : Wide
  pub first : FirstWide system members (row_variable system i) j w n t
  pub is : o ≡ wide (record { members = members; pivot = row_variable system i; leaves = j; target = w; entry = n; term = t })

-- the rows below stop
pub record StopsBelow (system : LinearSystem) (members fixed : List ℕ) (i j : ℕ) (o : Outcome) : Type 0 where
  pub fit : AllFit system members (row_variable system i) j
  pub below : DescentFrom system (exchanged members (row_variable system i) j) (row_variable system i ∷ fixed) i 0 o
  pub stop : IsStop o

-- the rows below have a point, and the next row follows
pub record GoesOn (system : LinearSystem) (members fixed : List ℕ) (r i j : ℕ) (o : Outcome) : Type 0 where
  pub after : List ℕ
  pub fit : AllFit system members (row_variable system i) j
  pub below : DescentFrom system (exchanged members (row_variable system i) j) (row_variable system i ∷ fixed) i 0 (point after)
  pub rest : DescentFrom system after fixed r (suc i) o

-- what a descent is at a row of a kind
abbrev pub Unfolded : LinearSystem → List ℕ → List ℕ → ℕ → ℕ → Outcome → Kind → Type 0
Unfolded system members fixed r i o is_satisfied = DescentFrom system members fixed r (suc i) o
Unfolded system members fixed r i o is_stuck = o ≡ refuted members i fixed
Unfolded system members fixed r i o (is_chosen j) = Stopped system members i j o ⊎ (StopsBelow system members fixed i j o ⊎ GoesOn system members fixed r i j o)

pub unfolded : (system : LinearSystem) (members fixed : List ℕ) (r i : ℕ) (o : Outcome) (kind : Kind) → i < r → IsKind system members fixed i kind
    → DescentFrom system members fixed r i o → Unfolded system members fixed r i o kind
unfolded system members fixed r i o kind lt is (after_last le) = absurd (omega arith)
unfolded system members fixed r i o kind lt is (satisfied lt' p d) = subst (Unfolded system members fixed r i o) (same_kind system members fixed i is_satisfied kind p is) d
unfolded system members fixed r i o kind lt is (stuck lt' s) = subst (Unfolded system members fixed r i (refuted members i fixed)) (same_kind system members fixed i is_stuck kind s is) refl
unfolded system members fixed r i o kind lt is (passes j w n t lt' c f) = subst
    (Unfolded system members fixed r i (wide (record { members = members; pivot = row_variable system i; leaves = j; target = w; entry = n; term = t })))
    (same_kind system members fixed i (is_chosen j) kind c is) (inl (record { w = w; n = n; t = t; first = f; is = refl }))
unfolded system members fixed r i o kind lt is (stops_below j lt' c fit d stop) =
    subst (Unfolded system members fixed r i o) (same_kind system members fixed i (is_chosen j) kind c is) (inr (inl (record { fit = fit; below = d; stop = stop })))
unfolded system members fixed r i o kind lt is (goes_on j after lt' c fit d rest) =
    subst (Unfolded system members fixed r i o) (same_kind system members fixed i (is_chosen j) kind c is)
    (inr (inr (record { after = after; fit = fit; below = d; rest = rest })))

ended : (system : LinearSystem) (members fixed : List ℕ) (r i : ℕ) (o : Outcome) → r ≤ i → DescentFrom system members fixed r i o → point members ≡ o
ended system members fixed r i o le (after_last le') = refl
ended system members fixed r i o le (satisfied lt p d) = absurd (omega arith)
ended system members fixed r i o le (stuck lt s) = absurd (omega arith)
ended system members fixed r i o le (passes j w n t lt c f) = absurd (omega arith)
ended system members fixed r i o le (stops_below j lt c fit d stop) = absurd (omega arith)
ended system members fixed r i o le (goes_on j after lt c fit d rest) = absurd (omega arith)

pub wide_or_fit : (system : LinearSystem) (members : List ℕ) (i j w n : ℕ) (t : Wide) → FirstWide system members i j w n t → AllFit system members i j → ⊥
wide_or_fit system members i j w n t f fit = f.passes (fit w n t f.term)

not_both : (members : List ℕ) (o : Outcome) → point members ≡ o → IsStop o → ⊥
not_both members (point after) e stop = stop
not_both members (refuted after i fixed) e stop = cc
not_both members (wide at) e stop = cc

same_after : (members after : List ℕ) → point members ≡ point after → members ≡ after
same_after members after e = cc

pub same_outcome : (system : LinearSystem) (members fixed : List ℕ) (r i : ℕ) (o o' : Outcome) → DescentFrom system members fixed r i o → DescentFrom system members fixed r i o' → o ≡ o'
same_outcome system members fixed r i o o' (after_last le) d' = ended system members fixed r i o' le d'
same_outcome system members fixed r i o o' (satisfied lt p d) d' = same_outcome system members fixed r (suc i) o o' d (unfolded system members fixed r i o' is_satisfied lt p d')
same_outcome system members fixed r i o o' (stuck lt s) d' = sym (unfolded system members fixed r i o' is_stuck lt s d')
same_outcome system members fixed r i o o' (passes j w n t lt c f) d' = go (unfolded system members fixed r i o' (is_chosen j) lt c d')
  where
    go : Stopped system members i j o' ⊎ (StopsBelow system members fixed i j o' ⊎ GoesOn system members fixed r i j o')
        → wide (record { members = members; pivot = row_variable system i; leaves = j; target = w; entry = n; term = t }) ≡ o'
    go (inl s) = let e = same_wide system members (row_variable system i) j w n s.w s.n t s.t f s.first in let ew = e.0 in let en = e.1 in let et = e.2 in let is = s.is in cc
    go (inr (inl b)) = absurd (wide_or_fit system members (row_variable system i) j w n t f b.fit)
    go (inr (inr g)) = absurd (wide_or_fit system members (row_variable system i) j w n t f g.fit)
same_outcome system members fixed r i o o' (stops_below j lt c fit d stop) d' =
    go (unfolded system members fixed r i o' (is_chosen j) lt c d') (λ x e. same_outcome system (exchanged members (row_variable system i) j) (row_variable system i ∷ fixed) i 0 o x d e)
  where
    go : Stopped system members i j o' ⊎ (StopsBelow system members fixed i j o' ⊎ GoesOn system members fixed r i j o')
        → ((x : Outcome) → DescentFrom system (exchanged members (row_variable system i) j) (row_variable system i ∷ fixed) i 0 x → o ≡ x) → o ≡ o'
    go (inl s) ih = absurd (wide_or_fit system members (row_variable system i) j s.w s.n s.t s.first fit)
    go (inr (inl b)) ih = ih o' b.below
    go (inr (inr g)) ih = absurd (not_both g.after o (sym (ih (point g.after) g.below)) stop)
same_outcome system members fixed r i o o' (goes_on j after lt c fit d rest) d' =
    go (unfolded system members fixed r i o' (is_chosen j) lt c d')
    (λ x e. same_outcome system (exchanged members (row_variable system i) j) (row_variable system i ∷ fixed) i 0 (point after) x d e)
    (λ e. same_outcome system after fixed r (suc i) o o' rest e)
  where
    go : Stopped system members i j o' ⊎ (StopsBelow system members fixed i j o' ⊎ GoesOn system members fixed r i j o')
        → ((x : Outcome) → DescentFrom system (exchanged members (row_variable system i) j) (row_variable system i ∷ fixed) i 0 x → point after ≡ x)
        → (DescentFrom system after fixed r (suc i) o' → o ≡ o') → o ≡ o'
    go (inl s) ih next = absurd (wide_or_fit system members (row_variable system i) j s.w s.n s.t s.first fit)
    go (inr (inl b)) ih next = absurd (not_both after o' (ih o' b.below) b.stop)
    go (inr (inr g)) ih next = next (subst (λ x. DescentFrom system x fixed r (suc i) o') (sym (same_after after g.after (ih (point g.after) g.below))) g.rest)
