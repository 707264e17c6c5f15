-- What pruning leaves.
use Rattle.std.proofs.Common.{◌≡◌, ℕ, zero, suc, ◌<◌, ◌≤◌, List, [], ◌∷◌, ◌++◌, length, All, Contains, inl, inr, ⊎_elim, refl, sym, ap, ◌∙◌, subst, arith}
use Rattle.std.proofs.lemmas.List.Elements.{All-contains, Contains-get_or}
use Rattle.rg_theory.specs.System.{System, labels, IsInRange, IsAllReachable}
use Rattle.rg_theory.specs.Net.{Place}
use Rattle.rg_theory.specs.Solves.{Solves}
use Rattle.rg_theory.specs.declared.Class.{Class}
use Rattle.rg_theory.specs.Class.{InClass}
use Rattle.rg_theory.specs.Region.{IsRegionIn}
use Rattle.rg_theory.specs.Problem.{SeparateAll}
use Rattle.rg_theory.proofs.Lists.{Contains-cons_cases}
use Rattle.rg_theory.proofs.Solution.{solved_separates}
use Rattle.rg_theory.proofs.Classes.{yes_in_class}
use Rattle.rg_theory.specs.Pruned.{Decides, LeavesBehind, IsPruned, others, net_without}
use Rattle.rg_theory.proofs.Among.{IsWithin}
use Rattle.rg_theory.proofs.Among.{separate_within, within_more, put_between}

-- one list is left
pub left_once : (lts : System) (front places a b : List Place) → LeavesBehind lts front places a → LeavesBehind lts front places b → a ≡ b
left_once lts front [] a b e f = e ∙ sym f
left_once lts front (p ∷ places) a b (behind, leaves, decides) (behind', leaves', decides') =
    go (left_once lts (front ++ p ∷ []) places behind behind' leaves leaves') decides decides'
  where
    go : behind ≡ behind' → Decides lts front p behind a → Decides lts front p behind' b → a ≡ b
    go same (inl (sep, e)) (inl (sep', f)) = e ∙ same ∙ sym f
    go same (inr (not, e)) (inr (not', f)) = e ∙ ap (λ l. p ∷ l) same ∙ sym f
    go same (inl (sep, e)) (inr (not', f)) = absurd (not' (subst (λ l. SeparateAll (front ++ l) lts) same sep))
    go same (inr (not, e)) (inl (sep', f)) = absurd (not (subst (λ l. SeparateAll (front ++ l) lts) (sym same) sep'))

-- what is left still separates all, with the places in front
pub left_separates : (lts : System) (front places left : List Place) → LeavesBehind lts front places left → SeparateAll (front ++ places) lts → SeparateAll (front ++ left) lts
left_separates lts front [] left e sep = subst (λ l. SeparateAll (front ++ l) lts) (sym e) sep
left_separates lts front (p ∷ places) left (behind, leaves, decides) sep =
    go (left_separates lts (front ++ p ∷ []) places behind leaves (subst (λ l. SeparateAll l lts) (sym (put_between front p places)) sep)) decides
  where
    go : SeparateAll ((front ++ p ∷ []) ++ behind) lts → Decides lts front p behind left → SeparateAll (front ++ left) lts
    go before (inl (sep', e)) = subst (λ l. SeparateAll (front ++ l) lts) (sym e) sep'
    go before (inr (not, e)) = subst (λ l. SeparateAll (front ++ l) lts) (sym e) (subst (λ l. SeparateAll l lts) (put_between front p behind) before)

-- none of them can be left out, also with all the places in front
pub left_needed : (lts : System) (front places left : List Place) → LeavesBehind lts front places left → (i : ℕ) → i < length left → ¬ SeparateAll (front ++ others left i) lts
left_needed lts front [] left e i lt sep = absurd (let none : i < 0 = subst (λ (l : List Place). i < length l) e lt in omega arith)
left_needed lts front (p ∷ places) left (behind, leaves, decides) i lt sep =
    go (left_needed lts (front ++ p ∷ []) places behind leaves) decides
  where
    at : ((j : ℕ) → j < length behind → ¬ SeparateAll ((front ++ p ∷ []) ++ others behind j) lts) → (i : ℕ) → i < length (p ∷ behind)
        → ¬ SeparateAll (front ++ behind) lts → ¬ SeparateAll (front ++ others (p ∷ behind) i) lts
    at rest zero lt not sep = not sep
    at rest (suc j) lt not sep = rest j (omega arith) (subst (λ l. SeparateAll l lts) (sym (put_between front p (others behind j))) sep)

    go : ((j : ℕ) → j < length behind → ¬ SeparateAll ((front ++ p ∷ []) ++ others behind j) lts) → Decides lts front p behind left → ⊥
    go rest (inl (sep', e)) =
        rest i (subst (λ (l : List Place). i < length l) e lt)
        (subst (λ l. SeparateAll l lts) (sym (put_between front p (others behind i)))
        (separate_within lts _ _ (within_more front p (others behind i)) (subst (λ l. SeparateAll (front ++ others l i) lts) e sep)))
    go rest (inr (not, e)) = at rest i (subst (λ (l : List Place). i < length l) e lt) not (subst (λ l. SeparateAll (front ++ others l i) lts) e sep)

-- each is one of those given
pub left_among : (lts : System) (front places left : List Place) → LeavesBehind lts front places left → IsWithin left places
left_among lts front [] left e q has = subst (λ l. Contains l q) e has
left_among lts front (p ∷ places) left (behind, leaves, decides) q has =
    go (left_among lts (front ++ p ∷ []) places behind leaves q) decides
  where
    behind_it : (xs : List Place) → Contains xs q → Contains (p ∷ xs) q
    behind_it xs (k, lt, e) = (suc k, omega arith, e)

    go : (Contains behind q → Contains places q) → Decides lts front p behind left → Contains (p ∷ places) q
    go later (inl (sep, e)) = behind_it places (later (subst (λ l. Contains l q) e has))
    go later (inr (not, e)) = ⊎_elim (λ is. subst (Contains (p ∷ places)) is (0, omega arith, refl)) (λ has'. behind_it places (later has'))
        (Contains-cons_cases p q behind (subst (λ l. Contains l q) e has))

-- no more are left than were given
pub left_no_more : (lts : System) (front places left : List Place) → LeavesBehind lts front places left → length left ≤ length places
left_no_more lts front [] left e = subst (λ (l : List Place). length l ≤ 0) (sym e) (omega arith)
left_no_more lts front (p ∷ places) left (behind, leaves, decides) = go (left_no_more lts (front ++ p ∷ []) places behind leaves) decides
  where
    go : length behind ≤ length places → Decides lts front p behind left → length left ≤ length (p ∷ places)
    go few (inl (sep, e)) = subst (λ (l : List Place). length l ≤ length (p ∷ places)) (sym e) (omega arith)
    go few (inr (not, e)) = subst (λ (l : List Place). length l ≤ length (p ∷ places)) (sym e) (omega arith)

-- the net that is left
pub left_solves : (lts : System) (class : Class) (places left : List Place) → IsInRange lts → IsAllReachable lts → All (IsRegionIn lts class) places
    → SeparateAll places lts → IsPruned lts places left → Solves (record { labels = labels lts; places = left }) lts
    × InClass (record { labels = labels lts; places = left }) class
left_solves lts class places left fine reach each sep pruned =
    yes_in_class lts (record { labels = labels lts; places = left }) class fine reach refl
    (λ k d lt. All-contains (IsRegionIn lts class) places _ each (left_among lts [] places left pruned _ (Contains-get_or left k d lt)))
    (left_separates lts [] places left pruned sep)

pub left_lacks_none : (lts : System) (places left : List Place) → IsInRange lts → IsPruned lts places left → (i : ℕ) → i < length left
    → ¬ Solves (net_without (record { labels = labels lts; places = left }) i) lts
left_lacks_none lts places left fine pruned i lt sol = left_needed lts [] places left pruned i lt (solved_separates lts _ fine sol)
