-- There is one least fork at most.
use Rattle.std.proofs.Common.{◌≡◌, ◌⊎◌, inl, inr, ℕ, ◌<◌, ◌≤◌, sym, subst, arith}
use Rattle.std.proofs.lemmas.Bool.{cases_lt}
use Rattle.rg_theory.specs.System.{System, IsLeastFork}

pub one_least : (lts : System) (s t a b s' t' a' b' : ℕ) → IsLeastFork lts s t a b → IsLeastFork lts s' t' a' b' → (s ≡ s') × (t ≡ t') × (a ≡ a') × (b ≡ b')
one_least lts s t a b s' t' a' b' f g = by (cases_lt s s') (cases_lt s' s) (cases_lt t t') (cases_lt t' t)
  where
    rest : s ≡ s' → t ≡ t' → (s ≡ s') × (t ≡ t') × (a ≡ a') × (b ≡ b')
    rest es et =
        let moved = subst (λ q. IsLeastFork lts q t' a' b') (sym es) g in
        let h : IsLeastFork lts s t a' b' = subst (λ u. IsLeastFork lts s u a' b') (sym et) moved in
        let first : a ≡ a' = omega (arith, f.least a' h.fork.0, h.least a f.fork.0) in
        let second : b ≡ b' = omega (arith, f.next b' h.fork.1 (omega (arith, first, h.in_order)), h.next b f.fork.1 (omega (arith, first, f.in_order))) in
        (es, et, first, second)

    by : (s < s') ⊎ (s' ≤ s) → (s' < s) ⊎ (s ≤ s') → (t < t') ⊎ (t' ≤ t) → (t' < t) ⊎ (t ≤ t') → (s ≡ s') × (t ≡ t') × (a ≡ a') × (b ≡ b')
    by (inl less) _ _ _ = absurd (g.first s t a b (inl less) f.fork)
    by (inr le) (inl less) _ _ = absurd (f.first s' t' a' b' (inl less) g.fork)
    by (inr le) (inr ge) (inl less) _ = absurd (g.first s t a b (inr (omega arith, less)) f.fork)
    by (inr le) (inr ge) (inr lt) (inl less) = absurd (f.first s' t' a' b' (inr (omega arith, less)) g.fork)
    by (inr le) (inr ge) (inr lt) (inr gt) = rest (omega arith) (omega arith)
