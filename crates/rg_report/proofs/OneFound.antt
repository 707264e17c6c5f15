-- One thing is found of a system.
use Rattle.std.proofs.Common.{◌≡◌, ◌⊎◌, inl, inr, ℕ, ◌<◌, Option, None, Some, IfSome, IfNone, refl, sym, ap}
use Rattle.std.proofs.lemmas.Bool.{cases_order}
use Rattle.rg_theory.specs.System.{System, IsAllReachable, IsLeastUnreachable, IsForkFree}
use Rattle.rg_checks.specs.Flaws.{IsFirstFork}
use Rattle.rg_checks.specs.Persistent.{IsPersistent, IsLostBefore, IsLeastLost}
use Rattle.rg_checks.specs.Reversible.{IsReversible, IsLeastStranded}
use Rattle.rg_checks.proofs.FirstFlaws.{OneFork, one_unreachable, not_reachable, one_fork, not_fork_free}
use Rattle.rg_checks.proofs.Losing.{lost_not_persistent}
use Rattle.rg_report.specs.Examined.{Examination, IsExamined}

-- what is found is one where it is the one that there is, or there is none
one_option : {X : Type 0} (P : X → Type 0) (Q : Type 0) → ((x y : X) → P x → P y → x ≡ y) → ((x : X) → P x → Q → ⊥) → (o p : Option X) → IfSome o P → IfNone o Q → IfSome p P → IfNone p Q → o ≡ p
one_option P Q one apart None None h k h' k' = refl
one_option P Q one apart None (Some y) h k h' k' = absurd (apart y h' k)
one_option P Q one apart (Some x) None h k h' k' = absurd (apart x h k')
one_option P Q one apart (Some x) (Some y) h k h' k' = ap Some (one x y h h')

one_stranded : (lts : System) (s r : ℕ) → IsLeastStranded lts s → IsLeastStranded lts r → s ≡ r
one_stranded lts s r h k = by (cases_order s r)
  where
    by : (s ≡ r) ⊎ ((s < r) ⊎ (r < s)) → s ≡ r
    by (inl e) = e
    by (inr (inl l)) = absurd (h.no_way (k.least s l h.reached))
    by (inr (inr l)) = absurd (k.no_way (h.least r l k.reached))

-- of two losses one comes first
one_lost : (lts : System) (s t u s' r v w r' : ℕ) → IsLeastLost lts s t u s' → IsLeastLost lts r v w r' → (s ≡ r) × (t ≡ v) × (u ≡ w) × (s' ≡ r')
one_lost lts s t u s' r v w r' h k = by (cases_order s r) (cases_order t v) (cases_order u w) (cases_order s' r')
  where
    before : IsLostBefore s t u s' r v w r' → ⊥
    before l = k.first s t u s' l h.lost

    behind : IsLostBefore r v w r' s t u s' → ⊥
    behind l = h.first r v w r' l k.lost

    by : (s ≡ r) ⊎ ((s < r) ⊎ (r < s)) → (t ≡ v) ⊎ ((t < v) ⊎ (v < t)) → (u ≡ w) ⊎ ((u < w) ⊎ (w < u)) → (s' ≡ r') ⊎ ((s' < r') ⊎ (r' < s')) → (s ≡ r) × (t ≡ v) × (u ≡ w) × (s' ≡ r')
    by (inr (inl l)) _ _ _ = absurd (before (inl l))
    by (inr (inr l)) _ _ _ = absurd (behind (inl l))
    by (inl e) (inr (inl l)) _ _ = absurd (before (inr (e, inl l)))
    by (inl e) (inr (inr l)) _ _ = absurd (behind (inr (sym e, inl l)))
    by (inl e) (inl f) (inr (inl l)) _ = absurd (before (inr (e, inr (f, inl l))))
    by (inl e) (inl f) (inr (inr l)) _ = absurd (behind (inr (sym e, inr (sym f, inl l))))
    by (inl e) (inl f) (inl g) (inr (inl l)) = absurd (before (inr (e, inr (f, inr (g, l)))))
    by (inl e) (inl f) (inl g) (inr (inr l)) = absurd (behind (inr (sym e, inr (sym f, inr (sym g, l)))))
    by (inl e) (inl f) (inl g) (inl i) = (e, f, g, i)

pub one_found : OneFork → (lts : System) (e f : Examination) → IsExamined lts e → IsExamined lts f → e ≡ f
one_found one lts e f x y = λ i. record { unreachable = same_unreachable i; fork = same_fork i; lost = same_lost i; stranded = same_stranded i }
  where
    same_unreachable : e.unreachable ≡ f.unreachable
    same_unreachable =
        one_option (IsLeastUnreachable lts) (IsAllReachable lts) (one_unreachable lts) (not_reachable lts)
        e.unreachable f.unreachable x.unreachable x.reachable y.unreachable y.reachable

    same_fork : e.fork ≡ f.fork
    same_fork =
        one_option (IsFirstFork lts) (IsForkFree lts) (one_fork one lts) (not_fork_free lts) e.fork f.fork x.fork x.deterministic y.fork y.deterministic

    same_lost : e.lost ≡ f.lost
    same_lost =
        one_option (λ k. IsLeastLost lts k.from k.label k.lost k.to) (IsPersistent lts)
        (λ k l h h'. (let (a, b, c, d) = one_lost lts k.from k.label k.lost k.to l.from l.label l.lost l.to h h' in λ i. record { from = a i; label = b i; lost = c i; to = d i }))
        (λ k h kept. lost_not_persistent lts k.from k.label k.lost k.to h.lost kept) e.lost f.lost x.lost x.persistent y.lost y.persistent

    same_stranded : e.stranded ≡ f.stranded
    same_stranded =
        one_option (IsLeastStranded lts) (IsReversible lts) (one_stranded lts) (λ s h all. h.no_way (all.back s h.reached)) e.stranded f.stranded x.stranded x.reversible y.stranded y.reversible
