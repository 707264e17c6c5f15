-- Problems stand in one order, and there is one first of them.
use Rattle.std.proofs.Common.{◌≡◌, ◌⊎◌, inl, inr, ℕ, arith}
use Rattle.rg_theory.specs.declared.Problem.{Problem}
use Rattle.rg_theory.specs.declared.Problem.TheVariants.{Event, States}
use Rattle.rg_theory.specs.Problem.{ComesBefore}
use Rattle.rg_outcome.specs.Coming.{IsFirstProblem}
pub use Rattle.rg_theory.proofs.Deciding.{PairBefore, cases_pair}

pub pair_after : (s t s' t' s'' t'' : ℕ) → PairBefore s t s' t' → PairBefore s' t' s'' t'' → PairBefore s t s'' t''
pair_after s t s' t' s'' t'' (inl a) (inl b) = inl (omega arith)
pair_after s t s' t' s'' t'' (inl a) (inr (e, b)) = inl (omega arith)
pair_after s t s' t' s'' t'' (inr (e, a)) (inl b) = inl (omega arith)
pair_after s t s' t' s'' t'' (inr (e, a)) (inr (f, b)) = inr (omega arith, omega arith)

pub not_before_pair : (s t : ℕ) → ¬ PairBefore s t s t
not_before_pair s t (inl a) = omega arith
not_before_pair s t (inr (e, a)) = omega arith

same_event : (s t s' t' : ℕ) → s ≡ s' → t ≡ t' → Event s t ≡ Event s' t'
same_event s t s' t' e f = cc

same_states : (s t s' t' : ℕ) → s ≡ s' → t ≡ t' → States s t ≡ States s' t'
same_states s t s' t' e f = cc

-- one comes before the other, or they are the same
pub cases_order : (p q : Problem) → ComesBefore p q ⊎ ((p ≡ q) ⊎ ComesBefore q p)
cases_order (Event s t) (Event s' t') = go (cases_pair s t s' t')
  where
    go : PairBefore s t s' t' ⊎ (((s ≡ s') × (t ≡ t')) ⊎ PairBefore s' t' s t) → ComesBefore (Event s t) (Event s' t') ⊎ ((Event s t ≡ Event s' t') ⊎ ComesBefore (Event s' t') (Event s t))
    go (inl a) = inl a
    go (inr (inl (e, f))) = inr (inl (same_event s t s' t' e f))
    go (inr (inr b)) = inr (inr b)
cases_order (Event s t) (States r r') = inl tt
cases_order (States r r') (Event s t) = inr (inr tt)
cases_order (States s t) (States s' t') = go (cases_pair s t s' t')
  where
    go : PairBefore s t s' t' ⊎ (((s ≡ s') × (t ≡ t')) ⊎ PairBefore s' t' s t) → ComesBefore (States s t) (States s' t') ⊎ ((States s t ≡ States s' t') ⊎ ComesBefore (States s' t') (States s t))
    go (inl a) = inl a
    go (inr (inl (e, f))) = inr (inl (same_states s t s' t' e f))
    go (inr (inr b)) = inr (inr b)

pub before_after : (p q r : Problem) → ComesBefore p q → ComesBefore q r → ComesBefore p r
before_after (Event s t) (Event s' t') (Event s'' t'') a b = pair_after s t s' t' s'' t'' a b
before_after (Event s t) (Event s' t') (States r r') a b = tt
before_after (Event s t) (States r r') (Event s'' t'') a b = absurd b
before_after (Event s t) (States r r') (States q q') a b = tt
before_after (States r r') (Event s t) q a b = absurd a
before_after (States s t) (States s' t') (Event r r') a b = absurd b
before_after (States s t) (States s' t') (States s'' t'') a b = pair_after s t s' t' s'' t'' a b

pub not_before_itself : (p : Problem) → ¬ ComesBefore p p
not_before_itself (Event s t) a = not_before_pair s t a
not_before_itself (States s s') a = not_before_pair s s' a

pub not_both_before : (p q : Problem) → ComesBefore p q → ¬ ComesBefore q p
not_both_before p q a b = not_before_itself p (before_after p q p a b)

-- there is one first problem
pub first_is_one : (P : Problem → Type 0) (p q : Problem) → IsFirstProblem P p → IsFirstProblem P q → p ≡ q
first_is_one P p q (a, before) (b, before') = go (cases_order p q)
  where
    go : ComesBefore p q ⊎ ((p ≡ q) ⊎ ComesBefore q p) → p ≡ q
    go (inl c) = absurd (before' p c a)
    go (inr (inl e)) = e
    go (inr (inr c)) = absurd (before q c b)
