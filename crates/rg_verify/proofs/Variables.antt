-- Variables: which comes first.
use Rattle.std.proofs.Common.{◌≡◌, ◌⊎◌, ◌<◌, inl, inr, ap, arith}
use Rattle.std.proofs.lemmas.Bool.{cases_order}
use Rattle.rg_cert_meaning.specs.declared.Variable.{Variable}
use Rattle.rg_verify.specs.Judged.{IsVariableBefore}
use Rattle.rg_cert_meaning.specs.declared.Variable.TheVariants.{Tokens, Effect}

pub before_or_not : (v w : Variable) → IsVariableBefore v w ⊎ ((v ≡ w) ⊎ IsVariableBefore w v)
before_or_not (Tokens q) (Tokens r) = by (cases_order q r)
  where
    by : (q ≡ r) ⊎ ((q < r) ⊎ (r < q)) → (q < r) ⊎ ((Tokens q ≡ Tokens r) ⊎ (r < q))
    by (inl e) = inr (inl (ap Tokens e))
    by (inr (inl l)) = inl l
    by (inr (inr l)) = inr (inr l)
before_or_not (Effect t) (Effect u) = by (cases_order t u)
  where
    by : (t ≡ u) ⊎ ((t < u) ⊎ (u < t)) → (t < u) ⊎ ((Effect t ≡ Effect u) ⊎ (u < t))
    by (inl e) = inr (inl (ap Effect e))
    by (inr (inl l)) = inl l
    by (inr (inr l)) = inr (inr l)
before_or_not (Tokens q) (Effect t) = inl tt
before_or_not (Effect t) (Tokens q) = inr (inr tt)

pub before-trans : (u v w : Variable) → IsVariableBefore u v → IsVariableBefore v w → IsVariableBefore u w
before-trans (Tokens p) (Tokens q) (Tokens r) h k = omega arith
before-trans (Tokens p) (Tokens q) (Effect t) h k = tt
before-trans (Tokens p) (Effect t) (Effect u) h k = tt
before-trans (Tokens p) (Effect t) (Tokens r) h k = absurd k
before-trans (Effect t) (Tokens q) w h k = absurd h
before-trans (Effect t) (Effect u) (Tokens r) h k = absurd k
before-trans (Effect t) (Effect u) (Effect s) h k = omega arith

pub not_before_itself : (v : Variable) → IsVariableBefore v v → ⊥
not_before_itself (Tokens q) h = omega arith
not_before_itself (Effect t) h = omega arith
