-- An end, and a status, of a result, which is one.
use Rattle.std.proofs.Common.{◌≡◌, ap, sym, subst, ◌∙◌}
use Rattle.rg_top.specs.End.{End, HasStatus}
use Rattle.rg_top.specs.declared.status.Status.{Status}

-- the end is that of a result that holds, and the status is that of such an end
abbrev pub IsEndOf : {A : Type 0} → (A → Type 0) → (A → End) → End → Type 0
IsEndOf {A} Tells end_of end = (told : A) × Tells told × (end ≡ end_of told)

abbrev pub IsStatusOf : {A : Type 0} → (A → Type 0) → (A → End) → Status → Type 0
IsStatusOf {A} Tells end_of status = (told : A) × Tells told × HasStatus (end_of told) status

-- one result holds
abbrev pub TellsOne : {A : Type 0} → (A → Type 0) → Type 0
TellsOne {A} Tells = (a b : A) → Tells a → Tells b → a ≡ b

pub one_end : {A : Type 0} (Tells : A → Type 0) (end_of : A → End) → TellsOne Tells → (e e' : End) → IsEndOf Tells end_of e → IsEndOf Tells end_of e' → e ≡ e'
one_end Tells end_of one e e' (a, tells, is) (b, tells', is') = is ∙ ap end_of (one a b tells tells') ∙ sym is'

pub due_end : {A : Type 0} (Tells : A → Type 0) (end_of : A → End) → TellsOne Tells → (e : End) (s : Status) → IsEndOf Tells end_of e → IsStatusOf Tells end_of s → HasStatus e s
due_end Tells end_of one e s (a, tells, is) (b, tells', has) = subst (λ x. HasStatus x s) (ap end_of (one b a tells' tells) ∙ sym is) has
