use Rattle.std.proofs.Common.{◌≡◌, ℕ, List, inl, inr, Err, refl, ap, subst}
use Rattle.std.proofs.lemmas.Result.{err_from_is_err_and}
use Rattle.rg_lts.specs.Draft.{IsArcNamed}
use Rattle.rg_lts.proofs.Drafts.{named_there, over_limit}
use Rattle.rg_apt.specs.Built.{IsUnknown, IsArcOfNames}
use Rattle.rg_apt.specs.View.{arc_in}
use Rattle.rg_apt.proofs.building.add_arc.Goals as goal

-- the same three names
moved : (P : List ℕ → List ℕ → List ℕ → Type 0) (a b c a' b' c' : List ℕ) → a ≡ a' → b ≡ b' → c ≡ c' → P a b c → P a' b' c'
moved P a b c a' b' c' p q r is = subst (λ x. P x b' c') p (subst (λ x. P a x c') q (subst (λ x. P a b x) r is))

pub returns-in_err-known-clause-fault : goal.returns-in_err-known-clause-fault
returns-in_err-known-clause-fault c =
    let p = err_from_is_err_and c.from_residual.result c.from_residual.ensures.1 in
    rw (p.1, p.2)
    (λ memory. inl (moved (λ from label to. IsUnknown c.args.builder.now from label to c.args.arc.from.from c.args.arc.label.from c.args.arc.to.from c.in_err-known.field-0.0) _ _ _ _ _ _
    c.name_of-from.ensures.value c.name_of-label.ensures.value c.name_of-to.ensures.value c.in_err-known.ensures.fault))

pub returns-in-Err-TooManyArcs-clause-fault : goal.returns-in-Err-TooManyArcs-clause-fault
returns-in-Err-TooManyArcs-clause-fault c = λ real.
    let d = c.args.builder.now in
    let x = arc_in c.args.bytes.now c.args.arc in
    let named : IsArcOfNames d x c.in_ok-known.known = moved (λ from label to. IsArcNamed d from label to c.in_ok-known.known) _ _ _ _ _ _
    c.name_of-from.ensures.value c.name_of-label.ensures.value c.name_of-to.ensures.value c.in_ok-known.ensures.ok in
    let says = c.in-Err-TooManyArcs.ensures in
    inr (
      refl,
      (over_limit d x.from.text x.label.text x.to.text c.in_ok-known.known says.well_formed named).0
          (says.too_many.0 (ap Err c.in-Err-TooManyArcs.field-0-is)),
      says.well_formed,
    )

pub returns-in-Err-NoMemory-clause-memory : goal.returns-in-Err-NoMemory-clause-memory
returns-in-Err-NoMemory-clause-memory c = λ memory.
    let d = c.args.builder.now in
    let x = arc_in c.args.bytes.now c.args.arc in
    named_there d x.from.text x.label.text x.to.text c.in_ok-known.known
    (moved (λ from label to. IsArcNamed d from label to c.in_ok-known.known) _ _ _ _ _ _
    c.name_of-from.ensures.value c.name_of-label.ensures.value c.name_of-to.ensures.value c.in_ok-known.ensures.ok)
