-- One system of what is declared.
use Rattle.std.proofs.Common.{◌≡◌, slice_get, Any, sym, ap, ◌∙◌}
use Rattle.std.proofs.lemmas.Option.{same_Some}
use Rattle.rg_theory.specs.declared.Arc.{Arc}
use Rattle.rg_theory.specs.System.{System}
use Rattle.rg_lts.proofs.OrderedArcs.{has_from, contains_from, ordered_from, one_order}
use Rattle.rg_apt.specs.Contents.{Declared, HasNames, IsSystemOf}

pub one_system : (d : Declared) (a b : System) → IsSystemOf d a → IsSystemOf d b → a ≡ b
one_system d a b x y =
    let states = x.state_names ∙ sym y.state_names in
    let labels = x.label_names ∙ sym y.label_names in
    let initials = same_Some a.initial b.initial (sym x.initial ∙ y.initial) in
    let arcs = one_order a.arcs b.arcs (ordered_from a.arcs x.in_order) (ordered_from b.arcs y.in_order)
    (λ c h. has_from b.arcs c ((y.arcs c).1 (renamed a b c states labels ((x.arcs c).0 (contains_from a.arcs c h)))))
    (λ c h. has_from a.arcs c ((x.arcs c).1 (renamed b a c (sym states) (sym labels) ((y.arcs c).0 (contains_from b.arcs c h))))) in
    λ i. record { state_names = states i; label_names = labels i; arcs = arcs i; initial = initials i }
  where
    renamed : (a b : System) (c : Arc) → a.state_names ≡ b.state_names → a.label_names ≡ b.label_names → Any (HasNames a c) d.arcs → Any (HasNames b c) d.arcs
    renamed a b c states labels any = (
      any.0,
      any.1,
      any.2,
      any.3,
      (ap (λ l. slice_get l c.from) (sym states) ∙ any.4.0, ap (λ l. slice_get l c.label) (sym labels) ∙ any.4.1, ap (λ l. slice_get l c.to) (sym states) ∙ any.4.2),
    )
