-- There is one system with given parts.
use Rattle.std.proofs.Common.{◌≡◌, ℕ, List, refl, sym, ◌∙◌}
use Rattle.rg_theory.specs.declared.Arc.{Arc}
use Rattle.rg_theory.specs.System.{System}
use Rattle.rg_lts.proofs.OrderedArcs.{has_from, contains_from, ordered_from, one_order, sorted_of, pairs_from}
use Rattle.rg_line_formats.specs.Parts.{IsSystemWith}

pub some_with : (states labels : List (List ℕ)) (arcs : List Arc) (initial : ℕ) → (lts : System) × IsSystemWith states labels arcs initial lts
some_with states labels arcs initial =
    let sorted = sorted_of arcs in (
      record { state_names = states; label_names = labels; arcs = sorted.0; initial = initial },
      record {
        state_names = refl;
        label_names = refl;
        initial = refl;
        members = λ a. (
          λ c. contains_from arcs a (sorted.1.to a (has_from sorted.0 a c)),
          λ c. contains_from sorted.0 a (sorted.1.from a (has_from arcs a c)),
        );
        in_order = pairs_from sorted.0 sorted.1.ordered;
      },
    )

pub one_with : (states labels : List (List ℕ)) (arcs : List Arc) (initial : ℕ) (a b : System)
    → IsSystemWith states labels arcs initial a → IsSystemWith states labels arcs initial b → a ≡ b
one_with states labels arcs initial a b x y =
    let names = x.state_names ∙ sym y.state_names in
    let steps = x.label_names ∙ sym y.label_names in
    let starts = x.initial ∙ sym y.initial in
    let same = one_order a.arcs b.arcs (ordered_from a.arcs x.in_order) (ordered_from b.arcs y.in_order)
    (λ c h. has_from b.arcs c ((y.members c).1 ((x.members c).0 (contains_from a.arcs c h))))
    (λ c h. has_from a.arcs c ((x.members c).1 ((y.members c).0 (contains_from b.arcs c h)))) in
    λ i. record { state_names = names i; label_names = steps i; arcs = same i; initial = starts i }
