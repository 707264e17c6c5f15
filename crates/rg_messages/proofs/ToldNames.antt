-- The states and labels of what is told of two systems are theirs.
use Rattle.std.proofs.Common.{ℕ, ◌<◌, List, All, get_or}
use Rattle.std.proofs.lemmas.List.Elements.{All-from_get_or}
use Rattle.std.proofs.lemmas.Option.{slice_get_within, get_or_from_slice_get, slice_get-get_or}
use Rattle.rg_theory.specs.System.{System, states, labels, IsInRange}
use Rattle.rg_theory.proofs.Arcs.{arc_in_range}
use Rattle.rg_iso.specs.Isomorphic.{IsIsomorphismTo}
use Rattle.rg_iso.specs.Words.{Difference, DiffersBy, first_alone, second_alone, targets}
use Rattle.rg_iso.specs.Compared.{Told, Compares, Compares.same as by_map, Compares.first_label as by_first, Compares.second_label as by_second, Compares.difference as by_difference}
use Rattle.rg_messages.specs.ComparedTexts.{HasDifferenceNames, HasToldNames}

difference_names : (a b : System) (w : List ℕ) (d : Difference) → IsInRange a → IsInRange b → DiffersBy a b w d → HasDifferenceNames a b d
difference_names a b _ _ fine fine' (first_alone ts s q t u s' met name x none) = let range = arc_in_range a fine s t s' x in (range.0, range.1)
difference_names a b _ _ fine fine' (second_alone ts s q t u q' met name none y) = let range = arc_in_range b fine' q u q' y in (range.0, range.1)
difference_names a b _ _ fine fine' (targets ts us s q t u s' q' r p met name x y before other odds) = let range = arc_in_range a fine s t s' x in (range.0, range.1)

-- a map gives states of the second system
mapped : (a b : System) (map : List ℕ) → IsIsomorphismTo a b map → All (λ q. q < states b) map
mapped a b map iso =
    All-from_get_or (λ q. q < states b) map 0 (λ i lt. (iso.onto (get_or map i 0)).0 (i, lt, get_or_from_slice_get map i (get_or map i 0) (get_or map i 0) (slice_get-get_or map i 0 lt)))

pub told_names : (a b : System) (told : Told) → IsInRange a → IsInRange b → Compares a b told → HasToldNames a b told
told_names a b _ fine fine' (by_map map labels iso) = (iso.one_each, mapped a b map iso)
told_names a b _ fine fine' (by_first t alone) = slice_get_within a.label_names t alone.name alone.at
told_names a b _ fine fine' (by_second t has alone) = slice_get_within b.label_names t alone.name alone.at
told_names a b _ fine fine' (by_difference d labels first) = difference_names a b first.word d fine fine' first.differs
