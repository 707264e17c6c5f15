-- The system of a text without a fault is well formed.
use Rattle.std.proofs.Common.{◌≡◌, ⊎_elim, ℕ, ◌<◌, ◌≤◌, Bool, true, false, refl, sym, ap, subst, arith}
use Rattle.std.proofs.Common.{List, [], ◌∷◌, ◌++◌, length, get_or, map, All, Contains}
use Rattle.std.specs.List.{AllByRecursion, flat_map, list_any}
use Rattle.std.specs.Str.{bytes_eq}
use Rattle.std.proofs.lemmas.List.Elements.{All-from_recursion, All-contains, Contains-get_or}
use Rattle.std.proofs.lemmas.Option.{slice_get_within}
use Rattle.std.proofs.lemmas.Slice.Eq.{bytes_eq-Decides}
use Rattle.rg_text.specs.Byte.{IsName}
use Rattle.rg_text.specs.Faults.{faults_after, if_not, AreNone}
use Rattle.rg_theory.specs.Limits.{most_states}
use Rattle.rg_theory.specs.declared.Arc.{Arc}
use Rattle.rg_theory.specs.System.{System, IsArcInRange}
use Rattle.rg_theory.proofs.Lists.{map_from}
use Rattle.rg_lts.specs.WellFormed.{AreNames, IsWellFormed}
use Rattle.rg_lts.proofs.OrderedArcs.{has_from, contains_from, ordered_from}
use Rattle.rg_line_formats.specs.First.{firsts, number_of, same_arc}
use Rattle.rg_line_formats.specs.Numbered.{Line}
use Rattle.rg_line_formats.proofs.Things.{met_from, firsts_differ, there_any}
use Rattle.rg_line_formats.proofs.Numbers.{number_at, met}
use Rattle.rg_line_formats.proofs.Counted.{how_many}
use Rattle.rg_genet.specs.declared.fault.GraphFault.TheVariants.{NoEnd, UnknownState}
use Rattle.rg_genet.specs.Contents.{Triple, heading, body, is_closed, heading_fault, line_fault, last_faults, triples, markings, ends, state_names, label_names, arc_of, arcs_of}
use Rattle.rg_genet.specs.Reading.{AreFew}
use Rattle.rg_genet.specs.Spells.{or_alone, IsGraphOf, Spells}
use Rattle.rg_genet.proofs.Meaning.{none_both}
use Rattle.rg_genet.proofs.Triples.{end_there, label_there}
use Rattle.rg_genet.proofs.Whole.{same_arcs}
use Rattle.rg_genet.proofs.SpelledLines.{IsNamedTriple, IsNamedLine, triples_named, markings_named, few_lines}

-- names on arcs
ends_named : (arcs : List Triple) → AllByRecursion IsNamedTriple arcs → AllByRecursion IsName (flat_map ends arcs)
ends_named [] named = tt
ends_named (t ∷ arcs) named = (named.0.from, (named.0.to, ends_named arcs named.1))

labels_of : (arcs : List Triple) → AllByRecursion IsNamedTriple arcs → AllByRecursion IsName (map (λ (t : Triple). t.label) arcs)
labels_of [] named = tt
labels_of (t ∷ arcs) named = (named.0.label, labels_of arcs named.1)

firsts_named : (names : List (List ℕ)) → AllByRecursion IsName names → AreNames (firsts bytes_eq names)
firsts_named names named = record { each = each; differ = firsts_differ bytes_eq bytes_eq-Decides names }
  where
    each : All IsName (firsts bytes_eq names)
    each k d lt =
        let name = get_or (firsts bytes_eq names) k d in
        let has = ⊎_elim (λ none. absurd (omega (arith, none.1))) (λ there. there)
        (met_from bytes_eq bytes_eq-Decides [] names name (Contains-get_or (firsts bytes_eq names) k d lt)) in
        All-contains IsName names name (All-from_recursion IsName names named) has

-- the marked state alone, where there is no other one
alone_named : (names : List (List ℕ)) (marked : List ℕ) → AreNames names → IsName marked → AreNames (or_alone names marked)
alone_named [] marked are is = record {
  each = All-from_recursion IsName (marked ∷ []) (is, tt);
  differ = λ i j d less lt. absurd (omega (arith, less, lt));
}
alone_named (s ∷ names) marked are is = are

alone_few : (names : List (List ℕ)) (marked : List ℕ) → length names ≤ most_states → length (or_alone names marked) ≤ most_states
alone_few [] marked few = omega arith
alone_few (s ∷ names) marked few = few

alone_has : (names : List (List ℕ)) (marked name : List ℕ) → Contains names name → Contains (or_alone names marked) name
alone_has [] marked name has = absurd (omega (arith, has.1))
alone_has (s ∷ names) marked name has = has

marked_there : (names : List (List ℕ)) (marked : Line) → AreNone (last_faults names (marked ∷ [])) → Contains (or_alone names marked.1) marked.1
marked_there [] marked none = (0, omega arith, refl)
marked_there (s ∷ names) marked none = there_any bytes_eq bytes_eq-Decides (s ∷ names) marked.1 (by (list_any (bytes_eq marked.1) (s ∷ names)) refl none)
  where
    by : (b : Bool) → list_any (bytes_eq marked.1) (s ∷ names) ≡ b → AreNone (if_not b (UnknownState marked.0)) → list_any (bytes_eq marked.1) (s ∷ names) ≡ true
    by true e none = e
    by false e none = absurd none

module _ (arcs : List Triple) (marked : List ℕ) (lts : System) (graph : IsGraphOf arcs marked lts) where
  abbrev states : List (List ℕ)
  states = or_alone (state_names arcs) marked

  number_in : (names : List (List ℕ)) (name : List ℕ) → Contains names name → number_of bytes_eq names name < length names
  number_in names name has = slice_get_within names (number_of bytes_eq names name) name (number_at names name has)

  arc_in_range : (a : Arc) → Contains lts.arcs a → IsArcInRange lts a
  arc_in_range a has =
      let t = map_from (arc_of states (label_names arcs)) arcs a ((graph.members a).0 has) in
      let there = end_there t.0 arcs t.1 in
      let from = number_in states t.0.from (alone_has (state_names arcs) marked t.0.from (met [] (flat_map ends arcs) t.0.from there.0)) in
      let to = number_in states t.0.to (alone_has (state_names arcs) marked t.0.to (met [] (flat_map ends arcs) t.0.to there.1)) in
      let label = number_in (label_names arcs) t.0.label (met [] (map (λ (u : Triple). u.label) arcs) t.0.label (label_there t.0 arcs t.1)) in
      let many_states = ap length graph.state_names in
      let many_labels = ap length graph.label_names in
      subst (IsArcInRange lts) t.2 (omega (arith, from, many_states), omega (arith, label, many_labels), omega (arith, to, many_states))

  within : All (IsArcInRange lts) lts.arcs
  within k a lt = arc_in_range (get_or lts.arcs k a) (Contains-get_or lts.arcs k a lt)

  arcs_many : length lts.arcs ≡ length (firsts same_arc (arcs_of arcs))
  arcs_many =
      let same = same_arcs arcs marked in
      how_many lts.arcs (arcs_of arcs) (ordered_from lts.arcs graph.in_order)
      (λ c has. has_from (arcs_of arcs) c (subst (λ l. Contains l c) same ((graph.members c).0 (contains_from lts.arcs c has))))
      (λ c has. has_from lts.arcs c ((graph.members c).1 (subst (λ l. Contains l c) (sym same) (contains_from (arcs_of arcs) c has))))

  pub graph_formed : AllByRecursion IsNamedTriple arcs → AreFew arcs → IsName marked → Contains states marked → IsWellFormed lts
  graph_formed named few is there =
      let start = number_in states marked there in
      let many_states = ap length graph.state_names in
      let many_labels = ap length graph.label_names in
      let many_arcs = arcs_many in
      record {
        in_range = record { initial = omega (arith, graph.initial, start, many_states); arcs = within };
        state_names = subst AreNames (sym graph.state_names) (alone_named (state_names arcs) marked (firsts_named (flat_map ends arcs) (ends_named arcs named)) is);
        label_names = subst AreNames (sym graph.label_names) (firsts_named (map (λ (t : Triple). t.label) arcs) (labels_of arcs named));
        arc_order = graph.in_order;
        few_states = omega (arith, many_states, alone_few (state_names arcs) marked few.states);
        few_labels = omega (arith, many_labels, few.labels);
        few_arcs = omega (arith, many_arcs, few.arcs);
      }

pub spelled_formed : (bytes : List ℕ) (lts : System) → Spells bytes lts → IsWellFormed lts
spelled_formed bytes lts spells =
    let lines = body bytes in
    let first = map heading_fault (heading bytes) in
    let second = faults_after line_fault [] lines in
    let third = if_not (is_closed bytes) NoEnd in
    let last = last_faults (state_names (triples lines)) (markings lines) in
    let upper = none_both (first ++ second ++ third) last spells.none in
    let middle = none_both (first ++ second) third upper.0 in
    let right = (none_both first second middle.0).1 in
    let named = subst (AllByRecursion IsNamedLine) spells.only (markings_named [] lines right) in
    let none = subst (λ l. AreNone (last_faults (state_names (triples lines)) l)) spells.only upper.1 in
    graph_formed (triples lines) spells.marking.1 lts spells.system (triples_named [] lines right)
    (few_lines [] lines (record { states = omega arith; labels = omega arith; arcs = omega arith }) right)
    named.0 (marked_there (state_names (triples lines)) spells.marking none)
