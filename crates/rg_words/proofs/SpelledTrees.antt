-- The tree of the words of a text without a fault is a well formed system.
use Rattle.std.proofs.Common.{◌≡◌, ◌≢◌, ⊎_elim, ℕ, ◌<◌, ◌≤◌, List, [], ◌∷◌, length, get_or, map, All, AllPairs, Contains, decimal, sym, ap, subst, ◌∙◌, arith}
use Rattle.std.specs.List.{AllByRecursion}
use Rattle.std.specs.Str.{bytes_eq}
use Rattle.std.proofs.lemmas.List.{length-map, get_or-map}
use Rattle.std.proofs.lemmas.List.Elements.{All-from_recursion, All-contains, Contains-get_or}
use Rattle.std.proofs.lemmas.List.FromFn.{get_or-map-range_with_len}
use Rattle.std.proofs.lemmas.Option.{slice_get_within, get_or_from_slice_get}
use Rattle.std.proofs.lemmas.Slice.Eq.{bytes_eq-Decides}
use Rattle.rg_text.specs.Byte.{IsName}
use Rattle.rg_theory.specs.Limits.{most_states}
use Rattle.rg_theory.specs.declared.Arc.{Arc}
use Rattle.rg_theory.specs.System.{System, IsArcInRange, IsArcBefore}
use Rattle.rg_theory.proofs.Lists.{there_at, map_from}
use Rattle.rg_lts.specs.WellFormed.{AreNames, IsWellFormed}
use Rattle.rg_lts.proofs.OrderedArcs.{before_itself}
use Rattle.rg_line_formats.specs.First.{number_of}
use Rattle.rg_line_formats.specs.Numbered.{numbered}
use Rattle.rg_line_formats.proofs.Things.{number_at, met_from, pigeons}
use Rattle.rg_words.specs.declared.fault.WordFault.TheVariants.{NoMemory}
use Rattle.rg_words.specs.Contents.{Word, Use, uses, prefix, same_word, prefixes, label_names, state_names, arc_of}
use Rattle.rg_words.specs.Spells.{IsTreeOf, Spells, FirstFault}
use Rattle.rg_words.proofs.Growing.{same_word-Decides, labels_differ, prefix_met, label_met, empty_first, last_same}
use Rattle.rg_words.proofs.Steps.{same_name, state_is_name, states_long}
use Rattle.rg_words.proofs.SpelledUses.{IsSome, IsKnown, IsWhole, AreFew, uses_some, uses_known, uses_whole, uses_few, memory_later, label_is_name}

-- the names of states
states_named : (n : ℕ) → n ≤ most_states → AreNames (state_names n)
states_named n few = record { each = each; differ = differ }
  where
    long : length (state_names n) ≡ n
    long = states_long n

    name_at : (k : ℕ) (d : List ℕ) → k < n → get_or (state_names n) k d ≡ 115 ∷ decimal k
    name_at k d lt = get_or-map-range_with_len (λ j. 115 ∷ decimal j) 0 n k k d lt (omega arith)

    each : All IsName (state_names n)
    each k d lt = let less : k < n = omega (arith, lt, long) in subst IsName (sym (name_at k d less)) (state_is_name k (omega (arith, less, few)))

    differ : AllPairs (λ a b. a ≢ b) (state_names n)
    differ i j d less lt same =
        let right : j < n = omega (arith, lt, long) in
        let one = same_name i j (omega (arith, less, right, few)) (omega (arith, right, few)) (sym (name_at i d (omega (arith, less, right))) ∙ same ∙ name_at j d right) in
        omega (arith, one, less)

-- the names of labels
labels_named : (all : List Use) → AllByRecursion IsSome all → AllByRecursion IsWhole all → AreNames (label_names all)
labels_named all some whole = record { each = each; differ = labels_differ all }
  where
    name_of : (name : List ℕ) → Contains (label_names all) name → IsName name
    name_of name has =
        let met = ⊎_elim (λ none. absurd (omega (arith, none.1))) (λ there. there) (met_from bytes_eq bytes_eq-Decides [] (map (λ (u : Use). u.label) all) name has) in
        let use_of = map_from (λ (u : Use). u.label) all name met in
        subst IsName use_of.2
        (label_is_name use_of.0 (All-contains IsSome all use_of.0 (All-from_recursion IsSome all some) use_of.1)
        (All-contains IsWhole all use_of.0 (All-from_recursion IsWhole all whole) use_of.1))

    each : All IsName (label_names all)
    each k d lt = name_of (get_or (label_names all) k d) (Contains-get_or (label_names all) k d lt)

module _ (all : List Use) (lts : System) (tree : IsTreeOf all lts) (known : AllByRecursion (IsKnown (prefixes all)) all) where
  word_number : (w : Word) → Contains (prefixes all) w → number_of same_word (prefixes all) w < length (prefixes all)
  word_number w has = slice_get_within (prefixes all) _ w (number_at same_word same_word-Decides (prefixes all) w has)

  label_number : (name : List ℕ) → Contains (label_names all) name → number_of bytes_eq (label_names all) name < length (label_names all)
  label_number name has = slice_get_within (label_names all) _ name (number_at bytes_eq bytes_eq-Decides (label_names all) name has)

  -- the use that an arc stands for
  use_of : (a : Arc) → Contains lts.arcs a → (u : Use) × Contains all u × (arc_of (prefixes all) (label_names all) u ≡ a)
  use_of a has = map_from (arc_of (prefixes all) (label_names all)) all a ((tree.members a).0 has)

  before_there : (u : Use) → Contains all u → Contains (prefixes all) u.before
  before_there u has = All-contains (IsKnown (prefixes all)) all u (All-from_recursion (IsKnown (prefixes all)) all known) has

  long_states : length lts.state_names ≡ length (prefixes all)
  long_states = ap length tree.state_names ∙ states_long (length (prefixes all))

  arc_in_range : (a : Arc) → Contains lts.arcs a → IsArcInRange lts a
  arc_in_range a has =
      let u = use_of a has in
      let from = word_number u.0.before (before_there u.0 u.1) in
      let label = label_number u.0.label (label_met all u.0 u.1) in
      let to = word_number (prefix u.0) (prefix_met all u.0 u.1) in
      let states = long_states in
      let labels = ap length tree.label_names in
      subst (IsArcInRange lts) u.2 (omega (arith, from, states), omega (arith, label, labels), omega (arith, to, states))

  within : All (IsArcInRange lts) lts.arcs
  within k a lt = arc_in_range (get_or lts.arcs k a) (Contains-get_or lts.arcs k a lt)

  -- an arc is known by the prefix that it leads to
  abbrev word_to : Arc → Word
  word_to a = get_or (prefixes all) a.to []

  word_is : (u : Use) → Contains all u → word_to (arc_of (prefixes all) (label_names all) u) ≡ prefix u
  word_is u has =
      get_or_from_slice_get (prefixes all) (number_of same_word (prefixes all) (prefix u)) (prefix u) []
      (number_at same_word same_word-Decides (prefixes all) (prefix u) (prefix_met all u has))

  one_arc : (a b : Arc) → Contains lts.arcs a → Contains lts.arcs b → word_to a ≡ word_to b → a ≡ b
  one_arc a b has has' same =
      let u = use_of a has in
      let v = use_of b has' in
      let words : prefix u.0 ≡ prefix v.0 = sym (word_is u.0 u.1) ∙ ap word_to u.2 ∙ same ∙ ap word_to (sym v.2) ∙ word_is v.0 v.1 in
      let parts = last_same u.0.before v.0.before u.0.label v.0.label words in
      let arcs : arc_of (prefixes all) (label_names all) u.0 ≡ arc_of (prefixes all) (label_names all) v.0 =
      λ i. record {
        from = number_of same_word (prefixes all) (parts.0 i);
        label = number_of bytes_eq (label_names all) (parts.1 i);
        to = number_of same_word (prefixes all) (words i);
      } in
      sym u.2 ∙ arcs ∙ v.2

  nothing : Arc
  nothing = record { from = 0; label = 0; to = 0 }

  words_differ : AllPairs (λ a b. a ≢ b) (map word_to lts.arcs)
  words_differ i j d less lt same =
      let long = length-map lts.arcs word_to in
      let right : j < length lts.arcs = omega (arith, lt, long) in
      let left : i < length lts.arcs = omega (arith, less, right) in
      let first = get_or lts.arcs i nothing in
      let second = get_or lts.arcs j nothing in
      let one = one_arc first second (Contains-get_or lts.arcs i nothing left) (Contains-get_or lts.arcs j nothing right)
      (sym (get_or-map word_to lts.arcs i nothing d left) ∙ same ∙ get_or-map word_to lts.arcs j nothing d right) in
      before_itself second (subst (λ a. IsArcBefore a second) one (tree.in_order i j nothing less right))

  words_there : (w : Word) → Contains (map word_to lts.arcs) w → Contains (prefixes all) w
  words_there w has =
      let a = map_from word_to lts.arcs w has in
      let u = use_of a.0 a.1 in
      subst (Contains (prefixes all)) (sym (word_is u.0 u.1) ∙ ap word_to u.2 ∙ a.2) (prefix_met all u.0 u.1)

  few_arcs : length lts.arcs ≤ length (prefixes all)
  few_arcs = let le = pigeons (map word_to lts.arcs) (prefixes all) words_differ words_there in omega (arith, le, length-map lts.arcs word_to)

  pub tree_formed : AllByRecursion IsSome all → AllByRecursion IsWhole all → AreFew all → IsWellFormed lts
  tree_formed some whole few =
      let states = long_states in
      let root = slice_get_within (prefixes all) 0 [] (empty_first all) in
      let less = few_arcs in
      record {
        in_range = record { initial = omega (arith, tree.initial, root, states); arcs = within };
        state_names = subst AreNames (sym tree.state_names) (states_named (length (prefixes all)) few.states);
        label_names = subst AreNames (sym tree.label_names) (labels_named all some whole);
        arc_order = tree.in_order;
        few_states = omega (arith, states, few.states);
        few_labels = omega (arith, ap length tree.label_names, few.labels);
        few_arcs = omega (arith, less, few.states);
      }

pub spelled_formed : (bytes : List ℕ) (lts : System) → Spells bytes lts → IsWellFormed lts
spelled_formed bytes lts spells =
    let all = uses bytes in
    let empty = there_at (prefixes all) 0 [] (empty_first all) in
    tree_formed all lts spells.tree (uses_known (prefixes all) (numbered bytes) empty (λ u has. prefix_met all u has))
    (uses_some (numbered bytes)) (uses_whole [] all spells.none)
    (uses_few [] all (record { labels = omega arith; states = omega arith }) spells.none)

pub memory_is_no_fault : (bytes : List ℕ) → FirstFault bytes NoMemory → ⊥
memory_is_no_fault bytes first = memory_later [] (uses bytes) first
