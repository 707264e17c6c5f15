-- What is printed is read again as a system with the same names.
use Rattle.std.proofs.Common.{◌≡◌, ◌⊎◌, inl, inr, ⊎_elim, ℕ, zero, suc, ◌+◌, ◌<◌, ◌≤◌, ◌==◌, Bool, true, ◌||◌, List, [], ◌∷◌, ◌++◌, length, map, All, Contains, refl, sym, ap, subst, ◌∙◌, arith}
use Rattle.std.specs.List.{after_first, before_first, enumerate_from, flat_map, list_any}
use Rattle.std.specs.Str.{bytes_eq}
use Rattle.std.proofs.lemmas.Bool.{or_cases, eqb-true}
use Rattle.std.proofs.lemmas.List.{length-append, length-map, get_or_default}
use Rattle.std.proofs.lemmas.List.Elements.{Contains-append_left}
use Rattle.std.proofs.lemmas.Option.{get_or_from_slice_get}
use Rattle.std.proofs.lemmas.Slice.Eq.{bytes_eq-Decides}
use Rattle.rg_theory.specs.declared.Arc.{Arc}
use Rattle.rg_theory.specs.System.{System, states, IsArcInRange}
use Rattle.rg_text.specs.Byte.{IsName}
use Rattle.rg_text.specs.Faults.{faults_after, if_not, AreNone}
use Rattle.rg_text.proofs.Left.{none_joined}
use Rattle.rg_theory.proofs.Lists.{there_later, map_there, map_from}
use Rattle.rg_lts.specs.WellFormed.{IsWellFormed}
use Rattle.rg_line_formats.specs.First.{firsts, number_of, same_arc}
use Rattle.rg_line_formats.specs.Numbered.{Line, numbered}
use Rattle.rg_line_formats.proofs.Things.{pigeons, firsts_short, firsts_differ, met_from}
use Rattle.rg_line_formats.proofs.Present.{any_there}
use Rattle.rg_line_formats.proofs.Numbers.{met, number_at}
use Rattle.rg_genet.specs.declared.fault.GraphFault.TheVariants.{NoEnd, UnknownState}
use Rattle.rg_genet.specs.Contents.{Triple, opens, body, closes, line_fault, last_faults, ends, triples, markings, state_names, label_names, arc_of, arcs_of}
use Rattle.rg_genet.specs.Spells.{or_alone, IsGraphOf, Spells}
use Rattle.rg_genet.specs.Loss.{is_on_arc, IsLabelKept, IsStateKept}
use Rattle.rg_genet.specs.Text.{name_at, names_of, graph_text}
use Rattle.rg_genet.specs.Same.{IsSameByNames}
use Rattle.rg_genet.specs.Reading.{AreFew, rest_faults}
use Rattle.rg_genet.proofs.Meaning.{graph_exists}
use Rattle.rg_genet.proofs.Triples.{end_there, label_there}
use Rattle.rg_genet.proofs.Whole.{all_none}
use Rattle.rg_genet.proofs.Tokens.{IsNamed, AllNamed, named_of}
use Rattle.rg_genet.proofs.PrintedLines.{AllArcsNamed, tail_lines, body_lines, body_is, closed_is, triples_is, markings_is, right_lines, arcs_named, initial_name, lines_is, head_is}

ends_from : (arcs : List Triple) (n : List ℕ) → Contains (flat_map ends arcs) n → (t : Triple) × Contains arcs t × ((t.from ≡ n) ⊎ (t.to ≡ n))
ends_from [] n (k, lt, e) = absurd (omega arith)
ends_from (t ∷ arcs) n (zero, lt, e) = (t, (zero, omega arith, refl), inl e)
ends_from (t ∷ arcs) n (suc zero, lt, e) = (t, (zero, omega arith, refl), inr e)
ends_from (t ∷ arcs) n (suc (suc k), lt, e) =
    let r = ends_from arcs n (k, omega arith, e) in (r.0, there_later t arcs r.0 r.1, r.2)

-- the name at a number that is in range
name_there : (names : List (List ℕ)) (i : ℕ) → i < length names → Contains names (name_at names i)
name_there names i lt = (i, lt, get_or_default names i (name_at names i) [] lt)

name_is_name : (names : List (List ℕ)) (i : ℕ) → All IsName names → i < length names → IsNamed (name_at names i)
name_is_name names i all lt = named_of (name_at names i) (all i [] lt)

all_named : (names : List (List ℕ)) → All IsName names → AllNamed names
all_named [] all = tt
all_named (name ∷ names) all = (named_of name (all zero [] (omega arith)), all_named names (λ k d lt. all (suc k) d (omega arith)))

any_where : (p : Arc → Bool) (arcs : List Arc) → list_any p arcs ≡ true → (a : Arc) × Contains arcs a × (p a ≡ true)
any_where p [] e = absurd cc
any_where p (a ∷ arcs) e = by (or_cases (p a) (list_any p arcs) e) (any_where p arcs)
  where
    by : (p a ≡ true) ⊎ (list_any p arcs ≡ true) → (list_any p arcs ≡ true → (b : Arc) × Contains arcs b × (p b ≡ true)) → (b : Arc) × Contains (a ∷ arcs) b × (p b ≡ true)
    by (inl here) go = (a, (zero, omega arith, refl), here)
    by (inr more) go = let r = go more in (r.0, there_later a arcs r.0 r.1, r.2)

or_there : (names : List (List ℕ)) (marked n : List ℕ) → Contains names n → Contains (or_alone names marked) n
or_there [] marked n (k, lt, e) = absurd (omega arith)
or_there (name ∷ names) marked n has = has

or_from : (names : List (List ℕ)) (marked n : List ℕ) → Contains (or_alone names marked) n → Contains names n ⊎ (marked ≡ n)
or_from [] marked n (zero, lt, e) = inr e
or_from [] marked n (suc k, lt, e) = absurd (omega arith)
or_from (name ∷ names) marked n has = inl has

-- the system and its names
module _ (lts : System) (formed : IsWellFormed lts) where
  in_range : (a : Arc) → Contains lts.arcs a → IsArcInRange lts a
  in_range a (k, lt, e) = subst (IsArcInRange lts) e (formed.in_range.arcs k a lt)

  -- an arc's names, and the arc of names
  of_arc : (t : Triple) → Contains (arcs_named lts) t → (a : Arc) × Contains lts.arcs a × (names_of lts a ≡ t)
  of_arc t has = map_from (names_of lts) lts.arcs t has

  from_there : (t : Triple) → Contains (arcs_named lts) t → Contains lts.state_names t.from
  from_there t has = let a = of_arc t has in
      subst (λ (u : Triple). Contains lts.state_names u.from) a.2 (name_there lts.state_names a.0.from (in_range a.0 a.1).0)

  label_is_there : (t : Triple) → Contains (arcs_named lts) t → Contains lts.label_names t.label
  label_is_there t has = let a = of_arc t has in
      subst (λ (u : Triple). Contains lts.label_names u.label) a.2 (name_there lts.label_names a.0.label (in_range a.0 a.1).1)

  to_there : (t : Triple) → Contains (arcs_named lts) t → Contains lts.state_names t.to
  to_there t has = let a = of_arc t has in
      subst (λ (u : Triple). Contains lts.state_names u.to) a.2 (name_there lts.state_names a.0.to (in_range a.0 a.1).2)

  -- names on some of the arcs are names of the system
  states_from : (front : List Triple) → ((t : Triple) → Contains front t → Contains (arcs_named lts) t) → (n : List ℕ) → Contains (state_names front) n → Contains lts.state_names n
  states_from front among n has = by (met_from bytes_eq bytes_eq-Decides [] (flat_map ends front) n has)
    where
      by : Contains [] n ⊎ Contains (flat_map ends front) n → Contains lts.state_names n
      by (inl (k, lt, e)) = absurd (omega arith)
      by (inr h) =
          let r = ends_from front n h in
          ⊎_elim (λ e. subst (Contains lts.state_names) e (from_there r.0 (among r.0 r.1))) (λ e. subst (Contains lts.state_names) e (to_there r.0 (among r.0 r.1))) r.2

  labels_from : (front : List Triple) → ((t : Triple) → Contains front t → Contains (arcs_named lts) t) → (n : List ℕ) → Contains (label_names front) n → Contains lts.label_names n
  labels_from front among n has = by (met_from bytes_eq bytes_eq-Decides [] (map (λ (t : Triple). t.label) front) n has)
    where
      by : Contains [] n ⊎ Contains (map (λ (t : Triple). t.label) front) n → Contains lts.label_names n
      by (inl (k, lt, e)) = absurd (omega arith)
      by (inr h) =
          let r = map_from (λ (t : Triple). t.label) front n h in
          subst (Contains lts.label_names) r.2 (label_is_there r.0 (among r.0 r.1))

  few_front : (front rest : List Triple) → front ++ rest ≡ arcs_named lts → AreFew front
  few_front front rest e =
      let among : (t : Triple) → Contains front t → Contains (arcs_named lts) t = λ t has. subst (λ l. Contains l t) e (Contains-append_left front rest t has) in
      let few_states = pigeons (state_names front) lts.state_names (firsts_differ bytes_eq bytes_eq-Decides (flat_map ends front)) (states_from front among) in
      let few_labels = pigeons (label_names front) lts.label_names (firsts_differ bytes_eq bytes_eq-Decides (map (λ (t : Triple). t.label) front)) (labels_from front among) in
      let few_arcs : length (firsts same_arc (arcs_of front)) ≤ length front = subst (λ n. length (firsts same_arc (arcs_of front)) ≤ n) (length-map front _) (firsts_short same_arc (arcs_of front)) in
      let whole : length front + length rest ≡ length lts.arcs = sym (length-append front rest) ∙ ap length e ∙ length-map lts.arcs (names_of lts) in
      record {
        states = omega (arith, few_states, formed.few_states);
        labels = omega (arith, few_labels, formed.few_labels);
        arcs = omega (arith, few_arcs, whole, formed.few_arcs);
      }

  all_arcs_named : (arcs : List Arc) → ((a : Arc) → Contains arcs a → IsArcInRange lts a) → AllArcsNamed (map (names_of lts) arcs)
  all_arcs_named [] all = tt
  all_arcs_named (a ∷ arcs) all =
      let r = all a (zero, omega arith, refl) in (
        record {
          from = name_is_name lts.state_names a.from formed.state_names.each r.0;
          label = name_is_name lts.label_names a.label formed.label_names.each r.1;
          to = name_is_name lts.state_names a.to formed.state_names.each r.2;
        },
        all_arcs_named arcs (λ b has. all b (there_later a arcs b has)),
      )

  start_named : IsNamed (initial_name lts)
  start_named = name_is_name lts.state_names lts.initial formed.state_names.each formed.in_range.initial

  arcs_are : AllArcsNamed (arcs_named lts)
  arcs_are = all_arcs_named lts.arcs in_range

  labels_are : AllNamed lts.label_names
  labels_are = all_named lts.label_names formed.label_names.each

  -- a state on an arc has its name among those of the arcs
  on_arc : (s : ℕ) → is_on_arc lts s ≡ true → Contains (state_names (arcs_named lts)) (name_at lts.state_names s)
  on_arc s e =
      let w = any_where (λ (a : Arc). (a.from == s) || (a.to == s)) lts.arcs e in
      let has = map_there (names_of lts) lts.arcs w.0 w.1 in
      let there = end_there (names_of lts w.0) (arcs_named lts) has in
      ⊎_elim
      (λ h. subst (λ k. Contains (state_names (arcs_named lts)) (name_at lts.state_names k)) (eqb-true w.0.from s h)
      (met [] (flat_map ends (arcs_named lts)) (name_at lts.state_names w.0.from) there.0))
      (λ h. subst (λ k. Contains (state_names (arcs_named lts)) (name_at lts.state_names k)) (eqb-true w.0.to s h)
      (met [] (flat_map ends (arcs_named lts)) (name_at lts.state_names w.0.to) there.1))
      (or_cases (w.0.from == s) (w.0.to == s) w.2)

  -- of one state alone each name is that of the initial one
  alone_is : states lts < 2 → (n : List ℕ) → Contains lts.state_names n → n ≡ initial_name lts
  alone_is few n (k, lt, e) =
      let same : k ≡ lts.initial = omega (arith, formed.in_range.initial) in
      sym e ∙ get_or_default lts.state_names k n [] lt ∙ ap (name_at lts.state_names) same

  among_itself : (t : Triple) → Contains (arcs_named lts) t → Contains (arcs_named lts) t
  among_itself t has = has

  initial_there : IsStateKept lts → Contains (or_alone (state_names (arcs_named lts)) (initial_name lts)) (initial_name lts)
  initial_there (inr each) = or_there (state_names (arcs_named lts)) (initial_name lts) (initial_name lts) (on_arc lts.initial (each lts.initial formed.in_range.initial))
  initial_there (inl few) = by (state_names (arcs_named lts)) (λ n has. states_from (arcs_named lts) among_itself n has)
    where
      by : (names : List (List ℕ)) → ((n : List ℕ) → Contains names n → Contains lts.state_names n) → Contains (or_alone names (initial_name lts)) (initial_name lts)
      by [] from = (zero, omega arith, refl)
      by (name ∷ names) from = (zero, omega arith, alone_is few name (from name (zero, omega arith, refl)))

  state_there : IsStateKept lts → (n : List ℕ) → Contains lts.state_names n → Contains (or_alone (state_names (arcs_named lts)) (initial_name lts)) n
  state_there (inr each) n (k, lt, e) =
      let named : name_at lts.state_names k ≡ n = get_or_default lts.state_names k [] n lt ∙ e in
      or_there (state_names (arcs_named lts)) (initial_name lts) n (subst (Contains (state_names (arcs_named lts))) named (on_arc k (each k lt)))
  state_there (inl few) n has = subst (Contains (or_alone (state_names (arcs_named lts)) (initial_name lts))) (sym (alone_is few n has)) (initial_there (inl few))

  state_back : (n : List ℕ) → Contains (or_alone (state_names (arcs_named lts)) (initial_name lts)) n → Contains lts.state_names n
  state_back n has = ⊎_elim (λ h. states_from (arcs_named lts) among_itself n h)
      (λ e. subst (Contains lts.state_names) e (name_there lts.state_names lts.initial formed.in_range.initial))
      (or_from (state_names (arcs_named lts)) (initial_name lts) n has)

  label_kept : IsLabelKept lts → (n : List ℕ) → Contains lts.label_names n → Contains (label_names (arcs_named lts)) n
  label_kept kept n (k, lt, e) =
      let named : name_at lts.label_names k ≡ n = get_or_default lts.label_names k [] n lt ∙ e in
      let w = any_where (λ (a : Arc). a.label == k) lts.arcs (kept k lt) in
      let has = map_there (names_of lts) lts.arcs w.0 w.1 in
      let there = label_there (names_of lts w.0) (arcs_named lts) has in
      subst (Contains (label_names (arcs_named lts))) (ap (name_at lts.label_names) (eqb-true w.0.label k w.2) ∙ named)
      (met [] (map (λ (t : Triple). t.label) (arcs_named lts)) (name_at lts.label_names w.0.label) there)

  -- the last faults of the print
  last_right : IsStateKept lts → (found : List Line) (k : ℕ) → found ≡ (k, initial_name lts) ∷ [] → AreNone (last_faults (state_names (arcs_named lts)) found)
  last_right kept found k e = subst (λ l. AreNone (last_faults (state_names (arcs_named lts)) l)) (sym e) (by (state_names (arcs_named lts)) (initial_there kept))
    where
      by : (names : List (List ℕ)) → Contains (or_alone names (initial_name lts)) (initial_name lts) → AreNone (last_faults names ((k, initial_name lts) ∷ []))
      by [] has = tt
      by (name ∷ names) has = subst (λ b. AreNone (if_not b (UnknownState k))) (sym (any_there (name ∷ names) (initial_name lts) has)) tt

  -- the text is spelled by each system of the names of the arcs
  spelled_by : IsStateKept lts → (read : System) → IsGraphOf (arcs_named lts) (initial_name lts) read → Spells (graph_text lts) read
  spelled_by kept read graph =
      let name = initial_name lts in
      let arcs = arcs_named lts in
      let head = head_is (numbered (graph_text lts)) lts.label_names (enumerate_from 4 (tail_lines name arcs)) labels_are
      (ap (enumerate_from 1) (lines_is lts start_named labels_are arcs_are)) in
      let told : body (graph_text lts) ≡ body_lines 4 name arcs = ap (before_first closes) head.1 ∙ body_is 4 name arcs start_named arcs_are in
      let closed = ap (list_any closes) head.1 ∙ closed_is 4 name arcs start_named arcs_are in
      let found : triples (body (graph_text lts)) ≡ arcs = ap triples told ∙ triples_is 4 name arcs start_named arcs_are in
      let mark = markings_is 4 name arcs start_named arcs_are in
      let marked : markings (body (graph_text lts)) ≡ (mark.0, name) ∷ [] = ap markings told ∙ mark.1 in
      let lines_right = right_lines [] 4 name arcs start_named arcs_are refl (λ front rest e. few_front front rest e) in
      let rest_right : AreNone (rest_faults [] (after_first opens (numbered (graph_text lts)))) =
      none_joined (faults_after line_fault [] (body (graph_text lts))) (if_not (list_any closes (after_first opens (numbered (graph_text lts)))) NoEnd)
      (subst (λ l. AreNone (faults_after line_fault [] l)) (sym told) lines_right) (subst (λ b. AreNone (if_not b NoEnd)) (sym closed) tt) in
      let last : AreNone (last_faults (state_names (triples (body (graph_text lts)))) (markings (body (graph_text lts)))) =
      subst (λ l. AreNone (last_faults (state_names l) (markings (body (graph_text lts))))) (sym found) (last_right kept (markings (body (graph_text lts))) mark.0 marked) in
      record {
        none = all_none (graph_text lts) head.0 rest_right last;
        marking = (mark.0, name);
        only = marked;
        system = subst (λ l. IsGraphOf l name read) (sym found) graph;
      }

  -- the numbers of names stand for the names
  numbers_stand : (read : System) → IsStateKept lts → IsGraphOf (arcs_named lts) (initial_name lts) read → (t : Triple) → Contains (arcs_named lts) t
      → names_of read (arc_of (or_alone (state_names (arcs_named lts)) (initial_name lts)) (label_names (arcs_named lts)) t) ≡ t
  numbers_stand read kept graph t has =
      let names = or_alone (state_names (arcs_named lts)) (initial_name lts) in
      let from = stands read.state_names names t.from graph.state_names
      (or_there (state_names (arcs_named lts)) (initial_name lts) t.from (met [] (flat_map ends (arcs_named lts)) t.from (end_there t (arcs_named lts) has).0)) in
      let to = stands read.state_names names t.to graph.state_names
      (or_there (state_names (arcs_named lts)) (initial_name lts) t.to (met [] (flat_map ends (arcs_named lts)) t.to (end_there t (arcs_named lts) has).1)) in
      let label = stands read.label_names (label_names (arcs_named lts)) t.label graph.label_names
      (met [] (map (λ (u : Triple). u.label) (arcs_named lts)) t.label (label_there t (arcs_named lts) has)) in
      λ i. record { from = from i; label = label i; to = to i }
    where
      stands : (here names : List (List ℕ)) (n : List ℕ) → here ≡ names → Contains names n → name_at here (number_of bytes_eq names n) ≡ n
      stands here names n e there = ap (λ l. name_at l (number_of bytes_eq names n)) e ∙ get_or_from_slice_get names (number_of bytes_eq names n) n [] (number_at names n there)

  same_by_names : IsLabelKept lts → IsStateKept lts → (read : System) → IsGraphOf (arcs_named lts) (initial_name lts) read → IsSameByNames lts read
  same_by_names kept_labels kept read graph =
      let arcs = arcs_named lts in
      let names = or_alone (state_names arcs) (initial_name lts) in
      record {
        states = λ n. (
          λ has. subst (λ l. Contains l n) (sym graph.state_names) (state_there kept n has),
          λ has. state_back n (subst (λ l. Contains l n) graph.state_names has),
        );
        labels = λ n. (
          λ has. subst (λ l. Contains l n) (sym graph.label_names) (label_kept kept_labels n has),
          λ has. labels_from arcs among_itself n (subst (λ l. Contains l n) graph.label_names has),
        );
        initial = sym (
            ap (name_at read.state_names) graph.initial ∙ ap (λ l. name_at l (number_of bytes_eq names (initial_name lts))) graph.state_names
            ∙ get_or_from_slice_get names (number_of bytes_eq names (initial_name lts)) (initial_name lts) [] (number_at names (initial_name lts) (initial_there kept))
            );
        arcs = λ t. (
          λ has. subst (Contains (map (names_of read) read.arcs)) (numbers_stand read kept graph t has)
              (map_there (names_of read) read.arcs (arc_of names (label_names arcs) t)
              ((graph.members (arc_of names (label_names arcs) t)).1 (map_there (arc_of names (label_names arcs)) arcs t has))),
          λ has. (
              let a = map_from (names_of read) read.arcs t has in
              let u = map_from (arc_of names (label_names arcs)) arcs a.0 ((graph.members a.0).0 a.1) in
              subst (Contains arcs) (sym (numbers_stand read kept graph u.0 u.1) ∙ ap (names_of read) u.2 ∙ a.2) u.1
              ),
        );
      }

  pub read_again : IsLabelKept lts → IsStateKept lts → (read : System) × Spells (graph_text lts) read × IsSameByNames lts read
  read_again kept_labels kept =
      let read = graph_exists (arcs_named lts) (initial_name lts) in
      (read.0, spelled_by kept read.0 read.1, same_by_names kept_labels kept read.0 read.1)
