-- What the text of a printed net declares is that net.
use Rattle.std.proofs.Common.{◌≡◌, ℕ, suc, ◌+◌, ◌<◌, ◌≤◌, ◌^◌, inl, inr, true, List, [], ◌∷◌, ◌++◌, length, map, get_or, slice_get, Contains, option_map, Some, refl, sym, ap, subst, ◌∙◌, arith}
use Rattle.std.specs.List.{flat_map, range_with_len}
use Rattle.std.proofs.lemmas.List.{length-map, get_or-map}
use Rattle.std.proofs.lemmas.List.FromFn.{get_or-map-range_with_len, length-range_with_len}
use Rattle.std.proofs.lemmas.List.Concat.{flat_map-cons}
use Rattle.std.proofs.lemmas.List.Elements.{All-get_or}
use Rattle.std.proofs.lemmas.Option.{slice_get-map, slice_get-get_or, slice_get_within, get_or_from_slice_get}
use Rattle.rg_theory.specs.System.{System, labels}
use Rattle.rg_theory.specs.Net.{Place, Net, pre_weight, post_weight}
use Rattle.rg_lexer.specs.Lexeme.{Lexeme}
use Rattle.rg_lts.specs.WellFormed.{IsWellFormed}
use Rattle.rg_text.specs.Faults.{faults_after, if_not, AreNone}
use Rattle.rg_text.proofs.Left.{none_joined}
use Rattle.rg_theory.proofs.Lists.{there_at}
use Rattle.rg_net.specs.Range.{IsNetInRange, IsPlaceInRange}
use Rattle.rg_integers.specs.Range.{greatest}
use Rattle.rg_net.specs.NetText.{place_name, taken_by, put_by, starts}
use Rattle.rg_net_grammar.specs.declared.found.Member.{Member}
use Rattle.rg_net_grammar.specs.Item.{Flow}
use Rattle.rg_net_grammar.specs.declared.found.Transition.{Transition}
use Rattle.rg_net_grammar.specs.Contents.{Declared, label_of}
use Rattle.rg_netfile.specs.declared.fault.NetFault.TheVariants.{NoType, TransitionsDiffer}
use Rattle.rg_netfile.specs.Contents.{most_places, place_names, transition_names, place_fault, transition_fault, have_each_once, step_fault, Cell, taken, put, start, Step, adds, steps_of_flow, steps, total, faults, IsNetOf}
use Rattle.rg_netfile.specs.Built.{AreApart}
use Rattle.rg_netfile.proofs.Apart.{apart_pairs}
use Rattle.rg_netfile.proofs.WholeNets.{if_none}
use Rattle.rg_netfile.proofs.PlaceNames.{one_place}
use Rattle.rg_netfile.proofs.SetTexts.{AreMembers}
use Rattle.rg_netfile.proofs.NetTexts.{AreFlows}
use Rattle.rg_netfile.proofs.PrintedSums.{all_starts, all_taken, all_put}
use Rattle.rg_netfile.proofs.PrintedFaults.{places_none, transitions_none, once, IsFine, Each, each_joined, steps_none}

-- what the text of a net declares
pub record Declares (q : List ℕ) (lts : System) (net : Net) (d : Declared) : Type 0 where
  pub typed : d.typed ≡ true
  pub places : place_names d ≡ map (place_name q) (range_with_len 0 (length net.places))
  pub names : transition_names d ≡ lts.label_names
  pub own_labels : map label_of d.transitions ≡ lts.label_names
  pub flows : AreFlows q net 0 lts.label_names d.flows
  pub marking : AreMembers q 0 (starts net) d.marking

-- the names of so many places
abbrev pub names_of : List ℕ → ℕ → List (List ℕ)
names_of q n = map (place_name q) (range_with_len 0 n)

long_names : (q : List ℕ) (n : ℕ) → length (names_of q n) ≡ n
long_names q n = length-map (range_with_len 0 n) (place_name q) ∙ length-range_with_len 0 n

name_there : (q : List ℕ) (n i : ℕ) → i < n → slice_get (names_of q n) i ≡ Some (place_name q i)
name_there q n i lt =
    slice_get-get_or (names_of q n) i (place_name q i) (omega (arith, long_names q n))
    ∙ ap Some (get_or-map-range_with_len (place_name q) 0 n i i (place_name q i) lt (omega arith))

name_is : (q : List ℕ) (n i : ℕ) (name : List ℕ) → slice_get (names_of q n) i ≡ Some name → (i < n) × (name ≡ place_name q i)
name_is q n i name at =
    let within = slice_get_within (names_of q n) i name at in
    let lt : i < n = omega (arith, long_names q n) in
    (lt, some_name (sym at ∙ name_there q n i lt))
  where
    some_name : Some name ≡ Some (place_name q i) → name ≡ place_name q i
    some_name e = cc

names_apart : (q : List ℕ) (n : ℕ) → n < 10 ^ 64 → AreApart (names_of q n)
names_apart q n small = record {
  same = λ i j name at at'.
      let x = name_is q n i name at in
      let y = name_is q n j name at' in
      one_place q i j (omega (arith, x.0)) (omega (arith, y.0)) (sym x.1 ∙ y.1);
}

-- members of places that there_at are, in a cell where no place has too much
each_member : (q : List ℕ) (places transitions : List (List ℕ)) (all : List Step) (cell : Cell) (n i : ℕ) (ws : List ℕ) (ms : List (Member Lexeme)) → AreMembers q i ws ms → i + length ws ≤ n
    → ((j : ℕ) → j < n → Contains places (place_name q j) × (total cell (place_name q j) all ≤ greatest))
    → Each (IsFine places transitions all) (map (adds cell) ms)
each_member q places transitions all cell n i [] ms are few fine = subst (λ l. Each (IsFine places transitions all) (map (adds cell) l)) (sym are) tt
each_member q places transitions all cell n i (w ∷ ws) ms (inl skip) few fine = each_member q places transitions all cell n (i + 1) ws ms skip.1 (omega arith) fine
each_member q places transitions all cell n i (w ∷ ws) ms (inr (m, more, is, text, count, rest)) few fine =
    let here = fine i (omega arith) in
    subst (λ l. Each (IsFine places transitions all) (map (adds cell) l)) (sym is) (
      subst (λ name. Contains places name × (total cell name all ≤ greatest)) (sym text) here,
      each_member q places transitions all cell n (i + 1) ws more rest (omega arith) fine,
    )

module _ (q : List ℕ) (lts : System) (net : Net) (d : Declared) (formed : IsWellFormed lts) (same : net.labels ≡ labels lts) (range : IsNetInRange net)
    (few : length net.places ≤ most_places) (declares : Declares q lts net d) where
  small : length net.places < 10 ^ 64
  small = omega (arith, few)

  labels_apart : AreApart lts.label_names
  labels_apart = apart_pairs lts.label_names formed.label_names.differ

  many_places : length d.places ≡ length net.places
  many_places = sym (length-map d.places (λ (x : Lexeme). x.text)) ∙ ap length declares.places ∙ long_names q (length net.places)

  -- the numbers of a place are what the steps add up to
  sum_start : (j : ℕ) → j < length net.places → total start (place_name q j) (steps d) ≡ get_or (starts net) j 0
  sum_start j lt = all_starts q net j (omega (arith, small)) small lts.label_names d.flows declares.flows labels_apart d.marking declares.marking

  sum_taken : (j : ℕ) → j < length net.places → (k : ℕ) (label : List ℕ) → slice_get lts.label_names k ≡ Some label
      → total (taken label) (place_name q j) (steps d) ≡ get_or (taken_by net k) j 0
  sum_taken j lt k label at = all_taken q net j (omega (arith, small)) small lts.label_names d.flows declares.flows labels_apart d.marking declares.marking k label at

  sum_put : (j : ℕ) → j < length net.places → (k : ℕ) (label : List ℕ) → slice_get lts.label_names k ≡ Some label
      → total (put label) (place_name q j) (steps d) ≡ get_or (put_by net k) j 0
  sum_put j lt k label at = all_put q net j (omega (arith, small)) small lts.label_names d.flows declares.flows labels_apart d.marking declares.marking k label at

  no_place : Place
  no_place = record { start = 0; pre = []; post = [] }

  place_in_range : (j : ℕ) → j < length net.places → IsPlaceInRange (get_or net.places j no_place)
  place_in_range j lt = All-get_or IsPlaceInRange net.places j no_place lt range.places

  weights_at : (j : ℕ) → j < length net.places
      → (length (get_or net.places j no_place).pre ≡ net.labels) × (length (get_or net.places j no_place).post ≡ net.labels)
  weights_at j lt = All-get_or (λ (p : Place). (length p.pre ≡ net.labels) × (length p.post ≡ net.labels)) net.places j no_place lt range.weights

  fine_start : (j : ℕ) → j < length net.places → total start (place_name q j) (steps d) ≤ greatest
  fine_start j lt =
      let e = sum_start j lt ∙ get_or-map (λ (p : Place). p.start) net.places j no_place 0 lt in
      let h = (place_in_range j lt).start in
      omega arith

  fine_taken : (j : ℕ) → j < length net.places → (k : ℕ) (label : List ℕ) → slice_get lts.label_names k ≡ Some label
      → total (taken label) (place_name q j) (steps d) ≤ greatest
  fine_taken j lt k label at =
      let e = sum_taken j lt k label at ∙ get_or-map (λ (p : Place). pre_weight p k) net.places j no_place 0 lt in
      let less = slice_get_within lts.label_names k label at in
      let w = weights_at j lt in
      let h = All-get_or (λ n. n ≤ greatest) (get_or net.places j no_place).pre k 0 (omega (arith, w.0, same)) (place_in_range j lt).pre in
      omega arith

  fine_put : (j : ℕ) → j < length net.places → (k : ℕ) (label : List ℕ) → slice_get lts.label_names k ≡ Some label
      → total (put label) (place_name q j) (steps d) ≤ greatest
  fine_put j lt k label at =
      let e = sum_put j lt k label at ∙ get_or-map (λ (p : Place). post_weight p k) net.places j no_place 0 lt in
      let less = slice_get_within lts.label_names k label at in
      let w = weights_at j lt in
      let h = All-get_or (λ n. n ≤ greatest) (get_or net.places j no_place).post k 0 (omega (arith, w.1, same)) (place_in_range j lt).post in
      omega arith

  place_known : (j : ℕ) → j < length net.places → Contains (place_names d) (place_name q j)
  place_known j lt = subst (λ l. Contains l (place_name q j)) (sym declares.places) (there_at (names_of q (length net.places)) j (place_name q j) (name_there q (length net.places) j lt))

  each_flow : (t : ℕ) (names : List (List ℕ)) (fs : List Flow) → AreFlows q net t names fs
      → ((k : ℕ) (name : List ℕ) → slice_get names k ≡ Some name → slice_get lts.label_names (t + k) ≡ Some name)
      → Each (IsFine (place_names d) (transition_names d) (steps d)) (flat_map steps_of_flow fs)
  each_flow t [] fs are here = subst (λ l. Each (IsFine (place_names d) (transition_names d) (steps d)) (flat_map steps_of_flow l)) (sym are) tt
  each_flow t (name ∷ names) fs (f, more, is, text, pre, post, rest) here =
      let P = IsFine (place_names d) (transition_names d) (steps d) in
      let at : slice_get lts.label_names t ≡ Some f.name.text =
      ap (slice_get lts.label_names) (sym (plus_zero t)) ∙ here 0 name refl ∙ ap Some (sym text) in
      let long = length-map net.places (λ (p : Place). pre_weight p t) in
      let long' = length-map net.places (λ (p : Place). post_weight p t) in
      subst (λ l. Each P (flat_map steps_of_flow l)) (sym is)
      (subst (Each P) (sym (flat_map-cons steps_of_flow f more))
      (each_joined P (steps_of_flow f) (flat_map steps_of_flow more) (
        subst (λ l. Contains l f.name.text) (sym declares.names) (there_at lts.label_names t f.name.text at),
        each_joined P (map (adds (taken f.name.text)) f.pre) (map (adds (put f.name.text)) f.post)
            (each_member q (place_names d) (transition_names d) (steps d) (taken f.name.text) (length net.places) 0 (taken_by net t) f.pre pre (omega (arith, long))
            (λ j lt. (place_known j lt, fine_taken j lt t f.name.text at)))
            (each_member q (place_names d) (transition_names d) (steps d) (put f.name.text) (length net.places) 0 (put_by net t) f.post post (omega (arith, long'))
            (λ j lt. (place_known j lt, fine_put j lt t f.name.text at))),
      )
      (each_flow (t + 1) names more rest (λ k n e. ap (slice_get lts.label_names) (plus_suc t k) ∙ here (suc k) n e))))
    where
      plus_zero : (n : ℕ) → n + 0 ≡ n
      plus_zero n = omega arith

      plus_suc : (n k : ℕ) → (n + 1) + k ≡ n + suc k
      plus_suc n k = omega arith

  each_step : Each (IsFine (place_names d) (transition_names d) (steps d)) (steps d)
  each_step =
      let P = IsFine (place_names d) (transition_names d) (steps d) in
      let long = length-map net.places (λ (p : Place). p.start) in
      each_joined P (flat_map steps_of_flow d.flows) (map (adds start) d.marking)
      (each_flow 0 lts.label_names d.flows declares.flows (λ k name at. ap (slice_get lts.label_names) (zero_plus k) ∙ at))
      (each_member q (place_names d) (transition_names d) (steps d) start (length net.places) 0 (starts net) d.marking declares.marking (omega (arith, long))
      (λ j lt. (place_known j lt, fine_start j lt)))
    where
      zero_plus : (k : ℕ) → 0 + k ≡ k
      zero_plus k = omega arith

  -- what is declared has no fault
  pub declares_none : AreNone (faults lts d)
  declares_none =
      let a = if_not d.typed NoType in
      let b = faults_after place_fault [] d.places in
      let c = faults_after transition_fault [] d.transitions in
      let e = if_not (have_each_once lts.label_names d.transitions) TransitionsDiffer in
      none_joined (a ++ (b ++ c ++ e)) (faults_after (step_fault (place_names d) (transition_names d)) [] (steps d))
      (none_joined a (b ++ c ++ e) (if_none d.typed NoType declares.typed)
      (none_joined (b ++ c) e
      (none_joined b c
      (places_none [] d.places (subst AreApart (sym declares.places) (names_apart q (length net.places) small)) (omega (arith, many_places)))
      (transitions_none [] d.transitions (subst AreApart (sym declares.names) labels_apart)))
      (if_none (have_each_once lts.label_names d.transitions) TransitionsDiffer (once lts.label_names d.transitions declares.own_labels labels_apart))))
      (steps_none (place_names d) (transition_names d) (steps d) [] (steps d) refl each_step)

  -- and its net is the one that was printed
  pub declares_net : IsNetOf lts d net
  declares_net = record {
    for_labels = same;
    weights = range.weights;
    count = sym many_places;
    each = λ i x p at place.
        let name = name_is q (length net.places) i x.text
        (ap (λ l. slice_get l i) (sym declares.places) ∙ slice_get-map (λ (y : Lexeme). y.text) d.places i ∙ ap (λ o. option_map (λ (y : Lexeme). y.text) o) at) in
        let read = get_or_from_slice_get net.places i p no_place place in
        record {
          starts = sym (ap (λ n. total start n (steps d)) name.1 ∙ sum_start i name.0 ∙ get_or-map (λ (r : Place). r.start) net.places i no_place 0 name.0
              ∙ ap (λ (r : Place). r.start) read);
          takes = λ j k t there_t label_t. sym (
              ap (λ n. total (taken n) x.text (steps d)) (own j t there_t) ∙ ap (λ n. total (taken (label_of t)) n (steps d)) name.1
              ∙ sum_taken i name.0 k (label_of t) label_t ∙ get_or-map (λ (r : Place). pre_weight r k) net.places i no_place 0 name.0 ∙ ap (λ (r : Place). pre_weight r k) read);
          puts = λ j k t there_t label_t. sym (
              ap (λ n. total (put n) x.text (steps d)) (own j t there_t) ∙ ap (λ n. total (put (label_of t)) n (steps d)) name.1
              ∙ sum_put i name.0 k (label_of t) label_t ∙ get_or-map (λ (r : Place). post_weight r k) net.places i no_place 0 name.0 ∙ ap (λ (r : Place). post_weight r k) read);
        };
  }
    where
      some_text : (a b : List ℕ) → Some a ≡ Some b → a ≡ b
      some_text a b e = cc

      own : (j : ℕ) (t : Transition Lexeme) → slice_get d.transitions j ≡ Some t → t.name.text ≡ label_of t
      own j t at = some_text t.name.text (label_of t)
          (sym (ap (λ o. option_map (λ (s : Transition Lexeme). s.name.text) o) at) ∙ sym (slice_get-map (λ (s : Transition Lexeme). s.name.text) d.transitions j)
          ∙ ap (λ l. slice_get l j) (declares.names ∙ sym declares.own_labels) ∙ slice_get-map label_of d.transitions j ∙ ap (λ o. option_map label_of o) at)
