-- A use more: the prefixes, the labels, the arcs and the steps.
use Rattle.std.proofs.Common.{◌≡◌, ◌≢◌, ◌⊎◌, inl, inr, ⊎_elim, ℕ, zero, suc, ◌+◌, ◌<◌, Bool, List, [], ◌∷◌, ◌++◌, length, map, get_or, slice_get, Contains, AllPairs, Some, refl, sym, ap, ap₂, subst, ◌∙◌, append_assoc, append-nil, arith}
use Rattle.std.specs.Bool.{Decides}
use Rattle.std.specs.List.{fold}
use Rattle.std.specs.Str.{bytes_eq}
use Rattle.std.proofs.lemmas.Bool.{cases_order}
use Rattle.std.proofs.lemmas.List.{map-append, length-append}
use Rattle.std.proofs.lemmas.List.Elements.{Contains-append_left, Contains-append_cases}
use Rattle.std.proofs.lemmas.Option.{slice_get_within, get_or_from_slice_get, slice_get-get_or, same_Some}
use Rattle.std.proofs.lemmas.Slice.Eq.{bytes_eq-Decides, slice_eq-Decides}
use Rattle.rg_theory.specs.System.{arc}
use Rattle.rg_theory.proofs.Lists.{get_cases, there_at, there_later, map_there}
use Rattle.rg_line_formats.specs.First.{with_new, firsts}
use Rattle.rg_line_formats.proofs.Things.{last_there, stays_at, stands_last, there_one, fold-append, grown, new_there, new_absent, number_is, number_stays, met, firsts_differ}
use Rattle.rg_words.specs.Contents.{Word, Use, prefix, same_word, prefixes, label_names, arc_of}
use Rattle.rg_words.specs.Reading.{arcs_from, step_arcs, LeadsTo, arcs_of, AreSteps}

pub same_word-Decides : (a b : Word) → Decides (same_word a b) (a ≡ b)
same_word-Decides a b = slice_eq-Decides bytes_eq-Decides a b (same_word a b) refl

pub prefixes_more : (all : List Use) (u : Use) → prefixes (all ++ u ∷ []) ≡ with_new same_word (prefixes all) (prefix u)
prefixes_more all u =
    ap (λ l. firsts same_word ([] ∷ l)) (map-append prefix all (u ∷ [])) ∙ fold-append (with_new same_word) [] ([] ∷ map prefix all) (prefix u ∷ [])

pub labels_more : (all : List Use) (u : Use) → label_names (all ++ u ∷ []) ≡ with_new bytes_eq (label_names all) u.label
labels_more all u =
    ap (firsts bytes_eq) (map-append (λ (v : Use). v.label) all (u ∷ [])) ∙ fold-append (with_new bytes_eq) [] (map (λ (v : Use). v.label) all) (u.label ∷ [])

pub prefixes_differ : (all : List Use) → AllPairs (λ a b. a ≢ b) (prefixes all)
prefixes_differ all = firsts_differ same_word same_word-Decides ([] ∷ map prefix all)

pub labels_differ : (all : List Use) → AllPairs (λ a b. a ≢ b) (label_names all)
labels_differ all = firsts_differ bytes_eq bytes_eq-Decides (map (λ (v : Use). v.label) all)

pub prefix_met : (all : List Use) (v : Use) → Contains all v → Contains (prefixes all) (prefix v)
prefix_met all v has = met same_word same_word-Decides [] ([] ∷ map prefix all) (prefix v) (there_later [] (map prefix all) (prefix v) (map_there prefix all v has))

pub label_met : (all : List Use) (v : Use) → Contains all v → Contains (label_names all) v.label
label_met all v has = met bytes_eq bytes_eq-Decides [] (map (λ (w : Use). w.label) all) v.label (map_there (λ (w : Use). w.label) all v has)

-- the empty word is the first prefix
fronts : {X : Type 0} (same : X → X → Bool) (front xs : List X) → (more : List X) × (fold (with_new same) front xs ≡ front ++ more)
fronts same front [] = ([], sym (append-nil front))
fronts same front (x ∷ xs) =
    let g = grown same front x in
    let r = fronts same (with_new same front x) xs in
    (g.0 ++ r.0, r.1 ∙ ap (λ l. l ++ r.0) g.1 ∙ append_assoc front g.0 r.0)

pub empty_first : (all : List Use) → slice_get (prefixes all) 0 ≡ Some []
empty_first all = let f = fronts same_word ([] ∷ []) (map prefix all) in ap (λ l. slice_get l 0) f.1

-- the numbers of the arcs stay
same_numbers : (words more_words : List Word) (names more_names : List (List ℕ)) (some : List Use)
    → ((v : Use) → Contains some v → Contains words v.before × Contains names v.label × Contains words (prefix v))
    → map (arc_of (words ++ more_words) (names ++ more_names)) some ≡ map (arc_of words names) some
same_numbers words more_words names more_names [] known = refl
same_numbers words more_words names more_names (v ∷ some) known =
    let k = known v (zero, omega arith, refl) in
    let from = number_stays same_word same_word-Decides words more_words v.before k.0 in
    let label = number_stays bytes_eq bytes_eq-Decides names more_names v.label k.1 in
    let to = number_stays same_word same_word-Decides words more_words (prefix v) k.2 in
    let first : arc_of (words ++ more_words) (names ++ more_names) v ≡ arc_of words names v = λ i. record { from = from i; label = label i; to = to i } in
    ap₂ ◌∷◌ first (same_numbers words more_words names more_names some (λ w h. known w (there_later v some w h)))

pub arcs_more : (all : List Use) (u : Use) → ((v : Use) → Contains all v → Contains (prefixes all) v.before)
    → arcs_of (all ++ u ∷ []) ≡ arcs_of all ++ arc_of (prefixes (all ++ u ∷ [])) (label_names (all ++ u ∷ [])) u ∷ []
arcs_more all u known =
    let p = grown same_word (prefixes all) (prefix u) in
    let l = grown bytes_eq (label_names all) u.label in
    let words : prefixes (all ++ u ∷ []) ≡ prefixes all ++ p.0 = prefixes_more all u ∙ p.1 in
    let names : label_names (all ++ u ∷ []) ≡ label_names all ++ l.0 = labels_more all u ∙ l.1 in
    let stay = same_numbers (prefixes all) p.0 (label_names all) l.0 all (λ v h. (known v h, label_met all v h, prefix_met all v h)) in
    map-append (arc_of (prefixes (all ++ u ∷ [])) (label_names (all ++ u ∷ []))) all (u ∷ [])
    ∙ ap (λ r. r ++ arc_of (prefixes (all ++ u ∷ [])) (label_names (all ++ u ∷ [])) u ∷ []) (ap₂ (λ w n. map (arc_of w n) all) words names ∙ stay)

-- in a list of different things a thing stands at one index
pub one_index : {X : Type 0} (xs : List X) (i j : ℕ) (x : X) → AllPairs (λ a b. a ≢ b) xs → slice_get xs i ≡ Some x → slice_get xs j ≡ Some x → i ≡ j
one_index xs i j x differ here there = by (cases_order i j)
  where
    lt_i : i < length xs
    lt_i = slice_get_within xs i x here

    lt_j : j < length xs
    lt_j = slice_get_within xs j x there

    by : (i ≡ j) ⊎ ((i < j) ⊎ (j < i)) → i ≡ j
    by (inl e) = e
    by (inr (inl lt)) = absurd (differ i j x lt lt_j (get_or_from_slice_get xs i x x here ∙ sym (get_or_from_slice_get xs j x x there)))
    by (inr (inr gt)) = absurd (differ j i x gt lt_i (get_or_from_slice_get xs j x x there ∙ sym (get_or_from_slice_get xs i x x here)))

-- arcs of steps
pub arcs_from-append : (k : ℕ) (steps : List (ℕ × ℕ)) (step : ℕ × ℕ) → arcs_from k (steps ++ step ∷ []) ≡ arcs_from k steps ++ arc step.0 step.1 (k + length steps) ∷ []
arcs_from-append k [] step = ap (λ n. arc step.0 step.1 n ∷ []) (omega arith)
arcs_from-append k (s ∷ steps) step =
    let n : (k + 1) + length steps ≡ k + length (s ∷ steps) = omega arith in
    ap (λ l. arc s.0 s.1 k ∷ l) (arcs_from-append (k + 1) steps step ∙ ap (λ m. arcs_from (k + 1) steps ++ arc step.0 step.1 m ∷ []) n)

arc_at : (k : ℕ) (steps : List (ℕ × ℕ)) (i : ℕ) (step : ℕ × ℕ) → slice_get steps i ≡ Some step → Contains (arcs_from k steps) (arc step.0 step.1 (k + i))
arc_at k [] i step at = absurd cc
arc_at k (s ∷ steps) zero step at =
    let e : s ≡ step = same_Some s step at in
    let n : k ≡ k + zero = omega arith in
    (zero, omega arith, ap₂ (λ (p : ℕ × ℕ) m. arc p.0 p.1 m) e n)
arc_at k (s ∷ steps) (suc i) step at =
    let n : (k + 1) + i ≡ k + suc i = omega arith in
    there_later (arc s.0 s.1 k) (arcs_from (k + 1) steps) (arc step.0 step.1 (k + suc i))
    (subst (λ m. Contains (arcs_from (k + 1) steps) (arc step.0 step.1 m)) n (arc_at (k + 1) steps i step at))

-- a word with one label more tells both
pub last_same : (v w : Word) (l m : List ℕ) → v ++ l ∷ [] ≡ w ++ m ∷ [] → (v ≡ w) × (l ≡ m)
last_same [] [] l m e = (refl, cc)
last_same [] (y ∷ w) l m e = absurd (tail_some w m (ap length e))
  where
    tail_some : (w : Word) (m : List ℕ) → length (l ∷ []) ≡ length ((y ∷ w) ++ m ∷ []) → ⊥
    tail_some w m n = omega (arith, n, length-append (y ∷ w) (m ∷ []))
last_same (x ∷ v) [] l m e = absurd (tail_some v l (ap length e))
  where
    tail_some : (v : Word) (l : List ℕ) → length ((x ∷ v) ++ l ∷ []) ≡ length (m ∷ []) → ⊥
    tail_some v l n = omega (arith, n, length-append (x ∷ v) (l ∷ []))
last_same (x ∷ v) (y ∷ w) l m e =
    let head : x ≡ y = cc in
    let tail : v ++ l ∷ [] ≡ w ++ m ∷ [] = cc in
    let r = last_same v w l m tail in
    (ap₂ ◌∷◌ head r.0, r.1)

-- a use whose prefix has the state before it and whose label has a number
module _ (all : List Use) (steps : List (ℕ × ℕ)) (h : AreSteps all steps) (u : Use) (state t : ℕ) (at : slice_get (prefixes all) state ≡ Some u.before)
    (named : slice_get (label_names (all ++ u ∷ [])) t ≡ Some u.label) where
  words_grow : (more : List Word) × (prefixes (all ++ u ∷ []) ≡ prefixes all ++ more)
  words_grow = let p = grown same_word (prefixes all) (prefix u) in (p.0, prefixes_more all u ∙ p.1)

  names_grow : (more : List (List ℕ)) × (label_names (all ++ u ∷ []) ≡ label_names all ++ more)
  names_grow = let l = grown bytes_eq (label_names all) u.label in (l.0, labels_more all u ∙ l.1)

  word_stays : (k : ℕ) (w : Word) → slice_get (prefixes all) k ≡ Some w → slice_get (prefixes (all ++ u ∷ [])) k ≡ Some w
  word_stays k w e = let g = words_grow in subst (λ l. slice_get l k ≡ Some w) (sym g.1) (stays_at (prefixes all) g.0 k w e)

  name_stays : (k : ℕ) (n : List ℕ) → slice_get (label_names all) k ≡ Some n → slice_get (label_names (all ++ u ∷ [])) k ≡ Some n
  name_stays k n e = let g = names_grow in subst (λ l. slice_get l k ≡ Some n) (sym g.1) (stays_at (label_names all) g.0 k n e)

  leads_on : (i : ℕ) (step : ℕ × ℕ) → slice_get steps i ≡ Some step → LeadsTo (prefixes (all ++ u ∷ [])) (label_names (all ++ u ∷ [])) step (i + 1)
  leads_on i step e =
      let o = h.leads i step e in
      record { word = o.word; label = o.label; from = word_stays step.0 o.word o.from; named = name_stays step.1 o.label o.named; to = word_stays (i + 1) (o.word ++ o.label ∷ []) o.to }

  known_on : (v : Use) → Contains (all ++ u ∷ []) v → Contains (prefixes (all ++ u ∷ [])) v.before
  known_on v has = ⊎_elim (λ old. (let g = words_grow in subst (λ l. Contains l v.before) (sym g.1) (Contains-append_left (prefixes all) g.0 v.before (h.known v old))))
      (λ new. subst (λ (w : Use). Contains (prefixes (all ++ u ∷ [])) w.before) (there_one u v new) (there_at (prefixes (all ++ u ∷ [])) state u.before (word_stays state u.before at)))
      (Contains-append_cases all (u ∷ []) v has)

  -- the arc of the use, where its prefix has state k
  arc_is : (k : ℕ) → slice_get (prefixes (all ++ u ∷ [])) k ≡ Some (prefix u) → arc_of (prefixes (all ++ u ∷ [])) (label_names (all ++ u ∷ [])) u ≡ arc state t k
  arc_is k to =
      let words = prefixes (all ++ u ∷ []) in
      let from = number_is same_word same_word-Decides words state u.before (prefixes_differ (all ++ u ∷ [])) (word_stays state u.before at) in
      let label = number_is bytes_eq bytes_eq-Decides (label_names (all ++ u ∷ [])) t u.label (labels_differ (all ++ u ∷ [])) named in
      let end = number_is same_word same_word-Decides words k (prefix u) (prefixes_differ (all ++ u ∷ [])) to in
      λ i. record { from = from i; label = label i; to = end i }

  -- the step is there: its prefix is, too
  pub old_prefix : (i : ℕ) → slice_get steps i ≡ Some (state, t) → slice_get (prefixes all) (i + 1) ≡ Some (prefix u)
  old_prefix i e =
      let o = h.leads i (state, t) e in
      let word = same_Some o.word u.before (sym o.from ∙ at) in
      let label = same_Some o.label u.label (sym (name_stays t o.label o.named) ∙ named) in
      o.to ∙ ap₂ (λ w l. Some (w ++ l ∷ [])) word label

  pub old_same : (i : ℕ) → slice_get steps i ≡ Some (state, t) → prefixes (all ++ u ∷ []) ≡ prefixes all
  old_same i e = prefixes_more all u ∙ new_there same_word same_word-Decides (prefixes all) (prefix u) (there_at (prefixes all) (i + 1) (prefix u) (old_prefix i e))

  pub old_step : (i : ℕ) → slice_get steps i ≡ Some (state, t) → AreSteps (all ++ u ∷ []) steps × (slice_get (prefixes (all ++ u ∷ [])) (i + 1) ≡ Some (prefix u))
  old_step i e =
      let to = word_stays (i + 1) (prefix u) (old_prefix i e) in
      let n : 1 + i ≡ i + 1 = omega arith in
      let here : Contains (step_arcs steps) (arc state t (i + 1)) = subst (λ k. Contains (step_arcs steps) (arc state t k)) n (arc_at 1 steps i (state, t) e) in (
        record {
          size = ap length (old_same i e) ∙ h.size;
          leads = leads_on;
          same = λ a. (
            λ has. subst (λ l. Contains l a) (sym (arcs_more all u h.known)) (Contains-append_left (arcs_of all) _ a ((h.same a).0 has)),
            λ has. ⊎_elim (λ old. (h.same a).1 old)
                (λ new. subst (Contains (step_arcs steps)) (sym (arc_is (i + 1) to) ∙ there_one _ a new) here)
                (Contains-append_cases (arcs_of all) _ a (subst (λ l. Contains l a) (arcs_more all u h.known) has)),
          );
          known = known_on;
        },
        to,
      )

  -- the step isn't there: neither is its prefix
  new_prefix : (Contains steps (state, t) → ⊥) → Contains (prefixes all) (prefix u) → ⊥
  new_prefix none (k, lt, e) = by k (slice_get-get_or (prefixes all) k (prefix u) lt ∙ ap Some e)
    where
      by : (k : ℕ) → slice_get (prefixes all) k ≡ Some (prefix u) → ⊥
      by zero found =
          let wrong = same_Some [] (prefix u) (sym (empty_first all) ∙ found) in
          let n : 0 ≡ length (u.before ++ u.label ∷ []) = ap length wrong in
          omega (arith, n, length-append u.before (u.label ∷ []))
      by (suc i) found =
          let lt : i < length steps = omega (arith, slice_get_within (prefixes all) (suc i) (prefix u) found, h.size) in
          let step = get_or steps i (state, t) in
          let there : slice_get steps i ≡ Some step = slice_get-get_or steps i (state, t) lt in
          let o = h.leads i step there in
          let n : suc i ≡ i + 1 = omega arith in
          let same = same_Some (o.word ++ o.label ∷ []) (prefix u) (sym o.to ∙ ap (slice_get (prefixes all)) (sym n) ∙ found) in
          let both = last_same o.word u.before o.label u.label same in
          let from : step.0 ≡ state = one_index (prefixes all) step.0 state u.before (prefixes_differ all) (o.from ∙ ap Some both.0) at in
          let label : step.1 ≡ t = one_index (label_names (all ++ u ∷ [])) step.1 t u.label (labels_differ (all ++ u ∷ [])) (name_stays step.1 o.label o.named ∙ ap Some both.1) named in
          let is : step ≡ (state, t) = λ i. (from i, label i) in
          none (i, lt, is)

  pub new_words : (Contains steps (state, t) → ⊥) → prefixes (all ++ u ∷ []) ≡ prefixes all ++ prefix u ∷ []
  new_words none = prefixes_more all u ∙ new_absent same_word same_word-Decides (prefixes all) (prefix u) (new_prefix none)

  pub new_step : (Contains steps (state, t) → ⊥) → AreSteps (all ++ u ∷ []) (steps ++ (state, t) ∷ [])
      × (slice_get (prefixes (all ++ u ∷ [])) (length steps + 1) ≡ Some (prefix u))
  new_step none =
      let words = new_words none in
      let to : slice_get (prefixes (all ++ u ∷ [])) (length steps + 1) ≡ Some (prefix u) =
      ap₂ slice_get words (sym h.size) ∙ stands_last (prefixes all) (prefix u) in
      let fresh = arc_is (length steps + 1) to in
      let n : 1 + length steps ≡ length steps + 1 = omega arith in
      let arcs : step_arcs (steps ++ (state, t) ∷ []) ≡ step_arcs steps ++ arc state t (length steps + 1) ∷ [] =
      arcs_from-append 1 steps (state, t) ∙ ap (λ m. step_arcs steps ++ arc state t m ∷ []) n in
      let named_arcs : arcs_of (all ++ u ∷ []) ≡ arcs_of all ++ arc state t (length steps + 1) ∷ [] = arcs_more all u h.known ∙ ap (λ a. arcs_of all ++ a ∷ []) fresh in (
        record {
          size = ap length words ∙ length-append (prefixes all) (prefix u ∷ []) ∙ ap (λ m. m + 1) (h.size ∙ sym (length-append steps ((state, t) ∷ [])));
          leads = λ i step e. ⊎_elim (λ old. leads_on i step old)
              (λ new. record {
                word = u.before;
                label = u.label;
                from = subst (λ (s : ℕ × ℕ). slice_get (prefixes (all ++ u ∷ [])) s.0 ≡ Some u.before) new.1 (word_stays state u.before at);
                named = subst (λ (s : ℕ × ℕ). slice_get (label_names (all ++ u ∷ [])) s.1 ≡ Some u.label) new.1 named;
                to = subst (λ m. slice_get (prefixes (all ++ u ∷ [])) (m + 1) ≡ Some (prefix u)) (sym new.0) to;
              }) (get_cases steps (state, t) i step e);
          same = λ a. (
            λ has. subst (λ l. Contains l a) (sym named_arcs)
                (⊎_elim (λ old. Contains-append_left (arcs_of all) _ a ((h.same a).0 old))
                (λ new. subst (Contains (arcs_of all ++ arc state t (length steps + 1) ∷ [])) (there_one _ a new)
                (last_there (arcs_of all) (arc state t (length steps + 1))))
                (Contains-append_cases (step_arcs steps) _ a (subst (λ l. Contains l a) arcs has))),
            λ has. subst (λ l. Contains l a) (sym arcs)
                (⊎_elim (λ old. Contains-append_left (step_arcs steps) _ a ((h.same a).1 old))
                (λ new. subst (Contains (step_arcs steps ++ arc state t (length steps + 1) ∷ [])) (there_one _ a new)
                (last_there (step_arcs steps) (arc state t (length steps + 1))))
                (Contains-append_cases (arcs_of all) _ a (subst (λ l. Contains l a) named_arcs has))),
          );
          known = known_on;
        },
        to,
      )
