-- What is declared without a fault has one net.
use Rattle.std.proofs.Common.{◌≡◌, ◌==◌, ℕ, zero, suc, ◌<◌, Bool, true, false, cond, ◌&&◌, List, [], ◌∷◌, length, map, get_or, slice_get, count_by, option_map, Some, refl, sym, ap, subst, ◌∙◌, arith}
use Rattle.std.specs.List.{list_all}
use Rattle.std.specs.Str.{bytes_eq}
use Rattle.std.proofs.lemmas.Bool.{eqb-true, cond-true, cond-false, both_ways}
use Rattle.std.proofs.lemmas.List.{length-map, get_or-map, ext_get_or}
use Rattle.std.proofs.lemmas.List.Elements.{All-map, All-get_or}
use Rattle.std.proofs.lemmas.List.Sums.{AllPass-from_list_all}
use Rattle.std.proofs.lemmas.Option.{slice_get-map, slice_get-get_or, slice_get_within, get_or_from_slice_get}
use Rattle.std.proofs.lemmas.Slice.Eq.{bytes_eq-Decides}
use Rattle.rg_theory.specs.System.{System, labels}
use Rattle.rg_theory.specs.Net.{Place, Net}
use Rattle.rg_lexer.specs.Lexeme.{Lexeme}
use Rattle.rg_lexer.specs.declared.token.Kind.TheVariants.{Name}
use Rattle.rg_net_grammar.specs.declared.found.Transition.{Transition}
use Rattle.rg_net_grammar.specs.Contents.{Declared, label_of}
use Rattle.rg_netfile.specs.Contents.{taken, put, start, is_among, total, steps, have_each_once, IsPlaceOf, IsNetOf}
use Rattle.rg_netfile.proofs.Apart.{count_no, count_one, count_some}

-- the transitions with a label
abbrev has_label : List ℕ → Transition Lexeme → Bool
has_label label t = bytes_eq label (label_of t)

and_right : (a b : Bool) → (a && b) ≡ true → b ≡ true
and_right true b e = e
and_right false b e = absurd cc

-- each label is that of one transition
one_with : (lts : System) (d : Declared) → have_each_once lts.label_names d.transitions ≡ true → (k : ℕ) (label : List ℕ) → slice_get lts.label_names k ≡ Some label
    → count_by (has_label label) d.transitions ≡ 1
one_with lts d once k label at =
    let each = and_right (list_all (λ (t : Transition Lexeme). is_among lts.label_names (label_of t)) d.transitions)
    (list_all (λ l. count_by (has_label l) d.transitions == 1) lts.label_names) once in
    let here = AllPass-from_list_all (λ l. count_by (has_label l) d.transitions == 1) lts.label_names each k label (slice_get_within lts.label_names k label at) in
    eqb-true (count_by (has_label label) d.transitions) 1
    (ap (λ l. count_by (has_label l) d.transitions == 1) (sym (get_or_from_slice_get lts.label_names k label label at)) ∙ here)

-- one net
same_numbers : (many : ℕ) (xs ys : List ℕ) → length xs ≡ many → length ys ≡ many → ((k : ℕ) → k < many → get_or xs k 0 ≡ get_or ys k 0) → xs ≡ ys
same_numbers many xs ys x y each = ext_get_or 0 xs ys (x ∙ sym y) (λ k lt. each k (subst (λ n. k < n) x lt))

same_place : (lts : System) (d : Declared) → have_each_once lts.label_names d.transitions ≡ true → (name : List ℕ) (p q : Place) → IsPlaceOf lts d name p → IsPlaceOf lts d name q
    → (length p.pre ≡ labels lts) × (length p.post ≡ labels lts) → (length q.pre ≡ labels lts) × (length q.post ≡ labels lts) → p ≡ q
same_place lts d once name p q x y v w =
    let starts = x.starts ∙ sym y.starts in
    let pre = same_numbers (labels lts) p.pre q.pre v.0 w.0 (λ k lt. let t = one k lt in x.takes t.0 k t.1 t.2 t.3 ∙ sym (y.takes t.0 k t.1 t.2 t.3)) in
    let post = same_numbers (labels lts) p.post q.post v.1 w.1 (λ k lt. let t = one k lt in x.puts t.0 k t.1 t.2 t.3 ∙ sym (y.puts t.0 k t.1 t.2 t.3)) in
    λ i. record { start = starts i; pre = pre i; post = post i }
  where
    one : (k : ℕ) → k < labels lts → (i : ℕ) × (t : Transition Lexeme) × (slice_get d.transitions i ≡ Some t) × (slice_get lts.label_names k ≡ Some (label_of t))
    one k lt =
        let label = get_or lts.label_names k [] in
        let at = slice_get-get_or lts.label_names k [] lt in
        let t = count_some (has_label label) d.transitions (one_with lts d once k label at) in
        (t.0, t.1, t.2, at ∙ ap Some ((bytes_eq-Decides label (label_of t.1)).0 t.3))

no_place : Place
no_place = record { start = 0; pre = []; post = [] }

pub one_net : (lts : System) (d : Declared) → have_each_once lts.label_names d.transitions ≡ true → (a b : Net) → IsNetOf lts d a → IsNetOf lts d b → a ≡ b
one_net lts d once a b x y =
    let same = x.for_labels ∙ sym y.for_labels in
    let places = ext_get_or no_place a.places b.places (x.count ∙ sym y.count) (λ i lt.
    let p = get_or a.places i no_place in
    let q = get_or b.places i no_place in
    let less : i < length b.places = omega (arith, x.count, y.count) in
    let inside : i < length d.places = omega (arith, x.count) in
    let name = get_or d.places i no_lexeme in
    let at = slice_get-get_or d.places i no_lexeme inside in
    let v = All-get_or (λ (r : Place). (length r.pre ≡ a.labels) × (length r.post ≡ a.labels)) a.places i no_place lt x.weights in
    let w = All-get_or (λ (r : Place). (length r.pre ≡ b.labels) × (length r.post ≡ b.labels)) b.places i no_place less y.weights in
    same_place lts d once name.text p q (x.each i name p at (slice_get-get_or a.places i no_place lt)) (y.each i name q at (slice_get-get_or b.places i no_place less))
    (v.0 ∙ x.for_labels, v.1 ∙ x.for_labels) (w.0 ∙ y.for_labels, w.1 ∙ y.for_labels)) in
    λ i. record { labels = same i; places = places i }
  where
    no_lexeme : Lexeme
    no_lexeme = record { kind = Name; at = 0; text = [] }

-- the first transition with a label
first_name : List ℕ → List (Transition Lexeme) → List ℕ
first_name label [] = []
first_name label (t ∷ transitions) = cond (has_label label t) t.name.text (first_name label transitions)

first_is : (label : List ℕ) (transitions : List (Transition Lexeme)) (i : ℕ) (t : Transition Lexeme) → count_by (has_label label) transitions ≡ 1 → slice_get transitions i ≡ Some t
    → has_label label t ≡ true → first_name label transitions ≡ t.name.text
unfolding first_name
first_is label [] i t one at has = absurd cc
first_is label (s ∷ transitions) i t one at has = by (has_label label s) refl i at (λ j e at'. first_is label transitions j t e at' has)
  where
    by : (b : Bool) → has_label label s ≡ b → (i : ℕ) → slice_get (s ∷ transitions) i ≡ Some t
        → ((j : ℕ) → count_by (has_label label) transitions ≡ 1 → slice_get transitions j ≡ Some t → first_name label transitions ≡ t.name.text)
        → cond (has_label label s) s.name.text (first_name label transitions) ≡ t.name.text
    by true e zero at more = let same : s ≡ t = cc in cond-true (has_label label s) s.name.text (first_name label transitions) e ∙ ap (λ (u : Transition Lexeme). u.name.text) same
    by true e (suc j) at more = let none = count_one (has_label label) (s ∷ transitions) zero (suc j) s t one refl e at has in absurd (omega arith)
    by false e zero at more = let same : s ≡ t = cc in absurd (both_ways (has_label label s) e (ap (has_label label) same ∙ has))
    by false e (suc j) at more =
        cond-false (has_label label s) s.name.text (first_name label transitions) e
        ∙ more j (omega (arith, count_no (has_label label) s transitions e)) at

-- the net with these places
place_for : System → Declared → Lexeme → Place
place_for lts d x = record {
  start = total start x.text (steps d);
  pre = map (λ label. total (taken (first_name label d.transitions)) x.text (steps d)) lts.label_names;
  post = map (λ label. total (put (first_name label d.transitions)) x.text (steps d)) lts.label_names;
}

number_for : (f : List ℕ → ℕ) (names : List (List ℕ)) (k : ℕ) (label : List ℕ) → slice_get names k ≡ Some label → get_or (map f names) k 0 ≡ f label
number_for f names k label at =
    get_or-map f names k label 0 (slice_get_within names k label at) ∙ ap f (get_or_from_slice_get names k label label at)

is_place_for : (lts : System) (d : Declared) → have_each_once lts.label_names d.transitions ≡ true → (x : Lexeme) → IsPlaceOf lts d x.text (place_for lts d x)
unfolding place_for
is_place_for lts d once x = record {
  starts = refl;
  takes = λ i k t at label.
      number_for (λ l. total (taken (first_name l d.transitions)) x.text (steps d)) lts.label_names k (label_of t) label
      ∙ ap (λ n. total (taken n) x.text (steps d)) (named i k t at label);
  puts = λ i k t at label.
      number_for (λ l. total (put (first_name l d.transitions)) x.text (steps d)) lts.label_names k (label_of t) label
      ∙ ap (λ n. total (put n) x.text (steps d)) (named i k t at label);
}
  where
    named : (i k : ℕ) (t : Transition Lexeme) → slice_get d.transitions i ≡ Some t → slice_get lts.label_names k ≡ Some (label_of t) → first_name (label_of t) d.transitions ≡ t.name.text
    named i k t at label = first_is (label_of t) d.transitions i t (one_with lts d once k (label_of t) label) at ((bytes_eq-Decides (label_of t) (label_of t)).1 refl)

weights_for : (lts : System) (d : Declared) (x : Lexeme) → (length (place_for lts d x).pre ≡ labels lts) × (length (place_for lts d x).post ≡ labels lts)
unfolding place_for
weights_for lts d x = (
  length-map lts.label_names (λ label. total (taken (first_name label d.transitions)) x.text (steps d)),
  length-map lts.label_names (λ label. total (put (first_name label d.transitions)) x.text (steps d)),
)

pub net_exists : (lts : System) (d : Declared) → have_each_once lts.label_names d.transitions ≡ true → (net : Net) × IsNetOf lts d net
net_exists lts d once = (
  record { labels = labels lts; places = map (place_for lts d) d.places },
  record {
    for_labels = refl;
    weights = All-map (λ (p : Place). (length p.pre ≡ labels lts) × (length p.post ≡ labels lts)) (place_for lts d) d.places (λ i x lt. weights_for lts d _);
    count = length-map d.places (place_for lts d);
    each = λ i x p at place.
        let is : p ≡ place_for lts d x = one_thing p (place_for lts d x) (sym place ∙ slice_get-map (place_for lts d) d.places i ∙ ap (λ o. option_map (place_for lts d) o) at) in
        subst (IsPlaceOf lts d x.text) (sym is) (is_place_for lts d once x);
  },
)
  where
    one_thing : (p q : Place) → Some p ≡ Some q → p ≡ q
    one_thing p q e = cc
