-- Labels that each transition has, counted.
use Rattle.std.proofs.Common.{◌≡◌, ◌==◌, ℕ, zero, suc, ◌+◌, ◌<◌, Bool, true, false, cond, eqb, ◌&&◌, List, [], ◌∷◌, length, get_or, slice_get, count_by, All, Some, refl, sym, ap, subst, ◌∙◌, arith}
use Rattle.std.specs.List.{list_all}
use Rattle.std.specs.Str.{bytes_eq}
use Rattle.std.proofs.lemmas.Bool.{eq-eqb, eqb-true, both_ways, and_right}
use Rattle.std.proofs.lemmas.List.Sums.{sum_by-cons, list_all-from_AllPass, AllPass-from_list_all}
use Rattle.std.proofs.lemmas.List.Folds.{list_all_at}
use Rattle.std.proofs.lemmas.List.Elements.{All-contains}
use Rattle.std.proofs.lemmas.Option.{slice_get_within, slice_get-get_or}
use Rattle.std.proofs.lemmas.Slice.Eq.{bytes_eq-Decides}
use Rattle.rg_lexer.specs.Lexeme.{Lexeme}
use Rattle.rg_theory.specs.System.{System, labels}
use Rattle.rg_theory.proofs.Lists.{there_at}
use Rattle.rg_lts.specs.WellFormed.{IsWellFormed}
use Rattle.rg_net_grammar.specs.declared.found.Transition.{Transition}
use Rattle.rg_net_grammar.specs.Contents.{label_of}
use Rattle.rg_netfile.specs.Contents.{is_among, have_each_once}
use Rattle.rg_netfile.specs.Built.{AreApart, AreNumbers, AreCounts}
use Rattle.rg_netfile.proofs.NameTests.{among_true}
use Rattle.rg_netfile.proofs.Apart.{apart_pairs, count_one}

-- the transitions with a label, by name or by number
same_test : (names : List (List ℕ)) → AreApart names → (k n : ℕ) (label name : List ℕ) → slice_get names k ≡ Some label → slice_get names n ≡ Some name
    → bytes_eq label name ≡ eqb n k
same_test names apart k n label name at at' = by (bytes_eq label name) (eqb n k) refl refl
  where
    by : (a b : Bool) → bytes_eq label name ≡ a → eqb n k ≡ b → bytes_eq label name ≡ eqb n k
    by true true e f = e ∙ sym f
    by false false e f = e ∙ sym f
    by true false e f =
        let same = apart.same k n label at (at' ∙ ap Some (sym ((bytes_eq-Decides label name).0 e))) in
        absurd (both_ways (eqb n k) f (eq-eqb n k (sym same)))
    by false true e f =
        let same = eqb-true n k f in
        absurd (both_ways (bytes_eq label name) e ((bytes_eq-Decides label name).1 (some_name (sym at ∙ ap (slice_get names) (sym same) ∙ at'))))
      where
        some_name : Some label ≡ Some name → label ≡ name
        some_name e = cc

same_counts : (names : List (List ℕ)) → AreApart names → (transitions : List (Transition Lexeme)) (numbers : List ℕ) → AreNumbers names transitions numbers
    → (k : ℕ) (label : List ℕ) → slice_get names k ≡ Some label
    → count_by (λ (t : Transition Lexeme). bytes_eq label (label_of t)) transitions ≡ count_by (λ n. n == k) numbers
same_counts names apart [] [] are k label at = refl
same_counts names apart [] (n ∷ numbers) are k label at = absurd are
same_counts names apart (t ∷ transitions) [] are k label at = absurd are
same_counts names apart (t ∷ transitions) (n ∷ numbers) are k label at =
    sum_by-cons (λ (s : Transition Lexeme). cond (bytes_eq label (label_of s)) 1 0) t transitions
    ∙ ap (λ b. cond b 1 0 + count_by (λ (s : Transition Lexeme). bytes_eq label (label_of s)) transitions) (same_test names apart k n label (label_of t) at are.0)
    ∙ ap (λ c. cond (eqb n k) 1 0 + c) (same_counts names apart transitions numbers are.1 k label at)
    ∙ sym (sum_by-cons (λ m. cond (m == k) 1 0) n numbers)

all_among : (names : List (List ℕ)) (transitions : List (Transition Lexeme)) (numbers : List ℕ) → AreNumbers names transitions numbers
    → list_all (λ (t : Transition Lexeme). is_among names (label_of t)) transitions ≡ true
all_among names [] [] are = refl
all_among names [] (n ∷ numbers) are = absurd are
all_among names (t ∷ transitions) [] are = absurd are
all_among names (t ∷ transitions) (n ∷ numbers) are =
    ap (λ b. b && list_all (λ (s : Transition Lexeme). is_among names (label_of s)) transitions) (among_true names (label_of t) (there_at names n (label_of t) are.0))
    ∙ all_among names transitions numbers are.1

-- the counts that are found, beside the names
pub record Counted (lts : System) (transitions : List (Transition Lexeme)) (numbers counts : List ℕ) : Type 0 where
  pub formed : IsWellFormed lts
  pub are_numbers : AreNumbers lts.label_names transitions numbers
  pub within : All (λ t. t < labels lts) numbers
  pub are_counts : AreCounts (labels lts) numbers counts

count_is : (lts : System) (transitions : List (Transition Lexeme)) (numbers counts : List ℕ) → Counted lts transitions numbers counts
    → (k : ℕ) (label : List ℕ) → slice_get lts.label_names k ≡ Some label
    → count_by (λ (t : Transition Lexeme). bytes_eq label (label_of t)) transitions ≡ get_or counts k 0
count_is lts transitions numbers counts c k label at =
    same_counts lts.label_names (apart_pairs lts.label_names c.formed.label_names.differ) transitions numbers c.are_numbers k label at
    ∙ sym (c.are_counts.each k (slice_get_within lts.label_names k label at))

one_at : (labels : ℕ) (numbers counts : List ℕ) → AreCounts labels numbers counts → list_all (λ n. n == 1) counts ≡ true → (k : ℕ) → k < labels → get_or counts k 0 ≡ 1
one_at labels numbers counts are ones k less =
    eqb-true (get_or counts k 0) 1 (AllPass-from_list_all (λ n. n == 1) counts ones k 0 (subst (λ n. k < n) (sym are.many) less))

pub numbers_apart : (lts : System) (transitions : List (Transition Lexeme)) (numbers counts : List ℕ) → Counted lts transitions numbers counts
    → list_all (λ n. n == 1) counts ≡ true → AreApart numbers
numbers_apart lts transitions numbers counts c ones = record {
  same = λ i j x at at'.
      let less = All-contains (λ t. t < labels lts) numbers x c.within (there_at numbers i x at) in
      let one = sym (c.are_counts.each x less) ∙ one_at (labels lts) numbers counts c.are_counts ones x less in
      count_one (λ n. n == x) numbers i j x x one at (eq-eqb x x refl) at' (eq-eqb x x refl);
}

pub each_once : (lts : System) (transitions : List (Transition Lexeme)) (numbers counts : List ℕ) → Counted lts transitions numbers counts
    → list_all (λ n. n == 1) counts ≡ true → have_each_once lts.label_names transitions ≡ true
each_once lts transitions numbers counts c ones =
    ap (λ b. b && list_all (λ label. count_by (λ (t : Transition Lexeme). bytes_eq label (label_of t)) transitions == 1) lts.label_names)
    (all_among lts.label_names transitions numbers c.are_numbers)
    ∙ list_all-from_AllPass (λ label. count_by (λ (t : Transition Lexeme). bytes_eq label (label_of t)) transitions == 1) lts.label_names
    (λ k d less.
    let label = get_or lts.label_names k d in
    eq-eqb (count_by (λ (t : Transition Lexeme). bytes_eq label (label_of t)) transitions) 1
    (count_is lts transitions numbers counts c k label (slice_get-get_or lts.label_names k d less)
    ∙ one_at (labels lts) numbers counts c.are_counts ones k less))

-- some number isn't 1
not_one : (counts : List ℕ) → list_all (λ n. n == 1) counts ≡ false → (k : ℕ) × (k < length counts) × (eqb (get_or counts k 0) 1 ≡ false)
not_one [] e = absurd cc
not_one (n ∷ counts) e = by (eqb n 1) refl (not_one counts)
  where
    by : (b : Bool) → eqb n 1 ≡ b → (list_all (λ n. n == 1) counts ≡ false → (k : ℕ) × (k < length counts) × (eqb (get_or counts k 0) 1 ≡ false))
        → (k : ℕ) × (k < length (n ∷ counts)) × (eqb (get_or (n ∷ counts) k 0) 1 ≡ false)
    by false f more = (zero, omega arith, f)
    by true f more =
        let rest : list_all (λ n. n == 1) counts ≡ false = sym (ap (λ b. b && list_all (λ n. n == 1) counts) f) ∙ e in
        let r = more rest in
        (suc r.0, omega (arith, r.1), r.2)

pub not_each : (lts : System) (transitions : List (Transition Lexeme)) (numbers counts : List ℕ) → Counted lts transitions numbers counts
    → list_all (λ n. n == 1) counts ≡ false → have_each_once lts.label_names transitions ≡ false
not_each lts transitions numbers counts c some =
    let bad = not_one counts some in
    let less : bad.0 < length lts.label_names = subst (λ n. bad.0 < n) c.are_counts.many bad.1 in
    let label = get_or lts.label_names bad.0 [] in
    and_right (list_all (λ (t : Transition Lexeme). is_among lts.label_names (label_of t)) transitions)
    (list_all (λ l. count_by (λ (t : Transition Lexeme). bytes_eq l (label_of t)) transitions == 1) lts.label_names)
    (list_all_at (λ l. count_by (λ (t : Transition Lexeme). bytes_eq l (label_of t)) transitions == 1) lts.label_names bad.0 [] less
    (ap (λ n. eqb n 1) (count_is lts transitions numbers counts c bad.0 label (slice_get-get_or lts.label_names bad.0 [] less)) ∙ bad.2))

-- what the code has counted
pub counted : (lts : System) (transitions : List (Transition Lexeme)) (numbers : List ℕ) (many : ℕ) (seen counts read : List ℕ) → IsWellFormed lts
    → AreNumbers lts.label_names transitions numbers → All (λ t. t < labels lts) numbers → many ≡ labels lts → seen ≡ numbers → read ≡ counts
    → AreCounts many seen counts → Counted lts transitions numbers read
counted lts transitions numbers many seen counts read formed are within is same again count = record {
  formed = formed;
  are_numbers = are;
  within = within;
  are_counts = subst (λ l. AreCounts (labels lts) numbers l) (sym again) (subst (λ l. AreCounts (labels lts) l counts) same (subst (λ n. AreCounts n seen counts) is count));
}
