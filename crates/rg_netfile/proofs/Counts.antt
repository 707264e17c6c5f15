-- How often each number stands in a list that grows; labels of transitions by their numbers.
use Rattle.std.proofs.Common.{◌≡◌, ◌==◌, ℕ, zero, suc, ◌+◌, ◌<◌, ⊎_elim, Bool, false, eqb, ◌&&◌, List, [], ◌∷◌, ◌++◌, length, get_or, set, take, count_by, slice_get, Contains, Some, sym, ap, ◌∙◌, arith}
use Rattle.std.specs.List.{list_all}
use Rattle.std.specs.Str.{bytes_eq}
use Rattle.std.proofs.lemmas.Bool.{cases_order, and_right, eq-eqb}
use Rattle.std.proofs.lemmas.Bool.Decides.{nat_tests}
use Rattle.std.proofs.lemmas.List.{get_or-set_same, get_or-set_other, get_or_default, length-set}
use Rattle.std.proofs.lemmas.List.Sums.{count_by_more_yes, count_by_more_no}
use Rattle.rg_lexer.specs.Lexeme.{Lexeme}
use Rattle.rg_net_grammar.specs.declared.found.Transition.{Transition}
use Rattle.rg_net_grammar.specs.Contents.{label_of}
use Rattle.rg_netfile.specs.Contents.{is_among, have_each_once}
use Rattle.rg_netfile.specs.Built.{AreNumbers, AreCounts}
use Rattle.rg_netfile.proofs.NameTests.{among_false}

other_eqb : (m n : ℕ) → (m ≡ n → ⊥) → eqb m n ≡ false
other_eqb m n ne = grind (arith, nat_tests)

-- one more number is counted
pub counts_more : (labels : ℕ) (numbers counts : List ℕ) (i x : ℕ) → i < length numbers → get_or numbers i 0 < labels
    → x ≡ get_or counts (get_or numbers i 0) x → AreCounts labels (take i numbers) counts
    → AreCounts labels (take (i + 1) numbers) (set counts (get_or numbers i 0) (x + 1))
counts_more labels numbers counts i x lt small read are = record {
  many = length-set counts n (x + 1) ∙ are.many;
  each = λ k less. ⊎_elim (at_it k less) (λ other. beside k less (λ e. ⊎_elim (λ l. omega arith) (λ g. omega arith) other)) (cases_order k n);
}
  where
    n : ℕ
    n = get_or numbers i 0

    inside : get_or numbers i 0 < length counts
    inside = omega (arith, are.many)

    at_it : (k : ℕ) → k < labels → k ≡ get_or numbers i 0 → get_or (set counts (get_or numbers i 0) (x + 1)) k 0 ≡ count_by (λ m. m == k) (take (i + 1) numbers)
    at_it k less e =
        let more = count_by_more_yes (λ m. m == k) numbers i 0 lt (eq-eqb (get_or numbers i 0) k (sym e)) in
        let here : get_or counts (get_or numbers i 0) 0 ≡ x = get_or_default counts (get_or numbers i 0) 0 x inside ∙ sym read in
        ap (λ j. get_or (set counts (get_or numbers i 0) (x + 1)) j 0) e ∙ get_or-set_same counts (get_or numbers i 0) (x + 1) 0 inside
        ∙ ap (λ y. y + 1) (sym here ∙ ap (λ j. get_or counts j 0) (sym e) ∙ are.each k less) ∙ sym more

    beside : (k : ℕ) → k < labels → (k ≡ get_or numbers i 0 → ⊥) → get_or (set counts (get_or numbers i 0) (x + 1)) k 0 ≡ count_by (λ m. m == k) (take (i + 1) numbers)
    beside k less ne =
        let same = count_by_more_no (λ m. m == k) numbers i 0 lt (other_eqb (get_or numbers i 0) k (λ e. ne (sym e))) in
        get_or-set_other counts (get_or numbers i 0) k (x + 1) 0 ne ∙ are.each k less ∙ sym same

pub numbers_more : (names : List (List ℕ)) (transitions : List (Transition Lexeme)) (numbers : List ℕ) (t : Transition Lexeme) (n : ℕ) → AreNumbers names transitions numbers
    → slice_get names n ≡ Some (label_of t) → AreNumbers names (transitions ++ t ∷ []) (numbers ++ n ∷ [])
numbers_more names [] [] t n are at = (at, tt)
numbers_more names [] (m ∷ numbers) t n are at = absurd are
numbers_more names (s ∷ transitions) [] t n are at = absurd are
numbers_more names (s ∷ transitions) (m ∷ numbers) t n are at = (are.0, numbers_more names transitions numbers t n are.1 at)

-- one fails
pub one_fails : {X : Type 0} (p : X → Bool) (xs : List X) (i : ℕ) (x : X) → i < length xs → get_or xs i x ≡ x → p x ≡ false → list_all p xs ≡ false
one_fails p [] i x lt at fails = absurd (omega arith)
one_fails p (y ∷ xs) zero x lt at fails = ap (λ b. b && list_all p xs) (ap p at ∙ fails)
one_fails p (y ∷ xs) (suc i) x lt at fails = and_right (p y) (list_all p xs) (one_fails p xs i x (omega arith) at fails)

-- a label of a transition is none of the system's
pub not_each_once : (names : List (List ℕ)) (transitions : List (Transition Lexeme)) (i : ℕ) (t : Transition Lexeme) → i < length transitions → get_or transitions i t ≡ t
    → (Contains names (label_of t) → ⊥) → have_each_once names transitions ≡ false
not_each_once names transitions i t lt at absent =
    ap (λ b. b && list_all (λ label. count_by (λ (s : Transition Lexeme). bytes_eq label (label_of s)) transitions == 1) names)
    (one_fails (λ (s : Transition Lexeme). is_among names (label_of s)) transitions i t lt at (among_false names (label_of t) absent))
