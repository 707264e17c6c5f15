-- Of 257 prefixes one is free, where there are 256 labels at most: a label blocks one of them at most.
use Rattle.std.proofs.Common.{◌≡◌, ℕ, zero, suc, ◌+◌, ◌==◌, ◌<◌, ◌≤◌, ◌⊎◌, inl, inr, Bool, true, false, nat_lt, List, [], ◌∷◌, ◌++◌, length, get_or, take, drop, nat_eq, ⊎_elim, zero-add, lit<, decimal, refl, sym, ap, ◌∙◌, subst, arith, append_assoc}
use Rattle.std.specs.List.{list_any, list_all, IsDistinct, AllByRecursion}
use Rattle.std.specs.Str.{bytes_eq}
use Rattle.std.specs.Char.{is_ascii_digit}
use Rattle.std.proofs.lemmas.List.{append-nil, take-append-drop, get_or_default}
use Rattle.std.proofs.lemmas.List.Folds.{Any-from_list_any}
use Rattle.std.proofs.lemmas.Bool.{and_parts, eqb-true, or_cases, or_parts, cases_eq, false_from_ne_true}
use Rattle.std.proofs.lemmas.Map.Steps.{length-le_from_distinct_below}
use Rattle.std.proofs.lemmas.Slice.Eq.{bytes_eq-Decides}
use Rattle.rg_theory.specs.Limits.{most_labels}
use Rattle.rg_net.specs.NetText.{blocks, candidate, first_free, place_prefix}
use Rattle.rg_net.proofs.Digits.{IsPrinted, AreDigits, same_rest, split_digits, told_number, decimal_digits}

digits_from_all : (ds : List ℕ) → list_all is_ascii_digit ds ≡ true → AreDigits ds
digits_from_all [] h = tt
digits_from_all (d ∷ ds) h = let parts = and_parts (is_ascii_digit d) (list_all is_ascii_digit ds) h in (parts.0, digits_from_all ds parts.1)

-- a label that blocks is the prefix followed by digits
blocked_label : (prefix label : List ℕ) → blocks prefix label ≡ true → (ds : List ℕ) × AreDigits ds × (label ≡ prefix ++ ds)
blocked_label prefix label h =
    let parts = and_parts (bytes_eq (take (length prefix) label) prefix) _ h in
    let digits = and_parts (nat_lt (length prefix) (length label)) _ parts.1 in (
      drop (length prefix) label,
      digits_from_all _ digits.1,
      sym (take-append-drop (length prefix) label) ∙ ap (λ l. l ++ drop (length prefix) label)
          ((bytes_eq-Decides (take (length prefix) label) prefix).0 parts.0),
    )

-- what follows the `p` of a label that the k-th prefix blocks
after_p : (k : ℕ) (label : List ℕ) → (k == 0) ≡ false → blocks (candidate k) label ≡ true
    → (ds : List ℕ) × AreDigits ds × (label ≡ 112 ∷ (decimal k ++ 95 ∷ ds))
after_p k label e h =
    let is : candidate k ≡ 112 ∷ (decimal k ++ 95 ∷ []) = rw e refl in
    let of = blocked_label (candidate k) label h in
    (of.0, of.1, of.2 ∙ ap (λ l. l ++ of.0) is ∙ ap (λ l. 112 ∷ l) (append_assoc (decimal k) (95 ∷ []) of.0))

after_plain_p : (k : ℕ) (label : List ℕ) → (k == 0) ≡ true → blocks (candidate k) label ≡ true → (ds : List ℕ) × AreDigits ds × (label ≡ 112 ∷ ds)
after_plain_p k label e h =
    let is : candidate k ≡ 112 ∷ [] = rw e refl in
    let of = blocked_label (candidate k) label h in
    (of.0, of.1, of.2 ∙ ap (λ l. l ++ of.0) is)

-- digits alone are no number and a `_`
plain_apart : (k : ℕ) (ds es : List ℕ) → IsPrinted k → AreDigits ds → ds ≡ decimal k ++ 95 ∷ es → ⊥
plain_apart k ds es hk digits same =
    let parts = split_digits ds (decimal k) [] (95 ∷ es) digits (decimal_digits k hk) tt refl (append-nil ds ∙ same) in
    let ends : [] ≡ 95 ∷ es = parts.1 in
    absurd cc

-- a label is blocked by one prefix at most
one_prefix : (j k : ℕ) (label : List ℕ) → IsPrinted j → IsPrinted k → blocks (candidate j) label ≡ true → blocks (candidate k) label ≡ true → j ≡ k
one_prefix j k label hj hk bj bk = by (j == 0) (k == 0) refl refl
  where
    by : (b c : Bool) → (j == 0) ≡ b → (k == 0) ≡ c → j ≡ k
    by true true e f = eqb-true j 0 e ∙ sym (eqb-true k 0 f)
    by true false e f =
        let x = after_plain_p j label e bj in
        let y = after_p k label f bk in
        absurd (plain_apart k x.0 y.0 hk x.1 (same_rest 112 _ _ (sym x.2 ∙ y.2)))
    by false true e f =
        let x = after_p j label e bj in
        let y = after_plain_p k label f bk in
        absurd (plain_apart j y.0 x.0 hj y.1 (same_rest 112 _ _ (sym y.2 ∙ x.2)))
    by false false e f =
        let x = after_p j label e bj in
        let y = after_p k label f bk in
        (told_number j k (95 ∷ x.0) (95 ∷ y.0) hj hk refl refl (same_rest 112 _ _ (sym x.2 ∙ y.2))).0

distinct_none : IsDistinct nat_eq []
unfolding IsDistinct
distinct_none = tt

other_than_each : (i : ℕ) (xs : List ℕ) → list_any (nat_eq i) xs ≡ false → AllByRecursion (λ y. nat_eq i y ≡ false) xs
other_than_each i [] new = tt
other_than_each i (x ∷ xs) new = let parts = or_parts (nat_eq i x) (list_any (nat_eq i) xs) new in (parts.0, other_than_each i xs parts.1)

distinct_more : (i : ℕ) (xs : List ℕ) → list_any (nat_eq i) xs ≡ false → IsDistinct nat_eq xs → IsDistinct nat_eq (i ∷ xs)
unfolding IsDistinct
distinct_more i xs new apart = (other_than_each i xs new, apart)

-- prefix j is blocked by the label at i
record IsBlockedAt (names : List (List ℕ)) (i j : ℕ) : Type 0 where
  within : i < length names
  blocked : blocks (candidate j) (get_or names i []) ≡ true

-- the places of labels that block the n prefixes from k on
record Blockers (names : List (List ℕ)) (k n : ℕ) : Type 0 where
  at : List ℕ
  long : length at ≡ n
  apart : IsDistinct nat_eq at
  each : (i : ℕ) → list_any (nat_eq i) at ≡ true → (j : ℕ) × (k ≤ j) × (j < k + n) × IsBlockedAt names i j

-- each of the n prefixes from k on is blocked
abbrev AreBlocked : List (List ℕ) → ℕ → ℕ → Type 0
AreBlocked names k n = (j : ℕ) → k ≤ j → j < k + n → list_any (blocks (candidate j)) names ≡ true

blocker : (names : List (List ℕ)) (j : ℕ) → list_any (blocks (candidate j)) names ≡ true → (i : ℕ) × IsBlockedAt names i j
blocker names j h =
    let any = Any-from_list_any (blocks (candidate j)) names h in (
      any.0,
      record {
        within = any.2;
        blocked = subst (λ l. blocks (candidate j) l ≡ true)
            (sym any.3 ∙ get_or_default names any.0 any.1 [] any.2) any.4;
      },
    )

blockers : (names : List (List ℕ)) (k n : ℕ) → IsPrinted (k + n) → AreBlocked names k n → Blockers names k n
blockers names k zero h all = record { at = []; long = refl; apart = distinct_none; each = λ i e. absurd cc }
blockers names k (suc n) h all =
    more (blocker names k (all k (omega arith) (omega arith)))
    (blockers names (k + 1) n (omega arith) (λ j low high. all j (omega arith) (omega arith)))
  where
    more : (i : ℕ) × IsBlockedAt names i k → Blockers names (k + 1) n → Blockers names k (suc n)
    more one rest = record {
      at = one.0 ∷ rest.at;
      long = ap suc rest.long;
      apart = distinct_more one.0 rest.at (false_from_ne_true _ new) rest.apart;
      each = λ i e. old i (or_cases _ _ e);
    }
      where
        new : list_any (nat_eq one.0) rest.at ≡ true → ⊥
        new e =
            let other = rest.each one.0 e in
            let same = one_prefix k other.0 (get_or names one.0 []) (omega arith) (omega arith) one.1.blocked other.3.blocked in
            absurd (omega arith)

        old : (i : ℕ) → (nat_eq i one.0 ≡ true) ⊎ (list_any (nat_eq i) rest.at ≡ true) → (j : ℕ) × (k ≤ j) × (j < k + suc n) × IsBlockedAt names i j
        old i (inl here) = (k, omega arith, omega arith, subst (λ i. IsBlockedAt names i k) (sym (eqb-true i one.0 here)) one.1)
        old i (inr later) = let other = rest.each i later in (other.0, omega arith, omega arith, other.3)

enough : (names : List (List ℕ)) (n : ℕ) → IsPrinted n → AreBlocked names 0 n → n ≤ length names
enough names n h all =
    let found = blockers names 0 n (subst IsPrinted (sym (zero-add n)) h) all in
    subst (λ m. m ≤ length names) found.long (length-le_from_distinct_below found.at (length names) found.apart (λ i e. (found.each i e).3.within))

free_or_blocked : (names : List (List ℕ)) (k n : ℕ) → (list_any (blocks (first_free names k n)) names ≡ false) ⊎ AreBlocked names k n
free_or_blocked names k zero = inr (λ j low high. absurd (omega arith))
free_or_blocked names k (suc n) = by (list_any (blocks (candidate k)) names) refl (free_or_blocked names (k + 1) n)
  where
    by : (b : Bool) → list_any (blocks (candidate k)) names ≡ b
        → (list_any (blocks (first_free names (k + 1) n)) names ≡ false) ⊎ AreBlocked names (k + 1) n
        → (list_any (blocks (first_free names k (suc n))) names ≡ false) ⊎ AreBlocked names k (suc n)
    by false e more = inl (rw e e)
    by true e (inl free) = inl (rw e free)
    by true e (inr all) = inr (λ j low high. ⊎_elim (λ same. subst (λ j. list_any (blocks (candidate j)) names ≡ true) same e)
        (λ other. all j (omega arith) (omega arith)) (cases_eq k j))

pub free_prefix : (names : List (List ℕ)) → length names ≤ most_labels → list_any (blocks (place_prefix names)) names ≡ false
unfolding place_prefix
free_prefix names few = ⊎_elim (λ free. free) (λ all. let most : 257 ≤ length names = enough names 257 (lit< tt) all in absurd
    (omega arith)) (free_or_blocked names 0 257)
