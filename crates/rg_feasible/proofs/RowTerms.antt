-- The terms of a relation, as the renewal of its row forms them.
use Rattle.std.proofs.Common.{◌≡◌, ⊎_elim, ℕ, zero, suc, ◌+◌, ◌<◌, ◌≤◌, List, [], ◌∷◌, ◌++◌, map, length, get_or, slice_index, Some, slice_get, ap, refl, subst, sym, ◌∙◌, arith}
use Rattle.std.specs.Prelude.{ℤ, pos, neg_ℤ, ◌*ℤ◌}
use Rattle.std.specs.List.{remove}
use Rattle.std.specs.List.Sorted.{IsStrictlyIncreasing}
use Rattle.std.proofs.lemmas.Bool.{cases_lt}
use Rattle.std.proofs.lemmas.List.{length-append, length-map, get_or-map}
use Rattle.std.proofs.lemmas.List.Edits.{length-remove, get_or-remove_below, get_or-remove_above}
use Rattle.std.proofs.lemmas.Option.{same_Some, slice_get_within}
use Rattle.rg_integers.specs.Sign.{sign, size}
use Rattle.rg_integers.specs.Sum.{number_at}
use Rattle.rg_integers.proofs.Signs.{sign-times}
use Rattle.rg_integers.specs.declared.term.Wide.{Wide}
use Rattle.rg_linear.specs.Dictionary.{Relation}
use Rattle.rg_linear.specs.Exchange.{terms}
use Rattle.rg_linear.specs.Table.{numbers_of}
use Rattle.rg_feasible.specs.Renewal.{IsSigned, index_term, renewal_term}
use Rattle.rg_linear.proofs.MemberIndices.{gone}
use Rattle.rg_feasible.proofs.Renewing.{term_low, term_high, term_last}

-- ---- the numbers of a relation

pub length-numbers : (members : List ℕ) (l : Relation) → length (numbers_of members l) ≡ suc (suc (length members))
length-numbers members l = ap (λ n. suc (suc n)) (length-map members l.coefficient)

pub number_shown : (members : List ℕ) (l : Relation) (n : ℕ) → n < length members → number_at (numbers_of members l) (suc (suc n)) ≡ l.coefficient (get_or members n 0)
number_shown members l n lt = get_or-map l.coefficient members n 0 (pos 0) lt

-- the number of the member at an index
pub shown_number : (members : List ℕ) (k : Relation) (numbers : List ℤ) (p : ℕ) → numbers ≡ numbers_of members k → p < length members
    → number_at numbers (p + 2) ≡ k.coefficient (slice_index members p)
shown_number members k numbers p e lt = ap (λ xs. number_at xs (p + 2)) e ∙ ap (number_at (numbers_of members k)) (two p) ∙ number_shown members k p lt
  where
    two : (p : ℕ) → p + 2 ≡ suc (suc p)
    two p = omega arith

-- ---- the signed row of the pivot

pub signed_number : (members : List ℕ) (k : Relation) (s : List ℤ) (q n : ℕ) → IsSigned (numbers_of members k) s (suc (suc q)) → q < length members
    → n < suc (suc (length members)) → number_at s n ≡ sign (k.coefficient (get_or members q 0)) *ℤ number_at (numbers_of members k) n
signed_number members k s q n h lt inside = h.numbers n (subst (λ m. n < m) (sym (length-numbers members k)) inside)
    ∙ ap (λ (z : ℤ). sign z *ℤ number_at (numbers_of members k) n) (number_shown members k q lt)

pub signed_leaving : (members : List ℕ) (k : Relation) (s : List ℤ) (q : ℕ) → IsSigned (numbers_of members k) s (suc (suc q)) → q < length members
    → number_at s (suc (suc q)) ≡ size (k.coefficient (get_or members q 0))
signed_leaving members k s q h lt = signed_number members k s q (suc (suc q)) h lt (omega arith)
    ∙ ap (λ (z : ℤ). sign (k.coefficient (get_or members q 0)) *ℤ z) (number_shown members k q lt) ∙ sign-times (k.coefficient (get_or members q 0))

pub signed_member : (members : List ℕ) (k : Relation) (s : List ℤ) (q n : ℕ) → IsSigned (numbers_of members k) s (suc (suc q)) → q < length members
    → n < length members → number_at s (suc (suc n)) ≡ sign (k.coefficient (get_or members q 0)) *ℤ k.coefficient (get_or members n 0)
signed_member members k s q n h lt inside = signed_number members k s q (suc (suc n)) h lt (omega arith)
    ∙ ap (λ (z : ℤ). sign (k.coefficient (get_or members q 0)) *ℤ z) (number_shown members k n inside)

-- ---- the terms in their order

same_term : (a b c d a' b' c' d' : ℤ) → a ≡ a' → b ≡ b' → c ≡ c' → d ≡ d' → let t : Wide = record { a = a; b = b; c = c; d = d } in let u : Wide = record { a = a'; b = b'; c = c'; d = d' } in t ≡ u
same_term a b c d a' b' c' d' ea eb ec ed = λ i. record { a = ea i; b = eb i; c = ec i; d = ed i }

mapped_get : (f : ℕ → Wide) (end : List Wide) (ns : List ℕ) (n : ℕ) → n < length ns → slice_get (map f ns ++ end) n ≡ Some (f (get_or ns n 0))
mapped_get f end [] n lt = absurd (omega arith)
mapped_get f end (m ∷ ns) zero lt = refl
mapped_get f end (m ∷ ns) (suc n) lt = mapped_get f end ns n (omega arith)

end_get : (f : ℕ → Wide) (t : Wide) (ns : List ℕ) → slice_get (map f ns ++ t ∷ []) (length ns) ≡ Some t
end_get f t [] = refl
end_get f t (m ∷ ns) = end_get f t ns

abbrev middle : List ℕ → Relation → Relation → ℕ → ℕ → Wide
middle members k l q m = record {
  a = l.coefficient m;
  b = size (k.coefficient (get_or members q 0));
  c = sign (k.coefficient (get_or members q 0)) *ℤ k.coefficient m;
  d = l.coefficient (get_or members q 0);
}

abbrev final : List ℕ → Relation → Relation → ℕ → Wide
final members k l q = record { a = pos 0; b = size (k.coefficient (get_or members q 0)); c = neg_ℤ (sign (k.coefficient (get_or members q 0)) *ℤ k.d); d = l.coefficient (get_or members q 0) }

module _ (members : List ℕ) (k l : Relation) (s : List ℤ) (q : ℕ) (ordered : IsStrictlyIncreasing members) (lt : q < length members) (signed : IsSigned (numbers_of members k) s (suc (suc q))) where
  leaving_size : size (k.coefficient (get_or members q 0)) ≡ number_at s (suc (suc q))
  leaving_size = sym (signed_leaving members k s q signed lt)

  leaving_number : l.coefficient (get_or members q 0) ≡ number_at (numbers_of members l) (suc (suc q))
  leaving_number = sym (number_shown members l q lt)

  below : suc (suc q) < length (numbers_of members l)
  below = omega (arith, length-numbers members l)

  others : length (remove members q) + 1 ≡ length members
  others = length-remove members q lt

  rest : (n : ℕ) → slice_get (terms members k (get_or members q 0) l) (suc (suc n)) ≡ slice_get (map (middle members k l q) (remove members q) ++ final members k l q ∷ []) n
  rest n = ap (λ ns. slice_get (map (middle members k l q) ns ++ final members k l q ∷ []) n) (gone members q ordered lt)

  member_term : (m e : ℕ) → m < length members → l.coefficient (get_or members m 0) ≡ number_at (numbers_of members l) (suc (suc m))
      → middle members k l q (get_or members m 0) ≡ index_term s (numbers_of members l) (suc (suc q)) (suc (suc m))
  member_term m e inside is = same_term _ _ _ _ _ _ _ _ is leaving_size (sym (signed_member members k s q m signed lt inside)) leaving_number

  shown : (m : ℕ) → m < length members → middle members k l q (get_or members m 0) ≡ index_term s (numbers_of members l) (suc (suc q)) (suc (suc m))
  shown m inside = member_term m m inside (sym (number_shown members l m inside))

  before : (n : ℕ) → n < length (remove members q) → n < q
      → slice_get (map (middle members k l q) (remove members q) ++ final members k l q ∷ []) n ≡ Some (renewal_term s (numbers_of members l) (suc (suc q)) (suc (suc n)))
  before n inside less = mapped_get (middle members k l q) (final members k l q ∷ []) (remove members q) n inside
      ∙ ap (λ m. Some (middle members k l q m)) (get_or-remove_below members q 0 n less lt)
      ∙ ap Some (shown n (omega arith) ∙ sym (term_low s (numbers_of members l) (suc (suc q)) (suc (suc n)) (omega arith) (omega arith) below))

  behind : (n : ℕ) → n < length (remove members q) → q ≤ n
      → slice_get (map (middle members k l q) (remove members q) ++ final members k l q ∷ []) n ≡ Some (renewal_term s (numbers_of members l) (suc (suc q)) (suc (suc n)))
  behind n inside past = mapped_get (middle members k l q) (final members k l q ∷ []) (remove members q) n inside
      ∙ ap (λ m. Some (middle members k l q m)) (get_or-remove_above members q 0 n past lt ∙ ap (λ m. get_or members m 0) (one n))
      ∙ ap Some (shown (suc n) (omega (arith, others))
      ∙ sym (term_high s (numbers_of members l) (suc (suc q)) (suc (suc n)) (omega arith) (omega arith) (omega (arith, others, length-numbers members l))))
    where
      one : (n : ℕ) → n + 1 ≡ suc n
      one n = omega arith

  last : slice_get (map (middle members k l q) (remove members q) ++ final members k l q ∷ []) (length (remove members q))
      ≡ Some (renewal_term s (numbers_of members l) (suc (suc q)) (suc (suc (length (remove members q)))))
  last = end_get (middle members k l q) (final members k l q) (remove members q)
      ∙ ap Some (same_term _ _ _ _ _ _ _ _ refl leaving_size (ap neg_ℤ (sym (signed_number members k s q 0 signed lt (omega arith)))) leaving_number
      ∙ sym (term_last s (numbers_of members l) (suc (suc q)) (suc (suc (length (remove members q)))) (omega arith) (omega (arith, others, length-numbers members l))))

  -- the term of each number
  pub term_is : (e : ℕ) → e < suc (suc (length members)) → slice_get (terms members k (get_or members q 0) l) e ≡ Some (renewal_term s (numbers_of members l) (suc (suc q)) e)
  term_is zero inside = ap Some (same_term _ _ _ _ _ _ _ _ refl leaving_size refl refl)
  term_is (suc zero) inside = ap Some (same_term _ _ _ _ _ _ _ _ refl leaving_size (sym (signed_number members k s q 1 signed lt (omega arith))) leaving_number
      ∙ sym (term_low s (numbers_of members l) (suc (suc q)) 1 (omega arith) (omega arith) below))
  term_is (suc (suc n)) inside = rest n ∙ ⊎_elim (λ inner. ⊎_elim (λ less. before n inner less) (λ past. behind n inner past) (cases_lt n q))
      (λ past. at_end (omega (arith, others))) (cases_lt n (length (remove members q)))
    where
      at_end : length (remove members q) ≡ n → slice_get (map (middle members k l q) (remove members q) ++ final members k l q ∷ []) n
          ≡ Some (renewal_term s (numbers_of members l) (suc (suc q)) (suc (suc n)))
      at_end e = subst (λ m. slice_get (map (middle members k l q) (remove members q) ++ final members k l q ∷ []) m ≡ Some (renewal_term s (numbers_of members l) (suc (suc q)) (suc (suc m)))) e last

  length-terms : length (terms members k (get_or members q 0) l) ≡ suc (suc (length members))
  length-terms = ap (λ ns. suc (suc (length (map (middle members k l q) ns ++ final members k l q ∷ [])))) (gone members q ordered lt)
      ∙ ap (λ n. suc (suc n)) (length-append (map (middle members k l q) (remove members q)) (final members k l q ∷ [])
      ∙ ap (λ n. n + 1) (length-map (remove members q) (middle members k l q)) ∙ others)

  -- a term of the relation is one of the row
  pub is_term : (e : ℕ) (t : Wide) → slice_get (terms members k (get_or members q 0) l) e ≡ Some t → (e < suc (suc (length members))) × (renewal_term s (numbers_of members l) (suc (suc q)) e ≡ t)
  is_term e t here = (inside, same_Some _ _ (sym (term_is e inside) ∙ here))
    where
      inside : e < suc (suc (length members))
      inside = subst (λ n. e < n) length-terms (slice_get_within (terms members k (get_or members q 0) l) e t here)
