-- Finding the first indices of the rows that are not 0.
use Rattle.std.proofs.lemmas.Bool.{false≢true}
use Rattle.std.proofs.lemmas.List.{append-nil}
use Rattle.std.proofs.Common.{◌≡◌, ◌⊎◌, ⊎_elim, ℕ, suc, ◌+◌, ◌-◌, ◌<◌, ◌≤◌, Bool, true, false, cond, List, [], ◌∷◌, ◌++◌, length, Contains, ap, refl, subst, sym, ◌∙◌, inl, inr, arith, append_assoc, add-one, not}
use Rattle.std.specs.Prelude.{ℤ}
use Rattle.std.specs.Bool.{Decides, IsTrue, OnFalse}
use Rattle.std.specs.List.{list_any}
use Rattle.rg_linear.specs.Dictionary.{numbers_from}
use Rattle.rg_linear.specs.Firsts.{KeepsEqualRows}
use Rattle.rg_linear.specs.Cycle.{vector_at, IsZeroVector, KeepsVectors}
use Rattle.rg_linear.proofs.Members.{Contains-cons_cases}

-- the kept indices of the rows before i are known, and has tells which rows stand there, each by its key
pub record KeptSoFar {K : Type 0} (row_of : K → List ℤ) (rows : List (List ℤ)) (has : K → Bool) (i : ℕ) (kept : List ℕ) : Type 0 where
  pub seen : List (List ℤ)
  pub tells : (q : K) → Decides (has q) (Contains seen (row_of q))
  pub rest : (more : List ℕ) → KeepsEqualRows (vector_at rows) (λ k. IsZeroVector (vector_at rows k)) seen (numbers_from i (length rows - i)) more → KeepsVectors rows (kept ++ more)

pub kept-start : {K : Type 0} (row_of : K → List ℤ) (rows : List (List ℤ)) (has : K → Bool) → ((q : K) → has q ≡ false) → KeptSoFar row_of rows has 0 []
kept-start row_of rows has none = record {
  seen = [];
  tells = λ q. (λ e. absurd (false≢true (sym (none q) ∙ e)), λ (k, lt, e). absurd (omega arith));
  rest = λ more h. subst (λ n. KeepsEqualRows (vector_at rows) (λ k. IsZeroVector (vector_at rows k)) [] (numbers_from 0 n) more) (same (length rows)) h;
}
  where
    same : (n : ℕ) → n - 0 ≡ n
    same n = omega arith

pub kept-end : {K : Type 0} (row_of : K → List ℤ) (rows : List (List ℤ)) (has : K → Bool) (i : ℕ) (kept : List ℕ)
    → KeptSoFar row_of rows has i kept → length rows ≤ i → KeepsVectors rows kept
kept-end row_of rows has i kept k past = subst (KeepsVectors rows) (append-nil kept)
    (k.rest [] (subst (λ n. KeepsEqualRows (vector_at rows) (λ j. IsZeroVector (vector_at rows j)) k.seen (numbers_from i n) []) (none (length rows) past) refl))
  where
    none : (n : ℕ) → n ≤ i → 0 ≡ n - i
    none n h = omega arith

next : (n i : ℕ) → i < n → n - i ≡ suc (n - suc i)
next n i lt = omega arith

module _ {K : Type 0} (row_of : K → List ℤ) (rows : List (List ℤ)) (has has' : K → Bool) (i : ℕ) (kept : List ℕ)
    (k : KeptSoFar row_of rows has i kept) (lt : i < length rows) where
  -- row i is 0, or was seen before
  pub kept-drop : IsZeroVector (vector_at rows i) ⊎ ((v : K) × (row_of v ≡ vector_at rows i) × (has v ≡ true))
      → ((q : K) → has' q ≡ has q) → KeptSoFar row_of rows has' (i + 1) kept
  kept-drop drops same = subst (λ j. KeptSoFar row_of rows has' j kept) (sym (add-one i)) (record {
    seen = k.seen;
    tells = λ q. (λ e. (k.tells q).0 (sym (same q) ∙ e), λ h. same q ∙ (k.tells q).1 h);
    rest = λ more h. k.rest more (subst (λ n. KeepsEqualRows (vector_at rows) (λ j. IsZeroVector (vector_at rows j)) k.seen (numbers_from i n) more)
        (sym (next (length rows) i lt))
        (inl (⊎_elim (λ z. inl z) (λ (v, is, e). inr (subst (Contains k.seen) is ((k.tells v).0 e))) drops, h)));
  })

  -- row i is kept
  pub kept-push : (same_key : K → K → Bool) → ((x y : K) → Decides (same_key x y) (row_of x ≡ row_of y))
      → (v : K) → vector_at rows i ≡ row_of v → ¬ IsZeroVector (row_of v) → has v ≡ false
      → ((q : K) → has' q ≡ cond (same_key v q) true (has q)) → KeptSoFar row_of rows has' (i + 1) (kept ++ i ∷ [])
  kept-push same_key decides v is nonzero fresh same = subst (λ j. KeptSoFar row_of rows has' j (kept ++ i ∷ [])) (sym (add-one i)) (record {
    seen = vector_at rows i ∷ k.seen;
    tells = λ q. (λ e. found q (same_key v q) refl (sym (same q) ∙ e), λ h. same q ∙ there q h);
    rest = λ more h. subst (KeepsVectors rows) (sym (append_assoc kept (i ∷ []) more))
        (k.rest (i ∷ more) (subst (λ n. KeepsEqualRows (vector_at rows) (λ j. IsZeroVector (vector_at rows j)) k.seen (numbers_from i n) (i ∷ more))
        (sym (next (length rows) i lt)) (inr (subst (λ x. ¬ IsZeroVector x) (sym is) nonzero, unseen, (more, refl, h)))));
  })
    where
      unseen : ¬ Contains k.seen (vector_at rows i)
      unseen seen = false≢true (sym fresh ∙ (k.tells v).1 (subst (Contains k.seen) is seen))

      found : (q : K) (b : Bool) → same_key v q ≡ b → cond b true (has q) ≡ true → Contains (vector_at rows i ∷ k.seen) (row_of q)
      found q true e h = (0, omega arith, is ∙ (decides v q).0 e)
      found q false e h = let (j, below, at) = (k.tells q).0 h in (suc j, omega arith, at)

      there : (q : K) → Contains (vector_at rows i ∷ k.seen) (row_of q) → cond (same_key v q) true (has q) ≡ true
      there q h = ⊎_elim
          (λ e. ap (λ b. cond b true (has q)) ((decides v q).1 (sym is ∙ e)))
          (λ seen. either (same_key v q) ((k.tells q).1 seen))
          (Contains-cons_cases (vector_at rows i) (row_of q) k.seen h)
        where
          either : (b : Bool) → has q ≡ true → cond b true (has q) ≡ true
          either true e = refl
          either false e = e

-- whether the set has a key that is the same
abbrev pub has_key : {K : Type 0} → (K → K → Bool) → List K → K → Bool
has_key same_key keys q = list_any (same_key q) keys

-- the set is asked for the key of row i, and then has it
module _ {K : Type 0} (row_of : K → List ℤ) (same_key : K → K → Bool) (rows : List (List ℤ)) (i : ℕ) (kept : List ℕ) (keys keys' : List K) (v : K)
    (k : KeptSoFar row_of rows (has_key same_key keys) i kept) (lt : i < length rows) (is : row_of v ≡ vector_at rows i) (added : Bool)
    (says : added ≡ not (has_key same_key keys v)) where
  pub asked-new : ((x y : K) → Decides (same_key x y) (row_of x ≡ row_of y))
      → (flag : Bool) → flag ≡ false → (IsZeroVector (vector_at rows i) → IsTrue flag) → added ≡ true
      → ((q : K) → has_key same_key keys' q ≡ cond (same_key v q) true (has_key same_key keys q))
      → KeptSoFar row_of rows (has_key same_key keys') (i + 1) (kept ++ i ∷ [])
  asked-new decides flag off zeros was updates = kept-push row_of rows (has_key same_key keys) (has_key same_key keys') i kept k lt
      same_key decides v (sym is)
      (subst (λ x. ¬ IsZeroVector x) (sym is) (λ z. false≢true (sym off ∙ (zeros z))))
      (fresh added (has_key same_key keys v) says was) updates
    where
      fresh : (a b : Bool) → a ≡ not b → a ≡ true → b ≡ false
      fresh a true p q = sym q ∙ p
      fresh a false p q = refl

  pub asked-old : added ≡ false → OnFalse added (keys' ≡ keys) → KeptSoFar row_of rows (has_key same_key keys') (i + 1) kept
  asked-old was unchanged = kept-drop row_of rows (has_key same_key keys) (has_key same_key keys') i kept k lt
      (inr (v, is, old added (has_key same_key keys v) says was)) (λ q. ap (λ l. has_key same_key l q) (off added was unchanged))
    where
      old : (a b : Bool) → a ≡ not b → a ≡ false → b ≡ true
      old a true p q = refl
      old a false p q = sym q ∙ p

      off : (b : Bool) → b ≡ false → OnFalse b (keys' ≡ keys) → keys' ≡ keys
      off true p h = cc
      off false p h = h
