-- Which rows are kept, row by row.
use Rattle.std.proofs.lemmas.Bool.{false≢true}
use Rattle.std.proofs.lemmas.List.{append-nil, drop_all, length-append, length-map, get_or-map}
use Rattle.std.proofs.Common.{◌≡◌, ◌⊎◌, ⊎_elim, ℕ, suc, ◌+◌, ◌<◌, ◌≤◌, Bool, true, false, cond, not, map, Bor, List, [], ◌∷◌, ◌++◌, drop, length, Contains, ap, refl, subst, sym, ◌∙◌, inl, inr, arith, append_assoc, add-one}
use Rattle.std.specs.Prelude.{ℤ, slice_index_or}
use Rattle.std.specs.Bool.{Decides}
use Rattle.std.specs.Ordering.{int_eq}
use Rattle.std.specs.Cmp.Lexicographic.{pointwise}
use Rattle.std.proofs.lemmas.Bool.Decides.{Decides-int_eq}
use Rattle.std.proofs.lemmas.Slice.Eq.{slice_eq-Decides}
use Rattle.std.proofs.Math.Seq.{drop-cons}
use Rattle.rg_linear.specs.System.{LinearRow}
use Rattle.rg_linear.specs.Firsts.{KeepsEqualRows}
use Rattle.rg_linear.proofs.Members.{Contains-cons_cases}
use Rattle.rg_case_folds.specs.Rewriting.{KeptRow, IsIdle}
use Rattle.rg_rows.proofs.Slices.{has_numbers}
use Rattle.rg_rows.specs.declared.case_row.CaseRow.{CaseRow}
use Rattle.rg_rows.specs.View.{numbers_of, kept_row}

-- rows with the same numbers are the same
pub ends : (xs ys : List ℤ) (a b : ℤ) → xs ++ a ∷ [] ≡ ys ++ b ∷ [] → (xs ≡ ys) × (a ≡ b)
ends [] [] a b e = (refl, ap (λ l. slice_index_or l 0 a) e)
ends [] (y ∷ ys) a b e = absurd (let n = ap length e in let m = length-append ys (b ∷ []) in omega arith)
ends (x ∷ xs) [] a b e = absurd (let n = ap length e in let m = length-append xs (a ∷ []) in omega arith)
ends (x ∷ xs) (y ∷ ys) a b e = let (f, g) = ends xs ys a b (ap (drop 1) e) in (joined (ap (λ l. slice_index_or l 0 x) e) f, g)
  where
    joined : x ≡ y → xs ≡ ys → x ∷ xs ≡ y ∷ ys
    joined h f = ap (λ z. z ∷ xs) h ∙ ap (λ l. y ∷ l) f

pub same_row : (r s : LinearRow) → numbers_of r ≡ numbers_of s → r ≡ s
same_row r s e = let (f, g) = ends r.coeffs s.coeffs r.constant s.constant e in λ i. record { coeffs = f i; constant = g i }

-- the kept ones of the rows before i are known, and has tells which numbers were seen
pub record KeptSoFar (all : List KeptRow) (has : List ℤ → Bool) (i : ℕ) (kept : List KeptRow) : Type 0 where
  pub seen : List LinearRow
  pub tells : (r : LinearRow) → Decides (has (numbers_of r)) (Contains seen r)
  pub rest : (more : List KeptRow) → KeepsEqualRows (λ k. k.row) IsIdle seen (drop i all) more → KeepsEqualRows (λ k. k.row) IsIdle [] all (kept ++ more)

pub kept-start : (all : List KeptRow) (has : List ℤ → Bool) → ((q : List ℤ) → has q ≡ false) → KeptSoFar all has 0 []
kept-start all has none = record {
  seen = [];
  tells = λ r. (λ e. absurd (false≢true (sym (none (numbers_of r)) ∙ e)), λ (k, lt, e). absurd (omega arith));
  rest = λ more h. h;
}

pub kept-end : (all : List KeptRow) (has : List ℤ → Bool) (i : ℕ) (kept : List KeptRow) → KeptSoFar all has i kept → length all ≤ i → KeepsEqualRows (λ k. k.row) IsIdle [] all kept
kept-end all has i kept k past = subst (KeepsEqualRows (λ k. k.row) IsIdle [] all) (append-nil kept)
    (k.rest [] (subst (λ l. KeepsEqualRows (λ k. k.row) IsIdle k.seen l []) (sym (drop_all i all past)) refl))

module _ (all : List KeptRow) (has has' : List ℤ → Bool) (i : ℕ) (kept : List KeptRow) (k : KeptSoFar all has i kept) (x : KeptRow) (is : drop i all ≡ x ∷ drop (i + 1) all) where
  -- row i is idle, or was seen before
  pub kept-drop : IsIdle x ⊎ (has (numbers_of x.row) ≡ true) → ((q : List ℤ) → has' q ≡ has q) → KeptSoFar all has' (i + 1) kept
  kept-drop drops same = record {
    seen = k.seen;
    tells = λ r. (λ e. (k.tells r).0 (sym (same (numbers_of r)) ∙ e), λ h. same (numbers_of r) ∙ (k.tells r).1 h);
    rest = λ more h. k.rest more (subst (λ l. KeepsEqualRows (λ y. y.row) IsIdle k.seen l more) (sym is) (inl (⊎_elim (λ z. inl z) (λ e. inr ((k.tells x.row).0 e)) drops, h)));
  }

  -- row i is kept
  pub kept-push : ¬ IsIdle x → has (numbers_of x.row) ≡ false → ((q : List ℤ) → has' q ≡ cond (pointwise int_eq (numbers_of x.row) q) true (has q)) → KeptSoFar all has' (i + 1) (kept ++ x ∷ [])
  kept-push busy fresh same = record {
    seen = x.row ∷ k.seen;
    tells = λ r. (λ e. found r (pointwise int_eq (numbers_of x.row) (numbers_of r)) refl (sym (same (numbers_of r)) ∙ e), λ h. same (numbers_of r) ∙ there r h);
    rest = λ more h. subst (KeepsEqualRows (λ y. y.row) IsIdle [] all) (sym (append_assoc kept (x ∷ []) more))
        (k.rest (x ∷ more) (subst (λ l. KeepsEqualRows (λ y. y.row) IsIdle k.seen l (x ∷ more)) (sym is)
        (inr (busy, (λ seen. false≢true (sym fresh ∙ ((k.tells x.row).1 seen))), (more, refl, h)))));
  }
    where
      found : (r : LinearRow) (b : Bool) → pointwise int_eq (numbers_of x.row) (numbers_of r) ≡ b → cond b true (has (numbers_of r)) ≡ true → Contains (x.row ∷ k.seen) r
      found r true e h = (0, omega arith, same_row x.row r ((slice_eq-Decides Decides-int_eq (numbers_of x.row) (numbers_of r) true (sym e)).0 refl))
      found r false e h = let (j, below, at) = (k.tells r).0 h in (suc j, omega arith, at)

      there : (r : LinearRow) → Contains (x.row ∷ k.seen) r → cond (pointwise int_eq (numbers_of x.row) (numbers_of r)) true (has (numbers_of r)) ≡ true
      there r h = ⊎_elim
          (λ e. ap (λ b. cond b true (has (numbers_of r)))
          ((slice_eq-Decides Decides-int_eq (numbers_of x.row) (numbers_of r) (pointwise int_eq (numbers_of x.row) (numbers_of r)) refl).1 (ap numbers_of e)))
          (λ seen. either (pointwise int_eq (numbers_of x.row) (numbers_of r)) ((k.tells r).1 seen))
          (Contains-cons_cases x.row r k.seen h)
        where
          either : (b : Bool) → has (numbers_of r) ≡ true → cond b true (has (numbers_of r)) ≡ true
          either true e = refl
          either false e = e

-- ---- the rows of the code

module _ (all : List CaseRow) (i : ℕ) (row : CaseRow) (lt : i < length all) (is : row ≡ slice_index_or all i row) where
  pub row_next : drop i (map kept_row all) ≡ kept_row row ∷ drop (i + 1) (map kept_row all)
  row_next = drop-cons (map kept_row all) i (kept_row row) (simp length-map lt)
      ∙ ap (λ n. slice_index_or (map kept_row all) i (kept_row row) ∷ drop n (map kept_row all)) (sym (add-one i))
      ∙ ap (λ x. x ∷ drop (i + 1) (map kept_row all)) (get_or-map kept_row all i row (kept_row row) lt ∙ ap kept_row (sym is))

-- the set is asked for the numbers of row i, and then has them
module _ (all : List KeptRow) (i : ℕ) (kept : List KeptRow) (keys keys' : List (Bor (List ℤ))) (v : Bor (List ℤ)) (k : KeptSoFar all (has_numbers keys) i kept)
    (x : KeptRow) (next : drop i all ≡ x ∷ drop (i + 1) all) (is : v.now ≡ numbers_of x.row) (added : Bool) (says : added ≡ not (has_numbers keys v.now)) where
  pub asked-new : ¬ IsIdle x → added ≡ true → ((q : Bor (List ℤ))
      → has_numbers keys' q.now ≡ cond (pointwise int_eq v.now q.now) true (has_numbers keys q.now)) → KeptSoFar all (has_numbers keys') (i + 1) (kept ++ x ∷ [])
  asked-new busy was updates = kept-push all (has_numbers keys) (has_numbers keys') i kept k x next busy
      (subst (λ l. has_numbers keys l ≡ false) is (fresh added (has_numbers keys v.now) says was))
      (λ q. subst (λ l. has_numbers keys' q ≡ cond (pointwise int_eq l q) true (has_numbers keys q)) is (updates (record v { now = q })))
    where
      fresh : (a b : Bool) → a ≡ not b → a ≡ true → b ≡ false
      fresh a true p q = sym q ∙ p
      fresh a false p q = refl

  pub asked-old : added ≡ false → keys' ≡ keys → KeptSoFar all (has_numbers keys') (i + 1) kept
  asked-old was unchanged = kept-drop all (has_numbers keys) (has_numbers keys') i kept k x next
      (inr (subst (λ l. has_numbers keys l ≡ true) is (old added (has_numbers keys v.now) says was))) (λ q. ap (λ l. has_numbers l q) unchanged)
    where
      old : (a b : Bool) → a ≡ not b → a ≡ false → b ≡ true
      old a true p q = refl
      old a false p q = sym q ∙ p
