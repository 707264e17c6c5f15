-- Numbers divided by their greatest common divisor, as code leaves them.
use Rattle.std.proofs.Common.{◌≡◌, ℕ, zero, suc, max, ◌<◌, List, [], ◌∷◌, ◌++◌, map, take, drop, length, All, ap, ap₂, refl, subst, sym, ◌∙◌, arith}
use Rattle.std.specs.Prelude.{ℤ, pos, ◌*ℤ◌}
use Rattle.std.proofs.Math.IntN.{*ℤ_comm}
use Rattle.std.proofs.lemmas.List.{drop_all, take_all, append-nil}
use Rattle.std.proofs.lemmas.List.Elements.{All-from_get_or}
use Rattle.rg_integers.specs.Range.{InRange}
use Rattle.rg_integers.specs.Sum.{number_at}
use Rattle.rg_integers.proofs.Ring.{one-mul}
use Rattle.rg_fraction.specs.Rows.{IsPrimitivePart, IsRowGcd}
use Rattle.rg_case_folds.specs.Spreading.{IsParts}

-- lists that agree at each index
same_numbers : (f : ℤ → ℤ) (a b : List ℤ) → length b ≡ length a → ((k : ℕ) → k < length a → number_at a k ≡ f (number_at b k)) → a ≡ map f b
same_numbers f [] [] e all = refl
same_numbers f [] (y ∷ b) e all = absurd (omega arith)
same_numbers f (x ∷ a) [] e all = absurd (omega arith)
same_numbers f (x ∷ a) (y ∷ b) e all = ap₂ (λ z l. z ∷ l) (all 0 (omega arith)) (same_numbers f a b (omega arith) (λ k lt. all (suc k) (omega arith)))

times_max : (items q : List ℤ) (g : ℕ) → IsPrimitivePart items q g → (k : ℕ) → k < length items → number_at items k ≡ pos (max g 1) *ℤ number_at q k
times_max items q zero part k lt = ap (λ l. number_at l k) (sym (part.zeros refl)) ∙ sym (one-mul (number_at q k))
times_max items q (suc g) part k lt = sym (part.quotients (omega arith) k lt) ∙ *ℤ_comm (number_at q k) (pos (suc g)) ∙ ap (λ n. pos n *ℤ number_at q k) (greater g)
  where
    greater : (g : ℕ) → suc g ≡ max (suc g) 1
    greater g = omega arith

-- what stands where a slice was written whole
module _ (items q : List ℤ) (n : ℕ) (whole : n ≡ length items) (same : length q ≡ length items) where
  pub written : take n (q ++ drop (length q) items) ≡ q
  written = ap (λ l. take n (q ++ l)) (drop_all (length q) items (omega arith)) ∙ ap (take n) (append-nil q) ∙ take_all n q (omega arith)

  pub written_in_range : ((k : ℕ) → k < length items → InRange (number_at q k)) → All InRange (take n (q ++ drop (length q) items))
  written_in_range all = subst (All InRange) (sym written) (All-from_get_or InRange q (pos 0) (λ i lt. all i (omega arith)))

pub parts_made : (numbers seen items q : List ℤ) (n g : ℕ) → seen ≡ items → items ≡ numbers → n ≡ length items → IsPrimitivePart seen q g → IsParts numbers (take n (q ++ drop (length q) items))
parts_made numbers seen items q n g e e' whole part' =
    let part = subst (λ l. IsPrimitivePart l q g) e part' in
    subst (IsParts numbers) (sym (written items q n whole part.same_length)) (record {
      divisor = g;
      greatest = subst (λ l. IsRowGcd l g) e' part.divisor;
      parts_are = sym e' ∙ same_numbers (λ z. pos (max g 1) *ℤ z) items q part.same_length (times_max items q g part);
    })

pub parts_in_range : (seen items q : List ℤ) (n g : ℕ) → seen ≡ items → n ≡ length items → IsPrimitivePart seen q g
    → ((k : ℕ) → k < length seen → InRange (number_at q k)) → All InRange (take n (q ++ drop (length q) items))
parts_in_range seen items q n g e whole part' range = written_in_range items q n whole (subst (λ l. IsPrimitivePart l q g) e part').same_length (λ k lt. range k (subst (λ l. k < length l) (sym e) lt))
