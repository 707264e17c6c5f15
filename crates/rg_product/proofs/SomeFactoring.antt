-- Each system in range all of whose states can be reached and that has no fork has a factoring.
use Rattle.std.proofs.Common.{◌≡◌, ◌⊎◌, inl, inr, ℕ, zero, suc, ◌<◌, ◌≤◌, List, [], ◌∷◌, length, map, Some, get_or, slice_get, slice_index, Contains, AllPairs, refl, sym, ap, subst, ◌∙◌, arith}
use Rattle.std.proofs.lemmas.Bool.{cases_lt, cases_eq}
use Rattle.std.proofs.lemmas.List.{get_or_default}
use Rattle.std.proofs.lemmas.List.Elements.{All-contains}
use Rattle.std.proofs.lemmas.Option.{same_Some, none-some}
use Rattle.rg_theory.specs.System.{System, states, IsInRange, IsAllReachable, IsForkFree}
use Rattle.rg_theory.proofs.Lists.{index_of}
use Rattle.rg_product.specs.Squares.{Broken}
use Rattle.rg_product.specs.Blocks.{AreBlocks, IsOneBlock}
use Rattle.rg_product.specs.Product.{Factor, tuple_of}
use Rattle.rg_product.specs.Factoring.{AreParted, AreFactors, choices, Factoring, Factoring.factors as as_factors}
use Rattle.rg_product.specs.Factoring.{Factoring.one_block as as_one_block, Factoring.fewer as as_fewer, IsFactoring, IsFactoring.of_one_block, IsFactoring.of_fewer, IsFactoring.of_factors}
use Rattle.rg_product.specs.Ends.{Splits, AreNumbers}
use Rattle.rg_product.proofs.Choosing.{IsChoice}
use Rattle.rg_product.proofs.Making.{made_product}
use Rattle.rg_product.proofs.SplitEach.{AreListed, listed, some_ends, ends_chosen}
use Rattle.rg_product.proofs.SomeSquares.{AreAllBroken, all_broken, some_joining, tied_or_not, all_joined}
use Rattle.rg_product.proofs.SomeBlocks.{some_blocks, blocks_are}
use Rattle.rg_product.proofs.SomeParts.{some_reached_each, some_factors}

-- the numbers of states that are reached
some_numbers : (reached : List (List ℕ)) (ends : List ℕ) → IsChoice reached ends → (tuple : List ℕ) × AreNumbers reached ends tuple
some_numbers [] [] is = ([], record { one_each = refl; numbers = λ i members at. absurd (none-some members at) })
some_numbers [] (q ∷ ends) is = absurd is
some_numbers (members ∷ reached) [] is = absurd is
some_numbers (members ∷ reached) (q ∷ ends) (has, is) =
    let (i, at) = index_of members q has in
    let (tuple, are) = some_numbers reached ends is in
    (i ∷ tuple, record { one_each = ap suc are.one_each; numbers = numbers i at tuple are })
  where
    numbers : (i : ℕ) → slice_get members i ≡ Some q → (tuple : List ℕ) → AreNumbers reached ends tuple → (j : ℕ) (xs : List ℕ) → slice_get (members ∷ reached) j ≡ Some xs
        → slice_get xs (slice_index (i ∷ tuple) j) ≡ Some (slice_index (q ∷ ends) j)
    numbers i at tuple are zero xs here = subst (λ (l : List ℕ). slice_get l i ≡ Some q) (same_Some members xs here) at
    numbers i at tuple are (suc j) xs here = are.numbers j xs here

-- fewer than two blocks: all labels are tied
few_blocks : (lts : System) (blocks : List (List ℕ)) → AreBlocks lts blocks → length blocks ≤ 1 → IsOneBlock lts
few_blocks lts blocks are few = record {
  all = λ t u lt lt'.
      (let (b, (k, within, at), inside) = are.each t lt in
      let (b', (k', within', at'), inside') = are.each u lt' in
      let first : k ≡ k' = omega arith in
      let same : b ≡ b' = sym at ∙ ap (λ n. get_or blocks n b) first ∙ get_or_default blocks k' b b' within' ∙ at' in
      are.tied b t u (k, within, at) inside (subst (λ (xs : List ℕ). Contains xs u) (sym same) inside'));
}

module _ (lts : System) (fine : IsInRange lts) (reach : IsAllReachable lts) (one : IsForkFree lts) where
  abbrev Some_factoring : Type 0
  Some_factoring = (f : Factoring) × IsFactoring lts f

  -- as many tuples as states
  module _ (blocks reached : List (List ℕ)) (parted : AreParted lts blocks reached) (many : choices reached ≡ states lts) where
    of_all : (factors : List Factor) → AreFactors lts blocks reached factors → (ends : List (List ℕ)) → AreListed (Splits lts blocks) (states lts) ends
        → (tuples : List (List ℕ)) → AreListed (λ s. AreNumbers reached (tuple_of ends s)) (states lts) tuples → Some_factoring
    of_all factors parts ends split tuples numbers = (
      as_factors factors tuples,
      of_factors blocks reached factors tuples parted many parts (made_product lts blocks reached factors ends tuples fine one (record {
        parted = parted;
        many = many;
        parts = parts;
        end_each = split.long;
        one_each = numbers.long;
        splits = split.each;
        numbers = numbers.each;
      })),
    )

    made : Some_factoring
    made =
        let (factors, parts) = some_factors lts blocks reached (λ block has. All-contains (AllPairs (λ (t u : ℕ). t < u)) blocks block parted.are_blocks.in_order has) parted.are_reached in
        let (ends, split) = some_ends lts fine reach one blocks parted.are_blocks in
        let (tuples, numbers) = listed (λ s. AreNumbers reached (tuple_of ends s)) (states lts)
        (λ s lt. some_numbers reached (tuple_of ends s) (ends_chosen lts fine reach one blocks parted.are_blocks reached parted.are_reached s (tuple_of ends s) (split.each s lt))) in
        of_all factors parts ends split tuples numbers

  by_blocks : (squares : List Broken) → AreAllBroken lts squares → (blocks : List (List ℕ)) → AreBlocks lts blocks → Some_factoring
  by_blocks squares all blocks are = by (cases_lt 1 (length blocks))
    where
      sized : (reached : List (List ℕ)) → AreParted lts blocks reached → (choices reached ≡ states lts) ⊎ (choices reached ≡ states lts → ⊥) → Some_factoring
      sized reached parted (inl many) = made blocks reached parted many
      sized reached parted (inr other) = (as_fewer (map length reached), of_fewer blocks reached parted other)

      by : (1 < length blocks) ⊎ (length blocks ≤ 1) → Some_factoring
      by (inl several) =
          let (reached, zip) = some_reached_each lts fine blocks in
          sized reached (record { are_blocks = are; several = several; are_reached = zip }) (cases_eq (choices reached) (states lts))
      by (inr few) =
          let (joining, is) = some_joining lts one squares all in
          (as_one_block joining, of_one_block joining is (all_joined lts one squares all joining is (few_blocks lts blocks are few)))

  pub some_factoring : (f : Factoring) × IsFactoring lts f
  some_factoring =
      let (squares, all) = all_broken lts one in
      by_blocks squares all (some_blocks lts (tied_or_not lts one squares all)) (blocks_are lts (tied_or_not lts one squares all))
