-- Each state has ends, and different states have different ones, so that there are no fewer tuples than states.
use Rattle.std.proofs.Common.{◌≡◌, ◌≢◌, ◌↔◌, ◌⊎◌, inl, inr, ℕ, zero, suc, ◌<◌, ◌≤◌, List, [], ◌∷◌, length, map, get_or, slice_set, Contains, AllPairs, refl, sym, ap, subst, ◌∙◌, arith}
use Rattle.std.specs.List.{AllZip}
use Rattle.std.proofs.lemmas.Bool.{cases_lt}
use Rattle.std.proofs.lemmas.List.{get_or_default}
use Rattle.rg_theory.specs.System.{System, states, Leads, IsInRange, IsAllReachable, IsForkFree}
use Rattle.rg_theory.proofs.Arcs.{arc_in_range}
use Rattle.rg_theory.proofs.Lists.{index_of}
use Rattle.rg_line_formats.proofs.Things.{pigeons}
use Rattle.rg_product.specs.Blocks.{AreBlocks}
use Rattle.rg_product.specs.Product.{tuple_of}
use Rattle.rg_product.specs.Factoring.{AreReachedBy, AreParted, choices, Factoring, Factoring.fewer, IsFactoring, IsFactoring.of_one_block, IsFactoring.of_fewer, IsFactoring.of_factors}
use Rattle.rg_product.specs.Ends.{Splits, Splits.begin, Splits.then}
use Rattle.rg_product.proofs.Joining.{each_apart}
use Rattle.rg_product.proofs.EndLemmas.{EachApart, split_once, split_step}
use Rattle.rg_product.proofs.Parts.{split_long, split_reached, choice_from}
use Rattle.rg_product.proofs.Choosing.{IsChoice, all_choices, how_many, choice_there}
use Rattle.rg_product.proofs.OneFactoring.{one_parted}

-- one list for each of the first numbers
pub record AreListed (P : ℕ → List ℕ → Type 0) (n : ℕ) (xs : List (List ℕ)) : Type 0 where
  pub long : length xs ≡ n
  pub each : (s : ℕ) → s < n → P s (tuple_of xs s)

pub listed : (P : ℕ → List ℕ → Type 0) (n : ℕ) → ((s : ℕ) → s < n → (x : List ℕ) × P s x) → (xs : List (List ℕ)) × AreListed P n xs
listed P zero some = ([], record { long = refl; each = λ s lt. absurd (omega arith) })
listed P (suc n) some =
    let (x, p) = some 0 (omega arith) in
    let (xs, are) = listed (λ s. P (suc s)) n (λ s lt. some (suc s) (omega arith)) in
    (x ∷ xs, record { long = ap suc are.long; each = each x p xs are })
  where
    each : (x : List ℕ) → P 0 x → (xs : List (List ℕ)) → AreListed (λ s. P (suc s)) n xs → (s : ℕ) → s < suc n → P s (tuple_of (x ∷ xs) s)
    each x p xs are zero lt = p
    each x p xs are (suc s) lt = are.each s (omega arith)

module _ (lts : System) (fine : IsInRange lts) (reach : IsAllReachable lts) (one : IsForkFree lts) (blocks : List (List ℕ)) (are : AreBlocks lts blocks) where
  apart : EachApart lts blocks
  apart = each_apart lts fine one blocks are

  along : (s : ℕ) (ts : List ℕ) (s' : ℕ) (ends : List ℕ) → Splits lts blocks s ends → Leads lts s ts s' → (ends' : List ℕ) × Splits lts blocks s' ends'
  along s [] s' ends split e = (ends, subst (λ q. Splits lts blocks q ends) e split)
  along s (t ∷ ts) s' ends split (mid, has, rest) =
      let (block, there, inside) = are.each t (let (_, lt, _) = arc_in_range lts fine s t mid has in lt) in
      let (i, at) = index_of blocks block there in
      let (q, step) = split_step lts one blocks apart s t mid i block ends split at inside has in
      along mid ts s' (slice_set ends i q) (then s t mid i q block ends split has at inside step) rest

  pub some_ends : (ends : List (List ℕ)) × AreListed (Splits lts blocks) (states lts) ends
  some_ends = listed (Splits lts blocks) (states lts)
      (λ s lt. (let (ts, path) = reach.each s lt in along lts.initial ts s (map (λ block. lts.initial) blocks) begin path))

  -- ---- different states have different ends

  module _ (reached : List (List ℕ)) (zip : AllZip (AreReachedBy lts) blocks reached) where
    pub ends_chosen : (s : ℕ) (ends : List ℕ) → Splits lts blocks s ends → IsChoice reached ends
    ends_chosen s ends split = choice_from lts blocks reached ends zip (split_long lts blocks s ends split) (split_reached lts blocks s ends split)

    enough : (ends : List (List ℕ)) → AreListed (Splits lts blocks) (states lts) ends → states lts ≤ choices reached
    enough ends listing =
        let few = pigeons ends (all_choices reached) differ among in
        let n = how_many reached in
        let m = listing.long in
        omega (arith, few, n, m)
      where
        within : (k : ℕ) → k < length ends → k < states lts
        within k lt = subst (λ n. k < n) listing.long lt

        split_at : (k : ℕ) (d : List ℕ) → k < length ends → Splits lts blocks k (get_or ends k d)
        split_at k d lt = subst (Splits lts blocks k) (get_or_default ends k [] d lt) (listing.each k (within k lt))

        differ : AllPairs (λ a b. a ≢ b) ends
        differ i j d less lt e =
            let lt' : i < length ends = omega arith in
            let same : i ≡ j = split_once lts one blocks apart i j (get_or ends j d) (subst (Splits lts blocks i) e (split_at i d lt')) (split_at j d lt) in
            omega arith

        among : (x : List ℕ) → Contains ends x → Contains (all_choices reached) x
        among x (k, lt, e) = choice_there reached x (ends_chosen k x (subst (Splits lts blocks k) e (split_at k x lt)))

    pub no_fewer_tuples : states lts ≤ choices reached
    no_fewer_tuples = let (ends, listing) = some_ends in enough ends listing

pub tuples_enough : (lts : System) (blocks reached : List (List ℕ)) → IsInRange lts → IsAllReachable lts → IsForkFree lts → AreParted lts blocks reached → states lts ≤ choices reached
tuples_enough lts blocks reached fine reach one parted = no_fewer_tuples lts fine reach one blocks parted.are_blocks reached parted.are_reached

pub fewer_is_more : (lts : System) (blocks reached : List (List ℕ)) → IsInRange lts → IsAllReachable lts → IsForkFree lts → AreParted lts blocks reached
    → IsFactoring lts (fewer (map length reached)) ↔ (states lts < choices reached)
fewer_is_more lts blocks reached fine reach one parted = (λ is. more (fewer (map length reached)) is refl, λ less. of_fewer blocks reached parted (λ e. (omega arith)))
  where
    some : states lts ≤ choices reached
    some = tuples_enough lts blocks reached fine reach one parted

    greater : (choices reached ≡ states lts → ⊥) → states lts < choices reached
    greater other = by (cases_lt (states lts) (choices reached))
      where
        by : (states lts < choices reached) ⊎ (choices reached ≤ states lts) → states lts < choices reached
        by (inl less) = less
        by (inr most) = absurd (other (omega (arith, some, most)))

    more : (r : Factoring) → IsFactoring lts r → r ≡ fewer (map length reached) → states lts < choices reached
    more _ (of_one_block squares joining all) e = absurd cc
    more _ (of_fewer bs rs parted' other) e = greater (λ same. other (ap choices (sym (one_parted lts blocks bs reached rs parted parted').1) ∙ same))
    more _ (of_factors bs rs fs tuples parted' many parts product) e = absurd cc
