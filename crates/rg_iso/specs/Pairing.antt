-- Pairs of states that are met: those in order, the partner of each state of the first system, and which states of the second have one.
use Rattle.std.specs.Prelude.{◌≡◌, ◌≢◌, ◌⊎◌, ℕ, ◌+◌, ◌<◌, Bool, true, false, IsTrue, List, [], ◌∷◌, ◌++◌, length, Option, None, Some, is_none, count_by, slice_index_or, slice_set}
use Rattle.rg_theory.specs.System.{System, states, labels, HasArc}
use Rattle.rg_iso.specs.Isomorphic.{HaveOneName}
use Rattle.rg_iso.specs.Words.{IsMetBefore, Meets}
use Rattle.rg_iso.specs.declared.pairing.Pairing.{Pairing}

-- a state of the first system and one of the second
abbrev pub Pair : Type 0
Pair = ℕ × ℕ

abbrev pub pair_at : List Pair → ℕ → Pair
pair_at order i = slice_index_or order i (0, 0)

abbrev pub way_at : List (List ℕ) → ℕ → List ℕ
way_at ways i = slice_index_or ways i []

-- the pairs in order, the partner of each state of the first system, and whether a state of the second is one
pub record Pairs : Type 0 where
  pub order : List Pair
  pub partners : List (Option ℕ)
  pub taken : List Bool

abbrev pub pairs_of : List Pair → List (Option ℕ) → List Bool → Pairs
pairs_of order partners taken = record { order = order; partners = partners; taken = taken }

abbrev pub pairs_in : Pairing → Pairs
pairs_in pairing = pairs_of pairing.order.items pairing.partners.items pairing.taken.items

-- the words that lead to the pairs rise, and no state is in two pairs
pub record ArePairs (a b : System) (p : Pairs) (ways : List (List ℕ)) : Type 0 where
  pub ways_long : length ways ≡ length p.order
  pub some : 0 < length p.order
  pub root : way_at ways 0 ≡ []
  pub meets : (i : ℕ) → i < length p.order → Meets a b (way_at ways i) (pair_at p.order i).0 (pair_at p.order i).1
  pub rises : (i j : ℕ) → i < j → j < length p.order → IsMetBefore (way_at ways i) (way_at ways j)
  pub partners_long : length p.partners ≡ states a
  pub taken_long : length p.taken ≡ states b
  pub partner : (i : ℕ) → i < length p.order → slice_index_or p.partners (pair_at p.order i).0 None ≡ Some (pair_at p.order i).1
  pub paired : (s q : ℕ) → slice_index_or p.partners s None ≡ Some q → (i : ℕ) × (i < length p.order) × (pair_at p.order i ≡ (s, q))
  pub takes : (i : ℕ) → i < length p.order → IsTrue (slice_index_or p.taken (pair_at p.order i).1 false)
  pub taker : (q : ℕ) → IsTrue (slice_index_or p.taken q false) → (i : ℕ) × (i < length p.order) × ((pair_at p.order i).1 ≡ q)
  pub one_taker : (i j : ℕ) → i < length p.order → j < length p.order → (pair_at p.order i).1 ≡ (pair_at p.order j).1 → i ≡ j
  pub count : count_by is_none p.partners + length p.order ≡ states a

-- the index of label u at pair number i comes before that of label t at pair number k
abbrev pub IsIndexBefore : ℕ → ℕ → ℕ → ℕ → Type 0
IsIndexBefore i u k t = (i < k) ⊎ ((i ≡ k) × (u < t))

-- at a pair a label leads on in neither system, or in both, to a pair
pub data IsMatched (a b : System) (p : Pairs) (ways : List (List ℕ)) (i t : ℕ) : Type 0 where
  neither : (u : ℕ) → HaveOneName a b t u → ((to : ℕ) → ¬ HasArc a (pair_at p.order i).0 t to) → ((to : ℕ) → ¬ HasArc b (pair_at p.order i).1 u to)
      → IsMatched a b p ways i t
  both : (u j s q : ℕ) → HaveOneName a b t u → HasArc a (pair_at p.order i).0 t s → HasArc b (pair_at p.order i).1 u q → j < length p.order
      → pair_at p.order j ≡ (s, q) → (way_at ways j ≡ t ∷ way_at ways i) ⊎ IsMetBefore (way_at ways j) (t ∷ way_at ways i) → IsMatched a b p ways i t

-- all indices before that of label t at pair number k are matched, and each pair but the first was met at one of them
pub record IsFollowedTo (a b : System) (p : Pairs) (k t : ℕ) : Type 0 where
  pub ways : List (List ℕ)
  pub pairs : ArePairs a b p ways
  pub matched : (i u : ℕ) → i < length p.order → u < labels a → IsIndexBefore i u k t → IsMatched a b p ways i u
  pub entered : (j : ℕ) → 0 < j → j < length p.order → (i : ℕ) × (u : ℕ) × IsIndexBefore i u k t × (i < j) × (way_at ways j ≡ u ∷ way_at ways i)

-- what two targets give: they are a pair already, one of them is in another pair, or they become a pair
pub data BecomePair (p : Pairs) (s q : ℕ) : Bool → Pairs → Type 0 where
  already : slice_index_or p.partners s None ≡ Some q → BecomePair p s q true p
  elsewhere : (r : ℕ) → slice_index_or p.partners s None ≡ Some r → r ≢ q → BecomePair p s q false p
  is_taken : slice_index_or p.partners s None ≡ None → IsTrue (slice_index_or p.taken q false) → BecomePair p s q false p
  joined : slice_index_or p.partners s None ≡ None → slice_index_or p.taken q false ≡ false
      → BecomePair p s q true (pairs_of (p.order ++ (s, q) ∷ []) (slice_set p.partners s (Some q)) (slice_set p.taken q true))
