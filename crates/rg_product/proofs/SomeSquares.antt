-- The broken squares of a system as a list in order, and those of them that join labels anew.
use Rattle.std.proofs.Common.{◌≡◌, ◌↔◌, ◌⊎◌, inl, inr, ℕ, zero, suc, ◌<◌, ◌≤◌, List, [], ◌∷◌, length, map, get_or, Contains, All, AllPairs, sym, subst, ◌∙◌, arith}
use Rattle.std.proofs.lemmas.Bool.{cases_lt, cases_order}
use Rattle.std.proofs.lemmas.List.{get_or_default}
use Rattle.std.proofs.lemmas.List.Elements.{Contains-get_or}
use Rattle.std.proofs.lemmas.List.Kept.{AllPairs-cons}
use Rattle.rg_theory.specs.declared.Arc.{Arc}
use Rattle.rg_theory.specs.System.{System, states, labels, arc, IsArcBefore, IsForkFree}
use Rattle.rg_line_formats.proofs.Parts.{some_with}
use Rattle.rg_theory.proofs.Deciding.{Decided, first_there}
use Rattle.rg_theory.proofs.Lists.{map_there, map_from}
use Rattle.rg_product.specs.Squares.{Broken, broken_at, HasSquare, IsBroken, IsSquareBefore}
use Rattle.rg_product.specs.Blocks.{Joined, Joined.pair, HaveBroken, AreTied, HaveBrokenBefore, Joins, AreJoining, HaveOneOf, JoinAll, IsOneBlock}
use Rattle.rg_product.proofs.Joining.{square_or_not}
use Rattle.rg_product.proofs.ProductSquares.{joined_more}
use Rattle.rg_product.proofs.OneFactoring.{square_one_way}
use Rattle.rg_product.proofs.JoinedOrNot.{joined_flat, joined_or_not}
use Rattle.rg_product.proofs.Kept.{kept, collected, collected_there}

-- ---- all squares

abbrev square_of : Arc → Broken
square_of a = broken_at a.from a.label a.to

pairs_mapped : (xs : List Arc) → AllPairs IsArcBefore xs → AllPairs IsSquareBefore (map square_of xs)
pairs_mapped [] pairs = λ i j d less lt. absurd (omega arith)
pairs_mapped (x ∷ xs) pairs =
    AllPairs-cons IsSquareBefore (square_of x) (map square_of xs) before (pairs_mapped xs (λ i j d less lt. pairs (suc i) (suc j) d (omega arith) (omega arith)))
  where
    before : All (IsSquareBefore (square_of x)) (map square_of xs)
    before k d lt =
        let (a, (j, lt', is), e) = map_from square_of xs (get_or (map square_of xs) k d) (Contains-get_or (map square_of xs) k d lt) in
        let less : IsArcBefore x a = subst (IsArcBefore x) is (pairs zero (suc j) a (omega arith) (omega arith)) in
        let less' : IsSquareBefore (square_of x) (square_of a) = less in
        subst (IsSquareBefore (square_of x)) e less'

-- every three numbers
abbrev triples : ℕ → ℕ → List Arc
triples states labels = collected states (λ s. collected labels (λ t. collected labels (λ u. arc s t u ∷ [])))

triple_there : (n m s t u : ℕ) → s < n → t < m → u < m → Contains (triples n m) (arc s t u)
triple_there n m s t u ls lt lu =
    collected_there n (λ q. collected m (λ v. collected m (λ w. arc q v w ∷ []))) s (arc s t u) ls
    (collected_there m (λ v. collected m (λ w. arc s v w ∷ [])) t (arc s t u) lt
    (collected_there m (λ w. arc s t w ∷ []) u (arc s t u) lu (first_there (arc s t u) [])))

-- ---- the broken ones

broken_or_not : (lts : System) → IsForkFree lts → (b : Broken) → Decided (IsBroken lts b)
broken_or_not lts one b = by (cases_lt b.s (states lts)) (cases_lt b.t b.u) (cases_lt b.u (labels lts)) (square_or_not lts one b.s b.t b.u)
  where
    by : (b.s < states lts) ⊎ (states lts ≤ b.s) → (b.t < b.u) ⊎ (b.u ≤ b.t) → (b.u < labels lts) ⊎ (labels lts ≤ b.u) → HasSquare lts b.s b.t b.u ⊎ (HasSquare lts b.s b.t b.u → ⊥)
        → Decided (IsBroken lts b)
    by (inl x) (inl y) (inl z) (inr none) = inl (record { state = x; order = y; label = z; no_square = none })
    by (inl x) (inl y) (inl z) (inl square) = inr (λ is. is.no_square square)
    by (inl x) (inl y) (inr past) _ = inr (λ is. (let h = is.label in omega arith))
    by (inl x) (inr past) _ _ = inr (λ is. (let h = is.order in omega arith))
    by (inr past) _ _ _ = inr (λ is. (let h = is.state in omega arith))

pub record AreAllBroken (lts : System) (squares : List Broken) : Type 0 where
  pub members : (b : Broken) → Contains squares b ↔ IsBroken lts b
  pub in_order : AllPairs IsSquareBefore squares

pub all_broken : (lts : System) → IsForkFree lts → (squares : List Broken) × AreAllBroken lts squares
all_broken lts one =
    let (sorted, is) = some_with [] [] (triples (states lts) (labels lts)) 0 in
    let (squares, are) = kept IsSquareBefore (IsBroken lts) (broken_or_not lts one) (map square_of sorted.arcs) (pairs_mapped sorted.arcs is.in_order) in (
      squares,
      record {
        members = λ b. (
          (λ has. ((are.members b).0 has).1),
          (λ broken. (are.members b).1 (
            map_there square_of sorted.arcs (arc b.s b.t b.u)
                ((is.members (arc b.s b.t b.u)).1 (triple_there (states lts) (labels lts) b.s b.t b.u broken.state (let x = broken.order in let y = broken.label in omega arith) broken.label)),
            broken,
          )),
        );
        in_order = are.in_order;
      },
    )

-- ---- those that join anew

square_before_or_not : (a b : Broken) → Decided (IsSquareBefore a b)
square_before_or_not a b = by (cases_order a.s b.s) (cases_order a.t b.t) (cases_lt a.u b.u)
  where
    by : (a.s ≡ b.s) ⊎ ((a.s < b.s) ⊎ (b.s < a.s)) → (a.t ≡ b.t) ⊎ ((a.t < b.t) ⊎ (b.t < a.t)) → (a.u < b.u) ⊎ (b.u ≤ a.u) → Decided (IsSquareBefore a b)
    by (inr (inl less)) _ _ = inl (inl less)
    by (inl e) (inr (inl less)) _ = inl (inr (e, inl less))
    by (inl e) (inl f) (inl less) = inl (inr (e, inr (f, less)))
    by (inl e) (inl f) (inr more) = inr (refuted e f more)
      where
        refuted : a.s ≡ b.s → a.t ≡ b.t → b.u ≤ a.u → IsSquareBefore a b → ⊥
        refuted e f more (inl less) = omega arith
        refuted e f more (inr (g, inl less)) = omega arith
        refuted e f more (inr (g, inr (k, less))) = omega arith
    by (inl e) (inr (inr more)) _ = inr (refuted e more)
      where
        refuted : a.s ≡ b.s → b.t < a.t → IsSquareBefore a b → ⊥
        refuted e more (inl less) = omega arith
        refuted e more (inr (g, inl less)) = omega arith
        refuted e more (inr (g, inr (k, less))) = omega arith
    by (inr (inr more)) _ _ = inr (refuted more)
      where
        refuted : b.s < a.s → IsSquareBefore a b → ⊥
        refuted more (inl less) = omega arith
        refuted more (inr (g, h)) = omega arith

module _ (lts : System) (one : IsForkFree lts) (all : List Broken) (h : AreAllBroken lts all) where
  before_or_not : (b : Broken) (t u : ℕ) → Decided (Joined (HaveBrokenBefore lts b) t u)
  before_or_not b t u =
      let (earlier, are) = kept IsSquareBefore (λ x. IsSquareBefore x b) (λ x. square_before_or_not x b) all h.in_order in
      by earlier (λ x y s has. (let k = (are.members (broken_at s x y)).0 has in ((h.members (broken_at s x y)).0 k.0, k.1)))
      (λ x y s is less. (are.members (broken_at s x y)).1 ((h.members (broken_at s x y)).1 is, less)) (joined_or_not earlier t u)
    where
      by : (earlier : List Broken) → ((x y s : ℕ) → Contains earlier (broken_at s x y) → IsBroken lts (broken_at s x y) × IsSquareBefore (broken_at s x y) b)
          → ((x y s : ℕ) → IsBroken lts (broken_at s x y) → IsSquareBefore (broken_at s x y) b → Contains earlier (broken_at s x y)) → Decided (Joined (HaveOneOf earlier) t u)
          → Decided (Joined (HaveBrokenBefore lts b) t u)
      by earlier to from (inl j) = inl (joined_more (HaveOneOf earlier) (HaveBrokenBefore lts b) (λ x y (s, has). (let k = to x y s has in (s, k.0, k.1))) t u j)
      by earlier to from (inr none) = inr (λ j. none (joined_more (HaveBrokenBefore lts b) (HaveOneOf earlier) (λ x y (s, is, less). (s, from x y s is less)) t u j))

  joins_or_not : (b : Broken) → Decided (Joins lts b)
  joins_or_not b = by (broken_or_not lts one b) (before_or_not b b.t b.u)
    where
      by : Decided (IsBroken lts b) → Decided (Joined (HaveBrokenBefore lts b) b.t b.u) → Decided (Joins lts b)
      by (inl is) (inr none) = inl (record { is_broken = is; anew = none })
      by (inl is) (inl j) = inr (λ joins. joins.anew j)
      by (inr none) _ = inr (λ joins. none joins.is_broken)

  pub some_joining : (squares : List Broken) × AreJoining lts squares
  some_joining =
      let (squares, are) = kept IsSquareBefore (Joins lts) joins_or_not all h.in_order in (
        squares,
        record {
          members = λ b. ((λ has. ((are.members b).0 has).1), (λ joins. (are.members b).1 ((h.members b).1 joins.is_broken, joins)));
          in_order = are.in_order;
        },
      )

  pub tied_or_not : (t u : ℕ) → Decided (AreTied lts t u)
  tied_or_not t u = by (joined_or_not all t u)
    where
      by : Decided (Joined (HaveOneOf all) t u) → Decided (AreTied lts t u)
      by (inl j) = inl (joined_more (HaveOneOf all) (HaveBroken lts) (λ x y (s, has). (s, (h.members (broken_at s x y)).0 has)) t u j)
      by (inr none) = inr (λ j. none (joined_more (HaveBroken lts) (HaveOneOf all) (λ x y (s, is). (s, (h.members (broken_at s x y)).1 is)) t u j))

  -- what the broken squares join, those that join anew join as well
  module _ (squares : List Broken) (joining : AreJoining lts squares) where
    abbrev Joins_it : Broken → Type 0
    Joins_it b = Joined (HaveOneOf squares) b.t b.u

    below : (n k : ℕ) (b : Broken) → k < n → k < length all → get_or all k b ≡ b → Joins_it b
    below zero k b less lt e = absurd (omega arith)
    below (suc n) k b less lt e = by (joins_or_not b) (before_or_not b b.t b.u) (λ j c less' lt' e'. below n j c less' lt' e')
      where
        earlier : (j : ℕ) (c : Broken) → j < length all → get_or all j c ≡ c → IsSquareBefore c b → j < n
        earlier j c lt' e' before = go (cases_order j k)
          where
            at_k : get_or all k c ≡ b
            at_k = get_or_default all k c b lt ∙ e

            go : (j ≡ k) ⊎ ((j < k) ⊎ (k < j)) → j < n
            go (inr (inl l)) = omega arith
            go (inl same) =
                let one : c ≡ b = sym e' ∙ subst (λ i. get_or all i c ≡ b) (sym same) at_k in
                let itself : IsSquareBefore b b = subst (λ z. IsSquareBefore z b) one before in
                absurd (square_one_way b b itself itself)
            go (inr (inr l)) =
                let up = h.in_order k j c l lt' in
                absurd (square_one_way b c (subst (λ z. IsSquareBefore b z) e' (subst (λ z. IsSquareBefore z (get_or all j c)) at_k up)) before)

        by : Decided (Joins lts b) → Decided (Joined (HaveBrokenBefore lts b) b.t b.u) → ((j : ℕ) (c : Broken) → j < n → j < length all → get_or all j c ≡ c → Joins_it c) → Joins_it b
        by (inl joins) _ next = pair b.t b.u (b.s, (joining.members b).1 joins)
        by (inr none) (inl j) next = joined_flat (HaveBrokenBefore lts b) (HaveOneOf squares)
            (λ x y (s, is, before). (let (i, lt', e') = (h.members (broken_at s x y)).1 is in next i (broken_at s x y) (earlier i (broken_at s x y) lt' e' before) lt' e')) b.t b.u j
        by (inr none) (inr anew) next = absurd (none (record { is_broken = (h.members b).0 (k, lt, e); anew = anew }))

    pub all_joined : IsOneBlock lts → JoinAll lts squares
    all_joined block = record {
      all = λ t u lt lt'. joined_flat (HaveBroken lts) (HaveOneOf squares)
          (λ x y (s, is). (let (i, within, e) = (h.members (broken_at s x y)).1 is in below (suc i) i (broken_at s x y) (omega arith) within e)) t u (block.all t u lt lt');
    }
