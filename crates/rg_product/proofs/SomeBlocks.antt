-- The labels of a system fall into blocks.
use Rattle.std.proofs.Common.{◌≡◌, ◌⊎◌, inl, inr, ℕ, zero, suc, ◌<◌, ◌≤◌, List, [], ◌∷◌, length, map, get_or, slice_index, Contains, All, AllPairs, refl, sym, subst, arith}
use Rattle.std.proofs.lemmas.Bool.{cases_lt}
use Rattle.std.proofs.lemmas.List.Elements.{Contains-get_or}
use Rattle.std.proofs.lemmas.List.Kept.{AllPairs-cons}
use Rattle.rg_theory.specs.System.{System, labels}
use Rattle.rg_theory.proofs.Deciding.{Decided, find_number, AreAllWhere, all_where}
use Rattle.rg_theory.proofs.Lists.{map_there, map_from}
use Rattle.rg_product.specs.Blocks.{Joined.same, Joined.turned, Joined.through, AreTied, AreBlocks}
use Rattle.rg_product.proofs.Joining.{least_first}

module _ (lts : System) (decide : (t u : ℕ) → Decided (AreTied lts t u)) where
  -- no lesser label is tied to it
  abbrev pub IsLeast : ℕ → Type 0
  IsLeast t = (u : ℕ) → u < t → ¬ AreTied lts u t

  pub least_or_not : (t : ℕ) → Decided (IsLeast t)
  least_or_not t = by (find_number (λ u. AreTied lts u t) (λ u. decide u t) t)
    where
      by : ((u : ℕ) × (u < t) × AreTied lts u t × ((v : ℕ) → v < u → ¬ AreTied lts v t)) ⊎ ((u : ℕ) → u < t → ¬ AreTied lts u t) → Decided (IsLeast t)
      by (inl (u, lt, tied, before)) = inr (λ is. is u lt tied)
      by (inr none) = inl none

  abbrev pub block_of : ℕ → List ℕ
  block_of w = (all_where (λ u. AreTied lts w u) (λ u. decide w u) 0 (labels lts)).0

  block_is : (w : ℕ) → AreAllWhere (λ u. AreTied lts w u) 0 (labels lts) (block_of w)
  block_is w = (all_where (λ u. AreTied lts w u) (λ u. decide w u) 0 (labels lts)).1

  abbrev pub leasts : List ℕ
  leasts = (all_where IsLeast least_or_not 0 (labels lts)).0

  leasts_are : AreAllWhere IsLeast 0 (labels lts) leasts
  leasts_are = (all_where IsLeast least_or_not 0 (labels lts)).1

  inside : (w u : ℕ) → u < labels lts → AreTied lts w u → Contains (block_of w) u
  inside w u lt tied = ((block_is w).members u).1 (omega arith, omega arith, tied)

  tied_in : (w u : ℕ) → Contains (block_of w) u → AreTied lts w u
  tied_in w u has = let (_, _, tied) = ((block_is w).members u).0 has in tied

  label_in : (w u : ℕ) → Contains (block_of w) u → u < labels lts
  label_in w u has = let (_, lt, _) = ((block_is w).members u).0 has in omega arith

  is_least : (w : ℕ) → Contains leasts w → IsLeast w
  is_least w has = let (_, _, is) = (leasts_are.members w).0 has in is

  least_label : (w : ℕ) → Contains leasts w → w < labels lts
  least_label w has = let (_, lt, _) = (leasts_are.members w).0 has in omega arith

  -- each label is tied to a least one
  own_least : (t : ℕ) → t < labels lts → (w : ℕ) × Contains leasts w × AreTied lts w t
  own_least t lt = by (find_number (λ u. AreTied lts u t) (λ u. decide u t) (suc t))
    where
      by : ((u : ℕ) × (u < suc t) × AreTied lts u t × ((v : ℕ) → v < u → ¬ AreTied lts v t)) ⊎ ((u : ℕ) → u < suc t → ¬ AreTied lts u t) → (w : ℕ) × Contains leasts w × AreTied lts w t
      by (inl (u, less, tied, before)) = (u, (leasts_are.members u).1 (omega arith, omega arith, λ v l tied'. before v l (through v u t tied' tied)), tied)
      by (inr none) = absurd (none t (omega arith) (same t))

  -- the first label of a block is its least
  first_is : (w : ℕ) → Contains leasts w → slice_index (block_of w) 0 ≡ w
  first_is w has =
      let here : Contains (block_of w) w = inside w w (least_label w has) (same w) in
      let low = least_first (block_of w) w (block_is w).in_order here in
      let (k, lt, e) = here in
      let first : Contains (block_of w) (slice_index (block_of w) 0) = Contains-get_or (block_of w) 0 0 (omega arith) in
      by (slice_index (block_of w) 0) low (tied_in w (slice_index (block_of w) 0) first) (cases_lt (slice_index (block_of w) 0) w)
    where
      by : (x : ℕ) → x ≤ w → AreTied lts w x → (x < w) ⊎ (w ≤ x) → x ≡ w
      by x low tied (inl less) = absurd (is_least w has x less (turned w x tied))
      by x low tied (inr more) = omega arith

  abbrev pub some_blocks : List (List ℕ)
  some_blocks = map block_of leasts

  -- a block is that of a least label
  of_least : (block : List ℕ) → Contains some_blocks block → (w : ℕ) × Contains leasts w × (block_of w ≡ block)
  of_least block has = map_from block_of leasts block has

  by_least : (xs : List ℕ) → ((w : ℕ) → Contains xs w → Contains leasts w) → AllPairs (λ a b. a < b) xs → AllPairs (λ a b. slice_index a 0 < slice_index b 0) (map block_of xs)
  by_least [] among rises = λ i j d less lt. absurd (omega arith)
  by_least (w ∷ xs) among rises =
      AllPairs-cons (λ (a b : List ℕ). slice_index a 0 < slice_index b 0) (block_of w) (map block_of xs) before
      (by_least xs (λ v (k, lt, e). among v (suc k, omega arith, e)) (λ i j d less lt. rises (suc i) (suc j) d (omega arith) (omega arith)))
    where
      before : All (λ (b : List ℕ). slice_index (block_of w) 0 < slice_index b 0) (map block_of xs)
      before k d lt =
          let (v, (j, lt', is), e) = map_from block_of xs (get_or (map block_of xs) k d) (Contains-get_or (map block_of xs) k d lt) in
          let less : w < v = subst (λ x. w < x) is (rises zero (suc j) v (omega arith) (omega arith)) in
          let a = first_is w (among w (0, omega arith, refl)) in
          let b = first_is v (among v (suc j, omega arith, is)) in
          let up : slice_index (block_of w) 0 < slice_index (block_of v) 0 = omega (arith, a, b, less) in
          subst (λ (x : List ℕ). slice_index (block_of w) 0 < slice_index x 0) e up

  pub blocks_are : AreBlocks lts some_blocks
  blocks_are = record {
    each = λ t lt. (let (w, has, tied) = own_least t lt in (block_of w, map_there block_of leasts w has, inside w t lt tied));
    within = λ block t has here. (let (w, there, e) = of_least block has in label_in w t (subst (λ (b : List ℕ). Contains b t) (sym e) here));
    tied = λ block t u has here here'.
        (let (w, there, e) = of_least block has in
        through t w u (turned w t (tied_in w t (subst (λ (b : List ℕ). Contains b t) (sym e) here))) (tied_in w u (subst (λ (b : List ℕ). Contains b u) (sym e) here')));
    whole = λ block t u has here lt tied.
        (let (w, there, e) = of_least block has in
        subst (λ (b : List ℕ). Contains b u) e (inside w u lt (through w t u (tied_in w t (subst (λ (b : List ℕ). Contains b t) (sym e) here)) tied)));
    filled = λ k d lt. filled (get_or some_blocks k d) (Contains-get_or some_blocks k d lt);
    in_order = λ k d lt. rises (get_or some_blocks k d) (Contains-get_or some_blocks k d lt);
    by_least = by_least leasts (λ w has. has) leasts_are.in_order;
  }
    where
      filled : (block : List ℕ) → Contains some_blocks block → 0 < length block
      filled block has =
          let (w, there, e) = of_least block has in
          let (k, lt, is) = inside w w (least_label w there) (same w) in
          subst (λ (b : List ℕ). 0 < length b) e (omega arith)

      rises : (block : List ℕ) → Contains some_blocks block → AllPairs (λ t u. t < u) block
      rises block has = let (w, there, e) = of_least block has in subst (AllPairs (λ (t u : ℕ). t < u)) e (block_is w).in_order
