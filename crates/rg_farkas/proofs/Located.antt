-- Where an arc is in a list in order, and the multipliers of the listed arcs.
use Rattle.std.proofs.Common.{◌≡◌, ◌≢◌, ◌⊎◌, ⊎_elim, ℕ, zero, suc, ◌<◌, ◌≤◌, ◌+◌, ◌-◌, ◌||◌, true, false, if◌then◌else◌, List, [], ◌∷◌, ◌++◌, map, drop, set, length, slice_index_or, Contains, AllPairs, inl, inr, ap, ap₂, refl, subst, sym, ◌∙◌, arith, append_assoc, Ordering}
use Rattle.std.specs.Prelude.{ℤ, pos, int_lt}
use Rattle.std.proofs.Math.ListN.{replicate}
use Rattle.std.proofs.lemmas.List.{get_or-map}
use Rattle.std.proofs.lemmas.Simd.{splat_is_map}
use Rattle.std.specs.List.Sorted.{IsPartitionedBy}
use Rattle.std.proofs.lemmas.Bool.{cases_Bool, cases_order, true≢false}
use Rattle.rg_theory.specs.declared.Arc.{Arc}
use Rattle.rg_theory.specs.System.{IsArcBefore}
use Rattle.rg_theory.specs.Tree.{same_arc}
use Rattle.std.specs.Ordering.{nat_cmp, ordering_then, is_lt}
use Rattle.rg_theory.proofs.Arcs.{same_arc_itself}
use Rattle.rg_lts.proofs.OrderedArcs.{before_itself, before_back, before_trans}
use Rattle.rg_lts.proofs.ArcSets.{at_less, at_equal, at_greater}
use Rattle.rg_cert_meaning.specs.Refutes.{NamedRow}
use Rattle.rg_case_folds.specs.Spreading.{multiplier_among, not_zero, arc_name}
use Rattle.rg_case_folds.proofs.Items.{from_index}
use Rattle.rg_farkas.proofs.Listed.{Differ, arc_is}
use Rattle.rg_linear.proofs.Splits.{nonzero_test as zero_of}

-- ---- the order

-- by from, label and to
abbrev pub arc_cmp : Arc → Arc → Ordering
arc_cmp a b = ordering_then (nat_cmp a.from b.from) (ordering_then (nat_cmp a.label b.label) (nat_cmp a.to b.to))

-- of two arcs one comes first, or they are the same
data Compared (a b : Arc) : Type 0 where
  first : IsArcBefore a b → is_lt (arc_cmp a b) ≡ true → Compared a b
  other : (IsArcBefore a b → ⊥) → is_lt (arc_cmp a b) ≡ false → Compared a b

before_not : (a b : Arc) → IsArcBefore b a → IsArcBefore a b → ⊥
before_not a b h g = before_back a b g h

same_not : (a b : Arc) → a.from ≡ b.from → a.label ≡ b.label → a.to ≡ b.to → IsArcBefore a b → ⊥
same_not a b f l t (inl lt) = omega arith
same_not a b f l t (inr (e, inl lt)) = omega arith
same_not a b f l t (inr (e, inr (g, lt))) = omega arith

compared : (a b : Arc) → Compared a b
compared a b = go (cases_order a.from b.from) (cases_order a.label b.label) (cases_order a.to b.to)
  where
    second : Ordering
    second = ordering_then (nat_cmp a.label b.label) (nat_cmp a.to b.to)

    go : (a.from ≡ b.from) ⊎ ((a.from < b.from) ⊎ (b.from < a.from)) → (a.label ≡ b.label) ⊎ ((a.label < b.label) ⊎ (b.label < a.label))
        → (a.to ≡ b.to) ⊎ ((a.to < b.to) ⊎ (b.to < a.to)) → Compared a b
    go (inr (inl lt)) l t = first (inl lt) (ap (λ x. is_lt (ordering_then x second)) (at_less a.from b.from lt))
    go (inr (inr gt)) l t = other (before_not a b (inl gt)) (ap (λ x. is_lt (ordering_then x second)) (at_greater a.from b.from gt))
    go (inl f) (inr (inl lt)) t = first (inr (f, inl lt))
        (ap (λ x. is_lt (ordering_then x second)) (at_equal a.from b.from f) ∙ ap (λ x. is_lt (ordering_then x (nat_cmp a.to b.to))) (at_less a.label b.label lt))
    go (inl f) (inr (inr gt)) t = other (before_not a b (inr (sym f, inl gt)))
        (ap (λ x. is_lt (ordering_then x second)) (at_equal a.from b.from f) ∙ ap (λ x. is_lt (ordering_then x (nat_cmp a.to b.to))) (at_greater a.label b.label gt))
    go (inl f) (inl l) (inr (inl lt)) = first (inr (f, inr (l, lt)))
        (ap (λ x. is_lt (ordering_then x second)) (at_equal a.from b.from f)
        ∙ ap (λ x. is_lt (ordering_then x (nat_cmp a.to b.to))) (at_equal a.label b.label l) ∙ ap is_lt (at_less a.to b.to lt))
    go (inl f) (inl l) (inr (inr gt)) = other (before_not a b (inr (sym f, inr (sym l, gt))))
        (ap (λ x. is_lt (ordering_then x second)) (at_equal a.from b.from f)
        ∙ ap (λ x. is_lt (ordering_then x (nat_cmp a.to b.to))) (at_equal a.label b.label l) ∙ ap is_lt (at_greater a.to b.to gt))
    go (inl f) (inl l) (inl t) = other (same_not a b f l t)
        (ap (λ x. is_lt (ordering_then x second)) (at_equal a.from b.from f)
        ∙ ap (λ x. is_lt (ordering_then x (nat_cmp a.to b.to))) (at_equal a.label b.label l) ∙ ap is_lt (at_equal a.to b.to t))

before_says : (a b : Arc) → is_lt (arc_cmp a b) ≡ true → IsArcBefore a b
before_says a b e = go (compared a b)
  where
    go : Compared a b → IsArcBefore a b
    go (first before _) = before
    go (other _ past) = absurd (true≢false (sym e ∙ past))

says_before : (a b : Arc) → IsArcBefore a b → is_lt (arc_cmp a b) ≡ true
says_before a b before = go (compared a b)
  where
    go : Compared a b → is_lt (arc_cmp a b) ≡ true
    go (first _ e) = e
    go (other not_before _) = absurd (not_before before)

pub arcs_parted : (b : Arc) (arcs : List Arc) → AllPairs IsArcBefore arcs → IsPartitionedBy (λ a. is_lt (arc_cmp a b)) arcs
arcs_parted b arcs order i j d le lt e = go (cases_order i j)
  where
    go : (i ≡ j) ⊎ ((i < j) ⊎ (j < i)) → is_lt (arc_cmp (slice_index_or arcs i d) b) ≡ true
    go (inl same) = subst (λ k. is_lt (arc_cmp (slice_index_or arcs k d) b) ≡ true) (sym same) e
    go (inr (inl l)) = says_before (slice_index_or arcs i d) b
        (before_trans (slice_index_or arcs i d) (slice_index_or arcs j d) b (order i j d l lt) (before_says (slice_index_or arcs j d) b e))
    go (inr (inr l)) = absurd (omega arith)

-- an arc of the list is the one at which those before it end
pub arc_located : (b : Arc) (arcs : List Arc) (index : ℕ) → AllPairs IsArcBefore arcs
    → ((k : ℕ) (d : Arc) → k < index → is_lt (arc_cmp (slice_index_or arcs k d) b) ≡ true)
    → ((k : ℕ) (d : Arc) → index ≤ k → k < length arcs → is_lt (arc_cmp (slice_index_or arcs k d) b) ≡ false)
    → Contains arcs b → (index < length arcs) × (slice_index_or arcs index b ≡ b)
arc_located b arcs index order before behind (k, lt, at) = go (cases_order k index)
  where
    go : (k ≡ index) ⊎ ((k < index) ⊎ (index < k)) → (index < length arcs) × (slice_index_or arcs index b ≡ b)
    go (inl same) = (omega arith, subst (λ i. slice_index_or arcs i b ≡ b) same at)
    go (inr (inl l)) = absurd (before_itself b (subst (λ x. IsArcBefore x b) at (before_says (slice_index_or arcs k b) b (before k b l))))
    go (inr (inr l)) =
        let yes = says_before (slice_index_or arcs index b) b (subst (IsArcBefore (slice_index_or arcs index b)) at (order index k b l lt)) in
        let no = behind index b (omega arith) (omega arith) in
        absurd cc

-- ---- the multipliers of the system's arcs

abbrev with_arc : Arc → ℤ → (Arc → ℤ) → Arc → ℤ
with_arc b z f a = if same_arc b a then z else f a

-- no arc of the list is the one
others_same : (b : Arc) (z : ℤ) (f : Arc → ℤ) (all : List Arc) → ¬ Contains all b → map f all ≡ map (with_arc b z f) all
others_same b z f [] lacks = refl
others_same b z f (a ∷ all) lacks =
    ap₂ (λ x l. x ∷ l) (⊎_elim (λ is. absurd (lacks (0, omega arith, sym (arc_is b a is)))) (λ not_is. ap (λ t. if t then z else f a) (sym not_is)) (cases_Bool (same_arc b a)))
    (others_same b z f all (λ (k, lt, at). lacks (suc k, omega arith, at)))

one_set : (b : Arc) (z : ℤ) (f : Arc → ℤ) (all : List Arc) (i : ℕ) → Differ all → i < length all → slice_index_or all i b ≡ b → set (map f all) i z ≡ map (with_arc b z f) all
one_set b z f [] i differ lt at = absurd (omega arith)
one_set b z f (a ∷ all) zero (lacks, differ) lt at =
    ap₂ (λ x l. x ∷ l) (ap (λ t. if t then z else f a) (sym (subst (λ u. same_arc b u ≡ true) (sym at) (same_arc_itself b))))
    (others_same b z f all (λ has. lacks (subst (Contains all) (sym at) has)))
one_set b z f (a ∷ all) (suc i) (lacks, differ) lt at =
    ap₂ (λ x l. x ∷ l) (ap (λ t. if t then z else f a) (sym (⊎_elim (λ is. absurd (lacks (i, omega arith, there is))) (λ e. e) (cases_Bool (same_arc b a)))))
    (one_set b z f all i differ (omega arith) at)
  where
    there : same_arc b a ≡ true → slice_index_or all i a ≡ a
    there is = subst (λ u. slice_index_or all i u ≡ u) (arc_is b a is) at

-- the arcs from k on, where those from k + 1 on are found
module _ (system arcs : List Arc) (numbers : List ℤ) (k : ℕ) (d : Arc) (positive : 0 < k) (lt : k ≤ length arcs) (enough : length arcs ≤ length numbers) where
  among_here : (a : Arc) → multiplier_among (drop (k - 1) arcs) (drop (k - 1) numbers) a
      ≡ with_arc (slice_index_or arcs (k - 1) d) (slice_index_or numbers (k - 1) (pos 0)) (multiplier_among (drop k arcs) (drop k numbers)) a
  among_here a = ap₂ (λ l n. multiplier_among l n a) (from_index arcs (k - 1) d (omega arith)) (from_index numbers (k - 1) (pos 0) (omega arith))
      ∙ ap (λ n. with_arc (slice_index_or arcs (k - 1) d) (slice_index_or numbers (k - 1) (pos 0)) (multiplier_among (drop n arcs) (drop n numbers)) a) back
    where
      back : k - 1 + 1 ≡ k
      back = omega arith

  all_here : (all : List Arc) → map (with_arc (slice_index_or arcs (k - 1) d) (slice_index_or numbers (k - 1) (pos 0))
      (multiplier_among (drop k arcs) (drop k numbers))) all ≡ map (multiplier_among (drop (k - 1) arcs) (drop (k - 1) numbers)) all
  all_here [] = refl
  all_here (a ∷ all) = ap₂ (λ x l. x ∷ l) (sym (among_here a)) (all_here all)

  pub arc_found : (index : ℕ) (found : List ℤ) → Differ system → index < length system → slice_index_or system index (slice_index_or arcs (k - 1) d) ≡ slice_index_or arcs (k - 1) d
      → found ≡ map (multiplier_among (drop k arcs) (drop k numbers)) system
      → set found index (slice_index_or numbers (k - 1) (pos 0)) ≡ map (multiplier_among (drop (k - 1) arcs) (drop (k - 1) numbers)) system
  arc_found index found differ within at so_far = ap (λ l. set l index (slice_index_or numbers (k - 1) (pos 0))) so_far
      ∙ one_set (slice_index_or arcs (k - 1) d) (slice_index_or numbers (k - 1) (pos 0)) (multiplier_among (drop k arcs) (drop k numbers)) system index differ within at
      ∙ all_here system

  pub arc_missing : (found : List ℤ) → ¬ Contains system (slice_index_or arcs (k - 1) d)
      → found ≡ map (multiplier_among (drop k arcs) (drop k numbers)) system
      → found ≡ map (multiplier_among (drop (k - 1) arcs) (drop (k - 1) numbers)) system
  arc_missing found lacks so_far = so_far
      ∙ others_same (slice_index_or arcs (k - 1) d) (slice_index_or numbers (k - 1) (pos 0)) (multiplier_among (drop k arcs) (drop k numbers)) system lacks
      ∙ all_here system

-- where no arc is looked at yet, each has 0
pub none_looked : (system arcs : List Arc) (numbers zeros : List ℤ) (k : ℕ) → length arcs ≤ k → zeros ≡ replicate (length system) (pos 0)
    → zeros ≡ map (multiplier_among (drop k arcs) (drop k numbers)) system
none_looked system arcs numbers zeros k past is = is ∙ splat_is_map system (length system) (pos 0) refl ∙ ap (λ l. map (multiplier_among l (drop k numbers)) system) (sym (none k arcs past))
  where
    none : {A : Type 0} (k : ℕ) (l : List A) → length l ≤ k → drop k l ≡ []
    none zero [] le = refl
    none (suc k) [] le = refl
    none zero (x ∷ l) le = absurd (omega arith)
    none (suc k) (x ∷ l) le = none k l (omega arith)

-- ---- the rows of the system's arcs

-- the arcs with their multipliers, of which those from k on are left
module _ (f : Arc → ℤ) (system : List Arc) (numbers : List ℤ) (all : numbers ≡ map f system) (k : ℕ) (d : Arc) (z : ℤ) (lt : k < length system) (here : z ≡ slice_index_or numbers k z) where
  number_is : z ≡ f (slice_index_or system k d)
  number_is = here ∙ ap (λ l. slice_index_or l k z) all ∙ get_or-map f system k d z lt

  row_here : not_zero (map (λ a. record { multiplier = f a; name = arc_name a }) (drop k system))
      ≡ not_zero (record { multiplier = z; name = arc_name (slice_index_or system k d) } ∷ map (λ a. record { multiplier = f a; name = arc_name a }) (drop (k + 1) system))
  row_here = ap (λ l. not_zero (map (λ a. record { multiplier = f a; name = arc_name a }) l)) (from_index system k d lt)
      ∙ ap (λ x. not_zero (record { multiplier = x; name = arc_name (slice_index_or system k d) } ∷ map (λ a. record { multiplier = f a; name = arc_name a }) (drop (k + 1) system))) (sym number_is)

  module _ (done all_rows : List NamedRow) (so_far : done ++ not_zero (map (λ a. record { multiplier = f a; name = arc_name a }) (drop k system)) ≡ all_rows) where
    -- the next row's multiplier isn't 0
    pub row_kept : (pushed : List NamedRow) → z ≢ pos 0 → pushed ≡ done ++ record { multiplier = z; name = arc_name (slice_index_or system k d) } ∷ []
        → pushed ++ not_zero (map (λ a. record { multiplier = f a; name = arc_name a }) (drop (k + 1) system)) ≡ all_rows
    row_kept pushed differs is =
        ap (λ l. l ++ rest) is ∙ append_assoc done (record { multiplier = z; name = arc_name (slice_index_or system k d) } ∷ []) rest
        ∙ ap (λ t. done ++ (if t then (record { multiplier = z; name = arc_name (slice_index_or system k d) } ∷ rest) else rest)) (sym (tested z differs)) ∙ ap (λ l. done ++ l) (sym row_here) ∙ so_far
      where
        rest : List NamedRow
        rest = not_zero (map (λ a. record { multiplier = f a; name = arc_name a }) (drop (k + 1) system))

        tested : (z : ℤ) → z ≢ pos 0 → (int_lt z (pos 0) || int_lt (pos 0) z) ≡ true
        tested z differs = ⊎_elim (λ e. e) (λ e. absurd (differs (zero_of z e))) (cases_Bool (int_lt z (pos 0) || int_lt (pos 0) z))

    -- it is 0
    pub row_left : z ≡ pos 0 → done ++ not_zero (map (λ a. record { multiplier = f a; name = arc_name a }) (drop (k + 1) system)) ≡ all_rows
    row_left is =
        ap (λ x. done ++ (if int_lt x (pos 0) || int_lt (pos 0) x then
        (record { multiplier = x; name = arc_name (slice_index_or system k d) } ∷ rest) else rest)) (sym is) ∙ ap (λ l. done ++ l) (sym row_here) ∙ so_far
      where
        rest : List NamedRow
        rest = not_zero (map (λ a. record { multiplier = f a; name = arc_name a }) (drop (k + 1) system))
