-- What is kept beside a tree is right: its arcs by their targets, the counts of labels, and the other arcs.
use Rattle.std.proofs.Common.{◌≡◌, ◌≢◌, ◌⊎◌, ℕ, zero, suc, ◌+◌, ◌<◌, ◌≤◌, ◌==◌, ◌&&◌, Bool, true, false, if◌then◌else◌, List, [], ◌∷◌, ◌++◌, length, take, Option, None}
use Rattle.std.proofs.Common.{Some, get_or, set, slice_index, slice_index_or, slice_set, Contains, All, IfSome, replicate, inl, inr, sym, subst, ap, ◌∙◌, refl, arith}
use Rattle.std.proofs.Common.{eq-eqb, ne_eqb, append_assoc, add-zero, true≢false}
use Rattle.std.proofs.lemmas.Bool.{cases_eq}
use Rattle.std.proofs.lemmas.Option.{same_Some, none-some}
use Rattle.std.proofs.lemmas.List.{get_or-set_same, get_or-set_other, set-set, length-set, length-replicate, get_or-replicate, take_more, take_all, map-append}
use Rattle.std.proofs.lemmas.List.Elements.{Contains-get_or, Contains-append_left, Contains-push_cases, All-weaker, All-contains, All-cons, All-head, All-tail, All-set, All-replicate}
use Rattle.rg_theory.specs.declared.Arc.{Arc}
use Rattle.rg_theory.specs.System.{System, states, labels, IsArcInRange, IsReachable, IsAllReachable, IsLeastUnreachable}
use Rattle.rg_theory.specs.Tree.{Grows, IsTree, way_to, count, parikh, same_arc, is_among, arcs_without, chords}
use Rattle.rg_theory.proofs.Lists.{Contains-cons_cases}
use Rattle.rg_theory.proofs.Trees.{way_of_initial, way_joins, source_met, tree_arcs, reachable_is_met, met_is_reachable}
use Rattle.rg_theory.specs.Limits.{most_states}
use Rattle.rg_theory.proofs.Arcs.{same_arc_is, same_arc_itself}
use Rattle.rg_lts.specs.WellFormed.{IsWellFormed}
use Rattle.rg_spanning.specs.Growing.{IsGrowing}
use Rattle.rg_spanning.specs.Tables.{IsRow, HasRows, AreTables}
use Rattle.rg_spanning.proofs.TreeGrowth.{targets, met_entered}

both : (a b : Bool) → (a && b) ≡ true → (a ≡ true) × (b ≡ true)
both true b e = (refl, e)
both false b e = absurd (true≢false (sym e))

pub among : (tree : List Arc) (a : Arc) → Contains tree a → is_among tree a ≡ true
among [] a (k, lt, at) = absurd (omega arith)
among (b ∷ tree) a has = go (same_arc b a) refl (Contains-cons_cases b a tree has) (among tree a)
  where
    go : (t : Bool) → same_arc b a ≡ t → (b ≡ a) ⊎ Contains tree a → (Contains tree a → is_among tree a ≡ true) → is_among (b ∷ tree) a ≡ true
    go true e has rest = ap (λ t. if t then true else is_among tree a) e
    go false e (inl same) rest = let f = subst (λ (x : Arc). same_arc x a ≡ false) same e in let g = same_arc_itself a in absurd cc
    go false e (inr there) rest = ap (λ t. if t then true else is_among tree a) e ∙ rest there

pub not_among : (tree : List Arc) (a : Arc) → (Contains tree a → ⊥) → is_among tree a ≡ false
not_among [] a lacks = refl
not_among (b ∷ tree) a lacks = go (same_arc b a) refl (not_among tree a (λ (k, lt, at). lacks (suc k, omega arith, at)))
  where
    go : (t : Bool) → same_arc b a ≡ t → is_among tree a ≡ false → is_among (b ∷ tree) a ≡ false
    go true e rest = absurd (lacks (0, omega arith, same_arc_is b a e))
    go false e rest = ap (λ t. if t then true else is_among tree a) e ∙ rest

module _ (lts : System) (order : List ℕ) (tree : List Arc) (entries : List (Option Arc)) (g : IsGrowing lts order tree entries) where
  -- an arc is in the tree where it entered its target
  pub in_tree_some : (a b : Arc) → get_or entries a.to None ≡ Some b → same_arc b a ≡ is_among tree a
  in_tree_some a b is = go (same_arc b a) refl
    where
      go : (t : Bool) → same_arc b a ≡ t → same_arc b a ≡ is_among tree a
      go true e = e ∙ sym (among tree a (subst (Contains tree) (same_arc_is b a e) (g.entered a.to b is).1))
      go false e = e ∙ sym (not_among tree a
          (λ has. (let same : b ≡ a = same_Some b a (sym is ∙ g.enters a has) in let f = subst (λ (x : Arc). same_arc x a ≡ false) same e in let
          h = same_arc_itself a in absurd cc)))

  pub in_tree_none : (a : Arc) → get_or entries a.to None ≡ None → is_among tree a ≡ false
  in_tree_none a is = not_among tree a (λ has. none-some a (sym is ∙ g.enters a has))

-- what holds of all arcs holds of those beside the tree
pub All-without : (P : Arc → Type 0) (tree arcs : List Arc) → All P arcs → All P (arcs_without tree arcs)
All-without P tree [] all = all
All-without P tree (a ∷ arcs) all = go (is_among tree a) refl (All-without P tree arcs (All-tail P a arcs all))
  where
    go : (t : Bool) → is_among tree a ≡ t → All P (arcs_without tree arcs) → All P (arcs_without tree (a ∷ arcs))
    go true e rest = subst (All P) (sym (ap (λ t. if t then arcs_without tree arcs else (a ∷ arcs_without tree arcs)) e)) rest
    go false e rest = subst (All P) (sym (ap (λ t. if t then arcs_without tree arcs else (a ∷ arcs_without tree arcs)) e))
        (All-cons P a (arcs_without tree arcs) (All-head P a arcs all) rest)

count-push : (t : ℕ) (us : List ℕ) (u : ℕ) → count t (us ++ u ∷ []) ≡ count t us + (if t == u then 1 else 0)
count-push t [] u = omega arith
count-push t (v ∷ us) u = let e = count-push t us u in omega arith

pub parikh_initial : (lts : System) (tree : List Arc) (t : ℕ) → IsTree lts tree → parikh tree lts.initial t ≡ 0
parikh_initial lts tree t g = ap (count t) (way_of_initial lts tree g)

pub parikh_joins : (lts : System) (tree : List Arc) (a : Arc) (t : ℕ) → IsTree lts tree → Contains tree a
    → parikh tree a.to t ≡ parikh tree a.from t + (if t == a.label then 1 else 0)
parikh_joins lts tree a t g has = ap (count t) (way_joins lts (λ s. []) (lts.initial ∷ []) tree a g has) ∙ count-push t (way_to tree a.from) a.label

-- the source of an arc is met before it
source_before : (lts : System) (met : List ℕ) (tree : List Arc) (i : ℕ) (d : Arc) → Grows lts met tree → i < length tree
    → Contains (met ++ targets (take i tree)) (get_or tree i d).from
source_before lts met [] i d g lt = absurd (omega arith)
source_before lts met (a ∷ tree) zero d (j, rest) lt = Contains-append_left met [] a.from (source_met lts met a j)
source_before lts met (a ∷ tree) (suc i) d (j, rest) lt =
    subst (λ xs. Contains xs (get_or tree i d).from) (append_assoc met (a.to ∷ []) (targets (take i tree)))
    (source_before lts (met ++ a.to ∷ []) tree i d rest (omega arith))

-- the state is the initial one or the target of one of the first arcs
abbrev pub IsCounted : ℕ → List Arc → ℕ → ℕ → Type 0
IsCounted initial tree i s = Contains (initial ∷ targets (take i tree)) s

-- the rows are right as far as the first i arcs
pub record IsCounting (labels initial : ℕ) (tree : List Arc) (states : ℕ) (rows : List (List ℕ)) (i : ℕ) : Type 0 where
  pub one_each : length rows ≡ states
  pub right : (s : ℕ) (d : List ℕ) → IsCounted initial tree i s → IsRow labels tree s (slice_index_or rows s d)
  pub small : (s : ℕ) (d : List ℕ) → IsCounted initial tree i s → All (λ x. x ≤ i) (slice_index_or rows s d)

counted_more : (initial : ℕ) (tree : List Arc) (i s : ℕ) (d : Arc) → i < length tree → IsCounted initial tree (i + 1) s
    → IsCounted initial tree i s ⊎ (s ≡ (get_or tree i d).to)
counted_more initial tree i s d lt has =
    let more : initial ∷ targets (take (i + 1) tree) ≡ (initial ∷ targets (take i tree)) ++ (get_or tree i d).to ∷ [] =
    ap (λ (xs : List Arc). initial ∷ targets xs) (take_more tree i d lt) ∙ ap (λ xs. initial ∷ xs)
    (map-append (λ (a : Arc). a.to) (take i tree) (get_or tree i d ∷ [])) in
    go (Contains-push_cases (initial ∷ targets (take i tree)) (get_or tree i d).to s (subst (λ xs. Contains xs s) more has))
  where
    go : Contains (initial ∷ targets (take i tree)) s ⊎ ((get_or tree i d).to ≡ s) → IsCounted initial tree i s ⊎ (s ≡ (get_or tree i d).to)
    go (inl old) = inl old
    go (inr e) = inr (sym e)

-- the row with one more of the label is that of the arc's target
row_joins : (lts : System) (tree : List Arc) (a : Arc) (labels : ℕ) (row : List ℕ) → IsTree lts tree → Contains tree a → a.label < labels
    → IsRow labels tree a.from row
    → IsRow labels tree a.to (slice_set row a.label (slice_index row a.label + 1))
row_joins lts tree a labels row g has label r = record {
  one_each = length-set row a.label (slice_index row a.label + 1) ∙ r.one_each;
  counts = counts;
}
  where
    counts : (t : ℕ) → t < labels → slice_index (slice_set row a.label (slice_index row a.label + 1)) t ≡ parikh tree a.to t
    counts t lt = go (cases_eq t a.label)
      where
        go : (t ≡ a.label) ⊎ (t ≡ a.label → ⊥) → slice_index (slice_set row a.label (slice_index row a.label + 1)) t ≡ parikh tree a.to t
        go (inl e) =
            let new = subst (λ k. get_or (set row a.label (slice_index row a.label + 1)) k 0 ≡ slice_index row a.label + 1) (sym e)
            (get_or-set_same row a.label (slice_index row a.label + 1) 0 (let l = r.one_each in omega arith)) in
            let old = r.counts a.label label in
            let one = ap (λ b. if b then 1 else 0) (eq-eqb t a.label e) in
            let joins = parikh_joins lts tree a t g has in
            let same = ap (parikh tree a.from) e in
            new ∙ ap (λ n. n + 1) (old ∙ sym same) ∙ sym (joins ∙ ap (λ n. parikh tree a.from t + n) one)
        go (inr ne) =
            let new = get_or-set_other row a.label t (slice_index row a.label + 1) 0 ne in
            let none = ap (λ b. if b then 1 else 0) (ne_eqb t a.label ne) in
            let joins = parikh_joins lts tree a t g has in
            new ∙ r.counts t lt ∙ sym (joins ∙ ap (λ n. parikh tree a.from t + n) none ∙ add-zero (parikh tree a.from t))

-- the rows before any arc
pub counting_none : (lts : System) (tree : List Arc) (labels n : ℕ) → IsTree lts tree → lts.initial < n
    → IsCounting labels lts.initial tree n (replicate n (replicate labels 0)) 0
counting_none lts tree labels n g lt = record {
  one_each = length-replicate n (replicate labels 0);
  right = λ s d has. subst (λ k. IsRow labels tree k (slice_index_or (replicate n (replicate labels 0)) k d)) (root s has)
      (subst (IsRow labels tree lts.initial) (sym (here d)) zeros);
  small = λ s d has. subst (λ k. All (λ x. x ≤ 0) (slice_index_or (replicate n (replicate labels 0)) k d)) (root s has)
      (subst (All (λ x. x ≤ 0)) (sym (here d)) (All-replicate (λ x. x ≤ 0) labels 0 (omega arith)));
}
  where
    root : (s : ℕ) → Contains (lts.initial ∷ []) s → lts.initial ≡ s
    root s has = go (Contains-cons_cases lts.initial s [] has)
      where
        go : (lts.initial ≡ s) ⊎ Contains [] s → lts.initial ≡ s
        go (inl e) = e
        go (inr (k, l, _)) = absurd (omega arith)

    here : (d : List ℕ) → get_or (replicate n (replicate labels 0)) lts.initial d ≡ replicate labels 0
    here d = get_or-replicate n lts.initial (replicate labels 0) d lt

    zeros : IsRow labels tree lts.initial (replicate labels 0)
    zeros = record {
      one_each = length-replicate labels 0;
      counts = λ t l. get_or-replicate labels t 0 0 l ∙ sym (parikh_initial lts tree t g);
    }

-- a row that is copied, and then has one more of a label
pub copied_row : (rows : List (List ℕ)) (from to : ℕ) → to < length rows
    → get_or (set rows to (get_or rows from [])) to [] ≡ get_or rows from []
copied_row rows from to lt = get_or-set_same rows to (get_or rows from []) [] lt

pub joined_row : (rows : List (List ℕ)) (from to label : ℕ) → to < length rows
    → slice_set (set rows to (get_or rows from [])) to (slice_set (get_or (set rows to (get_or rows from [])) to []) label (slice_index (get_or (set rows to (get_or rows from [])) to []) label + 1))
    ≡ slice_set rows to (slice_set (get_or rows from []) label (slice_index (get_or rows from []) label + 1))
joined_row rows from to label lt =
    ap (λ (row : List ℕ). slice_set (set rows to (get_or rows from [])) to (slice_set row label (slice_index row label + 1))) (copied_row rows from to lt)
    ∙ set-set rows to (get_or rows from []) (slice_set (get_or rows from []) label (slice_index (get_or rows from []) label + 1))

module _ (lts : System) (tree : List Arc) (labels n : ℕ) (rows : List (List ℕ)) (i : ℕ) (d : Arc) (g : IsTree lts tree)
    (c : IsCounting labels lts.initial tree n rows i) (lt : i < length tree) where
  -- the source of the next arc is counted
  pub source_counted : IsCounted lts.initial tree i (get_or tree i d).from
  source_counted = source_before lts (lts.initial ∷ []) tree i d g lt

  -- the row of its source
  abbrev pub source_row : List ℕ
  source_row = get_or rows (get_or tree i d).from []

  -- and that with one more of its label
  abbrev pub next_row : List ℕ
  next_row = slice_set source_row (get_or tree i d).label (slice_index source_row (get_or tree i d).label + 1)

  -- the row of the source has room for one more of the label
  pub label_within : (get_or tree i d).label < labels → (get_or tree i d).label < length source_row
  label_within label = let e = (c.right (get_or tree i d).from [] source_counted).one_each in omega arith

  pub label_small : (get_or tree i d).label < labels → slice_index source_row (get_or tree i d).label ≤ i
  label_small label = c.small (get_or tree i d).from [] source_counted (get_or tree i d).label 0 (label_within label)

  -- one arc more
  pub counting_more : (get_or tree i d).to < n → (get_or tree i d).label < labels
      → IsCounting labels lts.initial tree n (slice_set rows (get_or tree i d).to next_row) (i + 1)
  counting_more within label = record {
    one_each = length-set rows (get_or tree i d).to next_row ∙ c.one_each;
    right = λ s f has. right s f (counted_more lts.initial tree i s d lt has) (cases_eq s (get_or tree i d).to);
    small = λ s f has. small s f (counted_more lts.initial tree i s d lt has) (cases_eq s (get_or tree i d).to);
  }
    where
      here : (f : List ℕ) → get_or (set rows (get_or tree i d).to next_row) (get_or tree i d).to f ≡ next_row
      here f = get_or-set_same rows (get_or tree i d).to next_row f (let l = c.one_each in omega arith)

      there : (s : ℕ) (f : List ℕ) → s ≢ (get_or tree i d).to → get_or (set rows (get_or tree i d).to next_row) s f ≡ get_or rows s f
      there s f ne = get_or-set_other rows (get_or tree i d).to s next_row f ne

      new_row : IsRow labels tree (get_or tree i d).to next_row
      new_row = row_joins lts tree (get_or tree i d) labels source_row g (Contains-get_or tree i d lt) label (c.right (get_or tree i d).from [] source_counted)

      new_small : All (λ x. x ≤ i + 1) next_row
      new_small =
          let cell = label_small label in
          All-set (λ x. x ≤ i + 1) source_row (get_or tree i d).label _ (omega arith)
          (All-weaker (λ x. x ≤ i) (λ x. x ≤ i + 1) (λ x l. omega arith) source_row (c.small (get_or tree i d).from [] source_counted))

      right : (s : ℕ) (f : List ℕ) → IsCounted lts.initial tree i s ⊎ (s ≡ (get_or tree i d).to)
          → (s ≡ (get_or tree i d).to) ⊎ (s ≡ (get_or tree i d).to → ⊥)
          → IsRow labels tree s (slice_index_or (slice_set rows (get_or tree i d).to next_row) s f)
      right s f _ (inl same) = subst (λ k. IsRow labels tree k (slice_index_or (slice_set rows (get_or tree i d).to next_row) k f)) (sym same)
          (subst (IsRow labels tree (get_or tree i d).to) (sym (here f)) new_row)
      right s f (inl has) (inr ne) = subst (IsRow labels tree s) (sym (there s f ne)) (c.right s f has)
      right s f (inr same) (inr ne) = absurd (ne same)

      small : (s : ℕ) (f : List ℕ) → IsCounted lts.initial tree i s ⊎ (s ≡ (get_or tree i d).to)
          → (s ≡ (get_or tree i d).to) ⊎ (s ≡ (get_or tree i d).to → ⊥)
          → All (λ x. x ≤ i + 1) (slice_index_or (slice_set rows (get_or tree i d).to next_row) s f)
      small s f _ (inl same) = subst (λ k. All (λ x. x ≤ i + 1) (slice_index_or (slice_set rows (get_or tree i d).to next_row) k f)) (sym same)
          (subst (All (λ x. x ≤ i + 1)) (sym (here f)) new_small)
      small s f (inl has) (inr ne) = subst (All (λ x. x ≤ i + 1)) (sym (there s f ne))
          (All-weaker (λ x. x ≤ i) (λ x. x ≤ i + 1) (λ x l. omega arith) _ (c.small s f has))
      small s f (inr same) (inr ne) = absurd (ne same)

-- all rows, when all arcs are counted
pub counting_all : (initial : ℕ) (order : List ℕ) (tree : List Arc) (label_count n : ℕ) (rows : List (List ℕ)) (i : ℕ)
    → IsCounting label_count initial tree n rows i
    → length tree ≤ i → order ≡ initial ∷ targets tree → HasRows label_count tree order rows
counting_all initial order tree label_count n rows i c le is s d has = c.right s d
    (subst (λ xs. Contains xs s) (is ∙ ap (λ (xs : List Arc). initial ∷ targets xs) (sym (take_all i tree le))) has)

module _ (lts : System) (order : List ℕ) (tree : List Arc) (entries : List (Option Arc)) (g : IsGrowing lts order tree entries)
    (grown : IsTree lts tree) where
  met_reached : (s : ℕ) → Contains order s → IsReachable lts s
  met_reached s has = met_is_reachable lts tree s grown (subst (λ xs. Contains xs s) g.order_is has)

  -- the least state that isn't met is the least that can't be reached
  pub least_unreachable : (s : ℕ) → s < states lts → (Contains order s → ⊥) → ((r : ℕ) → r < s → Contains order r) → IsLeastUnreachable lts s
  least_unreachable s lt unmet least = record {
    state = lt;
    unreachable = λ reached. unmet (subst (λ xs. Contains xs s) (sym g.order_is) (reachable_is_met lts tree s grown reached));
    least = λ r l. met_reached r (least r l);
  }

  module _ (all : (s : ℕ) → s < states lts → Contains order s) where
    -- where all states are met, all can be reached
    pub all_reachable : IsAllReachable lts
    all_reachable = record { each = λ s lt. met_reached s (all s lt) }

    -- the tables of the tree
    pub tables : (rows : List (List ℕ)) → length rows ≡ length entries → HasRows (labels lts) tree order rows
        → AreTables (labels lts) lts.initial order tree entries rows (chords lts tree)
    tables rows len right = record {
      order_is = g.order_is;
      root = g.root;
      entered = g.entered;
      all_entered = λ s lt other. (met_entered lts order tree entries g s other).1 (all s (let e = g.one_each in omega arith));
      one_row_each = len;
      rows = λ s d lt. right s d (all s (let e = g.one_each in omega arith));
      ends = All-without (λ a. (a.from < length entries) × (a.to < length entries)) tree lts.arcs
          (All-weaker (IsArcInRange lts) (λ a. (a.from < length entries) × (a.to < length entries))
          (λ a (from, label, to). (let e = g.one_each in (omega arith, omega arith))) lts.arcs g.well_formed.in_range.arcs);
    }

-- the numbers of the tree's arcs are in range
pub next_in_range : (lts : System) (tree : List Arc) (i : ℕ) (d : Arc) → IsWellFormed lts → IsTree lts tree → i < length tree
    → IsArcInRange lts (get_or tree i d)
next_in_range lts tree i d fine g lt =
    All-contains (IsArcInRange lts) lts.arcs (get_or tree i d) fine.in_range.arcs
    (tree_arcs lts (lts.initial ∷ []) tree (get_or tree i d) g (Contains-get_or tree i d lt))

-- the tree has fewer arcs than there are states
pub tree_short : (lts : System) (order : List ℕ) (tree : List Arc) (entries : List (Option Arc)) → IsGrowing lts order tree entries
    → length tree ≤ most_states
tree_short lts order tree entries g = let n = g.count in let m = g.well_formed.few_states in omega arith

-- the arc that entered a state is in the tree
pub entry_found : (entries : List (Option Arc)) (tree : List Arc) (s : ℕ) (o : Option Arc) → o ≡ get_or entries s None
    → ((s : ℕ) (a : Arc) → slice_index_or entries s None ≡ Some a → (a.to ≡ s) × Contains tree a) → IfSome o (λ a. Contains tree a × (a.to ≡ s))
entry_found entries tree s None is entered = tt
entry_found entries tree s (Some a) is entered = let (to, has) = entered s a (sym is) in (has, to)
