-- The ends of the blocks, arc after arc of the tree.
use Rattle.std.proofs.Common.{Vec, Global, nat_eq, false, true≢false, eq-eqb, ◌≡◌, ℕ, zero, suc, ◌+◌, ◌<◌, ◌≤◌, ◌⊎◌, inl, inr, ⊎_elim, List, [], ◌∷◌}
use Rattle.std.proofs.Common.{◌++◌, length, map, take, get_or, set, replicate, Some, slice_get, slice_index, slice_set, slice_index_or, Contains, append_assoc, refl, sym, ap, subst, ◌∙◌, arith}
use Rattle.std.specs.List.{list_any}
use Rattle.std.proofs.lemmas.Bool.{cases_eq}
use Rattle.std.proofs.lemmas.List.{length-set, length-map, length-replicate, get_or-set_same, get_or-set_other, get_or-replicate, get_or_default, take_more, take_all, map-append}
use Rattle.std.proofs.lemmas.Option.{same_Some, slice_get-get_or}
use Rattle.std.proofs.lemmas.List.Folds.{list_any_at}
use Rattle.std.proofs.lemmas.List.Elements.{Contains-append_left, Contains-push_cases}
use Rattle.rg_theory.specs.declared.Arc.{Arc}
use Rattle.rg_theory.specs.System.{System, states, labels, HasArc, IsInRange, IsForkFree, IsAllReachable}
use Rattle.rg_theory.specs.Tree.{Grows, IsTree}
use Rattle.rg_theory.proofs.Arcs.{arc_in_range}
use Rattle.rg_theory.proofs.Lists.{Contains-cons_cases}
use Rattle.rg_theory.proofs.Trees.{source_met, tree_arcs, reachable_is_met}
use Rattle.rg_product.specs.Blocks.{AreBlocks}
use Rattle.rg_product.specs.Ends.{Splits, Splits.begin, Splits.then}
use Rattle.rg_product.proofs.Joining.{each_apart}
use Rattle.rg_product.proofs.EndLemmas.{split_step}
use Rattle.rg_factor.proofs.Tabling.{mapped_at}
use Rattle.rg_product.proofs.Parts.{split_long}

-- the states that the first i arcs enter, and the initial one
abbrev pub IsEntered : System → List Arc → ℕ → ℕ → Type 0
IsEntered lts tree i s = Contains (lts.initial ∷ map (λ a. a.to) (take i tree)) s

-- the source of an arc is entered before it
source_before : (lts : System) (met : List ℕ) (tree : List Arc) (i : ℕ) (d : Arc) → Grows lts met tree → i < length tree
    → Contains (met ++ map (λ a. a.to) (take i tree)) (get_or tree i d).from
source_before lts met [] i d g lt = absurd (omega arith)
source_before lts met (a ∷ tree) zero d (j, rest) lt = Contains-append_left met [] a.from (source_met lts met a j)
source_before lts met (a ∷ tree) (suc i) d (j, rest) lt =
    subst (λ xs. Contains xs (get_or tree i d).from) (append_assoc met (a.to ∷ []) (map (λ a. a.to) (take i tree)))
    (source_before lts (met ++ a.to ∷ []) tree i d rest (omega arith))

entered_more : (lts : System) (tree : List Arc) (i s : ℕ) (d : Arc) → i < length tree → IsEntered lts tree (i + 1) s → IsEntered lts tree i s ⊎ (s ≡ (get_or tree i d).to)
entered_more lts tree i s d lt has =
    let more : lts.initial ∷ map (λ a. a.to) (take (i + 1) tree) ≡ (lts.initial ∷ map (λ a. a.to) (take i tree)) ++ (get_or tree i d).to ∷ [] =
    ap (λ (xs : List Arc). lts.initial ∷ map (λ a. a.to) xs) (take_more tree i d lt) ∙ ap (λ xs. lts.initial ∷ xs) (map-append (λ (a : Arc). a.to) (take i tree) (get_or tree i d ∷ [])) in
    ⊎_elim (λ old. inl old) (λ e. inr (sym e)) (Contains-push_cases (lts.initial ∷ map (λ a. a.to) (take i tree)) (get_or tree i d).to s (subst (λ xs. Contains xs s) more has))

-- the rows are right as far as the first i arcs
pub record IsSplitting (lts : System) (blocks : List (List ℕ)) (tree : List Arc) (rows : List (List ℕ)) (i : ℕ) : Type 0 where
  pub long : length rows ≡ states lts
  pub right : (s : ℕ) → IsEntered lts tree i s → Splits lts blocks s (slice_index_or rows s [])

same_for_all : (x : ℕ) (bs : List (List ℕ)) → map (λ b. x) bs ≡ replicate (length bs) x
same_for_all x [] = refl
same_for_all x (b ∷ bs) = ap (λ xs. x ∷ xs) (same_for_all x bs)

pub splitting_none : (lts : System) (blocks : List (List ℕ)) (tree : List Arc) (rows : List (List ℕ)) → IsInRange lts
    → rows ≡ replicate (states lts) (replicate (length blocks) lts.initial) → IsSplitting lts blocks tree rows 0
splitting_none lts blocks tree rows fine is = record {
  long = ap length is ∙ length-replicate (states lts) (replicate (length blocks) lts.initial);
  right = λ s has. subst (λ k. Splits lts blocks k (slice_index_or rows k [])) (first s has)
      (subst (Splits lts blocks lts.initial) (same_for_all lts.initial blocks
      ∙ sym (ap (λ xs. get_or xs lts.initial []) is ∙ get_or-replicate (states lts) lts.initial (replicate (length blocks) lts.initial) [] fine.initial)) begin);
}
  where
    first : (s : ℕ) → Contains (lts.initial ∷ []) s → lts.initial ≡ s
    first s has = ⊎_elim (λ e. e) (λ (k, l, at). absurd (omega arith)) (Contains-cons_cases lts.initial s [] has)

module _ (lts : System) (blocks : List (List ℕ)) (tree : List Arc) (rows : List (List ℕ)) (i : ℕ) (d : Arc) (fine : IsInRange lts)
    (one : IsForkFree lts) (are : AreBlocks lts blocks) (g : IsTree lts tree)
    (c : IsSplitting lts blocks tree rows i) (lt : i < length tree) where
  pub next_has : HasArc lts (get_or tree i d).from (get_or tree i d).label (get_or tree i d).to
  next_has = tree_arcs lts (lts.initial ∷ []) tree (get_or tree i d) g (i, lt, get_or_default tree i (get_or tree i d) d lt)

  abbrev pub source_row : List ℕ
  source_row = slice_index_or rows (get_or tree i d).from []

  pub source_splits : Splits lts blocks (get_or tree i d).from source_row
  source_splits = c.right (get_or tree i d).from (source_before lts (lts.initial ∷ []) tree i d g lt)

  pub row_long : length source_row ≡ length blocks
  row_long = split_long lts blocks (get_or tree i d).from source_row source_splits

  module _ (home : ℕ) (block : List ℕ) (at : slice_get blocks home ≡ Some block) (inside : Contains block (get_or tree i d).label) where
    pub next_leads : (q : ℕ) × HasArc lts (slice_index source_row home) (get_or tree i d).label q
    next_leads = split_step lts one blocks (each_apart lts fine one blocks are) (get_or tree i d).from (get_or tree i d).label
        (get_or tree i d).to home block source_row source_splits at inside next_has

    pub home_state : slice_index source_row home < states lts
    home_state = let (q, step) = next_leads in (arc_in_range lts fine (slice_index source_row home) (get_or tree i d).label q step).0

    pub splitting_more : (q : ℕ) (rows' : List (List ℕ)) → HasArc lts (slice_index source_row home) (get_or tree i d).label q
        → rows' ≡ set rows (get_or tree i d).to (slice_set source_row home q) → IsSplitting lts blocks tree rows' (i + 1)
    splitting_more q rows' step made = record {
      long = ap length made ∙ length-set rows (get_or tree i d).to (slice_set source_row home q) ∙ c.long;
      right = λ s has. subst (λ xs. Splits lts blocks s (slice_index_or xs s [])) (sym made) (right s (entered_more lts tree i s d lt has) (cases_eq s (get_or tree i d).to));
    }
      where
        new : Splits lts blocks (get_or tree i d).to (slice_set source_row home q)
        new = then (get_or tree i d).from (get_or tree i d).label (get_or tree i d).to home q block source_row source_splits next_has at inside step

        within : (get_or tree i d).to < length rows
        within = let r = (arc_in_range lts fine (get_or tree i d).from (get_or tree i d).label (get_or tree i d).to next_has).2 in let n = c.long in omega arith

        right : (s : ℕ) → IsEntered lts tree i s ⊎ (s ≡ (get_or tree i d).to) → (s ≡ (get_or tree i d).to) ⊎ (s ≡ (get_or tree i d).to → ⊥)
            → Splits lts blocks s (slice_index_or (set rows (get_or tree i d).to (slice_set source_row home q)) s [])
        right s had (inl e) = subst (λ k. Splits lts blocks k (slice_index_or (set rows (get_or tree i d).to (slice_set source_row home q)) k [])) (sym e)
            (subst (Splits lts blocks (get_or tree i d).to) (sym (get_or-set_same rows (get_or tree i d).to (slice_set source_row home q) [] within)) new)
        right s (inl old) (inr ne) = subst (Splits lts blocks s) (sym (get_or-set_other rows (get_or tree i d).to s (slice_set source_row home q) [] ne)) (c.right s old)
        right s (inr e) (inr ne) = absurd (ne e)

pub splitting_all : (lts : System) (blocks : List (List ℕ)) (tree : List Arc) (rows : List (List ℕ)) (i : ℕ) → IsTree lts tree → IsAllReachable lts
    → IsSplitting lts blocks tree rows i → length tree ≤ i → (s : ℕ) → s < states lts → Splits lts blocks s (slice_index_or rows s [])
splitting_all lts blocks tree rows i g all c le s lt =
    c.right s (subst (λ (xs : List Arc). Contains (lts.initial ∷ map (λ a. a.to) xs) s) (sym (take_all i tree le)) (reachable_is_met lts tree s g (all.each s lt)))

-- ---- rows of vectors

pub map-set : {A B : Type 0} (f : A → B) (xs : List A) (i : ℕ) (y : A) → map f (set xs i y) ≡ set (map f xs) i (f y)
map-set f [] i y = refl
map-set f (x ∷ xs) zero y = refl
map-set f (x ∷ xs) (suc i) y = ap (λ ys. f x ∷ ys) (map-set f xs i y)

pub replicate_more : (n : ℕ) (x : List ℕ) → replicate (n + 1) x ≡ replicate n x ++ x ∷ []
replicate_more n x = (let e : n + 1 ≡ suc n = omega arith in ap (λ k. replicate k x) e) ∙ pushed n
  where
    pushed : (n : ℕ) → replicate (suc n) x ≡ replicate n x ++ x ∷ []
    pushed zero = refl
    pushed (suc n) = ap (λ ys. x ∷ ys) (pushed n)

-- ---- the block of a label

pub home_not : (blocks : List (Vec ℕ Global)) (i t : ℕ) (v : Vec ℕ Global) (now : List ℕ) → i < length blocks → v ≡ get_or blocks i v → now ≡ v.items → list_any (λ y. nat_eq y t) now ≡ false
    → ((j : ℕ) (block : List ℕ) → j < i → slice_get (map (λ b. b.items) blocks) j ≡ Some block → Contains block t → ⊥)
    → (j : ℕ) (block : List ℕ) → j < i + 1 → slice_get (map (λ b. b.items) blocks) j ≡ Some block → Contains block t → ⊥
home_not blocks i t v now lt is reads lacks before j block less at inside = by (cases_eq j i)
  where
    here : slice_get (map (λ (b : Vec ℕ Global). b.items) blocks) i ≡ Some v.items
    here =
        slice_get-get_or (map (λ (b : Vec ℕ Global). b.items) blocks) i [] (let n = length-map blocks (λ (b : Vec ℕ Global). b.items) in omega arith)
        ∙ ap (λ xs. Some xs) (mapped_at (λ (b : Vec ℕ Global). b.items) blocks i v [] lt is)

    by : (j ≡ i) ⊎ (j ≡ i → ⊥) → ⊥
    by (inr ne) = before j block (omega arith) at inside
    by (inl e) =
        let same : block ≡ now = same_Some block v.items (sym at ∙ ap (slice_get (map (λ (b : Vec ℕ Global). b.items) blocks)) e ∙ here) ∙ sym reads in
        let (k, within, found) = subst (λ xs. Contains xs t) same inside in
        true≢false (sym (list_any_at (λ y. nat_eq y t) now k t within (eq-eqb (get_or now k t) t found)) ∙ lacks)

pub home_there : (lts : System) (blocks : List (List ℕ)) (i t : ℕ) → AreBlocks lts blocks → t < labels lts → length blocks ≤ i
    → ((j : ℕ) (block : List ℕ) → j < i → slice_get blocks j ≡ Some block → Contains block t → ⊥) → ⊥
home_there lts blocks i t are lt le none =
    let (block, (k, within, at), inside) = are.each t lt in
    none k block (omega arith) (slice_get-get_or blocks k block within ∙ ap (λ xs. Some xs) at) inside

-- the row of a state, as it is read
pub row_is : (lts : System) (ends : List (Vec ℕ Global)) (s : ℕ) (v : Vec ℕ Global) (now : List ℕ) → length (map (λ e. e.items) ends) ≡ states lts
    → s < states lts → v ≡ get_or ends s v → now ≡ v.items → now ≡ slice_index_or (map (λ e. e.items) ends) s []
row_is lts ends s v now long lt is reads =
    reads ∙ sym (mapped_at (λ (e : Vec ℕ Global). e.items) ends s v [] (let n = length-map ends (λ (e : Vec ℕ Global). e.items) in omega arith) is)
