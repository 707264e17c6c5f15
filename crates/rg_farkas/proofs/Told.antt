-- From sums over rows that tell what their names say to the sums of the leaf's fold.
use Rattle.std.proofs.Common.{◌≡◌, ⊎_elim, ℕ, suc, ◌+◌, ◌-◌, ◌<◌, ◌≤◌, ◌==◌, Bool, true, false, if◌then◌else◌, List, [], ◌∷◌, ◌++◌, map, take, drop, reverse, set, length, Result, Ok, Err, Contains, All, ap, ap₂, refl, subst, sym, ◌∙◌, inl, inr, arith, add-one}
use Rattle.std.specs.Prelude.{ℤ, pos, neg_ℤ, ◌-ℤ◌, ◌*ℤ◌, slice_index_or}
use Rattle.std.proofs.lemmas.Int.{ints}
use Rattle.std.proofs.lemmas.List.{length-drop, reverse-append, take_all, drop_all, drop-set}
use Rattle.std.proofs.Math.Seq.{take-suc}
use Rattle.std.proofs.lemmas.List.Elements.{All-head, All-tail, All-drop, All-contains, Contains-append_cases}
use Rattle.rg_theory.specs.declared.Arc.{Arc}
use Rattle.rg_theory.specs.System.{System}
use Rattle.rg_theory.proofs.Lists.{Contains-cons_cases}
use Rattle.rg_integers.specs.Range.{InRange}
use Rattle.rg_integers.specs.Sign.{size}
use Rattle.rg_integers.proofs.Ranges.{in_range-neg}
use Rattle.rg_integers.specs.declared.term.Wide.{Wide}
use Rattle.rg_cert_meaning.specs.Expression.{Expression, coefficient_in}
use Rattle.rg_cert_meaning.specs.declared.Variable.{Variable}
use Rattle.rg_cert_meaning.specs.declared.RowName.{RowName}
use Rattle.rg_cert_meaning.specs.Refutes.{NamedRow}
use Rattle.rg_folds.specs.Fold.{gives, and_then, each, further, joined, whole_sum, whole_product}
use Rattle.rg_case_folds.specs.Spreading.{ArcTimes, Addend, Addend.number, Addend.product, addend_fold, leaving, addends_at, tree_fold, sizes_fold, variables_of, checked_leaf}
use Rattle.rg_farkas.specs.declared.multiplied.Row.{Row}
use Rattle.rg_cert_data.specs.Sums.{expression_of}
use Rattle.rg_farkas.specs.View.{named_of, Tells, row_addend, size_fold, coefficient_at, arc_times}
use Rattle.rg_case_folds.proofs.Items.{from_index, item_next, item_fails, items_end}
use Rattle.rg_farkas.proofs.Steps.{from_neutral}
use Rattle.rg_folds.proofs.Folding.{behind}
use Rattle.rg_cert_meaning.specs.declared.Variable.TheVariants.{Tokens}

-- ---- sums over other items

further_told : {A B X : Type 0} (join : X → X → Result X Wide → Type 0) (make : A → Result X Wide → Type 0) (make' : B → Result X Wide → Type 0) (f : A → B)
    (items : List A) → ((a : A) → Contains items a → (r : Result X Wide) → make a r → make' (f a) r) → (sum : X) (r : Result X Wide) → further join make sum items r
    → further join make' sum (map f items) r
further_told join make make' f [] told sum r h = h
further_told join make make' f (a ∷ items) told sum (Ok y) (x, made, (more, joins, rest)) =
    (x, told a (0, omega arith, refl) (Ok x) made, (more, joins, further_told join make make' f items (λ b (k, lt, e). told b (suc k, omega arith, e)) more (Ok y) rest))
further_told join make make' f (a ∷ items) told sum (Err w) (inl made) = inl (told a (0, omega arith, refl) (Err w) made)
further_told join make make' f (a ∷ items) told sum (Err w) (inr (x, made, inl joins)) = inr (x, told a (0, omega arith, refl) (Ok x) made, inl joins)
further_told join make make' f (a ∷ items) told sum (Err w) (inr (x, made, inr (more, joins, rest))) =
    inr (
      x,
      told a (0, omega arith, refl) (Ok x) made,
      inr
          (more, joins, further_told join make make' f items (λ b (k, lt, e). told b (suc k, omega arith, e)) more (Err w) rest),
    )

pub joined_told : {A B X : Type 0} (join : X → X → Result X Wide → Type 0) (make : A → Result X Wide → Type 0) (make' : B → Result X Wide → Type 0) (f : A → B)
    (none : X) (items : List A) → ((a : A) → Contains items a → (r : Result X Wide) → make a r → make' (f a) r) → (r : Result X Wide) → joined join make none items r
    → joined join make' none (map f items) r
joined_told join make make' f none [] told r h = h
joined_told join make make' f none (a ∷ items) told (Ok y) (x, made, rest) =
    (x, told a (0, omega arith, refl) (Ok x) made, further_told join make make' f items (λ b (k, lt, e). told b (suc k, omega arith, e)) x (Ok y) rest)
joined_told join make make' f none (a ∷ items) told (Err w) (inl made) = inl (told a (0, omega arith, refl) (Err w) made)
joined_told join make make' f none (a ∷ items) told (Err w) (inr (x, made, rest)) =
    inr (x, told a (0, omega arith, refl) (Ok x) made, further_told join make make' f items (λ b (k, lt, e). told b (suc k, omega arith, e)) x (Err w) rest)

pub each_told : {A X : Type 0} (make make' : A → Result X Wide → Type 0) (items : List A) → ((a : A) (r : Result X Wide) → make a r → make' a r)
    → (r : Result (List X) Wide) → each make items r → each make' items r
each_told make make' [] told r h = h
each_told make make' (a ∷ items) told (Ok ys) (y, made, (rest, more, e)) = (y, told a (Ok y) made, (rest, each_told make make' items told (Ok rest) more, e))
each_told make make' (a ∷ items) told (Err w) (inl made) = inl (told a (Err w) made)
each_told make make' (a ∷ items) told (Err w) (inr (y, made, inl more)) = inr (y, told a (Ok y) made, inl (each_told make make' items told (Err w) more))
each_told make make' (a ∷ items) told (Err w) (inr (y, made, inr (rest, more, e))) = inr (y, told a (Ok y) made, inr (rest, each_told make make' items told (Ok rest) more, e))

-- ---- a sum of whole numbers that begins with 0

neutral_sum : (x : ℤ) → InRange x → (r : Result ℤ Wide) → whole_sum (pos 0) x r → r ≡ Ok x
neutral_sum x range (Ok m) (fits, e) = ap (λ z. Ok z) (e ∙ close x)
  where
    close : (x : ℤ) → (pos 0 *ℤ pos 1) -ℤ (neg_ℤ x *ℤ pos 1) ≡ x
    close x = omega (arith, ints)
neutral_sum x range (Err w) (passes, e) = absurd (passes (record { left = omega arith; right = subst InRange (one (neg_ℤ x)) (in_range-neg x range); difference = subst InRange (all x) range }))
  where
    one : (z : ℤ) → z ≡ z *ℤ pos 1
    one z = omega (arith, ints)

    all : (x : ℤ) → x ≡ (pos 0 *ℤ pos 1) -ℤ (neg_ℤ x *ℤ pos 1)
    all x = omega (arith, ints)

product_range : (x y z : ℤ) → whole_product x y (Ok z) → InRange z
product_range x y z (fits, e) = subst InRange (sym (e ∙ close (x *ℤ y))) fits.left
  where
    close : (p : ℤ) → p -ℤ (pos 0 *ℤ pos 0) ≡ p
    close p = omega (arith, ints)

-- ---- the sum at a state

in_leaving : (s : ℕ) (arcs : List Arc) (zs : List ℤ) (a : Addend) (x : ℤ) → All InRange zs → Contains (leaving s (arc_times arcs zs)) a → addend_fold a (Ok x) → InRange x
in_leaving s [] zs a x range (k, lt, e) made = absurd (omega arith)
in_leaving s (b ∷ arcs) [] a x range (k, lt, e) made = absurd (omega arith)
in_leaving s (b ∷ arcs) (z ∷ zs) a x range has made = go (b.from == s) has (λ there. in_leaving s arcs zs a x (All-tail InRange z zs range) there made)
  where
    go : (t : Bool) → Contains (if t then (number z ∷ leaving s (arc_times arcs zs)) else leaving s (arc_times arcs zs)) a → (Contains (leaving s (arc_times arcs zs)) a → InRange x) → InRange x
    go true h next = ⊎_elim (λ e. subst InRange (sym (subst (λ u. addend_fold u (Ok x)) (sym e) made)) (All-head InRange z zs range)) next
        (Contains-cons_cases (number z) a (leaving s (arc_times arcs zs)) h)
    go false h next = next h

row_range : (s : ℕ) (rows : List Row) (a : Addend) (x : ℤ) → Contains (map (row_addend s) rows) a → addend_fold a (Ok x) → InRange x
row_range s [] a x (k, lt, e) made = absurd (omega arith)
row_range s (r ∷ rows) a x has made = ⊎_elim
    (λ e. product_range r.multiplier (coefficient_at (Tokens s) r) x (subst (λ u. addend_fold u (Ok x)) (sym e) made))
    (λ there. row_range s rows a x there made) (Contains-cons_cases (row_addend s r) a (map (row_addend s) rows) has)

addends_told : (expression : RowName → Expression) (s : ℕ) (rows : List Row) → All (Tells expression) rows
    → map (row_addend s) rows ≡ map (λ r. product r.multiplier (coefficient_in (expression r.name).terms (Tokens s))) (map named_of rows)
addends_told expression s [] told = refl
addends_told expression s (r ∷ rows) told = ap₂ (λ e l. product r.multiplier (coefficient_in e.terms (Tokens s)) ∷ l)
    (All-head (Tells expression) r rows told) (addends_told expression s rows (All-tail (Tells expression) r rows told))

pub sum_told : (expression : RowName → Expression) (rows : List Row) (s : ℕ) (arcs : List Arc) (zs : List ℤ) (r : Result ℤ Wide) → All (Tells expression) rows
    → All InRange zs → further whole_sum addend_fold (pos 0) (map (row_addend s) rows ++ leaving s (arc_times arcs zs)) r
    → joined whole_sum addend_fold (pos 0) (addends_at expression (map named_of rows) (arc_times arcs zs) s) r
sum_told expression rows s arcs zs r told range h =
    subst (λ l. joined whole_sum addend_fold (pos 0) (l ++ leaving s (arc_times arcs zs)) r) (addends_told expression s rows told)
    (from_neutral whole_sum addend_fold (pos 0) (map (row_addend s) rows ++ leaving s (arc_times arcs zs))
    (λ a x has made res joins. neutral_sum x
    (⊎_elim (λ here. row_range s rows a x here made) (λ there. in_leaving s arcs zs a x range there made)
    (Contains-append_cases (map (row_addend s) rows) (leaving s (arc_times arcs zs)) a has)) res joins) r h)

-- ---- the arcs of the tree, from the last to the first

module _ (expression : RowName → Expression) (rows : List NamedRow) (tree : List Arc) (ms : List ℤ) (k : ℕ) (d : Arc) (lt : k < length tree)
    (same : length ms ≡ length tree) (so_far : (r : Result (List ArcTimes) Wide) → tree_fold expression rows (arc_times (drop (k + 1) tree) (drop (k + 1) ms))
    (reverse (take (k + 1) tree)) r → tree_fold expression rows [] (reverse tree) r) where
  last_is : reverse (take (k + 1) tree) ≡ slice_index_or tree k d ∷ reverse (take k tree)
  last_is = ap reverse (ap (λ n. take n tree) (add-one k) ∙ take-suc tree k d lt) ∙ reverse-append (take k tree) (slice_index_or tree k d ∷ [])

  pub tree_fails : (w : Wide) → joined whole_sum addend_fold (pos 0)
      (addends_at expression rows (arc_times (drop (k + 1) tree) (drop (k + 1) ms)) (slice_index_or tree k d).to) (Err w)
      → tree_fold expression rows [] (reverse tree) (Err w)
  tree_fails w sum = so_far (Err w) (subst (λ l. tree_fold expression rows (arc_times (drop (k + 1) tree) (drop (k + 1) ms)) l (Err w)) (sym last_is) (inl sum))

  times_set : (m : ℤ) → arc_times (drop k tree) (drop k (set ms k m)) ≡ record { arc = slice_index_or tree k d; multiplier = m } ∷ arc_times (drop (k + 1) tree) (drop (k + 1) ms)
  times_set m = ap₂ arc_times (from_index tree k d lt) (drop-set ms k m (omega arith))

  pub tree_next : (m : ℤ) → joined whole_sum addend_fold (pos 0)
      (addends_at expression rows (arc_times (drop (k + 1) tree) (drop (k + 1) ms)) (slice_index_or tree k d).to) (Ok m) → (r : Result (List ArcTimes) Wide)
      → tree_fold expression rows (arc_times (drop k tree) (drop k (set ms k m))) (reverse (take k tree)) r → tree_fold expression rows [] (reverse tree) r
  tree_next m sum (Ok y) h = so_far (Ok y) (subst (λ l. tree_fold expression rows (arc_times (drop (k + 1) tree) (drop (k + 1) ms)) l (Ok y))
      (sym last_is) (m, sum, subst (λ l. tree_fold expression rows l (reverse (take k tree)) (Ok y)) (times_set m) h))
  tree_next m sum (Err w) h = so_far (Err w) (subst (λ l. tree_fold expression rows (arc_times (drop (k + 1) tree) (drop (k + 1) ms)) l (Err w))
      (sym last_is) (inr (m, sum, subst (λ l. tree_fold expression rows l (reverse (take k tree)) (Err w)) (times_set m) h)))

pub tree_starts : (expression : RowName → Expression) (rows : List NamedRow) (tree : List Arc) (ms : List ℤ) (n : ℕ) → n ≡ length tree
    → (r : Result (List ArcTimes) Wide) → tree_fold expression rows (arc_times (drop n tree) (drop n ms)) (reverse (take n tree)) r
    → tree_fold expression rows [] (reverse tree) r
tree_starts expression rows tree ms n e r h =
    subst (λ l. tree_fold expression rows [] (reverse l) r) (take_all n tree (omega arith))
    (subst (λ l. tree_fold expression rows (arc_times l (drop n ms)) (reverse (take n tree)) r) (drop_all n tree (omega arith)) h)

pub tree_ends : (expression : RowName → Expression) (rows : List NamedRow) (tree : List Arc) (ms : List ℤ)
    → ((r : Result (List ArcTimes) Wide) → tree_fold expression rows (arc_times (drop 0 tree) (drop 0 ms)) (reverse (take 0 tree)) r
    → tree_fold expression rows [] (reverse tree) r) → tree_fold expression rows [] (reverse tree) (Ok (arc_times tree ms))
tree_ends expression rows tree ms so_far = so_far (Ok (arc_times tree ms)) refl

-- ---- the sums of absolute values

size_told : (c : RowName → ℤ) (value : Row → ℤ) (r : Row) → value r ≡ c r.name → (res : Result ℤ Wide) → size_fold value r res
    → and_then (whole_product r.multiplier (c r.name)) (λ z. gives (size z)) res
size_told c value r e res made = subst (λ z. and_then (whole_product r.multiplier z) (λ y. gives (size y)) res) e made

size_made_range : (value : Row → ℤ) (r : Row) (x : ℤ) → size_fold value r (Ok x) → InRange x
size_made_range value r x (z, made, e) = subst InRange (sym e) (product_range r.multiplier (value r) z made)

pub sizes_told : (c : RowName → ℤ) (value : Row → ℤ) (rows : List Row) → ((r : Row) → Contains rows r → value r ≡ c r.name) → (res : Result ℤ Wide)
    → further whole_sum (size_fold value) (pos 0) rows res → sizes_fold c (map named_of rows) res
sizes_told c value rows same res h = joined_told whole_sum (size_fold value) (λ r. and_then (whole_product r.multiplier (c r.name)) (λ z. gives (size z))) named_of
    (pos 0) rows (λ r has. size_told c value r (same r has)) res
    (from_neutral whole_sum (size_fold value) (pos 0) rows (λ r x has made. neutral_sum x (size_made_range value r x made)) res h)

module _ (expression : RowName → Expression) (rows : List Row) (told : All (Tells expression) rows) where
  row_told : (r : Row) → Contains rows r → expression_of r.expression ≡ expression r.name
  row_told r has = All-contains (Tells expression) rows r told has

  pub coefficient_sizes_told : (v : Variable) (res : Result ℤ Wide) → further whole_sum (size_fold (coefficient_at v)) (pos 0) rows res
      → sizes_fold (λ name. coefficient_in (expression name).terms v) (map named_of rows) res
  coefficient_sizes_told v = sizes_told (λ name. coefficient_in (expression name).terms v) (coefficient_at v) rows (λ r has. ap (λ (e : Expression). coefficient_in e.terms v) (row_told r has))

  pub constant_sizes_told : (res : Result ℤ Wide) → further whole_sum (size_fold (λ r. r.expression.constant)) (pos 0) rows res
      → sizes_fold (λ name. (expression name).constant) (map named_of rows) res
  constant_sizes_told = sizes_told (λ name. (expression name).constant) (λ r. r.expression.constant) rows (λ r has. ap (λ (e : Expression). e.constant) (row_told r has))

  module _ (lts : System) (variables : List Variable) (all : variables ≡ variables_of lts) where
    made_told : (res : Result (List ℤ) Wide) → each (λ v. further whole_sum (size_fold (coefficient_at v)) (pos 0) rows) variables res
        → each (λ v. sizes_fold (λ name. coefficient_in (expression name).terms v) (map named_of rows)) (variables_of lts) res
    made_told res h = subst (λ l. each (λ v. sizes_fold (λ name. coefficient_in (expression name).terms v) (map named_of rows)) l res) all
        (each_told (λ v. further whole_sum (size_fold (coefficient_at v)) (pos 0) rows)
        (λ v. sizes_fold (λ name. coefficient_in (expression name).terms v) (map named_of rows)) variables coefficient_sizes_told res h)

    pub leaf_unsummed : (w : Wide) → each (λ v. further whole_sum (size_fold (coefficient_at v)) (pos 0) rows) variables (Err w) → checked_leaf lts expression (map named_of rows) (Err w)
    leaf_unsummed w h = inl (made_told (Err w) h)

    pub leaf_too_great : (sums : List ℤ) (w : Wide) → each (λ v. further whole_sum (size_fold (coefficient_at v)) (pos 0) rows) variables (Ok sums)
        → further whole_sum (size_fold (λ r. r.expression.constant)) (pos 0) rows (Err w) → checked_leaf lts expression (map named_of rows) (Err w)
    leaf_too_great sums w h k = inr (sums, made_told (Ok sums) h, inl (constant_sizes_told (Err w) k))

    pub leaf_checked : (sums : List ℤ) (sum : ℤ) → each (λ v. further whole_sum (size_fold (coefficient_at v)) (pos 0) rows) variables (Ok sums)
        → further whole_sum (size_fold (λ r. r.expression.constant)) (pos 0) rows (Ok sum) → checked_leaf lts expression (map named_of rows) (Ok (map named_of rows))
    leaf_checked sums sum h k = (sums, made_told (Ok sums) h, (sum, constant_sizes_told (Ok sum) k, refl))

-- ---- the arcs of the tree in code, where the loop counts down from i

module _ (rows : List Row) (tree : List Arc) (ms : List ℤ) (i : ℕ) (d : Arc) (positive : 0 < i) (le : i ≤ length tree) (same : length ms ≡ length tree)
    (range : All InRange ms) (so_far : (expression : RowName → Expression) → All (Tells expression) rows → (r : Result (List ArcTimes) Wide)
    → tree_fold expression (map named_of rows) (arc_times (drop i tree) (drop i ms)) (reverse (take i tree)) r
    → tree_fold expression (map named_of rows) [] (reverse tree) r) (seen : List ℤ) (is : seen ≡ ms) where
  back_one : i ≡ i - 1 + 1
  back_one = omega arith

  rest_of : {A : Type 0} (l : List A) → take (length l - (i - 1 + 1)) (drop (i - 1 + 1) l) ≡ drop (i - 1 + 1) l
  rest_of l = take_all (length l - (i - 1 + 1)) (drop (i - 1 + 1) l) (simp length-drop (omega arith))

  far : (expression : RowName → Expression) → All (Tells expression) rows → (r : Result (List ArcTimes) Wide)
      → tree_fold expression (map named_of rows) (arc_times (drop (i - 1 + 1) tree) (drop (i - 1 + 1) ms)) (reverse (take (i - 1 + 1) tree)) r
      → tree_fold expression (map named_of rows) [] (reverse tree) r
  far expression told r h = so_far expression told r (subst (λ n. tree_fold expression (map named_of rows) (arc_times (drop n tree) (drop n ms)) (reverse (take n tree)) r) (sym back_one) h)

  sum_here : (r : Result ℤ Wide) → further whole_sum addend_fold (pos 0)
      (map (row_addend (slice_index_or tree (i - 1) d).to) rows ++ leaving (slice_index_or tree (i - 1) d).to
      (arc_times (take (length tree - (i - 1 + 1)) (drop (i - 1 + 1) tree)) (take (length seen - (i - 1 + 1)) (drop (i - 1 + 1) seen)))) r
      → (expression : RowName → Expression) → All (Tells expression) rows
      → joined whole_sum addend_fold (pos 0) (addends_at expression (map named_of rows) (arc_times (drop (i - 1 + 1) tree) (drop (i - 1 + 1) ms))
      (slice_index_or tree (i - 1) d).to) r
  sum_here r h expression told = sum_told expression rows (slice_index_or tree (i - 1) d).to (drop (i - 1 + 1) tree) (drop (i - 1 + 1) ms) r told (All-drop InRange (i - 1 + 1) ms range)
      (subst (λ l. further whole_sum addend_fold (pos 0)
      (map (row_addend (slice_index_or tree (i - 1) d).to) rows
      ++ leaving (slice_index_or tree (i - 1) d).to (arc_times (drop (i - 1 + 1) tree) l)) r) (rest_of seen ∙ ap (drop (i - 1 + 1)) is)
      (subst (λ l. further whole_sum addend_fold (pos 0)
      (map (row_addend (slice_index_or tree (i - 1) d).to) rows
      ++ leaving (slice_index_or tree (i - 1) d).to (arc_times l (take (length seen - (i - 1 + 1)) (drop (i - 1 + 1) seen)))) r) (rest_of tree) h))

  pub state_fails : (w : Wide) → further whole_sum addend_fold (pos 0)
      (map (row_addend (slice_index_or tree (i - 1) d).to) rows ++ leaving (slice_index_or tree (i - 1) d).to
      (arc_times (take (length tree - (i - 1 + 1)) (drop (i - 1 + 1) tree)) (take (length seen - (i - 1 + 1)) (drop (i - 1 + 1) seen)))) (Err w)
      → (expression : RowName → Expression) → All (Tells expression) rows → tree_fold expression (map named_of rows) [] (reverse tree) (Err w)
  state_fails w h expression told = tree_fails expression (map named_of rows) tree ms (i - 1) d (omega arith) same (far expression told) w (sum_here (Err w) h expression told)

  pub state_next : (m : ℤ) → further whole_sum addend_fold (pos 0)
      (map (row_addend (slice_index_or tree (i - 1) d).to) rows ++ leaving (slice_index_or tree (i - 1) d).to
      (arc_times (take (length tree - (i - 1 + 1)) (drop (i - 1 + 1) tree)) (take (length seen - (i - 1 + 1)) (drop (i - 1 + 1) seen)))) (Ok m)
      → (expression : RowName → Expression) → All (Tells expression) rows → (r : Result (List ArcTimes) Wide)
      → tree_fold expression (map named_of rows) (arc_times (drop (i - 1) tree) (drop (i - 1) (set ms (i - 1) m))) (reverse (take (i - 1) tree)) r
      → tree_fold expression (map named_of rows) [] (reverse tree) r
  state_next m h expression told = tree_next expression (map named_of rows) tree ms (i - 1) d (omega arith) same (far expression told) m (sum_here (Ok m) h expression told)

-- ---- the sums of absolute values in code

module _ (rows : List Row) (variables : List Variable) (i : ℕ) (d : Variable) (lt : i < length variables) (sums : List ℤ)
    (so_far : (r : Result (List ℤ) Wide) → each (λ v. further whole_sum (size_fold (coefficient_at v)) (pos 0) rows) (drop i variables) r
    → each (λ v. further whole_sum (size_fold (coefficient_at v)) (pos 0) rows) variables (behind sums r)) where
  pub variable_fails : (w : Wide) → further whole_sum (size_fold (coefficient_at (slice_index_or variables i d))) (pos 0) rows (Err w)
      → each (λ v. further whole_sum (size_fold (coefficient_at v)) (pos 0) rows) variables (Err w)
  variable_fails w made = item_fails (λ v. further whole_sum (size_fold (coefficient_at v)) (pos 0) rows) variables i d sums so_far lt w made

  pub variable_next : (x : ℤ) → further whole_sum (size_fold (coefficient_at (slice_index_or variables i d))) (pos 0) rows (Ok x)
      → (r : Result (List ℤ) Wide) → each (λ v. further whole_sum (size_fold (coefficient_at v)) (pos 0) rows) (drop (i + 1) variables) r
      → each (λ v. further whole_sum (size_fold (coefficient_at v)) (pos 0) rows) variables (behind (sums ++ x ∷ []) r)
  variable_next x made = item_next (λ v. further whole_sum (size_fold (coefficient_at v)) (pos 0) rows) variables i d sums so_far lt x made

pub variables_end : (rows : List Row) (variables : List Variable) (i : ℕ) (sums : List ℤ)
    → ((r : Result (List ℤ) Wide) → each (λ v. further whole_sum (size_fold (coefficient_at v)) (pos 0) rows) (drop i variables) r
    → each (λ v. further whole_sum (size_fold (coefficient_at v)) (pos 0) rows) variables (behind sums r)) → length variables ≤ i
    → each (λ v. further whole_sum (size_fold (coefficient_at v)) (pos 0) rows) variables (Ok sums)
variables_end rows variables i sums so_far past = items_end (λ v. further whole_sum (size_fold (coefficient_at v)) (pos 0) rows) variables i (Tokens 0) sums so_far past
