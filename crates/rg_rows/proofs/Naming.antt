-- Lists of named rows, state by state and label by label.
use Rattle.std.proofs.Common.{◌≡◌, ℕ, zero, suc, ◌+◌, ◌-◌, ◌<◌, ◌≤◌, ◌==◌, ◌&&◌, not, is_some, Bool, true, false, if◌then◌else◌, List, [], ◌∷◌, ◌++◌, length, map, take, ap, refl, sym, ◌∙◌, arith, append_assoc, eq-eqb}
use Rattle.std.specs.Prelude.{slice_index, slice_index_or}
use Rattle.std.proofs.lemmas.List.{append-nil, length-append, map-append, take_more, take_all}
use Rattle.std.proofs.Math.Seq.{take-append_seam}
use Rattle.std.proofs.lemmas.Bool.{and_from, eqb-true}
use Rattle.rg_theory.specs.declared.Class.{Class}
use Rattle.rg_theory.specs.declared.Problem.{Problem}
use Rattle.rg_theory.specs.System.{System, states, labels}
use Rattle.rg_cert_meaning.specs.Row.{case_consumer}
use Rattle.rg_cert_meaning.specs.declared.RowName.{RowName}
use Rattle.rg_folds.specs.Substitution.{numbers_where}
use Rattle.rg_case_folds.specs.Rewriting.{has_label, used_labels, has_start, all_numbers, problem_rows, names_of}
use Rattle.rg_folds.proofs.Folding.{where_taken, where_left}
use Rattle.rg_case_parts.specs.declared.columns.Columns.{Columns}
use Rattle.rg_case_parts.specs.ColumnViews.{TellsUsedLabels, AreColumns}
use Rattle.rg_rows.specs.View.{users, makers}
use Rattle.rg_rows.specs.Sharing.{shared_names}
use Rattle.rg_cert_meaning.specs.declared.RowName.TheVariants as row_name

-- so far the rows of the numbers before i that pass the test are named
module _ (make : ℕ → RowName) (test : ℕ → Bool) (i n : ℕ) (done all : List RowName) (so_far : done ++ map make (numbers_where test i (n - i)) ≡ all) where
  pub name_taken : i < n → test i ≡ true → (done ++ make i ∷ []) ++ map make (numbers_where test (i + 1) (n - (i + 1))) ≡ all
  name_taken lt e = append_assoc done (make i ∷ []) (map make (numbers_where test (i + 1) (n - (i + 1)))) ∙ ap (λ l. done ++ map make l) (sym (where_taken test i n lt e)) ∙ so_far

  pub name_left : i < n → test i ≡ false → done ++ map make (numbers_where test (i + 1) (n - (i + 1))) ≡ all
  name_left lt e = ap (λ l. done ++ map make l) (sym (where_left test i n lt e)) ∙ so_far

-- ---- a label that makes tokens

pub makes_test : (has : Bool) (u consumer : ℕ) → has ≡ true → (u ≡ consumer → ⊥) → (has && not (u == consumer)) ≡ true
makes_test has u consumer is differs = and_from has (not (u == consumer)) is (go (u == consumer) refl)
  where
    go : (b : Bool) → (u == consumer) ≡ b → not b ≡ true
    go true e = absurd (differs (eqb-true u consumer e))
    go false e = refl

pub consumer_test : (has : Bool) (u consumer : ℕ) → u ≡ consumer → (has && not (u == consumer)) ≡ false
consumer_test has u consumer is = ap (λ b. has && not b) (eq-eqb u consumer is) ∙ go has
  where
    go : (b : Bool) → (b && false) ≡ false
    go true = refl
    go false = refl

-- ---- the whole list

where_same : (p q : ℕ → Bool) (a n : ℕ) → ((t : ℕ) → t < a + n → p t ≡ q t) → numbers_where p a n ≡ numbers_where q a n
where_same p q a zero h = refl
where_same p q a (suc n) h = ap (λ b. if b then (a ∷ numbers_where p (suc a) n) else numbers_where p (suc a) n) (h a (omega arith))
    ∙ ap (λ l. if q a then (a ∷ l) else l) (where_same p q (suc a) n (λ t lt. h t (omega arith)))

makers_are : (lts : System) (used : List Bool) (consumer : ℕ) → TellsUsedLabels lts used → makers used consumer ≡ numbers_where (λ u. has_label u lts.arcs && not (u == consumer)) 0 (labels lts)
makers_are lts used consumer tells = ap (λ n. numbers_where (λ u. slice_index_or used u false && not (u == consumer)) 0 n) tells.one_each
    ∙ where_same (λ u. slice_index_or used u false && not (u == consumer)) (λ u. has_label u lts.arcs && not (u == consumer)) 0 (labels lts)
    (λ t lt. ap (λ b. b && not (t == consumer)) (tells.each t (omega arith)))

-- rows that are named where the test holds
pub named_if : (b : Bool) (done more all : List RowName) → b ≡ true → all ≡ done ++ more → all ≡ done ++ (if b then more else [])
named_if b done more all e h = h ∙ ap (λ x. done ++ (if x then more else [])) (sym e)

pub named_unless : (b : Bool) (done more all : List RowName) → b ≡ false → all ≡ done → all ≡ done ++ (if b then more else [])
named_unless b done more all e h = h ∙ sym (append-nil done) ∙ ap (λ x. done ++ (if x then more else [])) (sym e)

users_are : (lts : System) (used : List Bool) → TellsUsedLabels lts used → users used ≡ used_labels lts
users_are lts used tells = ap (λ n. numbers_where (λ t. slice_index_or used t false) 0 n) tells.one_each
    ∙ where_same (λ t. slice_index_or used t false) (λ t. has_label t lts.arcs) 0 (labels lts) (λ t lt. tells.each t (omega arith))

-- the rows of a problem and those that all cases share
pub parts_told : (lts : System) (class : Class) (own : List RowName) → own
    ++ (if has_start class then map row_name.Tokens (all_numbers (states lts)) else [])
    ++ (if is_some class.bound then map row_name.Cap (all_numbers (states lts)) else [])
    ++ (if class.plain then (map row_name.Up (used_labels lts) ++ map row_name.Down (used_labels lts)) else [])
    ≡ own ++ shared_names lts class
parts_told lts class own = ap (λ l. l ++ sides) (append_assoc own tokens caps) ∙ append_assoc own (tokens ++ caps) sides
  where
    tokens : List RowName
    tokens = if has_start class then map row_name.Tokens (all_numbers (states lts)) else []

    caps : List RowName
    caps = if is_some class.bound then map row_name.Cap (all_numbers (states lts)) else []

    sides : List RowName
    sides = if class.plain then (map row_name.Up (used_labels lts) ++ map row_name.Down (used_labels lts)) else []

module _ (lts : System) (class : Class) (columns : Columns) (are : AreColumns lts class columns) where
  -- the rows that all cases share, after others
  pub shared_told : (own start capped sided : List RowName)
      → start ≡ own ++ (if columns.start then map row_name.Tokens (all_numbers (states lts)) else [])
      → capped ≡ start ++ (if is_some class.bound then map row_name.Cap (all_numbers (states lts)) else [])
      → sided ≡ capped ++ (if class.plain then (map row_name.Up (users columns.used.items) ++ map row_name.Down (users columns.used.items)) else [])
      → sided ≡ own ++ shared_names lts class
  shared_told own start capped sided f g h =
      h
      ∙ ap (λ l. l ++ (if class.plain then (map row_name.Up (users columns.used.items) ++ map row_name.Down (users columns.used.items)) else []))
      (g ∙ ap (λ l. l ++ caps) (f ∙ ap (λ b. own ++ (if b then map row_name.Tokens (all_numbers (states lts)) else [])) are.start))
      ∙ ap (λ l. ((own ++ tokens) ++ caps) ++ (if class.plain then (map row_name.Up l ++ map row_name.Down l) else [])) (users_are lts columns.used.items are.used)
      ∙ parts_told lts class own
    where
      tokens : List RowName
      tokens = if has_start class then map row_name.Tokens (all_numbers (states lts)) else []

      caps : List RowName
      caps = if is_some class.bound then map row_name.Cap (all_numbers (states lts)) else []

module _ (lts : System) (class : Class) (problem : Problem) (number : ℕ) (columns : Columns) (are : AreColumns lts class columns) where
  pub names_told : (own sided all : List RowName) → own ≡ problem_rows lts class problem
      → sided ≡ own ++ shared_names lts class
      → all ≡ sided ++ (if class.nonbranching then map row_name.Makes (makers columns.used.items (case_consumer lts problem number)) else [])
      → all ≡ names_of lts class problem number
  names_told own sided all e h k =
      k
      ∙ ap (λ l. l ++ (if class.nonbranching then map row_name.Makes (makers columns.used.items (case_consumer lts problem number)) else [])) (h ∙ ap (λ l. l ++ shared_names lts class) e)
      ∙ ap (λ l. (problem_rows lts class problem ++ shared_names lts class) ++ (if class.nonbranching then map row_name.Makes l else []))
      (makers_are lts columns.used.items (case_consumer lts problem number) are.used)
      ∙ ap (λ l. l ++ (if class.nonbranching then map row_name.Makes
      (numbers_where (λ u. has_label u lts.arcs && not (u == case_consumer lts problem number)) 0 (labels lts)) else []))
      (sym (parts_told lts class (problem_rows lts class problem)))

-- ---- a list of states, one name for each

pub each_named : (name : ℕ → RowName) (before names : List RowName) (numbers : List ℕ) (i : ℕ) → names ≡ before ++ map name (take i numbers) → i < length numbers
    → names ++ name (slice_index numbers i) ∷ [] ≡ before ++ map name (take (i + 1) numbers)
each_named name before names numbers i so_far lt =
    ap (λ l. l ++ name (slice_index numbers i) ∷ []) so_far
    ∙ append_assoc before (map name (take i numbers)) (name (slice_index numbers i) ∷ [])
    ∙ ap (λ l. before ++ l) (sym (ap (map name) (take_more numbers i 0 lt) ∙ map-append name (take i numbers) (slice_index numbers i ∷ [])))

pub all_named : (name : ℕ → RowName) (before names : List RowName) (numbers : List ℕ) (i : ℕ) → names ≡ before ++ map name (take i numbers) → length numbers ≤ i → names ≡ before ++ map name numbers
all_named name before names numbers i so_far past = so_far ∙ ap (λ l. before ++ map name l) (take_all i numbers past)

-- the rows of the problem come first
pub own_first : (lts : System) (class : Class) (problem : Problem) (number : ℕ) → (others : List RowName) × (names_of lts class problem number ≡ problem_rows lts class problem ++ others)
own_first lts class problem number = (
  shared_names lts class ++ makes,
  ap (λ l. l ++ makes) (parts_told lts class (problem_rows lts class problem)) ∙ append_assoc (problem_rows lts class problem) (shared_names lts class) makes,
)
  where
    makes : List RowName
    makes = if class.nonbranching then map row_name.Makes (numbers_where (λ u. has_label u lts.arcs && not (u == case_consumer lts problem number)) 0 (labels lts)) else []

module _ (lts : System) (class : Class) (problem : Problem) (number : ℕ) where
  pub own_taken : take (length (problem_rows lts class problem)) (names_of lts class problem number) ≡ problem_rows lts class problem
  own_taken = let (others, first) = own_first lts class problem number in
      ap (take (length (problem_rows lts class problem))) first ∙ take-append_seam (problem_rows lts class problem) others

  pub own_no_more : length (problem_rows lts class problem) ≤ length (names_of lts class problem number)
  own_no_more = let (others, first) = own_first lts class problem number in
      let size = ap length first ∙ length-append (problem_rows lts class problem) others in
      omega arith
