-- Rows of one length, one after the other: where each stands, and what a write does to them.
use Rattle.std.proofs.Common.{◌≡◌, ◌⊎◌, ℕ, zero, suc, ◌+◌, ◌-◌, ◌*◌, ◌<◌, ◌≤◌, List, [], ◌∷◌, ◌++◌, length, take, drop, get_or, set, replicate, inl, inr, sym, ap, ap₂, ◌∙◌, refl, arith, append_assoc, length-append, length-drop}
use Rattle.std.proofs.Math.Nat.{mul-le-mul_right}
use Rattle.std.proofs.Math.Seq.{take-set-lt}
use Rattle.std.proofs.lemmas.Bool.{cases_lt}
use Rattle.std.proofs.lemmas.List.{take-set-le, drop-set-lt, drop-set-add, drop-drop, take-append-drop, length-take-le, take-replicate, drop-replicate, take_more, drop_more, set_at, get_or_append_left, get_or-append_right, get_or-take, get_or-drop, get_or_default}
use Rattle.rg_spanning.specs.Rows.{rows_of}

pub rows-length : {X : Type 0} (rows width : ℕ) (cells : List X) → length (rows_of rows width cells) ≡ rows
rows-length zero width cells = refl
rows-length (suc rows) width cells = let e = rows-length rows width (drop width cells) in omega arith

-- each row stands within the cells
pub row-within : (s rows width : ℕ) → s < rows → s * width + width ≤ rows * width
row-within s rows width lt = let le : suc s * width ≤ rows * width = mul-le-mul_right width lt in omega arith

-- row s stands behind s rows
pub row-at : {X : Type 0} (rows width s : ℕ) (cells : List X) (d : List X) → s < rows
    → get_or (rows_of rows width cells) s d ≡ take width (drop (s * width) cells)
row-at zero width s cells d lt = absurd (omega arith)
row-at (suc rows) width zero cells d lt = let none : 0 ≡ 0 * width = omega arith in ap (λ n. take width (drop n cells)) none
row-at (suc rows) width (suc s) cells d lt =
    let index : width + s * width ≡ suc s * width = omega arith in
    row-at rows width s (drop width cells) d (omega arith) ∙ ap (take width) (drop-drop (s * width) width cells)
    ∙ ap (λ n. take width (drop n cells)) index

-- a row is as long as the others
pub row-length : {X : Type 0} (rows width s : ℕ) (cells : List X) (d : List X) → s < rows → length cells ≡ rows * width
    → length (get_or (rows_of rows width cells) s d) ≡ width
row-length rows width s cells d lt len =
    let within = row-within s rows width lt in
    let rest = length-drop (s * width) cells in
    ap length (row-at rows width s cells d lt) ∙ length-take-le width (drop (s * width) cells) (omega arith)

-- the entry of a row
pub entry-at : {X : Type 0} (rows width s t : ℕ) (cells : List X) (d : List X) (x : X) → s < rows → t < width
    → get_or (get_or (rows_of rows width cells) s d) t x ≡ get_or cells (s * width + t) x
entry-at rows width s t cells d x lt within =
    ap (λ row. get_or row t x) (row-at rows width s cells d lt) ∙ get_or-take width (drop (s * width) cells) t x within
    ∙ get_or-drop (s * width) cells t x

-- a write to a cell is a write to its row
pub set-row : {X : Type 0} (rows width s t : ℕ) (cells : List X) (x : X) (d : List X) → s < rows → t < width
    → rows_of rows width (set cells (s * width + t) x) ≡ set (rows_of rows width cells) s (set (get_or (rows_of rows width cells) s d) t x)
set-row zero width s t cells x d lt within = absurd (omega arith)
set-row (suc rows) width zero t cells x d lt within =
    let index : 0 * width + t ≡ t = omega arith in
    ap (λ n. rows_of (suc rows) width (set cells n x)) index
    ∙ ap₂ ◌∷◌ (take-set-lt width cells t x within) (ap (rows_of rows width) (drop-set-lt width cells t x within))
set-row (suc rows) width (suc s) t cells x d lt within =
    let index : suc s * width + t ≡ width + (s * width + t) = omega arith in
    ap (λ n. rows_of (suc rows) width (set cells n x)) index
    ∙ ap₂ ◌∷◌ (take-set-le width cells (width + (s * width + t)) x (omega arith))
    (ap (rows_of rows width) (drop-set-add width cells (s * width + t) x) ∙ set-row rows width s t (drop width cells) x d (omega arith) within)

take-nil : {X : Type 0} (n : ℕ) → take {A = X} n [] ≡ []
take-nil zero = refl
take-nil (suc n) = refl

take-add : {X : Type 0} (m n : ℕ) (xs : List X) → take (m + n) xs ≡ take m xs ++ take n (drop m xs)
take-add zero n xs = let index : 0 + n ≡ n = omega arith in ap (λ m. take m xs) index
take-add (suc m) n [] = let index : suc m + n ≡ suc (m + n) = omega arith in ap (λ k. take k []) index ∙ sym (take-nil n)
take-add (suc m) n (x ∷ xs) =
    let index : suc m + n ≡ suc (m + n) = omega arith in
    ap (λ k. take k (x ∷ xs)) index ∙ ap (λ ys. x ∷ ys) (take-add m n xs)

-- what stands before the other list
pub take-exact : {X : Type 0} (n : ℕ) (xs ys : List X) → length xs ≡ n → take n (xs ++ ys) ≡ xs
take-exact zero [] ys e = refl
take-exact zero (x ∷ xs) ys e = absurd (omega arith)
take-exact (suc n) [] ys e = absurd (omega arith)
take-exact (suc n) (x ∷ xs) ys e = ap (λ zs. x ∷ zs) (take-exact n xs ys (omega arith))

drop-exact : {X : Type 0} (n : ℕ) (xs ys : List X) → length xs ≡ n → drop n (xs ++ ys) ≡ ys
drop-exact zero [] ys e = refl
drop-exact zero (x ∷ xs) ys e = absurd (omega arith)
drop-exact (suc n) [] ys e = absurd (omega arith)
drop-exact (suc n) (x ∷ xs) ys e = drop-exact n xs ys (omega arith)

-- a row written over the cells of another
pub put-row : {X : Type 0} (rows width s : ℕ) (cells row : List X) → s < rows → length cells ≡ rows * width → length row ≡ width
    → rows_of rows width (take (s * width) cells ++ (row ++ drop (s * width + width) cells)) ≡ set (rows_of rows width cells) s row
put-row zero width s cells row lt len wide = absurd (omega arith)
put-row (suc rows) width zero cells row lt len wide =
    let none : 0 * width ≡ 0 = omega arith in
    let first : 0 * width + width ≡ width = omega arith in
    ap₂ (λ m n. rows_of (suc rows) width (take m cells ++ (row ++ drop n cells))) none first
    ∙ ap₂ ◌∷◌ (take-exact width row (drop width cells) wide) (ap (rows_of rows width) (drop-exact width row (drop width cells) wide))
put-row {X = X} (suc rows) width (suc s) cells row lt len wide =
    ap (rows_of (suc rows) width) cells_are
    ∙ ap₂ ◌∷◌ (take-exact width (take width cells) rest first_long)
    (ap (rows_of rows width) (drop-exact width (take width cells) rest first_long)
    ∙ put-row rows width s (drop width cells) row (omega arith) (let l = length-drop width cells in omega arith) wide)
  where
    rest : List X
    rest = take (s * width) (drop width cells) ++ (row ++ drop (s * width + width) (drop width cells))

    first_long : length (take width cells) ≡ width
    first_long = length-take-le width cells (omega arith)

    cells_are : take (suc s * width) cells ++ (row ++ drop (suc s * width + width) cells) ≡ take width cells ++ rest
    cells_are =
        let before : suc s * width ≡ width + s * width = omega arith in
        let behind : suc s * width + width ≡ width + (s * width + width) = omega arith in
        ap₂ (λ m n. take m cells ++ (row ++ drop n cells)) before behind
        ∙ ap₂ (λ xs ys. xs ++ (row ++ ys)) (take-add width (s * width) cells) (sym (drop-drop (s * width + width) width cells))
        ∙ append_assoc (take width cells) (take (s * width) (drop width cells)) (row ++ drop (s * width + width) (drop width cells))

-- rows of one value
pub rows-replicate : {X : Type 0} (rows width : ℕ) (x : X) → rows_of rows width (replicate (rows * width) x) ≡ replicate rows (replicate width x)
rows-replicate zero width x = refl
rows-replicate (suc rows) width x =
    let all : suc rows * width ≡ width + rows * width = omega arith in
    let left : (width + rows * width) - width ≡ rows * width = omega arith in
    ap (λ n. rows_of (suc rows) width (replicate n x)) all
    ∙ ap₂ ◌∷◌ (take-replicate width (width + rows * width) x (omega arith))
    (ap (rows_of rows width) (drop-replicate width (width + rows * width) x ∙ ap (λ n. replicate n x) left) ∙ rows-replicate rows width x)

module _ {X : Type 0} (rows width s : ℕ) (cells : List X) (table : List (List X)) (view : rows_of rows width cells ≡ table)
    (len : length cells ≡ rows * width) (lt : s < length table) where
  pub row-number : s < rows
  row-number = let e = rows-length rows width cells in let f = ap length view in omega arith

  pub row-inside : s * width + width ≤ length cells
  row-inside = let w = row-within s rows width row-number in omega (arith, len)

  -- the part of the cells is the row
  pub row-part : (d : List X) → take (s * width + width - s * width) (drop (s * width) cells) ≡ get_or table s d
  row-part d =
      let e : s * width + width - s * width ≡ width = omega arith in
      ap (λ n. take n (drop (s * width) cells)) e ∙ sym (row-at rows width s cells d row-number) ∙ ap (λ t. get_or t s d) view

  pub entry-inside : (t : ℕ) (d : List X) → t < length (get_or table s d) → t < width
  entry-inside t d within = let e = ap (λ t. length (get_or t s d)) view in let f = row-length rows width s cells d row-number len in omega arith

  -- the entry of a row is one of the cells
  pub entry-cell : (t : ℕ) (d : List X) (x y : X) → t < length (get_or table s d) → get_or cells (s * width + t) y ≡ get_or (get_or table s d) t x
  entry-cell t d x y within =
      let inside = entry-inside t d within in
      get_or_default cells (s * width + t) y x (let w = row-inside in omega arith) ∙ sym (entry-at rows width s t cells d x row-number inside)
      ∙ ap (λ r. get_or (get_or r s d) t x) view

  -- a write to a cell is a write to its row
  pub entry-set : (t : ℕ) (d : List X) (x : X) → t < length (get_or table s d)
      → rows_of rows width (set cells (s * width + t) x) ≡ set table s (set (get_or table s d) t x)
  entry-set t d x within =
      set-row rows width s t cells x d row-number (entry-inside t d within) ∙ ap (λ r. set r s (set (get_or r s d) t x)) view

  -- a row that is written over the cells of another
  pub row-copied : (from : ℕ) (d : List X) → from < length table
      → rows_of rows width (take (s * width) cells ++ (take width (drop (from * width) cells) ++ drop (s * width + width) cells))
      ≡ set table s (get_or table from d)
  row-copied from d lt' =
      let fewer : from < rows = (let e = rows-length rows width cells in let f = ap length view in omega arith) in
      let is = row-at rows width from cells d fewer in
      put-row rows width s cells (take width (drop (from * width) cells)) row-number len (ap length (sym is) ∙ row-length rows width from cells d fewer len)
      ∙ ap₂ (λ r row. set r s row) view (sym is ∙ ap (λ r. get_or r from d) view)

-- one row ends before another begins, or begins no earlier
pub rows-apart : (from to width : ℕ) → (from * width + width ≤ to * width) ⊎ (to * width ≤ from * width)
rows-apart from to width = go (cases_lt from to)
  where
    go : (from < to) ⊎ (to ≤ from) → (from * width + width ≤ to * width) ⊎ (to * width ≤ from * width)
    go (inl lt) = inl (row-within from to width lt)
    go (inr le) = inr (mul-le-mul_right width le)

-- the cells once the first i of a run are copied to another index
abbrev pub copied : {X : Type 0} → List X → ℕ → ℕ → ℕ → List X
copied cells from to i = take to cells ++ (take i (drop from cells) ++ drop (to + i) cells)

pub copied-none : {X : Type 0} (cells : List X) (from to : ℕ) → copied cells from to 0 ≡ cells
copied-none cells from to = let e : to + 0 ≡ to = omega arith in ap (λ n. take to cells ++ drop n cells) e ∙ take-append-drop to cells

module _ {X : Type 0} (cells : List X) (count from to i : ℕ) (d : X) (read : from + count ≤ length cells) (written : to + count ≤ length cells)
    (lt : i < count) where
  part_long : length (take i (drop from cells)) ≡ i
  part_long = length-take-le i (drop from cells) (let l = length-drop from cells in omega arith)

  before_long : length (take to cells) ≡ to
  before_long = length-take-le to cells (omega arith)

  -- the cell that is read is as it was
  pub copied-read : (from + count ≤ to) ⊎ (to ≤ from) → get_or (copied cells from to i) (from + i) d ≡ get_or cells (from + i) d
  copied-read (inl e) =
      get_or_append_left (take to cells) (take i (drop from cells) ++ drop (to + i) cells) d (from + i) (omega (arith, before_long))
      ∙ get_or-take to cells (from + i) d (omega arith)
  copied-read (inr e) =
      let there : (to + i) + ((from + i - to) - i) ≡ from + i = omega arith in
      get_or-append_right (take to cells) (take i (drop from cells) ++ drop (to + i) cells) to (from + i) d before_long (omega arith)
      ∙ get_or-append_right (take i (drop from cells)) (drop (to + i) cells) i (from + i - to) d part_long (omega arith)
      ∙ get_or-drop (to + i) cells ((from + i - to) - i) d ∙ ap (λ n. get_or cells n d) there

  pub copied-more : set (copied cells from to i) (to + i) (get_or cells (from + i) d) ≡ copied cells from to (i + 1)
  copied-more =
      ap (λ xs. set xs (to + i) x) split ∙ set_at (take to cells ++ part) (get_or cells (to + i) d) rest x (to + i) long
      ∙ append_assoc (take to cells) part (x ∷ rest) ∙ ap (λ xs. take to cells ++ xs) tail
    where
      x : X
      x = get_or cells (from + i) d

      part : List X
      part = take i (drop from cells)

      rest : List X
      rest = drop ((to + i) + 1) cells

      long : length (take to cells ++ part) ≡ to + i
      long = length-append (take to cells) part ∙ ap₂ ◌+◌ before_long part_long

      split : copied cells from to i ≡ (take to cells ++ part) ++ get_or cells (to + i) d ∷ rest
      split = ap (λ xs. take to cells ++ (part ++ xs)) (drop_more cells (to + i) d (omega arith))
          ∙ sym (append_assoc (take to cells) part (get_or cells (to + i) d ∷ rest))

      tail : part ++ x ∷ rest ≡ take (i + 1) (drop from cells) ++ drop (to + (i + 1)) cells
      tail =
          let more = take_more (drop from cells) i d (let l = length-drop from cells in omega arith) in
          let here = get_or-drop from cells i d in
          let index : (to + i) + 1 ≡ to + (i + 1) = omega arith in
          sym (append_assoc part (x ∷ []) rest)
          ∙ ap₂ ◌++◌ (ap (λ y. part ++ y ∷ []) (sym here) ∙ sym more) (ap (λ n. drop n cells) index)
