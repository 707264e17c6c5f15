-- Rows that are kept of two lists, one after the other.
use Rattle.std.proofs.Common.{◌≡◌, ◌≢◌, ⊎_elim, ℕ, suc, ◌+◌, ◌-◌, ◌<◌, ◌≤◌, ◌==◌, cond, Bool, true, false, if◌then◌else◌, Some, List, [], ◌∷◌, ◌++◌, map, take, drop, length, All, Contains, Result, Ok, Err, inl, inr, ap, refl, subst, sym, ◌∙◌, arith}
use Rattle.std.specs.Prelude.{slice_get, slice_index_or, IsFalse, IsTrue}
use Rattle.std.specs.List.{list_any}
use Rattle.std.proofs.lemmas.Bool.{cases_lt, false≢true}
use Rattle.std.proofs.lemmas.List.{append-nil, length-append, length-map, map-append, get_or_append_left, get_or-append_right, get_or-map, take_more, take-append-drop}
use Rattle.std.proofs.lemmas.List.Elements.{All-nil, All-cons, All-append}
use Rattle.std.proofs.lemmas.Option.{slice_get_within}
use Rattle.rg_integers.specs.declared.term.Wide.{Wide}
use Rattle.rg_theory.specs.declared.Class.{Class}
use Rattle.rg_theory.specs.declared.Problem.{Problem}
use Rattle.rg_theory.specs.System.{System}
use Rattle.rg_cert_meaning.specs.declared.RowName.{RowName}
use Rattle.rg_linear.specs.Firsts.{KeepsEqualRows}
use Rattle.rg_linear.specs.System.{LinearRow}
use Rattle.rg_linear.proofs.Members.{Contains-cons_cases}
use Rattle.rg_folds.specs.Fold.{each}
use Rattle.rg_case_folds.specs.Rewriting.{KeptRow, IsIdle, problem_rows, names_of}
use Rattle.rg_rows.specs.declared.held_row.HeldRow.{HeldRow}
use Rattle.rg_rows.specs.View.{kept_row, row_in, AreIndices}
use Rattle.rg_rows.specs.Sharing.{row_hash, has_hash, IsApart, shared_names}
use Rattle.rg_rows.proofs.Naming.{parts_told}
use Rattle.rg_rows.proofs.Parts.{get_left, get_right}

-- ---- items with different keys

module _ {X K : Type 0} (key : X → K) (Drops : X → Type 0) where
  -- more keys that were seen drop no more, where no item that stays has one of them
  pub seen_more : (seen more : List K) (xs kept : List X) → ((k : K) → Contains seen k → Contains more k)
      → ((x : X) → Contains kept x → Contains more (key x) → Contains seen (key x)) → KeepsEqualRows key Drops seen xs kept → KeepsEqualRows key Drops more xs kept
  seen_more seen more [] kept wider apart k = k
  seen_more seen more (x ∷ xs) kept wider apart (inl (gone, k)) = inl (⊎_elim (λ d. inl d) (λ s. inr (wider (key x) s)) gone, seen_more seen more xs kept wider apart k)
  seen_more seen more (x ∷ xs) kept wider apart (inr (stays, fresh, (rest, is, k))) =
      inr (stays, (λ s. fresh (apart x here s)), (rest, is, seen_more (key x ∷ seen) (key x ∷ more) xs rest still_wider still_apart k))
    where
      here : Contains kept x
      here = subst (λ l. Contains l x) (sym is) (0, omega arith, refl)

      there : (y : X) → Contains rest y → Contains kept y
      there y (i, lt, e) = subst (λ l. Contains l y) (sym is) (suc i, omega arith, e)

      behind : (z : K) (ks : List K) → Contains ks z → Contains (key x ∷ ks) z
      behind z ks (i, lt, e) = (suc i, omega arith, e)

      still_wider : (z : K) → Contains (key x ∷ seen) z → Contains (key x ∷ more) z
      still_wider z h = ⊎_elim (λ e. (0, omega arith, e)) (λ s. behind z more (wider z s)) (Contains-cons_cases (key x) z seen h)

      still_apart : (y : X) → Contains rest y → Contains (key x ∷ more) (key y) → Contains (key x ∷ seen) (key y)
      still_apart y has h = ⊎_elim (λ e. (0, omega arith, e)) (λ s. behind (key y) seen (apart y (there y has) s)) (Contains-cons_cases (key x) (key y) more h)

  -- the kept ones of both lists, where none that stays of one list has the key of one of the other
  pub kept_append : (seen : List K) (xs ys kept rest : List X) → KeepsEqualRows key Drops seen xs kept → KeepsEqualRows key Drops [] ys rest
      → ((y : X) → Contains rest y → Contains seen (key y) → ⊥) → ((x y : X) → Contains xs x → ¬ Drops x → Contains rest y → key x ≢ key y)
      → KeepsEqualRows key Drops seen (xs ++ ys) (kept ++ rest)
  kept_append seen [] ys kept rest none k fresh apart =
      subst (λ l. KeepsEqualRows key Drops seen ys (l ++ rest)) (sym none) (seen_more [] seen ys rest (λ z (i, lt, e). absurd (omega arith)) (λ y has s. absurd (fresh y has s)) k)
  kept_append seen (x ∷ xs) ys kept rest (inl (gone, k)) last fresh apart =
      inl (gone, kept_append seen xs ys kept rest k last fresh (λ z y (i, lt, e) busy has. apart z y (suc i, omega arith, e) busy has))
  kept_append seen (x ∷ xs) ys kept rest (inr (stays, new, (more, is, k))) last fresh apart =
      inr (stays, new, (more ++ rest, ap (λ l. l ++ rest) is, kept_append (key x ∷ seen) xs ys more rest k last still_fresh (λ z y (i, lt, e) busy has. apart z y (suc i, omega arith, e) busy has)))
    where
      still_fresh : (y : X) → Contains rest y → Contains (key x ∷ seen) (key y) → ⊥
      still_fresh y has s = ⊎_elim (λ e. apart x y (0, omega arith, refl) stays has e) (λ t. fresh y has t) (Contains-cons_cases (key x) (key y) seen s)

-- a hash more takes none away
pub hashed_more : (hashes more : List ℕ) (v : ℕ) → ((q : ℕ) → list_any (λ h. q == h) more ≡ cond (v == q) true (list_any (λ h. q == h) hashes))
    → (rows : List KeptRow) → All (λ k. IsTrue (has_hash hashes k.row)) rows → All (λ k. IsTrue (has_hash more k.row)) rows
hashed_more hashes more v updates rows hashed = λ i d lt. each (slice_index_or rows i d).row (hashed i d lt)
  where
    go : (b x : Bool) → x ≡ true → cond b true x ≡ true
    go true x e = refl
    go false x e = e

    each : (r : LinearRow) → IsTrue (has_hash hashes r) → IsTrue (has_hash more r)
    each r has = updates (row_hash r) ∙ go (v == row_hash r) (has_hash hashes r) has

-- rows that are apart from hashes differ from rows that have one of these
pub rows_differ : (hashes : List ℕ) (own all rest : List KeptRow) → All (IsApart hashes) own → All (λ k. IsTrue (has_hash hashes k.row)) all
    → ((y : KeptRow) → Contains rest y → Contains all y) → (x y : KeptRow) → Contains own x → ¬ IsIdle x → Contains rest y → x.row ≢ y.row
rows_differ hashes own all rest apart hashed among x y (i, lt, e) busy has same =
    let (j, below, at) = among y has in
    let far : IsFalse (has_hash hashes x.row) = subst (IsApart hashes) e (apart i x lt) busy in
    let near : IsTrue (has_hash hashes y.row) = subst (λ (k : KeptRow). IsTrue (has_hash hashes k.row)) at (hashed j y below) in
    false≢true (sym (subst (λ (r : LinearRow). IsFalse (has_hash hashes r)) same far) ∙ near)

-- what holds of the rows before one and of this holds of one row more
pub all_taken : (P : KeptRow → Type 0) (rows : List HeldRow) (i : ℕ) (x : HeldRow) → i < length rows → x ≡ slice_index_or rows i x
    → All P (map kept_row (map row_in (take i rows))) → P (kept_row (row_in x)) → All P (map kept_row (map row_in (take (i + 1) rows)))
all_taken P rows i x lt at before here = subst (All P) (sym (ap (λ l. map kept_row (map row_in l)) (take_more rows i x lt ∙ ap (λ z. take i rows ++ z ∷ []) (sym at))
    ∙ ap (map kept_row) (map-append row_in (take i rows) (x ∷ [])) ∙ map-append kept_row (map row_in (take i rows)) (row_in x ∷ [])))
    (All-append P (map kept_row (map row_in (take i rows))) (kept_row (row_in x) ∷ []) before (All-cons P (kept_row (row_in x)) [] here (All-nil P)))

-- ---- their indices

pub indices_append : (own last kept rest : List KeptRow) (indices more moved : List ℕ) → AreIndices own kept indices → AreIndices last rest more
    → moved ≡ map (λ i. length kept + i) more → AreIndices (own ++ last) (kept ++ rest) (indices ++ moved)
indices_append own last kept rest indices more moved a b is = record {
  one_each = length-append indices moved ∙ (let m = ap length is ∙ length-map more (λ i. length kept + i) in let p = a.one_each in let q = b.one_each in let r = length-append own last in omega arith);
  each = λ i r at busy. ⊎_elim (λ lt. front i r lt at busy) (λ past. back i (i - length own) r (let h = past in omega arith) at busy) (cases_lt i (length own));
}
  where
    row : KeptRow → LinearRow
    row k = k.row

    front : (i : ℕ) (r : KeptRow) → i < length own → slice_get (own ++ last) i ≡ Some r → ¬ IsIdle r → slice_get (map row (kept ++ rest)) (slice_index_or (indices ++ moved) i 0) ≡ Some r.row
    front i r lt at busy =
        let here = a.each i r (sym (get_left own last i lt) ∙ at) busy in
        let short = subst (λ n. i < n) (sym a.one_each) lt in
        ap (λ n. slice_get (map row (kept ++ rest)) n) (get_or_append_left indices moved 0 i short)
        ∙ ap (λ l. slice_get l (slice_index_or indices i 0)) (map-append row kept rest)
        ∙ get_left (map row kept) (map row rest) (slice_index_or indices i 0) (slice_get_within (map row kept) (slice_index_or indices i 0) r.row here)
        ∙ here

    back : (i n : ℕ) (r : KeptRow) → i ≡ length own + n → slice_get (own ++ last) i ≡ Some r → ¬ IsIdle r → slice_get (map row (kept ++ rest)) (slice_index_or (indices ++ moved) i 0) ≡ Some r.row
    back i n r e at busy =
        let there = sym (get_right own last i n e) ∙ at in
        let here = b.each n r there busy in
        let below = slice_get_within last n r there in
        let index = slice_index_or more n 0 in
        let lt : n < length more = subst (λ m. n < m) (sym b.one_each) below in
        let past : length indices ≤ i = (let h = a.one_each in omega arith) in
        let gap : i - length indices ≡ n = (let h = a.one_each in omega arith) in
        let moved_at = get_or-append_right indices moved (length indices) i 0 refl past ∙ ap (λ m. slice_index_or moved m 0) gap
        ∙ ap (λ l. slice_index_or l n 0) is ∙ get_or-map (λ j. length kept + j) more n 0 0 lt in
        ap (λ m. slice_get (map row (kept ++ rest)) m) moved_at
        ∙ ap (λ l. slice_get l (length kept + index)) (map-append row kept rest)
        ∙ get_right (map row kept) (map row rest) (length kept + index) index (ap (λ m. m + index) (sym (length-map kept row)))
        ∙ here

-- ---- the rows of a case

-- where no row comes after those that all cases share
pub names_alone : (lts : System) (class : Class) (problem : Problem) (number : ℕ) → IsFalse class.nonbranching
    → names_of lts class problem number ≡ problem_rows lts class problem ++ shared_names lts class
names_alone lts class problem number alone = by class.nonbranching alone _ _ ∙ append-nil _ ∙ parts_told lts class (problem_rows lts class problem)
  where
    by : (b : Bool) → b ≡ false → (xs ys : List RowName) → xs ++ (if b then ys else []) ≡ xs ++ []
    by true e xs ys = cc
    by false e xs ys = refl

-- what is made of two lists, one after the other
pub each_joined : {A X : Type 0} (make : A → Result X Wide → Type 0) (firsts lasts : List A) (xs ys : List X) → each make firsts (Ok xs)
    → each make lasts (Ok ys) → each make (firsts ++ lasts) (Ok (xs ++ ys))
each_joined make [] lasts xs ys none made = subst (λ l. each make lasts (Ok (l ++ ys))) (sym none) made
each_joined make (a ∷ firsts) lasts xs ys (x, first, (rest, more, is)) made = (x, first, (rest ++ ys, each_joined make firsts lasts rest ys more made, ap (λ l. l ++ ys) is))

each_late_fails : {A X : Type 0} (make : A → Result X Wide → Type 0) (firsts lasts : List A) (xs : List X) (w : Wide) → each make firsts (Ok xs)
    → each make lasts (Err w) → each make (firsts ++ lasts) (Err w)
each_late_fails make [] lasts xs w none failed = failed
each_late_fails make (a ∷ firsts) lasts xs w (x, first, (rest, more, is)) failed = inr (x, first, inl (each_late_fails make firsts lasts rest w more failed))

-- what is made of a list whose first items are known
module _ {A X : Type 0} (make : A → Result X Wide → Type 0) (items : List A) (n : ℕ) (xs : List X) (known : each make (take n items) (Ok xs)) where
  pub after_known : (ys : List X) → each make (drop n items) (Ok ys) → each make items (Ok (xs ++ ys))
  after_known ys made = subst (λ l. each make l (Ok (xs ++ ys))) (take-append-drop n items) (each_joined make (take n items) (drop n items) xs ys known made)

  pub fails_after_known : (w : Wide) → each make (drop n items) (Err w) → each make items (Err w)
  fails_after_known w failed = subst (λ l. each make l (Err w)) (take-append-drop n items) (each_late_fails make (take n items) (drop n items) xs w known failed)
