-- Cells of states, each numbered by the first of its states, which is found by a set of pairs.
use Rattle.std.proofs.Common.{◌≡◌, ℕ, zero, suc, ◌+◌, ◌<◌, ◌≤◌, ◌⊎◌, ◌&&◌, ◌||◌, ◌==◌, if◌then◌else◌, Bool, true, false, List, [], ◌∷◌, ◌++◌, length, Some, slice_get, get_or, inl, inr, ⊎_elim, refl, sym, ap, ◌∙◌, subst, arith}
use Rattle.std.proofs.Common.{eq-eqb, eqb-true, length-append}
use Rattle.std.specs.List.{list_any}
use Rattle.std.proofs.lemmas.Bool.{cases_eq, cases_Bool, true≢false}
use Rattle.std.proofs.lemmas.Option.{same_Some, none-some, slice_get_within, slice_get_read}
use Rattle.rg_theory.proofs.Lists.{last_of, first_of, get_cases}
use Rattle.rg_marks.specs.Cells.{AreNumbered, AreRefined}
use Rattle.rg_marks.proofs.Members.{get_before, get_last}

-- the states before s have as many tokens as the states by which their cells are numbered
abbrev pub SameSoFar : List ℕ → List ℕ → ℕ → Type 0
SameSoFar cells tokens s = (k : ℕ) → k < s → get_or tokens (get_or cells k 0) 0 ≡ get_or tokens k 0

-- whether two pairs are the same
abbrev pub same_pair : ℕ × ℕ → ℕ × ℕ → Bool
same_pair x y = (x.0 == y.0) && (x.1 == y.1)

-- the keys after a pair was put in
abbrev pub with_pair : List (ℕ × ℕ) → ℕ × ℕ → List (ℕ × ℕ)
with_pair keys x = if list_any (same_pair x) keys then keys else (keys ++ x ∷ [])

same_is : (x y : ℕ × ℕ) → same_pair x y ≡ true → x ≡ y
same_is x y e = go (cases_Bool (x.0 == y.0)) (cases_Bool (x.1 == y.1))
  where
    go : ((x.0 == y.0) ≡ true) ⊎ ((x.0 == y.0) ≡ false) → ((x.1 == y.1) ≡ true) ⊎ ((x.1 == y.1) ≡ false) → x ≡ y
    go (inl p) (inl q) = λ i. (eqb-true x.0 y.0 p i, eqb-true x.1 y.1 q i)
    go (inl p) (inr q) = absurd (true≢false (sym e ∙ ap (λ b. b && (x.1 == y.1)) p ∙ q))
    go (inr p) q = absurd (true≢false (sym e ∙ ap (λ b. b && (x.1 == y.1)) p))

is_same : (x : ℕ × ℕ) → same_pair x x ≡ true
is_same x = ap (λ b. b && (x.1 == x.1)) (eq-eqb x.0 x.0 refl) ∙ eq-eqb x.1 x.1 refl

-- a pair among the keys is found, and one that is found is among them
pub found : (x : ℕ × ℕ) (keys : List (ℕ × ℕ)) (i : ℕ) → slice_get keys i ≡ Some x → list_any (same_pair x) keys ≡ true
found x [] i e = absurd (none-some x e)
found x (k ∷ keys) zero e = ap (λ b. b || list_any (same_pair x) keys) (subst (λ y. same_pair x y ≡ true) (sym (same_Some k x e)) (is_same x))
found x (k ∷ keys) (suc i) e = go (cases_Bool (same_pair x k)) (found x keys i e)
  where
    go : (same_pair x k ≡ true) ⊎ (same_pair x k ≡ false) → list_any (same_pair x) keys ≡ true → list_any (same_pair x) (k ∷ keys) ≡ true
    go (inl p) later = ap (λ b. b || list_any (same_pair x) keys) p
    go (inr p) later = ap (λ b. b || list_any (same_pair x) keys) p ∙ later

pub among : (x : ℕ × ℕ) (keys : List (ℕ × ℕ)) → list_any (same_pair x) keys ≡ true → (i : ℕ) × (slice_get keys i ≡ Some x)
among x [] e = absurd (true≢false (sym e))
among x (k ∷ keys) e = go (cases_Bool (same_pair x k)) (among x keys)
  where
    go : (same_pair x k ≡ true) ⊎ (same_pair x k ≡ false) → (list_any (same_pair x) keys ≡ true → (i : ℕ) × (slice_get keys i ≡ Some x)) → (i : ℕ) × (slice_get (k ∷ keys) i ≡ Some x)
    go (inl p) later = (0, ap Some (sym (same_is x k p)))
    go (inr p) later = let (i, at) = later (sym (ap (λ b. b || list_any (same_pair x) keys) p) ∙ e) in (suc i, at)

-- the number that was given is that of the pair
pub given_number : (keys : List (ℕ × ℕ)) (x : ℕ × ℕ) (number : ℕ) → (k : ℕ × ℕ) × (slice_get keys number ≡ Some k) × (same_pair x k ≡ true) → slice_get keys number ≡ Some x
given_number keys x number (k, at, same) = at ∙ ap Some (sym (same_is x k same))

-- each of the list stands there once
abbrev pub AreDistinct : {X : Type 0} → List X → Type 0
AreDistinct {X} xs = (i j : ℕ) (x : X) → slice_get xs i ≡ Some x → slice_get xs j ≡ Some x → i ≡ j

one_more_distinct : {X : Type 0} (xs : List X) (y : X) → AreDistinct xs → ((i : ℕ) → slice_get xs i ≡ Some y → ⊥) → AreDistinct (xs ++ y ∷ [])
one_more_distinct xs y distinct gone i j x e f = at (get_cases xs y i x e) (get_cases xs y j x f)
  where
    at : (slice_get xs i ≡ Some x) ⊎ ((i ≡ length xs) × (y ≡ x)) → (slice_get xs j ≡ Some x) ⊎ ((j ≡ length xs) × (y ≡ x)) → i ≡ j
    at (inl h) (inl k) = distinct i j x h k
    at (inl h) (inr (p, is)) = absurd (gone i (h ∙ ap Some (sym is)))
    at (inr (p, is)) (inl k) = absurd (gone j (k ∙ ap Some (sym is)))
    at (inr (p, is)) (inr (q, is')) = p ∙ sym q

-- the states before s are numbered by the first states with their pairs: one for each of the keys
pub record NumberedSoFar (cells tokens : List ℕ) (keys : List (ℕ × ℕ)) (firsts refined : List ℕ) (s : ℕ) : Type 0 where
  pub long : length refined ≡ s
  pub listed : length firsts ≡ length keys
  pub few : length keys ≤ s
  pub below : (i f : ℕ) → slice_get firsts i ≡ Some f → f < s
  pub own : (i f : ℕ) → slice_get firsts i ≡ Some f → get_or refined f 0 ≡ f
  pub distinct : AreDistinct keys
  pub apart : AreDistinct firsts
  pub stored : (k : ℕ) → k < s → (i : ℕ) × (slice_get keys i ≡ Some (get_or cells k 0, get_or tokens k 0)) × (slice_get firsts i ≡ Some (get_or refined k 0))

module _ (cells tokens : List ℕ) (keys : List (ℕ × ℕ)) (firsts refined : List ℕ) (s : ℕ) (so_far : NumberedSoFar cells tokens keys firsts refined s) where
  -- the pair of the next state
  abbrev next_pair : ℕ × ℕ
  next_pair = (get_or cells s 0, get_or tokens s 0)

  -- one more state is stored with its number, and those before stay
  stored_next : (more : List (ℕ × ℕ)) (others : List ℕ) (number f : ℕ)
      → ((i : ℕ) (x : ℕ × ℕ) → slice_get keys i ≡ Some x → slice_get more i ≡ Some x) → ((i x : ℕ) → slice_get firsts i ≡ Some x → slice_get others i ≡ Some x)
      → slice_get more number ≡ Some next_pair → slice_get others number ≡ Some f
      → (k : ℕ) → k < s + 1 → (i : ℕ) × (slice_get more i ≡ Some (get_or cells k 0, get_or tokens k 0)) × (slice_get others i ≡ Some (get_or (refined ++ f ∷ []) k 0))
  stored_next more others number f keeps holds at is k lt = by (cases_eq k s)
    where
      by : (k ≡ s) ⊎ (k ≡ s → ⊥) → (i : ℕ) × (slice_get more i ≡ Some (get_or cells k 0, get_or tokens k 0)) × (slice_get others i ≡ Some (get_or (refined ++ f ∷ []) k 0))
      by (inl e) = (
        number,
        subst (λ n. slice_get more number ≡ Some (get_or cells n 0, get_or tokens n 0)) (sym e) at,
        is ∙ ap Some (sym (last_of refined f k (let n = so_far.long in omega arith))),
      )
      by (inr differ) =
          let (i, here, there) = so_far.stored k (omega arith) in
          (i, keeps i (get_or cells k 0, get_or tokens k 0) here, holds i (get_or refined k 0) there ∙ ap Some (sym (first_of refined f k (let n = so_far.long in omega arith))))

  -- a listed state keeps its number, which is its own
  stays : (f i x : ℕ) → slice_get firsts i ≡ Some x → get_or (refined ++ f ∷ []) x 0 ≡ x
  stays f i x e = first_of refined f x (let lt = so_far.below i x e in let n = so_far.long in omega arith) ∙ so_far.own i x e

  -- the next state is the first one with its pair
  first_next : list_any (same_pair next_pair) keys ≡ false → NumberedSoFar cells tokens (keys ++ next_pair ∷ []) (firsts ++ s ∷ []) (refined ++ s ∷ []) (s + 1)
  first_next none = record {
    long = omega (arith, length-append refined (s ∷ []), so_far.long);
    listed = omega (arith, length-append firsts (s ∷ []), length-append keys (next_pair ∷ []), so_far.listed);
    few = omega (arith, length-append keys (next_pair ∷ []), so_far.few);
    below = λ i f e. ⊎_elim (λ h. let lt = so_far.below i f h in omega arith) (λ (at, is). omega arith) (get_cases firsts s i f e);
    own = λ i f e. ⊎_elim (λ h. stays s i f h) (λ (at, is). last_of refined s f (let n = so_far.long in omega arith) ∙ is) (get_cases firsts s i f e);
    distinct = one_more_distinct keys next_pair so_far.distinct (λ i e. true≢false (sym (found next_pair keys i e) ∙ none));
    apart = one_more_distinct firsts s so_far.apart (λ i e. let lt = so_far.below i s e in omega arith);
    stored = stored_next (keys ++ next_pair ∷ []) (firsts ++ s ∷ []) (length keys) s (get_before keys next_pair) (get_before firsts s)
        (get_last keys next_pair (length keys) refl) (get_last firsts s (length keys) (sym so_far.listed));
  }

  -- the next state has the pair of an earlier one
  again_next : (number f : ℕ) → slice_get keys number ≡ Some next_pair → slice_get firsts number ≡ Some f → NumberedSoFar cells tokens keys firsts (refined ++ f ∷ []) (s + 1)
  again_next number f at is = record {
    long = omega (arith, length-append refined (f ∷ []), so_far.long);
    listed = so_far.listed;
    few = let n = so_far.few in omega arith;
    below = λ i x e. let lt = so_far.below i x e in omega arith;
    own = stays f;
    distinct = so_far.distinct;
    apart = so_far.apart;
    stored = stored_next keys firsts number f (λ i x e. e) (λ i x e. e) at is;
  }

  -- the pair of the next state was put in with the next number: the state is listed as the first one with it
  pub numbered_first : (number f : ℕ) → slice_get (with_pair keys next_pair) number ≡ Some next_pair → number ≡ length firsts → f ≡ get_or (firsts ++ s ∷ []) number f
      → NumberedSoFar cells tokens (with_pair keys next_pair) (firsts ++ s ∷ []) (refined ++ f ∷ []) (s + 1)
  numbered_first number f at past read = go (cases_Bool (list_any (same_pair next_pair) keys))
    where
      is : s ≡ f
      is = same_Some s f (
          sym (get_last firsts s number past)
          ∙ slice_get_read (firsts ++ s ∷ []) (length firsts + 1) number f (let n = length-append firsts (s ∷ []) in omega arith) (omega arith) read
          )

      go : (list_any (same_pair next_pair) keys ≡ true) ⊎ (list_any (same_pair next_pair) keys ≡ false)
          → NumberedSoFar cells tokens (with_pair keys next_pair) (firsts ++ s ∷ []) (refined ++ f ∷ []) (s + 1)
      go (inl p) =
          let lt = slice_get_within keys number next_pair (subst (λ b. slice_get (if b then keys else (keys ++ next_pair ∷ [])) number ≡ Some next_pair) p at) in
          let same = so_far.listed in
          absurd (omega arith)
      go (inr p) =
          subst (λ b. NumberedSoFar cells tokens (if b then keys else (keys ++ next_pair ∷ [])) (firsts ++ s ∷ []) (refined ++ f ∷ []) (s + 1)) (sym p)
          (subst (λ n. NumberedSoFar cells tokens (keys ++ next_pair ∷ []) (firsts ++ s ∷ []) (refined ++ n ∷ []) (s + 1)) is (first_next p))

  -- the pair of the next state was there, with a number for which a first state is listed
  pub numbered_again : (number f : ℕ) → slice_get (with_pair keys next_pair) number ≡ Some next_pair → (number ≡ length firsts → ⊥) → f ≡ get_or firsts number f
      → NumberedSoFar cells tokens (with_pair keys next_pair) firsts (refined ++ f ∷ []) (s + 1)
  numbered_again number f at differ read = go (cases_Bool (list_any (same_pair next_pair) keys))
    where
      go : (list_any (same_pair next_pair) keys ≡ true) ⊎ (list_any (same_pair next_pair) keys ≡ false) → NumberedSoFar cells tokens (with_pair keys next_pair) firsts (refined ++ f ∷ []) (s + 1)
      go (inl p) =
          let here = subst (λ b. slice_get (if b then keys else (keys ++ next_pair ∷ [])) number ≡ Some next_pair) p at in
          subst (λ b. NumberedSoFar cells tokens (if b then keys else (keys ++ next_pair ∷ [])) firsts (refined ++ f ∷ []) (s + 1)) (sym p)
          (again_next number f here (slice_get_read firsts (length keys) number f (sym so_far.listed) (slice_get_within keys number next_pair here) read))
      go (inr p) =
          let same = so_far.listed in
          ⊎_elim
          (λ here. absurd (true≢false (sym (found next_pair keys number here) ∙ p)))
          (λ (past, is). absurd (differ (past ∙ sym same)))
          (get_cases keys next_pair number next_pair (subst (λ b. slice_get (if b then keys else (keys ++ next_pair ∷ [])) number ≡ Some next_pair) p at))

  -- no number is past the next one
  pub number_within : (number : ℕ) → number < length (with_pair keys next_pair) → number ≤ length firsts
  number_within number lt = go (cases_Bool (list_any (same_pair next_pair) keys))
    where
      go : (list_any (same_pair next_pair) keys ≡ true) ⊎ (list_any (same_pair next_pair) keys ≡ false) → number ≤ length firsts
      go (inl p) =
          let less = subst (λ b. number < length (if b then keys else (keys ++ next_pair ∷ []))) p lt in
          let same = so_far.listed in
          omega arith
      go (inr p) =
          let less = subst (λ b. number < length (if b then keys else (keys ++ next_pair ∷ []))) p lt in
          omega (arith, so_far.listed, length-append keys (next_pair ∷ []))

  pub numbered_end : length cells ≤ s → s ≤ length cells → AreRefined cells tokens refined
  numbered_end past most = record {
    one_each = so_far.long ∙ same;
    same = λ k k' lt lt'. (λ e. to k k' lt lt' e, λ (e, f). from k k' lt lt' e f);
    numbered = λ before. record { within = within; own = own };
  }
    where
      same : s ≡ length cells
      same = omega arith

      within : (k : ℕ) → k < length refined → get_or refined k 0 < length refined
      within k lt =
          let long = so_far.long in
          let (i, at, is) = so_far.stored k (omega arith) in
          let less = so_far.below i (get_or refined k 0) is in
          omega arith

      own : (k : ℕ) → k < length refined → get_or refined (get_or refined k 0) 0 ≡ get_or refined k 0
      own k lt =
          let long = so_far.long in
          let (i, at, is) = so_far.stored k (omega arith) in
          so_far.own i (get_or refined k 0) is

      to : (k k' : ℕ) → k < length cells → k' < length cells → get_or refined k 0 ≡ get_or refined k' 0 → (get_or cells k 0 ≡ get_or cells k' 0) × (get_or tokens k 0 ≡ get_or tokens k' 0)
      to k k' lt lt' e =
          let (i, at, is) = so_far.stored k (omega arith) in
          let (j, at', is') = so_far.stored k' (omega arith) in
          let there : i ≡ j = so_far.apart i j (get_or refined k 0) is (is' ∙ ap Some (sym e)) in
          let one : (get_or cells k 0, get_or tokens k 0) ≡ (get_or cells k' 0, get_or tokens k' 0) = same_Some _ _ (sym at ∙ ap (λ n. slice_get keys n) there ∙ at') in
          (ap (λ (x : ℕ × ℕ). x.0) one, ap (λ (x : ℕ × ℕ). x.1) one)

      from : (k k' : ℕ) → k < length cells → k' < length cells → get_or cells k 0 ≡ get_or cells k' 0 → get_or tokens k 0 ≡ get_or tokens k' 0 → get_or refined k 0 ≡ get_or refined k' 0
      from k k' lt lt' e f =
          let (i, at, is) = so_far.stored k (omega arith) in
          let (j, at', is') = so_far.stored k' (omega arith) in
          let there : i ≡ j = so_far.distinct i j (get_or cells k 0, get_or tokens k 0) at (at' ∙ ap Some (λ n. (sym e n, sym f n))) in
          same_Some _ _ (sym is ∙ ap (λ n. slice_get firsts n) there ∙ is')
