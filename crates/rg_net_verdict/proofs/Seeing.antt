-- States with one row, found by a set of rows.
use Rattle.std.proofs.Common.{◌≡◌, ◌≢◌, ◌⊎◌, inl, inr, ⊎_elim, ℕ, zero, suc, ◌+◌, ◌<◌, ◌≤◌, ◌||◌, Bool, true, false, not, List, [], ◌∷◌, ◌++◌, length, Option, None, Some, IfSome, IfNone, slice_get, get_or, Bor, Vec, if◌then◌else◌, refl, sym, ap, ◌∙◌, subst, arith, length-append, nat_eq}
use Rattle.std.specs.List.{list_any}
use Rattle.std.specs.declared.alloc.Global.{Global}
use Rattle.std.specs.Cmp.Lexicographic.{pointwise, same_text, other_text}
use Rattle.std.proofs.lemmas.Bool.{cases_lt, cases_Bool, true≢false}
use Rattle.std.proofs.lemmas.Option.{same_Some, none-some, slice_get_within}
use Rattle.std.proofs.lemmas.Grind.{get_or_default_zero}
use Rattle.rg_theory.specs.System.{System, states}
use Rattle.rg_theory.specs.Net.{Marking}
use Rattle.rg_theory.specs.Solves.{marking_of}
use Rattle.rg_theory.proofs.Lists.{last_of, first_of}
use Rattle.rg_net_verdict.specs.Verdict.{AreFirstSame, AllDiffer}

-- of the states below s, these are the first two with one marking
pub record FirstBelow (ms : List Marking) (s p q : ℕ) : Type 0 where
  pub order : p < q
  pub within : q < s
  pub same : marking_of ms p ≡ marking_of ms q
  pub least : (r r' : ℕ) → r < r' → r' < s → marking_of ms r ≡ marking_of ms r' → (p < r) ⊎ ((p ≡ r) × (q ≤ r'))

-- the first two, or no two
abbrev pub IsBest : List Marking → ℕ → Option (ℕ × ℕ) → Type 0
IsBest ms s None = (r r' : ℕ) → r < r' → r' < s → marking_of ms r ≢ marking_of ms r'
IsBest ms s (Some f) = FirstBelow ms s f.0 f.1

-- the key's row is that of the first state that has it
pub record IsFirstOf (ms : List Marking) (s : ℕ) (key : List ℕ) (first : ℕ) : Type 0 where
  pub below : first < s
  pub is : marking_of ms first ≡ key
  pub least : (r : ℕ) → r < s → marking_of ms r ≡ key → first ≤ r

pub record SeenSoFar (ms : List Marking) (keys : List (Bor (List ℕ))) (firsts : List ℕ) (pair : Option (ℕ × ℕ)) (s : ℕ) : Type 0 where
  pub size : length firsts ≡ length keys
  pub first : (n : ℕ) (k : Bor (List ℕ)) → slice_get keys n ≡ Some k → IsFirstOf ms s k.now (get_or firsts n 0)
  pub seen : (r : ℕ) → r < s → (n : ℕ) × (k : Bor (List ℕ)) × (slice_get keys n ≡ Some k) × (k.now ≡ marking_of ms r)
  pub best : IsBest ms s pair

pub seen_start : (ms : List Marking) → SeenSoFar ms [] [] None 0
seen_start ms = record { size = refl; first = λ n k at. absurd (none-some k at); seen = λ r lt. absurd (omega arith); best = λ r r' less lt. absurd (omega arith) }

not_any : {X : Type 0} (test : X → Bool) (xs : List X) (n : ℕ) (x : X) → list_any test xs ≡ false → slice_get xs n ≡ Some x → test x ≡ false
not_any test [] n x none at = absurd (none-some x at)
not_any {X} test (y ∷ xs) n x none at = go (cases_Bool (test y)) n at (λ m at' rest. not_any test xs m x rest at')
  where
    go : (test y ≡ true) ⊎ (test y ≡ false) → (n : ℕ) → slice_get (y ∷ xs) n ≡ Some x → ((m : ℕ) → slice_get xs m ≡ Some x → list_any test xs ≡ false → test x ≡ false) → test x ≡ false
    go (inl yes') n at later = absurd (true≢false (sym (ap (λ b. b || list_any test xs) yes') ∙ none))
    go (inr no') zero at later = subst (λ z. test z ≡ false) (same_Some y x at) no'
    go (inr no') (suc m) at later = later m at (sym (ap (λ b. b || list_any test xs) no') ∙ none)

get_before : {X : Type 0} (keys : List X) (y : X) (i : ℕ) (x : X) → slice_get keys i ≡ Some x → slice_get (keys ++ y ∷ []) i ≡ Some x
get_before [] y i x e = absurd (none-some x e)
get_before (k ∷ keys) y zero x e = e
get_before (k ∷ keys) y (suc i) x e = get_before keys y i x e

get_last : {X : Type 0} (keys : List X) (y : X) → slice_get (keys ++ y ∷ []) (length keys) ≡ Some y
get_last [] y = refl
get_last (k ∷ keys) y = get_last keys y

get_cases : {X : Type 0} (keys : List X) (y : X) (i : ℕ) (x : X) → slice_get (keys ++ y ∷ []) i ≡ Some x → (slice_get keys i ≡ Some x) ⊎ ((i ≡ length keys) × (y ≡ x))
get_cases [] y zero x e = inr (refl, same_Some y x e)
get_cases [] y (suc i) x e = absurd (none-some x e)
get_cases (k ∷ keys) y zero x e = inl e
get_cases (k ∷ keys) y (suc i) x e = ⊎_elim (λ before. inl before) (λ (at, is). inr (ap suc at, is)) (get_cases keys y i x e)

-- whether the row is that of the key
abbrev pub has_row : Bor (List ℕ) → Bor (List ℕ) → Bool
has_row v k = pointwise nat_eq v.now k.now

module _ (ms : List Marking) (keys : List (Bor (List ℕ))) (firsts : List ℕ) (best : Option (ℕ × ℕ)) (s : ℕ)
    (so_far : SeenSoFar ms keys firsts best s) (v : Bor (List ℕ)) (is : marking_of ms s ≡ v.now) where
  -- a row that wasn't seen
  module _ (none : list_any (has_row v) keys ≡ false) where
    fresh : (r : ℕ) → r < s → marking_of ms r ≡ marking_of ms s → ⊥
    fresh r lt e =
        let (n, k, at, row) = so_far.seen r lt in
        other_text v.now k.now (sym (not_any (has_row v) keys n k none at)) (sym (row ∙ e ∙ is))

    best_new : (o : Option (ℕ × ℕ)) → IsBest ms s o → IsBest ms (s + 1) o
    best_new None b = λ r r' less lt same. ⊎_elim (λ early. b r r' less early same)
        (λ late. (let e : r' ≡ s = omega arith in fresh r (omega arith) (subst (λ k. marking_of ms r ≡ marking_of ms k) e same))) (cases_lt r' s)
    best_new (Some f) b = record {
      order = b.order;
      within = let lt = b.within in omega arith;
      same = b.same;
      least = λ r r' less lt same. ⊎_elim (λ early. b.least r r' less early same)
          (λ late. (let e : r' ≡ s = omega arith in absurd (fresh r (omega arith) (subst (λ k. marking_of ms r ≡ marking_of ms k) e same)))) (cases_lt r' s);
    }

    pub seen_new : SeenSoFar ms (keys ++ v ∷ []) (firsts ++ s ∷ []) best (s + 1)
    seen_new = record {
      size = length-append firsts (s ∷ []) ∙ ap (λ n. n + 1) so_far.size ∙ sym (length-append keys (v ∷ []));
      first = λ n k at. ⊎_elim (old n k) (new n k) (get_cases keys v n k at);
      seen = λ r lt. ⊎_elim (λ early. (let (n, k, at, row) = so_far.seen r early in (n, k, get_before keys v n k at, row)))
          (λ late. (let e : r ≡ s = omega arith in (length keys, v, get_last keys v, sym is ∙ ap (marking_of ms) (sym e)))) (cases_lt r s);
      best = best_new best so_far.best;
    }
      where
        old : (n : ℕ) (k : Bor (List ℕ)) → slice_get keys n ≡ Some k → IsFirstOf ms (s + 1) k.now (get_or (firsts ++ s ∷ []) n 0)
        old n k at =
            let one = so_far.first n k at in
            let lt = slice_get_within keys n k at in
            subst (λ f. IsFirstOf ms (s + 1) k.now f) (sym (first_of firsts s n (let size = so_far.size in omega arith)))
            (record {
              below = let below = one.below in omega arith;
              is = one.is;
              least = λ r lt' e. ⊎_elim (λ early. one.least r early e) (λ late. let below = one.below in omega arith) (cases_lt r s);
            })

        new : (n : ℕ) (k : Bor (List ℕ)) → (n ≡ length keys) × (v ≡ k) → IsFirstOf ms (s + 1) k.now (get_or (firsts ++ s ∷ []) n 0)
        new n k (e, same) =
            subst (λ f. IsFirstOf ms (s + 1) k.now f) (sym (last_of firsts s n (e ∙ sym so_far.size)))
            (record {
              below = omega arith;
              is = is ∙ ap (λ (x : Bor (List ℕ)). x.now) same;
              least = λ r lt row. ⊎_elim (λ early. absurd (fresh r early (row ∙ sym (is ∙ ap (λ (x : Bor (List ℕ)). x.now) same)))) (λ late. late) (cases_lt r s);
            })

  -- a row that was seen, under this number
  module _ (n : ℕ) (k : Bor (List ℕ)) (at : slice_get keys n ≡ Some k) (found : has_row v k ≡ true) where
    row : v.now ≡ k.now
    row = same_text v.now k.now (sym found)

    pub number_within : n < length firsts
    number_within = let lt = slice_get_within keys n k at in let size = so_far.size in omega arith

    one : IsFirstOf ms s k.now (get_or firsts n 0)
    one = so_far.first n k at

    stays : (m : ℕ) (j : Bor (List ℕ)) → slice_get keys m ≡ Some j → IsFirstOf ms (s + 1) j.now (get_or firsts m 0)
    stays m j at' =
        let first = so_far.first m j at' in
        record {
          below = let below = first.below in omega arith;
          is = first.is;
          least = λ r lt e. ⊎_elim (λ early. first.least r early e) (λ late. let below = first.below in omega arith) (cases_lt r s);
        }

    seen_again : (r : ℕ) → r < s + 1 → (m : ℕ) × (j : Bor (List ℕ)) × (slice_get keys m ≡ Some j) × (j.now ≡ marking_of ms r)
    seen_again r lt = ⊎_elim (λ early. so_far.seen r early) (λ late. (let e : r ≡ s = omega arith in (n, k, at, sym row ∙ sym is ∙ ap (marking_of ms) (sym e)))) (cases_lt r s)

    with_best : (o : Option (ℕ × ℕ)) → IsBest ms (s + 1) o → SeenSoFar ms keys firsts o (s + 1)
    with_best o b = record { size = so_far.size; first = stays; seen = seen_again; best = b }

    at_last : (r r' : ℕ) → s ≤ r' → r' < s + 1 → r < r' → marking_of ms r ≡ marking_of ms r' → get_or firsts n 0 ≤ r
    at_last r r' late lt less same = let e : r' ≡ s = omega arith in one.least r (omega arith) (same ∙ ap (marking_of ms) e ∙ is ∙ row)

    pub seen_less : IfSome best (λ f. get_or firsts n 0 < f.0) → SeenSoFar ms keys firsts (Some (get_or firsts n 0, s)) (s + 1)
    seen_less less = with_best (Some (get_or firsts n 0, s)) (record {
      order = one.below;
      within = omega arith;
      same = one.is ∙ sym row ∙ sym is;
      least = λ r r' lt lt' same. ⊎_elim (λ early. earlier best so_far.best less r r' lt early same) (λ late. here r r' (at_last r r' late lt' lt same) late) (cases_lt r' s);
    })
      where
        earlier : (o : Option (ℕ × ℕ)) → IsBest ms s o → IfSome o (λ f. get_or firsts n 0 < f.0) → (r r' : ℕ) → r < r' → r' < s
            → marking_of ms r ≡ marking_of ms r' → (get_or firsts n 0 < r) ⊎ ((get_or firsts n 0 ≡ r) × (s ≤ r'))
        earlier None b lt r r' less early same = absurd (b r r' less early same)
        earlier (Some f) b lt r r' less early same = ⊎_elim (λ far. inl (omega arith)) (λ (e, le). inl (omega arith)) (b.least r r' less early same)

        here : (r r' : ℕ) → get_or firsts n 0 ≤ r → s ≤ r' → (get_or firsts n 0 < r) ⊎ ((get_or firsts n 0 ≡ r) × (s ≤ r'))
        here r r' le late = ⊎_elim (λ lt. inl lt) (λ ge. inr (omega arith, late)) (cases_lt (get_or firsts n 0) r)

    pub seen_kept : ¬ IfSome best (λ f. get_or firsts n 0 < f.0) → SeenSoFar ms keys firsts best (s + 1)
    seen_kept not_less = with_best best (kept best so_far.best not_less)
      where
        kept : (o : Option (ℕ × ℕ)) → IsBest ms s o → ¬ IfSome o (λ f. get_or firsts n 0 < f.0) → IsBest ms (s + 1) o
        kept None b not_less' = absurd (not_less' tt)
        kept (Some f) b not_less' = record {
          order = b.order;
          within = let lt = b.within in omega arith;
          same = b.same;
          least = λ r r' lt lt' same. ⊎_elim (λ early. b.least r r' lt early same) (λ late. here r r' (at_last r r' late lt' lt same) late) (cases_lt r' s);
        }
          where
            most : f.0 ≤ get_or firsts n 0
            most = ⊎_elim (λ less. absurd (not_less' less)) (λ le. le) (cases_lt (get_or firsts n 0) f.0)

            here : (r r' : ℕ) → get_or firsts n 0 ≤ r → s ≤ r' → (f.0 < r) ⊎ ((f.0 ≡ r) × (f.1 ≤ r'))
            here r r' le late = ⊎_elim (λ lt. inl lt) (λ ge. inr (omega arith, let lt = b.within in omega arith)) (cases_lt f.0 r)

pub seen_some : (lts : System) (ms : List Marking) (keys : List (Bor (List ℕ))) (firsts : List ℕ) (f : ℕ × ℕ) (s : ℕ) → s ≡ states lts
    → SeenSoFar ms keys firsts (Some f) s → AreFirstSame lts (marking_of ms) f.0 f.1
seen_some lts ms keys firsts f s all so_far =
    let b = so_far.best in
    record {
      order = b.order;
      within = let lt = b.within in omega arith;
      same = b.same;
      first = λ r r' before less lt same. earlier r r' before (b.least r r' less (omega arith) same);
    }
  where
    earlier : (r r' : ℕ) → (r < f.0) ⊎ ((r ≡ f.0) × (r' < f.1)) → (f.0 < r) ⊎ ((f.0 ≡ r) × (f.1 ≤ r')) → ⊥
    earlier r r' (inl less) (inl more) = absurd (omega arith)
    earlier r r' (inl less) (inr (e, le)) = absurd (omega arith)
    earlier r r' (inr (e, less)) (inl more) = absurd (omega arith)
    earlier r r' (inr (e, less)) (inr (e', le)) = absurd (omega arith)

pub seen_none : (lts : System) (ms : List Marking) (keys : List (Bor (List ℕ))) (firsts : List ℕ) (s : ℕ) → s ≡ states lts → SeenSoFar ms keys firsts None s → AllDiffer lts (marking_of ms)
seen_none lts ms keys firsts s all so_far r r' less lt = so_far.best r r' less (omega arith)

pub seen_end_some : (lts : System) (ms : List Marking) (keys : List (Bor (List ℕ))) (firsts : List ℕ) (o : Option (ℕ × ℕ)) (s : ℕ) → s ≡ states lts
    → SeenSoFar ms keys firsts o s → IfSome o (λ f. AreFirstSame lts (marking_of ms) f.0 f.1)
seen_end_some lts ms keys firsts None s all so_far = tt
seen_end_some lts ms keys firsts (Some f) s all so_far = seen_some lts ms keys firsts f s all so_far

pub seen_end_none : (lts : System) (ms : List Marking) (keys : List (Bor (List ℕ))) (firsts : List ℕ) (o : Option (ℕ × ℕ)) (s : ℕ) → s ≡ states lts
    → SeenSoFar ms keys firsts o s → IfNone o (AllDiffer lts (marking_of ms))
seen_end_none lts ms keys firsts None s all so_far = seen_none lts ms keys firsts s all so_far
seen_end_none lts ms keys firsts (Some f) s all so_far = tt

was_new : (b : Bool) → true ≡ not b → b ≡ false
was_new true e = absurd (true≢false e)
was_new false e = refl

was_seen : (b : Bool) → false ≡ not b → b ≡ true
was_seen true e = refl
was_seen false e = absurd (true≢false (sym e))

-- the keys after a row was put in
abbrev pub with_row : List (Bor (List ℕ)) → Bor (List ℕ) → List (Bor (List ℕ))
with_row keys v = if list_any (has_row v) keys then keys else (keys ++ v ∷ [])

module _ (ms : List Marking) (keys : List (Bor (List ℕ))) (firsts : List ℕ) (best : Option (ℕ × ℕ)) (s : ℕ)
    (so_far : SeenSoFar ms keys firsts best s) (v : Bor (List ℕ)) (is : marking_of ms s ≡ v.now) (keys' : List (Bor (List ℕ))) (put : keys' ≡ with_row keys v) where
  pub stepped_new : true ≡ not (list_any (has_row v) keys) → (firsts' : List ℕ) (best' : Option (ℕ × ℕ)) → firsts' ≡ firsts ++ s ∷ [] → best' ≡ best → SeenSoFar ms keys' firsts' best' (s + 1)
  stepped_new added firsts' best' ef eb =
      let none = was_new (list_any (has_row v) keys) added in
      let ek : keys' ≡ keys ++ v ∷ [] = put ∙ ap (λ b. if b then keys else (keys ++ v ∷ [])) none in
      subst (λ k. SeenSoFar ms k firsts' best' (s + 1)) (sym ek)
      (subst (λ f. SeenSoFar ms (keys ++ v ∷ []) f best' (s + 1)) (sym ef)
      (subst (λ o. SeenSoFar ms (keys ++ v ∷ []) (firsts ++ s ∷ []) o (s + 1)) (sym eb) (seen_new ms keys firsts best s so_far v is none)))

  module _ (again : false ≡ not (list_any (has_row v) keys)) (n : ℕ) (stored : (k : Bor (List ℕ)) × (slice_get keys' n ≡ Some k) × (has_row v k ≡ true)) where
    old_keys : keys' ≡ keys
    old_keys = put ∙ ap (λ b. if b then keys else (keys ++ v ∷ [])) (was_seen (list_any (has_row v) keys) again)

    here : slice_get keys n ≡ Some stored.0
    here = subst (λ k. slice_get k n ≡ Some stored.0) old_keys stored.1

    pub stepped_within : n < length firsts
    stepped_within = number_within ms keys firsts best s so_far v is n stored.0 here stored.2

    module _ (f g : ℕ) (firsts' : List ℕ) (best' : Option (ℕ × ℕ)) (ef : f ≡ get_or firsts n f) (eg : g ≡ get_or firsts n g) (es : firsts' ≡ firsts) where
      first_read : get_or firsts n 0 ≡ f
      first_read = sym (ef ∙ get_or_default_zero firsts n f stepped_within)

      other_read : get_or firsts n 0 ≡ g
      other_read = sym (eg ∙ get_or_default_zero firsts n g stepped_within)

      placed : (o : Option (ℕ × ℕ)) → best' ≡ o → SeenSoFar ms keys firsts o (s + 1) → SeenSoFar ms keys' firsts' best' (s + 1)
      placed o eb next = subst (λ k. SeenSoFar ms k firsts' best' (s + 1)) (sym old_keys)
          (subst (λ l. SeenSoFar ms keys l best' (s + 1)) (sym es) (subst (λ b. SeenSoFar ms keys firsts b (s + 1)) (sym eb) next))

      pub stepped_less : IfSome best (λ b. f < b.0) → best' ≡ Some (g, s) → SeenSoFar ms keys' firsts' best' (s + 1)
      stepped_less less eb = placed (Some (get_or firsts n 0, s)) (eb ∙ ap (λ k. Some (k, s)) (sym other_read))
          (seen_less ms keys firsts best s so_far v is n stored.0 here stored.2 (subst (λ k. IfSome best (λ b. k < b.0)) (sym first_read) less))

      pub stepped_kept : ¬ IfSome best (λ b. f < b.0) → best' ≡ best → SeenSoFar ms keys' firsts' best' (s + 1)
      stepped_kept not_less eb = placed best eb (seen_kept ms keys firsts best s so_far v is n stored.0 here stored.2 (λ less. not_less (subst (λ k. IfSome best (λ b. k < b.0)) first_read less)))

pub row_below : (lts : System) (rows : List (Vec ℕ Global)) (s : ℕ) → length rows ≡ states lts → s < states lts → s < length rows
row_below lts rows s all lt = omega arith
