-- Weights of some labels alone, and of all.
use Rattle.std.proofs.Common.{◌≡◌, ◌≢◌, ◌⊎◌, inl, inr, ℕ, suc, ◌+◌, ◌-◌, ◌<◌, ◌≤◌, ◌==◌, List, [], ◌∷◌, ◌++◌, All, length, replicate, drop, get_or, set, if◌then◌else◌, refl, sym, ap, subst, ◌∙◌, arith, eq-eqb, ne_eqb}
use Rattle.rg_marks.specs.declared.compact_place.LabelWeights.{LabelWeights}
use Rattle.rg_marks.specs.Compact.{kept_of, kept_numbers}
use Rattle.std.proofs.lemmas.Bool.{cases_eq}
use Rattle.std.proofs.lemmas.List.{drop_more, ext_get_or, length-set, length-replicate, get_or-replicate, get_or-set_same, get_or-set_other}
use Rattle.std.proofs.lemmas.List.Elements.{All-push}
use Rattle.std.proofs.Math.ListN.{drop_of_length-le}
use Rattle.std.proofs.lemmas.List.FromFn.{length-map-range_with_len, get_or-map-range_with_len}

module _ (number : LabelWeights → ℕ) where
  pub kept_long : (n : ℕ) (ws : List LabelWeights) → length (kept_numbers number n ws) ≡ n
  kept_long n ws = length-map-range_with_len (kept_of number ws) 0 n

  pub kept_get : (n : ℕ) (ws : List LabelWeights) (t : ℕ) → t < n → get_or (kept_numbers number n ws) t 0 ≡ kept_of number ws t
  kept_get n ws t lt = get_or-map-range_with_len (kept_of number ws) 0 n t t 0 lt (omega arith)

  kept_first : (w : LabelWeights) (ws : List LabelWeights) → kept_of number (w ∷ ws) w.label ≡ number w
  kept_first w ws = ap (λ b. if b then number w else kept_of number ws w.label) (eq-eqb w.label w.label refl)

  kept_other : (w : LabelWeights) (ws : List LabelWeights) (t : ℕ) → t ≢ w.label → kept_of number (w ∷ ws) t ≡ kept_of number ws t
  kept_other w ws t other = ap (λ b. if b then number w else kept_of number ws t) (ne_eqb t w.label other)

  -- no weight is kept
  kept_none : (n : ℕ) → replicate n 0 ≡ kept_numbers number n []
  kept_none n =
      let long = length-replicate {A = ℕ} n 0 in
      ext_get_or 0 (replicate n 0) (kept_numbers number n []) (long ∙ sym (kept_long n []))
      (λ t lt. (let less : t < n = omega (arith, lt, long) in get_or-replicate n t 0 0 less ∙ sym (kept_get n [] t less)))

  -- one more is kept, in front
  kept_set : (n : ℕ) (w : LabelWeights) (ws : List LabelWeights) → w.label < n → set (kept_numbers number n ws) w.label (number w) ≡ kept_numbers number n (w ∷ ws)
  kept_set n w ws within = ext_get_or 0 (set (kept_numbers number n ws) w.label (number w)) (kept_numbers number n (w ∷ ws)) (long ∙ sym (kept_long n (w ∷ ws)))
      (λ t lt. (let less : t < n = omega (arith, lt, long) in each t less (cases_eq t w.label) ∙ sym (kept_get n (w ∷ ws) t less)))
    where
      long : length (set (kept_numbers number n ws) w.label (number w)) ≡ n
      long = length-set (kept_numbers number n ws) w.label (number w) ∙ kept_long n ws

      each : (t : ℕ) → t < n → (t ≡ w.label) ⊎ (t ≡ w.label → ⊥) → get_or (set (kept_numbers number n ws) w.label (number w)) t 0 ≡ kept_of number (w ∷ ws) t
      each t less (inl same) =
          ap (λ k. get_or (set (kept_numbers number n ws) w.label (number w)) k 0) same
          ∙ get_or-set_same (kept_numbers number n ws) w.label (number w) 0 (omega (arith, within, kept_long n ws)) ∙ sym (kept_first w ws) ∙ ap (kept_of number (w ∷ ws)) (sym same)
      each t less (inr other) = get_or-set_other (kept_numbers number n ws) w.label t (number w) 0 other ∙ kept_get n ws t less ∙ sym (kept_other w ws t other)

  -- what is kept from an index on: from the end on, and from one index earlier on
  pub kept_start : (n : ℕ) (ws : List LabelWeights) (k : ℕ) → length ws ≤ k → replicate n 0 ≡ kept_numbers number n (drop k ws)
  kept_start n ws k past = kept_none n ∙ ap (kept_numbers number n) (sym (drop_of_length-le ws past))

  pub kept_earlier : (n : ℕ) (ws : List LabelWeights) (k : ℕ) (d : LabelWeights) (all : List ℕ) → 0 < k → k ≤ length ws → all ≡ kept_numbers number n (drop k ws)
      → (get_or ws (k - 1) d).label < n → set all (get_or ws (k - 1) d).label (number (get_or ws (k - 1) d)) ≡ kept_numbers number n (drop (k - 1) ws)
  kept_earlier n ws k d all some within so_far lt =
      let w = get_or ws (k - 1) d in
      let next : k - 1 + 1 ≡ k = omega arith in
      ap (λ l. set l w.label (number w)) so_far ∙ kept_set n w (drop k ws) lt
      ∙ ap (kept_numbers number n) (sym (drop_more ws (k - 1) d (omega arith) ∙ ap (λ m. w ∷ drop m ws) next))

  -- of a label after all that are kept nothing is kept
  kept_beyond : (ws : List LabelWeights) (t : ℕ) → All (λ w. w.label < t) ws → kept_of number ws t ≡ 0
  kept_beyond [] t below = refl
  kept_beyond (w ∷ ws) t below = kept_other w ws t (λ e. (let lt = below 0 w (omega arith) in omega arith)) ∙ kept_beyond ws t (λ k d lt. below (suc k) d (omega arith))

  -- one more label is kept, at the end
  kept_last : (ws : List LabelWeights) (w : LabelWeights) → All (λ v. v.label < w.label) ws → kept_of number (ws ++ w ∷ []) w.label ≡ number w
  kept_last [] w below = kept_first w []
  kept_last (v ∷ ws) w below =
      kept_other v (ws ++ w ∷ []) w.label (λ e. (let lt = below 0 v (omega arith) in omega arith)) ∙ kept_last ws w (λ k d lt. below (suc k) d (omega arith))

  kept_before : (ws : List LabelWeights) (w : LabelWeights) (t : ℕ) → t ≢ w.label → kept_of number (ws ++ w ∷ []) t ≡ kept_of number ws t
  kept_before [] w t other = kept_other w [] t other
  kept_before (v ∷ ws) w t other = ap (λ k. if t == v.label then number v else k) (kept_before ws w t other)

  -- the numbers of the labels before t are kept
  abbrev pub AreKeptBelow : List ℕ → ℕ → List LabelWeights → Type 0
  AreKeptBelow numbers t ws = (u : ℕ) → u < t → kept_of number ws u ≡ get_or numbers u 0

  pub below_more : (numbers : List ℕ) (t : ℕ) (ws more : List LabelWeights) (w : LabelWeights) → All (λ v. v.label < t) ws → more ≡ ws ++ w ∷ [] → w.label ≡ t → number w ≡ get_or numbers t 0
      → AreKeptBelow numbers t ws → AreKeptBelow numbers (t + 1) more
  below_more numbers t ws more w below is at same so_far u lt = ap (λ l. kept_of number l u) is ∙ by (cases_eq u t)
    where
      by : (u ≡ t) ⊎ (u ≡ t → ⊥) → kept_of number (ws ++ w ∷ []) u ≡ get_or numbers u 0
      by (inl e) = ap (kept_of number (ws ++ w ∷ [])) (e ∙ sym at) ∙ kept_last ws w (subst (λ k. All (λ v. v.label < k) ws) (sym at) below) ∙ same ∙ ap (λ k. get_or numbers k 0) (sym e)
      by (inr other) = kept_before ws w u (λ e. other (e ∙ at)) ∙ so_far u (omega arith)

  pub below_zero : (numbers : List ℕ) (t : ℕ) (ws : List LabelWeights) → All (λ v. v.label < t) ws → get_or numbers t 0 ≡ 0 → AreKeptBelow numbers t ws → AreKeptBelow numbers (t + 1) ws
  below_zero numbers t ws below none so_far u lt = by (cases_eq u t)
    where
      by : (u ≡ t) ⊎ (u ≡ t → ⊥) → kept_of number ws u ≡ get_or numbers u 0
      by (inl e) = ap (kept_of number ws) e ∙ kept_beyond ws t below ∙ sym none ∙ ap (λ k. get_or numbers k 0) (sym e)
      by (inr other) = so_far u (omega arith)

  pub below_all : (numbers : List ℕ) (n : ℕ) (ws : List LabelWeights) → length numbers ≡ n → AreKeptBelow numbers n ws → kept_numbers number n ws ≡ numbers
  below_all numbers n ws long kept = ext_get_or 0 (kept_numbers number n ws) numbers (kept_long n ws ∙ sym long)
      (λ t lt. (let less : t < n = omega (arith, lt, kept_long n ws) in kept_get n ws t less ∙ kept t less))

-- the labels that are kept stay below a later one, and so does one more
pub labels_later : (t : ℕ) (ws : List LabelWeights) → All (λ w. w.label < t) ws → All (λ w. w.label < t + 1) ws
labels_later t ws below k d lt = (let less = below k d lt in omega arith)

pub labels_more : (t : ℕ) (ws more : List LabelWeights) (w : LabelWeights) → All (λ v. v.label < t) ws → more ≡ ws ++ w ∷ [] → w.label ≡ t → All (λ v. v.label < t + 1) more
labels_more t ws more w below is at = subst (All (λ (v : LabelWeights). v.label < t + 1)) (sym is) (All-push (λ (v : LabelWeights). v.label < t + 1) ws w (labels_later t ws below) (omega arith))
