-- What is kept of the items of a list, by a key.
use Rattle.std.proofs.Common.{◌≡◌, ◌⊎◌, ⊎_elim, suc, ◌≤◌, List, [], ◌∷◌, length, Contains, inl, inr, ap, refl, subst, sym, ◌∙◌, arith}
use Rattle.rg_linear.specs.Firsts.{KeepsEqualRows}
use Rattle.rg_linear.proofs.Members.{Contains-cons_cases}

pub kept_is : {X K : Type 0} (key : X → K) (Drops : X → Type 0) (seen : List K) (xs kept : List X) (x : X) → KeepsEqualRows key Drops seen xs kept → Contains kept x → Contains xs x
kept_is key Drops seen [] kept x is has = subst (λ l. Contains l x) is has
kept_is {X} key Drops seen (y ∷ xs) kept x (inl (_, k)) has = let (i, lt, e) = kept_is key Drops seen xs kept x k has in (suc i, omega arith, e)
kept_is {X} key Drops seen (y ∷ xs) kept x (inr (_, _, (rest, is, k))) has =
    ⊎_elim
    (λ e. (0, omega arith, e))
    (λ there. (let (i, lt, e) = kept_is key Drops (key y ∷ seen) xs rest x k there in (suc i, omega arith, e)))
    (Contains-cons_cases y x rest (subst (λ l. Contains l x) is has))

-- no more are kept than there are
pub kept_count : {X K : Type 0} (key : X → K) (Drops : X → Type 0) (seen : List K) (xs kept : List X) → KeepsEqualRows key Drops seen xs kept → length kept ≤ length xs
kept_count key Drops seen [] kept is = let e = ap length is in omega arith
kept_count key Drops seen (x ∷ xs) kept (inl (gone, k)) = let h = kept_count key Drops seen xs kept k in omega arith
kept_count key Drops seen (x ∷ xs) kept (inr (stays, fresh, (rest, is, k))) = let h = kept_count key Drops (key x ∷ seen) xs rest k in let e = ap length is in omega arith

-- an item is dropped, or its key is among those seen or those kept
pub item_stays : {X K : Type 0} (key : X → K) (Drops : X → Type 0) (seen : List K) (xs kept : List X) (x : X) → KeepsEqualRows key Drops seen xs kept
    → Contains xs x → Drops x ⊎ (Contains seen (key x) ⊎ ((y : X) × Contains kept y × (key y ≡ key x)))
item_stays key Drops seen [] kept x is (k, lt, e) = absurd (omega arith)
item_stays {X} {K} key Drops seen (y ∷ xs) kept x (inl (gone, k)) has =
    ⊎_elim
    (λ e. subst (λ z. Drops z ⊎ (Contains seen (key z) ⊎ ((w : X) × Contains kept w × (key w ≡ key z)))) e (⊎_elim (λ d. inl d) (λ s. inr (inl s)) gone))
    (λ there. item_stays key Drops seen xs kept x k there)
    (Contains-cons_cases y x xs has)
item_stays {X} {K} key Drops seen (y ∷ xs) kept x (inr (_, _, (rest, is, k))) has =
    ⊎_elim
    (λ e. inr (inr (y, first, ap key e)))
    (λ there. later (item_stays key Drops (key y ∷ seen) xs rest x k there))
    (Contains-cons_cases y x xs has)
  where
    first : Contains kept y
    first = subst (λ l. Contains l y) (sym is) (0, omega arith, refl)

    more : (z : X) → Contains rest z → Contains kept z
    more z (i, lt, e) = subst (λ l. Contains l z) (sym is) (suc i, omega arith, e)

    later : Drops x ⊎ (Contains (key y ∷ seen) (key x) ⊎ ((w : X) × Contains rest w × (key w ≡ key x))) → Drops x ⊎ (Contains seen (key x) ⊎ ((w : X) × Contains kept w × (key w ≡ key x)))
    later (inl d) = inl d
    later (inr (inl s)) = ⊎_elim (λ e. inr (inr (y, first, e))) (λ s'. inr (inl s')) (Contains-cons_cases (key y) (key x) seen s)
    later (inr (inr (w, h, e))) = inr (inr (w, more w h, e))

-- the items kept are one list
pub same_kept : {X K : Type 0} (key : X → K) (Drops : X → Type 0) (seen : List K) (xs kept kept' : List X) → KeepsEqualRows key Drops seen xs kept
    → KeepsEqualRows key Drops seen xs kept' → kept ≡ kept'
same_kept key Drops seen [] kept kept' k k' = k ∙ sym k'
same_kept key Drops seen (x ∷ xs) kept kept' (inl (g, k)) (inl (g', k')) = same_kept key Drops seen xs kept kept' k k'
same_kept key Drops seen (x ∷ xs) kept kept' (inl (g, k)) (inr (n, n', (rest, is, k'))) = absurd (⊎_elim n n' g)
same_kept key Drops seen (x ∷ xs) kept kept' (inr (n, n', (rest, is, k))) (inl (g, k')) = absurd (⊎_elim n n' g)
same_kept key Drops seen (x ∷ xs) kept kept' (inr (n, n', (rest, is, k))) (inr (m, m', (rest', is', k'))) = is ∙ ap (λ l. x ∷ l) (same_kept key Drops (key x ∷ seen) xs rest rest' k k') ∙ sym is'
