-- The items of a list for which a fact holds, in their order.
use Rattle.std.proofs.Common.{◌≡◌, ◌↔◌, ◌⊎◌, inl, inr, ℕ, zero, suc, ◌<◌, ◌≤◌, List, [], ◌∷◌, ◌++◌, get_or, Contains, All, AllPairs, sym, subst, arith}
use Rattle.std.proofs.lemmas.List.Elements.{Contains-append_left, Contains-append_right, Contains-get_or}
use Rattle.std.proofs.lemmas.Bool.{cases_lt}
use Rattle.std.proofs.lemmas.List.Kept.{AllPairs-cons}
use Rattle.rg_theory.proofs.Lists.{Contains-cons_cases}
use Rattle.rg_theory.proofs.Deciding.{Decided, first_there, later_there, none_there}

pub record AreKept {X : Type 0} (R : X → X → Type 0) (P : X → Type 0) (xs ys : List X) : Type 0 where
  pub members : (x : X) → Contains ys x ↔ (Contains xs x × P x)
  pub in_order : AllPairs R ys

rest_pairs : {X : Type 0} (R : X → X → Type 0) (x : X) (xs : List X) → AllPairs R (x ∷ xs) → AllPairs R xs
rest_pairs R x xs pairs i j d less lt = pairs (suc i) (suc j) d (omega arith) (omega arith)

pub kept : {X : Type 0} (R : X → X → Type 0) (P : X → Type 0) → ((x : X) → Decided (P x)) → (xs : List X) → AllPairs R xs → (ys : List X) × AreKept R P xs ys
kept R P decide [] pairs = ([], record { members = λ x. ((λ has. absurd (none_there x has)), (λ h. absurd (none_there x h.0))); in_order = pairs })
kept {X} R P decide (x ∷ xs) pairs = by (decide x) (kept R P decide xs (rest_pairs R x xs pairs))
  where
    by : Decided (P x) → (ys : List X) × AreKept R P xs ys → (ys : List X) × AreKept R P (x ∷ xs) ys
    by (inr lacks) (ys, are) = (
      ys,
      record {
        members = λ y. (
          (λ has. (let h = (are.members y).0 has in (later_there x y xs h.0, h.1))),
          (λ h. later y h.1 (Contains-cons_cases x y xs h.0)),
        );
        in_order = are.in_order;
      },
    )
      where
        later : (y : X) → P y → (x ≡ y) ⊎ Contains xs y → Contains ys y
        later y p (inl e) = absurd (lacks (subst P (sym e) p))
        later y p (inr there) = (are.members y).1 (there, p)
    by (inl p) (ys, are) = (
      x ∷ ys,
      record {
        members = λ y. ((λ has. there y (Contains-cons_cases x y ys has)), (λ h. back y h.1 (Contains-cons_cases x y xs h.0)));
        in_order = AllPairs-cons R x ys before are.in_order;
      },
    )
      where
        there : (y : X) → (x ≡ y) ⊎ Contains ys y → Contains (x ∷ xs) y × P y
        there y (inl e) = subst (λ z. Contains (x ∷ xs) z × P z) e (first_there x xs, p)
        there y (inr has) = let h = (are.members y).0 has in (later_there x y xs h.0, h.1)

        back : (y : X) → P y → (x ≡ y) ⊎ Contains xs y → Contains (x ∷ ys) y
        back y q (inl e) = subst (λ z. Contains (x ∷ ys) z) e (first_there x ys)
        back y q (inr has) = later_there x y ys ((are.members y).1 (has, q))

        before : All (R x) ys
        before k d lt =
            let (j, lt', e) = ((are.members (get_or ys k d)).0 (Contains-get_or ys k d lt)).0 in
            subst (R x) e (pairs zero (suc j) (get_or ys k d) (omega arith) (omega arith))

-- ---- lists one after another, for each of the first numbers

abbrev pub collected : {X : Type 0} → ℕ → (ℕ → List X) → List X
collected zero f = []
collected (suc n) f = f n ++ collected n f

pub collected_there : {X : Type 0} (n : ℕ) (f : ℕ → List X) (i : ℕ) (x : X) → i < n → Contains (f i) x → Contains (collected n f) x
collected_there zero f i x lt has = absurd (omega arith)
collected_there {X} (suc n) f i x lt has = by (cases_lt i n) (λ less. collected_there n f i x less has)
  where
    by : (i < n) ⊎ (n ≤ i) → (i < n → Contains (collected n f) x) → Contains (f n ++ collected n f) x
    by (inl less) next = Contains-append_right (f n) (collected n f) x (next less)
    by (inr more) next = let e : i ≡ n = omega arith in Contains-append_left (f n) (collected n f) x (subst (λ k. Contains (f k) x) e has)
