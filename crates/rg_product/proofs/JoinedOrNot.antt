-- Whether squares of a list join two labels is decided.
use Rattle.std.proofs.Common.{◌≡◌, ◌⊎◌, inl, inr, ℕ, List, [], ◌∷◌, Contains, refl, sym, subst, ◌∙◌}
use Rattle.std.proofs.lemmas.Bool.{cases_eq}
use Rattle.rg_theory.proofs.Lists.{Contains-cons_cases}
use Rattle.rg_theory.proofs.Deciding.{Decided, first_there, later_there, none_there}
use Rattle.rg_product.specs.Squares.{Broken, broken_at}
use Rattle.rg_product.specs.Blocks.{Joined, Joined.pair, Joined.same, Joined.turned, Joined.through, HaveOneOf}
use Rattle.rg_product.proofs.ProductSquares.{joined_more}

-- what joined pairs join is joined
pub joined_flat : (P Q : ℕ → ℕ → Type 0) → ((t u : ℕ) → P t u → Joined Q t u) → (t u : ℕ) → Joined P t u → Joined Q t u
joined_flat P Q go _ _ (pair t u is) = go t u is
joined_flat P Q go _ _ (same t) = same t
joined_flat P Q go _ _ (turned t u j) = turned t u (joined_flat P Q go t u j)
joined_flat P Q go _ _ (through t u v j j') = through t u v (joined_flat P Q go t u j) (joined_flat P Q go u v j')

none_joined : (t u : ℕ) → Joined (HaveOneOf []) t u → t ≡ u
none_joined _ _ (pair t u (s, has)) = absurd (none_there (broken_at s t u) has)
none_joined _ _ (same t) = refl
none_joined _ _ (turned t u j) = sym (none_joined t u j)
none_joined _ _ (through t u v j j') = none_joined t u j ∙ none_joined u v j'

-- with one square more: joined already, or by way of this square
module _ (b : Broken) (squares : List Broken) where
  abbrev Old : ℕ → ℕ → Type 0
  Old = Joined (HaveOneOf squares)

  abbrev New : ℕ → ℕ → Type 0
  New = Joined (HaveOneOf (b ∷ squares))

  abbrev Way : ℕ → ℕ → Type 0
  Way t u = Old t u ⊎ ((Old t b.t × Old b.u u) ⊎ (Old t b.u × Old b.t u))

  old_new : (t u : ℕ) → Old t u → New t u
  old_new = joined_more (HaveOneOf squares) (HaveOneOf (b ∷ squares)) (λ x y (s, has). (s, later_there b (broken_at s x y) squares has))

  this : New b.t b.u
  this = pair b.t b.u (b.s, first_there b squares)

  from_way : (t u : ℕ) → Way t u → New t u
  from_way t u (inl j) = old_new t u j
  from_way t u (inr (inl (x, y))) = through t b.t u (old_new t b.t x) (through b.t b.u u this (old_new b.u u y))
  from_way t u (inr (inr (x, y))) = through t b.u u (old_new t b.u x) (through b.u b.t u (turned b.t b.u this) (old_new b.t u y))

  way_turned : (t u : ℕ) → Way t u → Way u t
  way_turned t u (inl j) = inl (turned t u j)
  way_turned t u (inr (inl (x, y))) = inr (inr (turned b.u u y, turned t b.t x))
  way_turned t u (inr (inr (x, y))) = inr (inl (turned b.t u y, turned t b.u x))

  way_on : (t u v : ℕ) → Way t u → Way u v → Way t v
  way_on t u v (inl j) (inl k) = inl (through t u v j k)
  way_on t u v (inl j) (inr (inl (x, y))) = inr (inl (through t u b.t j x, y))
  way_on t u v (inl j) (inr (inr (x, y))) = inr (inr (through t u b.u j x, y))
  way_on t u v (inr (inl (x, y))) (inl k) = inr (inl (x, through b.u u v y k))
  way_on t u v (inr (inr (x, y))) (inl k) = inr (inr (x, through b.t u v y k))
  way_on t u v (inr (inl (x, y))) (inr (inl (x', y'))) = inr (inl (x, y'))
  way_on t u v (inr (inl (x, y))) (inr (inr (x', y'))) = inl (through t b.t v x y')
  way_on t u v (inr (inr (x, y))) (inr (inl (x', y'))) = inl (through t b.u v x y')
  way_on t u v (inr (inr (x, y))) (inr (inr (x', y'))) = inr (inr (x, y'))

  to_way : (t u : ℕ) → New t u → Way t u
  to_way _ _ (pair t u (s, has)) = by (Contains-cons_cases b (broken_at s t u) squares has)
    where
      by : (b ≡ broken_at s t u) ⊎ Contains squares (broken_at s t u) → Way t u
      by (inl e) = subst (λ (z : Broken). Way z.t z.u) e (inr (inl (same b.t, same b.u)))
      by (inr there) = inl (pair t u (s, there))
  to_way _ _ (same t) = inl (same t)
  to_way _ _ (turned t u j) = way_turned t u (to_way t u j)
  to_way _ _ (through t u v j j') = way_on t u v (to_way t u j) (to_way u v j')

  more_or_not : ((t u : ℕ) → Decided (Old t u)) → (t u : ℕ) → Decided (New t u)
  more_or_not old t u = by (old t u) (old t b.t) (old b.u u) (old t b.u) (old b.t u)
    where
      no_way : New t u → ¬ Old t u → ¬ (Old t b.t × Old b.u u) → ¬ (Old t b.u × Old b.t u) → ⊥
      no_way j none none' none'' = way (to_way t u j)
        where
          way : Way t u → ⊥
          way (inl k) = none k
          way (inr (inl k)) = none' k
          way (inr (inr k)) = none'' k

      by : Decided (Old t u) → Decided (Old t b.t) → Decided (Old b.u u) → Decided (Old t b.u) → Decided (Old b.t u) → Decided (New t u)
      by (inl j) _ _ _ _ = inl (old_new t u j)
      by (inr none) (inl x) (inl y) _ _ = inl (from_way t u (inr (inl (x, y))))
      by (inr none) _ _ (inl x) (inl y) = inl (from_way t u (inr (inr (x, y))))
      by (inr none) (inr no_x) _ (inr no_x') _ = inr (λ j. no_way j none (λ (x, y). no_x x) (λ (x, y). no_x' x))
      by (inr none) (inr no_x) _ (inl x) (inr no_y) = inr (λ j. no_way j none (λ (x, y). no_x x) (λ (x, y). no_y y))
      by (inr none) (inl x) (inr no_y) (inr no_x') _ = inr (λ j. no_way j none (λ (x, y). no_y y) (λ (x, y). no_x' x))
      by (inr none) (inl x) (inr no_y) (inl x') (inr no_y') = inr (λ j. no_way j none (λ (x, y). no_y y) (λ (x, y). no_y' y))

pub joined_or_not : (squares : List Broken) (t u : ℕ) → Decided (Joined (HaveOneOf squares) t u)
joined_or_not [] t u = by (cases_eq t u)
  where
    by : (t ≡ u) ⊎ (t ≡ u → ⊥) → Decided (Joined (HaveOneOf []) t u)
    by (inl e) = inl (subst (Joined (HaveOneOf []) t) e (same t))
    by (inr differ) = inr (λ j. differ (none_joined t u j))
joined_or_not (b ∷ squares) t u = more_or_not b squares (joined_or_not squares) t u
