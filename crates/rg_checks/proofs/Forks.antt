-- The first fork is where two arcs that follow each other have the same state and label.
use Rattle.std.proofs.Common.{◌≡◌, ◌⊎◌, inl, inr, ⊎_elim, ℕ, ◌+◌, ◌-◌, ◌<◌, ◌≤◌, List, length, get_or, AllPairs, sym, ap, subst, ◌∙◌, arith}
use Rattle.std.proofs.lemmas.Bool.{cases_lt}
use Rattle.std.proofs.lemmas.List.{get_or_default}
use Rattle.rg_theory.specs.declared.Arc.{Arc}
use Rattle.rg_theory.specs.System.{System, arc, HasArc, IsFork, IsForkFree, IsLeastFork, IsArcBefore}

-- the arcs leave the same state with the same label
pub record SameKey (a b : Arc) : Type 0 where
  pub from : a.from ≡ b.from
  pub label : a.label ≡ b.label

between : (a b c : Arc) → IsArcBefore a b → IsArcBefore b c → SameKey a c → SameKey a b
between a b c (inl p) (inl q) k = absurd (omega (arith, k.from))
between a b c (inl p) (inr q) k = absurd (omega (arith, k.from, q.0))
between a b c (inr (e, inl p)) (inl q) k = absurd (omega (arith, k.from))
between a b c (inr (e, inl p)) (inr (f, inl q)) k = absurd (omega (arith, k.label))
between a b c (inr (e, inl p)) (inr (f, inr q)) k = absurd (omega (arith, k.label, q.0))
between a b c (inr (e, inr p)) q k = record { from = e; label = p.0 }

-- of two arcs in order with the same key the second leads to a greater state
further : (a b : Arc) → IsArcBefore a b → SameKey a b → a.to < b.to
further a b (inl p) k = absurd (omega (arith, k.from))
further a b (inr (e, inl p)) k = absurd (omega (arith, k.label))
further a b (inr (e, inr p)) k = p.1

-- no two of the first n arcs that follow each other have the same key
abbrev pub NoneAdjacent : List Arc → ℕ → Type 0
NoneAdjacent arcs n = (j : ℕ) (d : Arc) → j + 1 < n → SameKey (get_or arcs j d) (get_or arcs (j + 1) d) → ⊥

module _ (arcs : List Arc) (order : AllPairs IsArcBefore arcs) (d : Arc) where
  -- then no two of them have it
  alone : (n k l : ℕ) → NoneAdjacent arcs n → n ≤ length arcs → k < l → l < n → SameKey (get_or arcs k d) (get_or arcs l d) → ⊥
  alone n k l none fits less within same = by (cases_lt (k + 1) l)
    where
      by : (k + 1 < l) ⊎ (l ≤ k + 1) → ⊥
      by (inl more) = none k d (omega arith)
          (between (get_or arcs k d) (get_or arcs (k + 1) d) (get_or arcs l d) (order k (k + 1) d (omega arith) (omega arith)) (order (k + 1) l d more (omega arith)) same)
      by (inr next) = let is : l ≡ k + 1 = omega arith in none k d (omega arith) (subst (λ i. SameKey (get_or arcs k d) (get_or arcs i d)) is same)

  -- so two of them with the same key are one
  one_index : (n k l : ℕ) → NoneAdjacent arcs n → n ≤ length arcs → k < n → l < n → SameKey (get_or arcs k d) (get_or arcs l d) → k ≡ l
  one_index n k l none fits lk ll same = by (cases_lt k l) (cases_lt l k)
    where
      by : (k < l) ⊎ (l ≤ k) → (l < k) ⊎ (k ≤ l) → k ≡ l
      by (inl less) _ = absurd (alone n k l none fits less ll same)
      by (inr le) (inl less) = absurd (alone n l k none fits less lk (record { from = sym same.from; label = sym same.label }))
      by (inr le) (inr ge) = omega arith

-- where an arc stands
index_of : (lts : System) (s t to : ℕ) (d : Arc) → HasArc lts s t to → (k : ℕ) × (k < length lts.arcs) × (get_or lts.arcs k d ≡ arc s t to)
index_of lts s t to d (k, lt, at) = (k, lt, get_or_default lts.arcs k d (arc s t to) lt ∙ at)

key_is : (a : Arc) (s t to : ℕ) (b : Arc) (to' : ℕ) → a ≡ arc s t to → b ≡ arc s t to' → SameKey a b
key_is a s t to b to' e f = record {
  from = ap (λ (x : Arc). x.from) e ∙ sym (ap (λ (x : Arc). x.from) f);
  label = ap (λ (x : Arc). x.label) e ∙ sym (ap (λ (x : Arc). x.label) f);
}

-- where no arcs that follow each other have the same key, there is no fork
pub no_fork : (lts : System) (n : ℕ) → AllPairs IsArcBefore lts.arcs → NoneAdjacent lts.arcs n → length lts.arcs ≤ n → IsForkFree lts
no_fork lts n order none all = record { one_target = λ s t s₁ s₂ has has'. same s t s₁ s₂ (index_of lts s t s₁ (arc s t s₁) has) (index_of lts s t s₂ (arc s t s₁) has') }
  where
    same : (s t s₁ s₂ : ℕ) → (k : ℕ) × (k < length lts.arcs) × (get_or lts.arcs k (arc s t s₁) ≡ arc s t s₁)
        → (k : ℕ) × (k < length lts.arcs) × (get_or lts.arcs k (arc s t s₁) ≡ arc s t s₂) → s₁ ≡ s₂
    same s t s₁ s₂ (k, lk, ek) (l, ll, el) =
        let d = arc s t s₁ in
        let one = one_index lts.arcs order d (length lts.arcs) k l (λ j e less. none j e (omega arith)) (omega arith) lk ll (key_is _ s t s₁ _ s₂ ek el) in
        ap (λ (x : Arc). x.to) (sym ek ∙ ap (λ i. get_or lts.arcs i d) one ∙ el)

module _ (lts : System) (order : AllPairs IsArcBefore lts.arcs) (p : ℕ) (d : Arc) (fits : p + 1 < length lts.arcs) (none : NoneAdjacent lts.arcs (p + 1))
    (same : SameKey (get_or lts.arcs p d) (get_or lts.arcs (p + 1) d)) where
  abbrev pub a : Arc
  a = get_or lts.arcs p d

  abbrev pub b : Arc
  b = get_or lts.arcs (p + 1) d

  has_a : HasArc lts a.from a.label a.to
  has_a = (p, omega arith, get_or_default lts.arcs p (arc a.from a.label a.to) d (omega arith))

  has_b : HasArc lts a.from a.label b.to
  has_b = (p + 1, fits, get_or_default lts.arcs (p + 1) (arc a.from a.label b.to) d fits ∙ (λ i. record { from = sym same.from i; label = sym same.label i; to = b.to }))

  ordered : a.to < b.to
  ordered = further a b (order p (p + 1) d (omega arith) fits) same

  -- where an arc with the same key stands
  stands : (to : ℕ) → HasArc lts a.from a.label to → (to ≡ a.to) ⊎ ((to ≡ b.to) ⊎ (b.to < to))
  stands to has = by (index_of lts a.from a.label to d has)
    where
      by : (k : ℕ) × (k < length lts.arcs) × (get_or lts.arcs k d ≡ arc a.from a.label to) → (to ≡ a.to) ⊎ ((to ≡ b.to) ⊎ (b.to < to))
      by (k, lt, at) = at_index (cases_lt k p) (cases_lt p k) (cases_lt (p + 1) k)
        where
          key : SameKey (get_or lts.arcs k d) a
          key = record { from = ap (λ (x : Arc). x.from) at; label = ap (λ (x : Arc). x.label) at }

          at_index : (k < p) ⊎ (p ≤ k) → (p < k) ⊎ (k ≤ p) → (p + 1 < k) ⊎ (k ≤ p + 1) → (to ≡ a.to) ⊎ ((to ≡ b.to) ⊎ (b.to < to))
          at_index (inl less) _ _ = absurd (alone lts.arcs order d (p + 1) k p none (omega arith) less (omega arith) key)
          at_index (inr le) (inr ge) _ = let is : k ≡ p = omega arith in inl (ap (λ (x : Arc). x.to) (sym at ∙ ap (λ i. get_or lts.arcs i d) is))
          at_index (inr le) (inl more) (inr ge) = let is : k ≡ p + 1 = omega arith in inr (inl (ap (λ (x : Arc). x.to) (sym at ∙ ap (λ i. get_or lts.arcs i d) is)))
          at_index (inr le) (inl more) (inl after) =
              inr (inr (subst (λ i. b.to < i) (ap (λ (x : Arc). x.to) at)
              (further b (get_or lts.arcs k d) (order (p + 1) k d after lt) (record { from = sym (key.from ∙ same.from); label = sym (key.label ∙ same.label) }))))

  -- no fork comes before
  earlier : (q u q₁ q₂ : ℕ) → (q < a.from) ⊎ ((q ≡ a.from) × (u < a.label)) → IsFork lts q u q₁ q₂ → ⊥
  earlier q u q₁ q₂ before (has, has', apart) = by (index_of lts q u q₁ d has) (index_of lts q u q₂ d has')
    where
      first_part : (k : ℕ) (to : ℕ) → k < length lts.arcs → get_or lts.arcs k d ≡ arc q u to → k < p + 1
      first_part k to lt at = go (cases_lt k p) (cases_lt p k)
        where
          from : (get_or lts.arcs k d).from ≡ q
          from = ap (λ (x : Arc). x.from) at

          label : (get_or lts.arcs k d).label ≡ u
          label = ap (λ (x : Arc). x.label) at

          after : IsArcBefore a (get_or lts.arcs k d) → (q < a.from) ⊎ ((q ≡ a.from) × (u < a.label)) → ⊥
          after (inl x) (inl y) = omega (arith, from)
          after (inl x) (inr y) = omega (arith, from, y.0)
          after (inr (e, inl x)) (inl y) = omega (arith, from, label)
          after (inr (e, inl x)) (inr y) = omega (arith, label, y.1)
          after (inr (e, inr x)) (inl y) = omega (arith, from)
          after (inr (e, inr x)) (inr y) = omega (arith, label, x.0, y.1)

          go : (k < p) ⊎ (p ≤ k) → (p < k) ⊎ (k ≤ p) → k < p + 1
          go (inl less) _ = omega arith
          go (inr le) (inl more) = absurd (after (order p k d more lt) before)
          go (inr le) (inr ge) = omega arith

      by : (k : ℕ) × (k < length lts.arcs) × (get_or lts.arcs k d ≡ arc q u q₁) → (k : ℕ) × (k < length lts.arcs) × (get_or lts.arcs k d ≡ arc q u q₂) → ⊥
      by (k, lk, ek) (l, ll, el) =
          let one = one_index lts.arcs order d (p + 1) k l none (omega arith) (first_part k q₁ lk ek) (first_part l q₂ ll el) (key_is _ q u q₁ _ q₂ ek el) in
          apart (ap (λ (x : Arc). x.to) (sym ek ∙ ap (λ i. get_or lts.arcs i d) one ∙ el))

  -- they are the first fork
  pub least_fork : IsLeastFork lts a.from a.label a.to b.to
  least_fork = record {
    fork = (has_a, has_b, λ e. omega (arith, ordered, e));
    in_order = ordered;
    first = earlier;
    least = λ to has. ⊎_elim (λ is. omega (arith, is)) (⊎_elim (λ is. omega (arith, is, ordered)) (λ more. omega (arith, ordered))) (stands to has);
    next = λ to has more. ⊎_elim (λ is. absurd (omega (arith, is))) (⊎_elim (λ is. omega (arith, is)) (λ after. omega arith)) (stands to has);
  }

-- two arcs that follow each other with the same key, after none that do
pub found : (lts : System) (arcs : List Arc) (i : ℕ) (d : Arc) → arcs ≡ lts.arcs → AllPairs IsArcBefore lts.arcs → 1 ≤ i → i < length arcs → NoneAdjacent arcs i
    → (get_or arcs (i - 1) d).from ≡ (get_or arcs i d).from → (get_or arcs (i - 1) d).label ≡ (get_or arcs i d).label
    → IsLeastFork lts (get_or arcs (i - 1) d).from (get_or arcs (i - 1) d).label (get_or arcs (i - 1) d).to (get_or arcs i d).to
found lts arcs i d are order some within none from label =
    subst (λ xs. IsLeastFork lts (get_or xs (i - 1) d).from (get_or xs (i - 1) d).label (get_or xs (i - 1) d).to (get_or xs i d).to) (sym are)
    (by (i - 1) i (omega arith) (let n = ap length are in omega arith) (subst (λ xs. NoneAdjacent xs i) are none)
    (subst (λ xs. (get_or xs (i - 1) d).from ≡ (get_or xs i d).from) are from) (subst (λ xs. (get_or xs (i - 1) d).label ≡ (get_or xs i d).label) are label))
  where
    by : (p i : ℕ) → i ≡ p + 1 → i < length lts.arcs → NoneAdjacent lts.arcs i → (get_or lts.arcs p d).from ≡ (get_or lts.arcs i d).from
        → (get_or lts.arcs p d).label ≡ (get_or lts.arcs i d).label → IsLeastFork lts (get_or lts.arcs p d).from (get_or lts.arcs p d).label (get_or lts.arcs p d).to (get_or lts.arcs i d).to
    by p i e within none from label =
        subst (λ k. IsLeastFork lts (get_or lts.arcs p d).from (get_or lts.arcs p d).label (get_or lts.arcs p d).to (get_or lts.arcs k d).to) (sym e)
        (least_fork lts order p d (omega arith) (subst (NoneAdjacent lts.arcs) e none)
        (record { from = subst (λ k. (get_or lts.arcs p d).from ≡ (get_or lts.arcs k d).from) e from; label = subst (λ k. (get_or lts.arcs p d).label ≡ (get_or lts.arcs k d).label) e label }))
