-- A descent has an outcome.
use Rattle.std.proofs.Common.{◌≡◌, ◌≢◌, ◌⊎◌, ⊎_elim, ℕ, zero, suc, ◌+◌, ◌<◌, ◌≤◌, List, [], ◌∷◌, Contains, length, subst, sym, inl, inr, arith}
use Rattle.std.specs.Prelude.{pos, ◌<ℤ◌}
use Rattle.std.proofs.lemmas.Int.{by_lt_z}
use Rattle.rg_linear.specs.System.{LinearSystem, variables, row_variable}
use Rattle.rg_linear.specs.Dictionary.{Relation, DictionaryRow, column_set, HasDictionary}
use Rattle.rg_linear.specs.Exchange.{exchanged, AllFit}
use Rattle.rg_linear.specs.Descent.{Outcome, Outcome.point, Outcome.refuted, Outcome.wide, IsSatisfied, Chooses, DescentFrom, DescentFrom.after_last, DescentFrom.satisfied, DescentFrom.stuck, DescentFrom.passes, DescentFrom.stops_below, DescentFrom.goes_on, DescentFromStart}
use Rattle.rg_integers.proofs.Order.{is_zero_or_not}
use Rattle.rg_linear.proofs.Members.{is_member, equal_or_not}
use Rattle.rg_linear.proofs.Terms.{HasWide, fit_or_wide}
use Rattle.rg_linear.proofs.Having.{columns_have, exchanged_has}

-- a member that is not fixed and has a coefficient other than 0
pub record IsChoice (members fixed : List ℕ) (k : Relation) (j : ℕ) : Type 0 where
  pub member : Contains members j
  pub not_fixed : ¬ Contains fixed j
  pub named : k.coefficient j ≢ pos 0

-- the least choice below b
pub record LeastBelow (members fixed : List ℕ) (k : Relation) (b : ℕ) : Type 0 where
  pub j : ℕ
  pub below : j < b
  pub is : IsChoice members fixed k j
  pub least : (m : ℕ) → m < j → Contains members m → ¬ Contains fixed m → k.coefficient m ≡ pos 0

pub least_below : (members fixed : List ℕ) (k : Relation) (b : ℕ) → ((m : ℕ) → m < b → Contains members m → ¬ Contains fixed m → k.coefficient m ≡ pos 0) ⊎ LeastBelow members fixed k b
least_below members fixed k zero = inl (λ m lt has free. absurd (omega arith))
least_below members fixed k (suc b) = go (least_below members fixed k b) (is_member members b) (is_member fixed b) (is_zero_or_not (k.coefficient b))
  where
    more : ((m : ℕ) → m < b → Contains members m → ¬ Contains fixed m → k.coefficient m ≡ pos 0)
        → (Contains members b → ¬ Contains fixed b → k.coefficient b ≡ pos 0) → (m : ℕ) → m < suc b → Contains members m → ¬ Contains fixed m → k.coefficient m ≡ pos 0
    more all here m lt has free = ⊎_elim (λ e. subst (λ x. k.coefficient x ≡ pos 0) (sym e)
        (here (subst (Contains members) e has) (λ z. free (subst (Contains fixed) (sym e) z)))) (λ ne. all m (omega arith) has free) (equal_or_not m b)

    go : ((m : ℕ) → m < b → Contains members m → ¬ Contains fixed m → k.coefficient m ≡ pos 0) ⊎ LeastBelow members fixed k b → Contains members b ⊎ ¬ Contains members b
        → Contains fixed b ⊎ ¬ Contains fixed b → (k.coefficient b ≡ pos 0) ⊎ (k.coefficient b ≢ pos 0)
        → ((m : ℕ) → m < suc b → Contains members m → ¬ Contains fixed m → k.coefficient m ≡ pos 0) ⊎ LeastBelow members fixed k (suc b)
    go (inr r) _ _ _ = let lt = r.below in inr (record { j = r.j; below = omega arith; is = r.is; least = r.least })
    go (inl all) (inr lacks) _ _ = inl (more all (λ has free. absurd (lacks has)))
    go (inl all) (inl has) (inl in_fixed) _ = inl (more all (λ has free. absurd (free in_fixed)))
    go (inl all) (inl has) (inr free) (inl none) = inl (more all (λ has free. none))
    go (inl all) (inl has) (inr free) (inr named) = inr (record { j = b; below = omega arith; is = record { member = has; not_fixed = free; named = named }; least = all })

-- the set of a point has its relations
abbrev pub PointHas : LinearSystem → Outcome → Type 0
PointHas system (point members) = HasDictionary system members
PointHas system (refuted members i fixed) = Unit {0}
PointHas system (wide at) = Unit {0}

pub record Ends (system : LinearSystem) (members fixed : List ℕ) (r i : ℕ) : Type 0 where
  pub o : Outcome
  pub descent : DescentFrom system members fixed r i o
  pub has : PointHas system o

module _ (system : LinearSystem) (fuel : ℕ) (below : (members fixed : List ℕ) (r : ℕ) → r < fuel → r ≤ length system.rows
    → HasDictionary system members → Ends system members fixed r 0) (r : ℕ) (enough : r ≤ fuel) (within : r ≤ length system.rows) where
  next_row : (n : ℕ) (members fixed : List ℕ) (i : ℕ) → i + n ≡ r → HasDictionary system members → Ends system members fixed r i
  next_row zero members fixed i e has = record { o = point members; descent = after_last (omega arith); has = has }
  next_row (suc n) members fixed i e has = at (is_member members (row_variable system i)) (λ after has'. next_row n after fixed (suc i) (omega arith) has')
    where
      lt : i < r
      lt = omega arith

      pass : IsSatisfied system members i → ((after : List ℕ) → HasDictionary system after → Ends system after fixed r (suc i)) → Ends system members fixed r i
      pass p next = let rest = next members has in record { o = rest.o; descent = satisfied lt p rest.descent; has = rest.has }

      joined : (j : ℕ) → Chooses system members fixed i j → AllFit system members (row_variable system i) j → (o : Outcome)
          → DescentFrom system (exchanged members (row_variable system i) j) (row_variable system i ∷ fixed) i 0 o → PointHas system o
          → ((after : List ℕ) → HasDictionary system after → Ends system after fixed r (suc i)) → Ends system members fixed r i
      joined j c fit (point after) d has' next = let rest = next after has' in record { o = rest.o; descent = goes_on j after lt c fit d rest.descent; has = rest.has }
      joined j c fit (refuted after k z) d has' next = record { o = refuted after k z; descent = stops_below j lt c fit d tt; has = tt }
      joined j c fit (wide w) d has' next = record { o = wide w; descent = stops_below j lt c fit d tt; has = tt }

      exchange : (j : ℕ) → Chooses system members fixed i j
          → AllFit system members (row_variable system i) j ⊎ HasWide system members (row_variable system i) j
          → ((after : List ℕ) → HasDictionary system after → Ends system after fixed r (suc i)) → Ends system members fixed r i
      exchange j c (inr w) next = record { o = _; descent = passes j w.w w.n w.t lt c w.first; has = tt }
      exchange j c (inl fit) next =
          let d = below (exchanged members (row_variable system i) j) (row_variable system i ∷ fixed) i (omega arith) (omega arith)
          (exchanged_has system members (row_variable system i) j c.k has c.row c.member c.named) in
          joined j c fit d.o d.descent d.has next

      fails : (k : Relation) → DictionaryRow system members (row_variable system i) k → k.constant <ℤ pos 0
          → ((m : ℕ) → m < variables system → Contains members m → ¬ Contains fixed m → k.coefficient m ≡ pos 0) ⊎ LeastBelow members fixed k (variables system)
          → ((after : List ℕ) → HasDictionary system after → Ends system after fixed r (suc i)) → Ends system members fixed r i
      fails k row negative (inl none) next = record {
        o = _;
        descent = stuck lt (record { k = k; row = row; negative = negative; none = λ m has' free. none m (has.free.within m has') has' free });
        has = tt;
      }
      fails k row negative (inr l) next =
          let c : Chooses system members fixed i l.j =
          record {
            k = k;
            row = row;
            negative = negative;
            member = l.is.member;
            not_fixed = l.is.not_fixed;
            named = l.is.named;
            least = λ m has' free less. l.least m less has' free;
          } in
          exchange l.j c (fit_or_wide system members (row_variable system i) l.j k has row) next

      at : Contains members (row_variable system i) ⊎ ¬ Contains members (row_variable system i)
          → ((after : List ℕ) → HasDictionary system after → Ends system after fixed r (suc i)) → Ends system members fixed r i
      at (inl member) next = pass (inl member) next
      at (inr lacks) next =
          let (k, row) = has.rows (row_variable system i) (omega arith) lacks in
          by_lt_z k.constant (pos 0) (λ negative. fails k row negative (least_below members fixed k (variables system)) next) (λ least. pass (inr (k, row, least)) next)

ends_within : (system : LinearSystem) (fuel : ℕ) (members fixed : List ℕ) (r : ℕ) → r < fuel → r ≤ length system.rows → HasDictionary system members → Ends system members fixed r 0
ends_within system zero members fixed r lt within has = absurd (omega arith)
ends_within system (suc fuel) members fixed r lt within has =
    next_row system fuel (λ members' fixed' r' lt' within' has'. ends_within system fuel members' fixed' r' lt' within' has') r
    (omega arith) within r members fixed 0 (omega arith) has

pub descent_ends : (system : LinearSystem) (members fixed : List ℕ) (r : ℕ) → r ≤ length system.rows → HasDictionary system members → Ends system members fixed r 0
descent_ends system members fixed r within has = ends_within system (suc r) members fixed r (omega arith) within has

pub start_ends : (system : LinearSystem) → (o : Outcome) × DescentFromStart system o
start_ends system = let e = descent_ends system (column_set system) [] (length system.rows) (omega arith) (columns_have system) in (e.o, e.descent)
