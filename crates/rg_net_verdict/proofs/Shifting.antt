-- Firings by the list of a label's places, member by member.
use Rattle.std.proofs.Common.{◌≡◌, ◌≢◌, ⊎_elim, ℕ, ◌+◌, ◌<◌, ◌≤◌, List, length, get_or, set, take, All, refl, sym, ap, subst, ◌∙◌, arith}
use Rattle.std.proofs.lemmas.Bool.{cases_lt, cases_order}
use Rattle.std.proofs.lemmas.Grind.{get_or-set_at}
use Rattle.std.proofs.lemmas.List.{length-set, get_or-set_other, get_or_default, get_or-take, length-take, take_all}
use Rattle.std.proofs.lemmas.List.Elements.{All-more, All-set}
use Rattle.rg_integers.specs.Range.{greatest}
use Rattle.rg_theory.specs.Net.{Marking}
use Rattle.rg_net_verdict.specs.declared.flow.Flow.{Flow}
use Rattle.rg_net_verdict.specs.Flows.{AreListed, HasTokens, left_by, IsMoved, IsFirstOver}

-- what is read past a list's end
abbrev pub no_flow : Flow
no_flow = record { place = 0; pre = 0; post = 0 }

-- what holds of the first k + 1 holds of the first k
fewer : (P : Flow → Type 0) (flow : List Flow) (k : ℕ) → k < length flow → All P (take (k + 1) flow) → All P (take k flow)
fewer P flow k lt all j d less =
    let long = length-take k flow in
    let long' = length-take (k + 1) flow in
    let same : get_or (take k flow) j d ≡ get_or (take (k + 1) flow) j d = get_or-take k flow j d (omega arith) ∙ sym (get_or-take (k + 1) flow j d (omega arith)) in
    subst P (sym same) (all j d (omega arith))

-- the member at k, of the first k + 1
last_of : (P : Flow → Type 0) (flow : List Flow) (k : ℕ) (d : Flow) → k < length flow → All P (take (k + 1) flow) → P (get_or flow k d)
last_of P flow k d lt all = let long = length-take (k + 1) flow in subst P (get_or-take (k + 1) flow k d (omega arith)) (all k d (omega arith))

-- of the first k the one at j
one_of : (P : Flow → Type 0) (flow : List Flow) (k j : ℕ) (d : Flow) → j < k → k ≤ length flow → All P (take k flow) → P (get_or flow j d)
one_of P flow k j d lt le all = let long = length-take k flow in subst P (get_or-take k flow j d lt) (all j d (omega arith))

-- the first k, each by its number
first_all : (P : Flow → Type 0) (flow : List Flow) (k : ℕ) → k ≤ length flow → ((j : ℕ) (d : Flow) → j < k → P (get_or flow j d)) → All P (take k flow)
first_all P flow k le each j d lt = let long = length-take k flow in subst P (sym (get_or-take k flow j d (omega arith))) (each j d (omega arith))

-- the firing as far as the first k members, none of which passes
pub record MovedSoFar (flow : List Flow) (m after : Marking) (k : ℕ) : Type 0 where
  pub moved : IsMoved (take k flow) m after
  pub small : All (λ f. left_by m f ≤ greatest) (take k flow)
  pub in_range : All (λ n. n ≤ greatest) after

module _ (flow : List Flow) (m : Marking) (listed : AreListed flow (length m)) (k : ℕ) (d : Flow) (lt : k < length flow) where
  abbrev pub f : Flow
  f = get_or flow k d

  earlier : (j : ℕ) (e : Flow) → j < k → (get_or flow j e).place < f.place
  earlier j e less = subst (λ (g : Flow). (get_or flow j e).place < g.place) (get_or_default flow k e d lt) (listed.ordered j k e less lt)

  later : (j : ℕ) (e : Flow) → k < j → j < length flow → f.place < (get_or flow j e).place
  later j e less lt' = subst (λ (g : Flow). g.place < (get_or flow j e).place) (get_or_default flow k e d lt) (listed.ordered k j e less lt')

  module _ (after : Marking) (so_far : MovedSoFar flow m after k) where
    pub moved_over : greatest < left_by m f → (i : ℕ) → f.place ≡ i → IsFirstOver flow m i
    moved_over over i place = record {
      k = k;
      f = f;
      below = lt;
      at = get_or_default flow k f d lt;
      place = place;
      over = over;
      before = λ j e less. one_of (λ g. left_by m g ≤ greatest) flow k j e less (omega arith) so_far.small;
    }

    pub moved_more : (n : ℕ) → n ≡ left_by m f → n ≤ greatest → MovedSoFar flow m (set after f.place n) (k + 1)
    moved_more n is few =
        record {
          moved = record { long = length-set after f.place n ∙ so_far.moved.long; each = each; others = others };
          small = All-more (λ g. left_by m g ≤ greatest) flow k d lt so_far.small (omega arith);
          in_range = All-set (λ n. n ≤ greatest) after f.place n few so_far.in_range;
        }
      where
        within : f.place < length after
        within = let long = so_far.moved.long in let below = listed.within k d lt in omega arith

        each : All (λ g. get_or (set after f.place n) g.place 0 ≡ left_by m g) (take (k + 1) flow)
        each = All-more (λ g. get_or (set after f.place n) g.place 0 ≡ left_by m g) flow k d lt
            (first_all (λ g. get_or (set after f.place n) g.place 0 ≡ left_by m g) flow k (omega arith)
            (λ j e less. get_or-set_other after f.place (get_or flow j e).place n 0 (λ same. absurd (let before = earlier j e less in omega arith))
            ∙ one_of (λ g. get_or after g.place 0 ≡ left_by m g) flow k j e less (omega arith) so_far.moved.each))
            (get_or-set_at after f.place f.place n 0 refl within ∙ is)

        others : (i : ℕ) → i < length m → All (λ g. g.place ≢ i) (take (k + 1) flow) → get_or (set after f.place n) i 0 ≡ get_or m i 0
        others i lt' apart =
            get_or-set_other after f.place i n 0 (λ same. last_of (λ g. g.place ≢ i) flow k d lt apart (sym same))
            ∙ so_far.moved.others i lt' (fewer (λ g. g.place ≢ i) flow k lt apart)

-- the rows agree with the firing as far as the first k members, and on the places below start
pub record AgreeSoFar (flow : List Flow) (from to : Marking) (k start : ℕ) : Type 0 where
  pub bound : start ≤ length from
  pub before : (j : ℕ) (d : Flow) → j < k → j < length flow → (get_or flow j d).place < start
  pub after : (j : ℕ) (d : Flow) → k ≤ j → j < length flow → start ≤ (get_or flow j d).place
  pub tokens : All (λ f. f.pre ≤ get_or from f.place 0) (take k flow)
  pub each : All (λ f. get_or to f.place 0 ≡ left_by from f) (take k flow)
  pub others : (i : ℕ) → i < start → All (λ f. f.place ≢ i) flow → get_or to i 0 ≡ get_or from i 0

-- the same from one place up to another
abbrev pub SameBetween : Marking → Marking → ℕ → ℕ → Type 0
SameBetween from to start end = (i : ℕ) → start ≤ i → i < end → get_or to i 0 ≡ get_or from i 0

module _ (flow : List Flow) (from to : Marking) (listed : AreListed flow (length from)) (k start : ℕ) (so_far : AgreeSoFar flow from to k start) where
  -- no member has a place between
  between : (end : ℕ) → ((j : ℕ) (d : Flow) → k ≤ j → j < length flow → end ≤ (get_or flow j d).place) → (i : ℕ) → start ≤ i → i < end → All (λ f. f.place ≢ i) flow
  between end beyond i le lt j d lt' e = ⊎_elim (λ early. absurd (let before = so_far.before j d early lt' in omega arith))
      (λ late. absurd (let after = beyond j d late lt' in omega arith)) (cases_lt j k)

  module _ (d : Flow) (lt : k < length flow) where
    abbrev pub next : Flow
    next = get_or flow k d

    beyond : (j : ℕ) (e : Flow) → k ≤ j → j < length flow → next.place ≤ (get_or flow j e).place
    beyond j e le lt' = ⊎_elim
        (λ same. (let at = get_or_default flow k e d lt in
        let place = ap (λ (g : Flow). g.place) at in
        let place' = ap (λ n. (get_or flow n e).place) same in
        omega arith))
        (λ c. ⊎_elim
        (λ less. (let order = listed.ordered k j e less lt' in
        let at = get_or_default flow k e d lt in
        let place = ap (λ (g : Flow). g.place) at in
        omega arith))
        (λ more. absurd (omega arith)) c)
        (cases_order k j)

    pub agree_order : start ≤ next.place
    agree_order = so_far.after k d (omega arith) lt

    pub agree_between : IsMoved flow from to → SameBetween from to start next.place
    agree_between moved i le lt' = moved.others i (let below = listed.within k d lt in omega arith) (between next.place beyond i le lt')

    pub agree_here : IsMoved flow from to → get_or to next.place 0 ≡ left_by from next
    agree_here moved = moved.each k d lt

    pub agree_more : SameBetween from to start next.place → next.pre ≤ get_or from next.place 0 → get_or to next.place 0 ≡ left_by from next → AgreeSoFar flow from to (k + 1) (next.place + 1)
    agree_more same enough here = record {
      bound = let below = listed.within k d lt in omega arith;
      before = before;
      after = λ j e le lt'. (let order = listed.ordered k j e (omega arith) lt' in
          let at = get_or_default flow k e d lt in
          let place = ap (λ (g : Flow). g.place) at in
          omega arith);
      tokens = All-more (λ f. f.pre ≤ get_or from f.place 0) flow k d lt so_far.tokens enough;
      each = All-more (λ f. get_or to f.place 0 ≡ left_by from f) flow k d lt so_far.each here;
      others = λ i less apart. ⊎_elim
          (λ early. so_far.others i early apart)
          (λ late. ⊎_elim (λ below. same i late below) (λ at. absurd (apart k d lt (omega arith))) (cases_lt i next.place))
          (cases_lt i start);
    }
      where
        before : (j : ℕ) (e : Flow) → j < k + 1 → j < length flow → (get_or flow j e).place < next.place + 1
        before j e less lt' = ⊎_elim
            (λ early. (let b = so_far.before j e early lt' in let order = agree_order in omega arith))
            (λ late. (let same_j : j ≡ k = omega arith in
            let at = get_or_default flow k e d lt in
            let place = ap (λ (g : Flow). g.place) at in
            let place' = ap (λ n. (get_or flow n e).place) same_j in
            omega arith))
            (cases_lt j k)

  module _ (past : length flow ≤ k) where
    nothing : (end : ℕ) (j : ℕ) (d : Flow) → k ≤ j → j < length flow → end ≤ (get_or flow j d).place
    nothing end j d le lt = absurd (omega arith)

    pub agree_rest : IsMoved flow from to → SameBetween from to start (length from)
    agree_rest moved i le lt = moved.others i lt (between (length from) (nothing (length from)) i le lt)

    pub agree_all : length to ≡ length from → SameBetween from to start (length from) → HasTokens flow from × IsMoved flow from to
    agree_all long same = (
      subst (All (λ f. f.pre ≤ get_or from f.place 0)) (take_all k flow past) so_far.tokens,
      record {
        long = long;
        each = subst (All (λ f. get_or to f.place 0 ≡ left_by from f)) (take_all k flow past) so_far.each;
        others = λ i lt apart. ⊎_elim (λ early. so_far.others i early apart) (λ late. same i late lt) (cases_lt i start);
      },
    )
