-- What the members and flows of a printed net add up to.
use Rattle.std.proofs.Common.{◌≡◌, ℕ, zero, suc, ◌+◌, ◌<◌, ◌^◌, inl, inr, ⊎_elim, true, false, cond, ◌&&◌, List, [], ◌∷◌, ◌++◌, length, map, get_or, slice_get, Contains, Some, sum_by, refl, sym, ap, subst, ◌∙◌, arith}
use Rattle.std.specs.List.{flat_map}
use Rattle.std.specs.Str.{bytes_eq}
use Rattle.std.proofs.lemmas.Bool.{cond-true, cond-false, false_from_ne_true}
use Rattle.std.proofs.lemmas.List.Concat.{flat_map-cons}
use Rattle.std.proofs.lemmas.List.Sums.{sum_by-cons, sum_by-append}
use Rattle.std.proofs.lemmas.Slice.Eq.{bytes_eq-Decides}
use Rattle.std.proofs.lemmas.List.{length-map}
use Rattle.std.proofs.lemmas.Option.{slice_get-get_or}
use Rattle.rg_lexer.specs.Lexeme.{Lexeme}
use Rattle.rg_theory.specs.Net.{Net, pre_weight, post_weight}
use Rattle.rg_theory.proofs.Lists.{there_at}
use Rattle.rg_net.specs.NetText.{place_name, taken_by, put_by, starts}
use Rattle.rg_net_grammar.specs.declared.found.Member.{Member}
use Rattle.rg_net_grammar.specs.Item.{Flow}
use Rattle.rg_netfile.specs.Contents.{Cell, taken, put, start, same_cell, flow_of, adds, steps_of_flow, added, total, count_of}
use Rattle.rg_netfile.specs.Built.{AreApart}
use Rattle.rg_netfile.proofs.Slots.{same_or_other}
use Rattle.rg_netfile.proofs.PlaceNames.{one_place}
use Rattle.rg_netfile.proofs.SetTexts.{AreMembers}
use Rattle.rg_netfile.proofs.NetTexts.{AreFlows}

-- how many tokens of a place the members stand for
abbrev pub counted : List ℕ → Member Lexeme → ℕ
counted name m = cond (bytes_eq name m.place.text) (count_of m.number) 0

abbrev pub members_sum : List ℕ → List (Member Lexeme) → ℕ
members_sum name ms = sum_by (counted name) ms

here_counts : (name : List ℕ) (m : Member Lexeme) (more : List (Member Lexeme)) → m.place.text ≡ name → members_sum name (m ∷ more) ≡ count_of m.number + members_sum name more
here_counts name m more same =
    sum_by-cons (counted name) m more
    ∙ ap (λ n. n + members_sum name more) (cond-true (bytes_eq name m.place.text) (count_of m.number) 0 ((bytes_eq-Decides name m.place.text).1 (sym same)))

other_counts : (name : List ℕ) (m : Member Lexeme) (more : List (Member Lexeme)) → (name ≡ m.place.text → ⊥) → members_sum name (m ∷ more) ≡ members_sum name more
other_counts name m more ne =
    sum_by-cons (counted name) m more
    ∙ ap (λ n. n + members_sum name more)
    (cond-false (bytes_eq name m.place.text) (count_of m.number) 0
    (false_from_ne_true (bytes_eq name m.place.text) (λ e. ne ((bytes_eq-Decides name m.place.text).0 e)))) ∙ omega arith

-- a place before all of them isn't counted
sum_before : (q : List ℕ) (i : ℕ) (ws : List ℕ) (ms : List (Member Lexeme)) (j : ℕ) → AreMembers q i ws ms → j < i → i + length ws < 10 ^ 64 → members_sum (place_name q j) ms ≡ 0
sum_before q i [] ms j are lt small = ap (members_sum (place_name q j)) are
sum_before q i (w ∷ ws) ms j (inl skip) lt small = sum_before q (i + 1) ws ms j skip.1 (omega arith) (omega arith)
sum_before q i (w ∷ ws) ms j (inr (m, more, is, text, count, rest)) lt small =
    ap (members_sum (place_name q j)) is
    ∙ other_counts (place_name q j) m more (λ same. let e = one_place q j i (omega arith) (omega arith) (same ∙ text) in omega arith)
    ∙ sum_before q (i + 1) ws more j rest (omega arith) (omega arith)

pub members_weight : (q : List ℕ) (i : ℕ) (ws : List ℕ) (ms : List (Member Lexeme)) (k : ℕ) → AreMembers q i ws ms → i + length ws < 10 ^ 64 → i + k < 10 ^ 64
    → members_sum (place_name q (i + k)) ms ≡ get_or ws k 0
members_weight q i [] ms k are small lt = ap (members_sum (place_name q (i + k))) are
members_weight q i (w ∷ ws) ms zero (inl skip) small lt =
    sum_before q (i + 1) ws ms (i + 0) skip.1 (omega arith) (omega arith) ∙ sym skip.0
members_weight q i (w ∷ ws) ms (suc k) (inl skip) small lt =
    let same : i + suc k ≡ (i + 1) + k = omega arith in
    ap (λ n. members_sum (place_name q n) ms) same ∙ members_weight q (i + 1) ws ms k skip.1 (omega arith) (omega arith)
members_weight q i (w ∷ ws) ms zero (inr (m, more, is, text, count, rest)) small lt =
    let same : i + 0 ≡ i = omega arith in
    let none = sum_before q (i + 1) ws more i rest (omega arith) (omega arith) in
    ap (λ n. members_sum (place_name q n) ms) same ∙ ap (members_sum (place_name q i)) is ∙ here_counts (place_name q i) m more text ∙ omega (arith, none, count)
members_weight q i (w ∷ ws) ms (suc k) (inr (m, more, is, text, count, rest)) small lt =
    let same : i + suc k ≡ (i + 1) + k = omega arith in
    ap (members_sum (place_name q (i + suc k))) is
    ∙ other_counts (place_name q (i + suc k)) m more (λ e. let f = one_place q (i + suc k) i (omega arith) (omega arith) (e ∙ text) in omega arith)
    ∙ ap (λ n. members_sum (place_name q n) more) same ∙ members_weight q (i + 1) ws more k rest (omega arith) (omega arith)

-- the members' steps
added_in : (cell c : Cell) (name : List ℕ) (m : Member Lexeme) → same_cell cell c ≡ true → added cell name (adds c m) ≡ counted name m
added_in cell c name m e = ap (λ b. cond (b && bytes_eq name m.place.text) (count_of m.number) 0) e

added_out : (cell c : Cell) (name : List ℕ) (m : Member Lexeme) → same_cell cell c ≡ false → added cell name (adds c m) ≡ 0
added_out cell c name m e = ap (λ b. cond (b && bytes_eq name m.place.text) (count_of m.number) 0) e

pub total_in : (cell c : Cell) (name : List ℕ) (ms : List (Member Lexeme)) → same_cell cell c ≡ true → total cell name (map (adds c) ms) ≡ members_sum name ms
total_in cell c name [] e = refl
total_in cell c name (m ∷ ms) e =
    let first = sum_by-cons (added cell name) (adds c m) (map (adds c) ms) in
    let second = sum_by-cons (counted name) m ms in
    let one = added_in cell c name m e in
    let more = total_in cell c name ms e in
    omega (arith, first, second, one, more)

pub total_out : (cell c : Cell) (name : List ℕ) (ms : List (Member Lexeme)) → same_cell cell c ≡ false → total cell name (map (adds c) ms) ≡ 0
total_out cell c name [] e = refl
total_out cell c name (m ∷ ms) e =
    let first = sum_by-cons (added cell name) (adds c m) (map (adds c) ms) in
    let one = added_out cell c name m e in
    let more = total_out cell c name ms e in
    omega (arith, first, one, more)

-- a flow's steps
total_flow : (cell : Cell) (name : List ℕ) (f : Flow) → total cell name (steps_of_flow f)
    ≡ total cell name (map (adds (taken f.name.text)) f.pre) + total cell name (map (adds (put f.name.text)) f.post)
total_flow cell name f =
    let first = sum_by-cons (added cell name) (flow_of f.name) (map (adds (taken f.name.text)) f.pre ++ map (adds (put f.name.text)) f.post) in
    let second = sum_by-append (added cell name) (map (adds (taken f.name.text)) f.pre) (map (adds (put f.name.text)) f.post) in
    omega (arith, first, second)

cell_same : (a b : Cell) → a ≡ b → same_cell a b ≡ true
cell_same a b e = ⊎_elim (λ h. h.0) (λ h. absurd (h.1 e)) (same_or_other a b)

cell_other : (a b : Cell) → (a ≡ b → ⊥) → same_cell a b ≡ false
cell_other a b ne = ⊎_elim (λ h. absurd (ne h.1)) (λ h. h.0) (same_or_other a b)

taken_name : (a b : List ℕ) → taken a ≡ taken b → a ≡ b
taken_name a b e = cc

put_name : (a b : List ℕ) → put a ≡ put b → a ≡ b
put_name a b e = cc

taken_here : (name label : List ℕ) (f : Flow) → label ≡ f.name.text → total (taken label) name (steps_of_flow f) ≡ members_sum name f.pre
taken_here name label f e =
    let a = total_in (taken label) (taken f.name.text) name f.pre (cell_same (taken label) (taken f.name.text) (ap taken e)) in
    let b = total_out (taken label) (put f.name.text) name f.post refl in
    total_flow (taken label) name f ∙ omega (arith, a, b)

taken_beside : (name label : List ℕ) (f : Flow) → (label ≡ f.name.text → ⊥) → total (taken label) name (steps_of_flow f) ≡ 0
taken_beside name label f ne =
    let a = total_out (taken label) (taken f.name.text) name f.pre (cell_other (taken label) (taken f.name.text) (λ e. ne (taken_name label f.name.text e))) in
    let b = total_out (taken label) (put f.name.text) name f.post refl in
    total_flow (taken label) name f ∙ omega (arith, a, b)

put_here : (name label : List ℕ) (f : Flow) → label ≡ f.name.text → total (put label) name (steps_of_flow f) ≡ members_sum name f.post
put_here name label f e =
    let a = total_out (put label) (taken f.name.text) name f.pre refl in
    let b = total_in (put label) (put f.name.text) name f.post (cell_same (put label) (put f.name.text) (ap put e)) in
    total_flow (put label) name f ∙ omega (arith, a, b)

put_beside : (name label : List ℕ) (f : Flow) → (label ≡ f.name.text → ⊥) → total (put label) name (steps_of_flow f) ≡ 0
put_beside name label f ne =
    let a = total_out (put label) (taken f.name.text) name f.pre refl in
    let b = total_out (put label) (put f.name.text) name f.post (cell_other (put label) (put f.name.text) (λ e. ne (put_name label f.name.text e))) in
    total_flow (put label) name f ∙ omega (arith, a, b)

start_beside : (name : List ℕ) (f : Flow) → total start name (steps_of_flow f) ≡ 0
start_beside name f =
    let a = total_out start (taken f.name.text) name f.pre refl in
    let b = total_out start (put f.name.text) name f.post refl in
    total_flow start name f ∙ omega (arith, a, b)

-- the first of some names apart is none of the others
apart_head : {X : Type 0} (x : X) (xs : List X) → AreApart (x ∷ xs) → Contains xs x → ⊥
apart_head x xs apart (k, lt, e) = let same = apart.same 0 (suc k) x refl (slice_get-get_or xs k x lt ∙ ap Some e) in omega arith

pub apart_tail : {X : Type 0} (x : X) (xs : List X) → AreApart (x ∷ xs) → AreApart xs
apart_tail x xs apart = record { same = λ i j y at at'. let same = apart.same (suc i) (suc j) y at at' in omega arith }

flows_cons : (cell : Cell) (name : List ℕ) (f : Flow) (more : List Flow) → total cell name (flat_map steps_of_flow (f ∷ more))
    ≡ total cell name (steps_of_flow f) + total cell name (flat_map steps_of_flow more)
flows_cons cell name f more =
    ap (total cell name) (flat_map-cons steps_of_flow f more) ∙ sum_by-append (added cell name) (steps_of_flow f) (flat_map steps_of_flow more)

-- flows of other labels, and no flow, add nothing
flows_none : (cell : List ℕ → Cell) (name label q : List ℕ) (net : Net) → ((f : Flow) → (label ≡ f.name.text → ⊥) → total (cell label) name (steps_of_flow f) ≡ 0)
    → (t : ℕ) (names : List (List ℕ)) (fs : List Flow) → AreFlows q net t names fs → (Contains names label → ⊥) → total (cell label) name (flat_map steps_of_flow fs) ≡ 0
flows_none cell name label q net beside t [] fs are absent = ap (λ l. total (cell label) name (flat_map steps_of_flow l)) are
flows_none cell name label q net beside t (n ∷ names) fs (f, more, is, text, pre, post, rest) absent =
    let here = beside f (λ e. absent (0, omega arith, sym (e ∙ text))) in
    let later = flows_none cell name label q net beside (t + 1) names more rest (λ (k, lt, e). absent (suc k, omega arith, e)) in
    ap (λ l. total (cell label) name (flat_map steps_of_flow l)) is ∙ flows_cons (cell label) name f more ∙ omega (arith, here, later)

flows_starts : (q : List ℕ) (net : Net) (name : List ℕ) (t : ℕ) (names : List (List ℕ)) (fs : List Flow) → AreFlows q net t names fs
    → total start name (flat_map steps_of_flow fs) ≡ 0
flows_starts q net name t [] fs are = ap (λ l. total start name (flat_map steps_of_flow l)) are
flows_starts q net name t (n ∷ names) fs (f, more, is, text, pre, post, rest) =
    let here = start_beside name f in
    let later = flows_starts q net name (t + 1) names more rest in
    ap (λ l. total start name (flat_map steps_of_flow l)) is ∙ flows_cons start name f more ∙ omega (arith, here, later)

flows_at : (cell : List ℕ → Cell) (weights : ℕ → List ℕ) (part : Flow → List (Member Lexeme)) (q : List ℕ) (net : Net) (j : ℕ) (label : List ℕ)
    → ((f : Flow) → label ≡ f.name.text → total (cell label) (place_name q j) (steps_of_flow f) ≡ members_sum (place_name q j) (part f))
    → ((f : Flow) → (label ≡ f.name.text → ⊥) → total (cell label) (place_name q j) (steps_of_flow f) ≡ 0)
    → ((t : ℕ) (f : Flow) → AreMembers q 0 (taken_by net t) f.pre → AreMembers q 0 (put_by net t) f.post → members_sum (place_name q j) (part f) ≡ get_or (weights t) j 0)
    → (t : ℕ) (names : List (List ℕ)) (fs : List Flow) (k : ℕ) → AreFlows q net t names fs → AreApart names → slice_get names k ≡ Some label
    → total (cell label) (place_name q j) (flat_map steps_of_flow fs) ≡ get_or (weights (t + k)) j 0
flows_at cell weights part q net j label inside beside weigh t [] fs k are apart at = absurd cc
flows_at cell weights part q net j label inside beside weigh t (n ∷ names) fs zero (f, more, is, text, pre, post, rest) apart at =
    let same : n ≡ label = cc in
    let here = inside f (sym same ∙ sym text) ∙ weigh t f pre post in
    let later = flows_none cell (place_name q j) label q net beside (t + 1) names more rest (λ has. apart_head n names apart (subst (Contains names) (sym same) has)) in
    let e : t + 0 ≡ t = omega arith in
    ap (λ l. total (cell label) (place_name q j) (flat_map steps_of_flow l)) is ∙ flows_cons (cell label) (place_name q j) f more
    ∙ omega (arith, here, later) ∙ ap (λ u. get_or (weights u) j 0) (sym e)
flows_at cell weights part q net j label inside beside weigh t (n ∷ names) fs (suc k) (f, more, is, text, pre, post, rest) apart at =
    let here = beside f (λ e. apart_head n names apart (there_at names k n (at ∙ ap Some (e ∙ text)))) in
    let later = flows_at cell weights part q net j label inside beside weigh (t + 1) names more k rest (apart_tail n names apart) at in
    let e : (t + 1) + k ≡ t + suc k = omega arith in
    ap (λ l. total (cell label) (place_name q j) (flat_map steps_of_flow l)) is ∙ flows_cons (cell label) (place_name q j) f more
    ∙ omega (arith, here, later) ∙ ap (λ u. get_or (weights u) j 0) e

-- what all flows add up to
module _ (q : List ℕ) (net : Net) (j : ℕ) (small : j < 10 ^ 64) (few : length net.places < 10 ^ 64) (names : List (List ℕ)) (fs : List Flow)
    (are : AreFlows q net 0 names fs) (apart : AreApart names) where
  weigh_in : (ws : List ℕ) (ms : List (Member Lexeme)) → length ws ≡ length net.places → AreMembers q 0 ws ms → members_sum (place_name q j) ms ≡ get_or ws j 0
  weigh_in ws ms long members =
      let same : 0 + j ≡ j = omega arith in
      ap (λ n. members_sum (place_name q n) ms) (sym same) ∙ members_weight q 0 ws ms j members (omega arith) (omega arith)

  pub flows_taken : (k : ℕ) (label : List ℕ) → slice_get names k ≡ Some label → total (taken label) (place_name q j) (flat_map steps_of_flow fs) ≡ get_or (taken_by net k) j 0
  flows_taken k label at =
      let same : 0 + k ≡ k = omega arith in
      flows_at taken (taken_by net) (λ f. f.pre) q net j label (taken_here (place_name q j) label) (taken_beside (place_name q j) label)
      (λ t f pre post. weigh_in (taken_by net t) f.pre (length-map net.places (λ p. pre_weight p t)) pre) 0 names fs k are apart at
      ∙ ap (λ u. get_or (taken_by net u) j 0) same

  pub flows_put : (k : ℕ) (label : List ℕ) → slice_get names k ≡ Some label → total (put label) (place_name q j) (flat_map steps_of_flow fs) ≡ get_or (put_by net k) j 0
  flows_put k label at =
      let same : 0 + k ≡ k = omega arith in
      flows_at put (put_by net) (λ f. f.post) q net j label (put_here (place_name q j) label) (put_beside (place_name q j) label)
      (λ t f pre post. weigh_in (put_by net t) f.post (length-map net.places (λ p. post_weight p t)) post) 0 names fs k are apart at
      ∙ ap (λ u. get_or (put_by net u) j 0) same

  -- and with the marking
  module _ (ms : List (Member Lexeme)) (marking : AreMembers q 0 (starts net) ms) where
    pub all_starts : total start (place_name q j) (flat_map steps_of_flow fs ++ map (adds start) ms) ≡ get_or (starts net) j 0
    all_starts =
        let none = flows_starts q net (place_name q j) 0 names fs are in
        let some = total_in start start (place_name q j) ms refl ∙ weigh_in (starts net) ms (length-map net.places (λ p. p.start)) marking in
        sum_by-append (added start (place_name q j)) (flat_map steps_of_flow fs) (map (adds start) ms) ∙ omega (arith, none, some)

    pub all_taken : (k : ℕ) (label : List ℕ) → slice_get names k ≡ Some label
        → total (taken label) (place_name q j) (flat_map steps_of_flow fs ++ map (adds start) ms) ≡ get_or (taken_by net k) j 0
    all_taken k label at =
        let none = total_out (taken label) start (place_name q j) ms refl in
        let some = flows_taken k label at in
        sum_by-append (added (taken label) (place_name q j)) (flat_map steps_of_flow fs) (map (adds start) ms) ∙ omega (arith, none, some)

    pub all_put : (k : ℕ) (label : List ℕ) → slice_get names k ≡ Some label
        → total (put label) (place_name q j) (flat_map steps_of_flow fs ++ map (adds start) ms) ≡ get_or (put_by net k) j 0
    all_put k label at =
        let none = total_out (put label) start (place_name q j) ms refl in
        let some = flows_put k label at in
        sum_by-append (added (put label) (place_name q j)) (flat_map steps_of_flow fs) (map (adds start) ms) ∙ omega (arith, none, some)
