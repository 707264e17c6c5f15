-- The lines of a net tell its places, their flows and their starts.
use Rattle.std.proofs.Common.{◌≡◌, ℕ, zero, suc, ◌+◌, ◌<◌, ◌≤◌, List, [], ◌∷◌, ◌++◌, length, get_or, map, codes, ◌⊎◌, inl, inr, refl, sym, ap, ◌∙◌, subst, arith, append_assoc, All}
use Rattle.std.specs.List.{range_with_len}
use Rattle.std.proofs.lemmas.List.{append_cancel_left, length-map, get_or_past}
use Rattle.std.proofs.lemmas.List.Elements.{All-head, All-tail, All-get_or, All-weaker}
use Rattle.std.proofs.lemmas.Bool.{cases_lt}
use Rattle.rg_text.specs.Line.{fed}
use Rattle.rg_theory.specs.Net.{Place, Net, pre_weight, post_weight}
use Rattle.rg_net.specs.Range.{IsPlaceInRange}
use Rattle.rg_integers.specs.Range.{greatest}
use Rattle.rg_net.specs.NetText.{place_name, set_text, taken_by, put_by, flow_line, flow_lines, starts}
use Rattle.rg_net.proofs.Digits.{IsPrinted, same_rest, heads_apart}
use Rattle.rg_net.proofs.Members.{ArePrinted, told_set}

-- lines after one line are told
same_lines : (line x y : List ℕ) → line ++ 10 ∷ x ≡ line ++ 10 ∷ y → x ≡ y
same_lines line x y same = same_rest 10 x y (append_cancel_left line _ _ same)

-- the lines with the places' names tell how many there are, and what follows
pub told_count : (q : List ℕ) (k m n : ℕ) (line : List ℕ) (xs ys : List (List ℕ))
    → fed (map (place_name (112 ∷ q)) (range_with_len k m) ++ (46 ∷ line) ∷ xs)
    ≡ fed (map (place_name (112 ∷ q)) (range_with_len k n) ++ (46 ∷ line) ∷ ys)
    → (m ≡ n) × (fed xs ≡ fed ys)
told_count q k zero zero line xs ys same = (refl, same_lines (46 ∷ line) _ _ same)
told_count q k zero (suc n) line xs ys same = absurd (heads_apart 46 112 _ _ refl same)
told_count q k (suc m) zero line xs ys same = absurd (heads_apart 112 46 _ _ refl same)
told_count q k (suc m) (suc n) line xs ys same =
    let rest = told_count q (k + 1) m n line xs ys (same_lines (place_name (112 ∷ q) k) _ _ same) in
    (ap suc rest.0, rest.1)

-- numbers of places that are all printed
printed : (f : Place → ℕ) (ps : List Place) → All (λ p. IsPrinted (f p)) ps → ArePrinted (map f ps)
printed f [] h = tt
printed f (p ∷ ps) h = (All-head (λ p. IsPrinted (f p)) p ps h, printed f ps (All-tail (λ p. IsPrinted (f p)) p ps h))

printed_number : (w : ℕ) → w ≤ greatest → IsPrinted w
printed_number w h = omega arith

printed_weight : (ws : List ℕ) (t : ℕ) → All (λ w. w ≤ greatest) ws → IsPrinted (get_or ws t 0)
printed_weight ws t h = by (cases_lt t (length ws))
  where
    by : (t < length ws) ⊎ (length ws ≤ t) → IsPrinted (get_or ws t 0)
    by (inl less) = printed_number _ (All-get_or (λ w. w ≤ greatest) ws t 0 less h)
    by (inr more) = rw (get_or_past ws t 0 more) (printed_number 0 (omega arith))

printed_taken : (net : Net) (t : ℕ) → All IsPlaceInRange net.places → ArePrinted (taken_by net t)
printed_taken net t h =
    printed (λ p. pre_weight p t) net.places (All-weaker IsPlaceInRange (λ p. IsPrinted (pre_weight p t))
    (λ p r. printed_weight p.pre t r.pre) net.places h)

printed_put : (net : Net) (t : ℕ) → All IsPlaceInRange net.places → ArePrinted (put_by net t)
printed_put net t h =
    printed (λ p. post_weight p t) net.places (All-weaker IsPlaceInRange (λ p. IsPrinted (post_weight p t))
    (λ p r. printed_weight p.post t r.post) net.places h)

pub printed_starts : (net : Net) → All IsPlaceInRange net.places → ArePrinted (starts net)
printed_starts net h =
    printed (λ p. p.start) net.places (All-weaker IsPlaceInRange (λ p. IsPrinted p.start) (λ p r. printed_number p.start r.start) net.places h)

-- the two nets have as many places, which are in range and few enough to be numbered
pub record AreLike (a b : Net) : Type 0 where
  pub long : length a.places ≡ length b.places
  pub few : IsPrinted (length a.places)
  pub left : All IsPlaceInRange a.places
  pub right : All IsPlaceInRange b.places

five_parts : (a b c d e x : List ℕ) → ((((a ++ b) ++ c) ++ d) ++ e) ++ x ≡ a ++ (b ++ (c ++ (d ++ (e ++ x))))
five_parts a b c d e x = simp append_assoc

-- a flow, and what follows it, is told
told_flow : (q : List ℕ) (a b : Net) (t : ℕ) (name x y : List ℕ) → AreLike a b
    → flow_line (112 ∷ q) a t name ++ 10 ∷ x ≡ flow_line (112 ∷ q) b t name ++ 10 ∷ y
    → (taken_by a t ≡ taken_by b t) × (put_by a t ≡ put_by b t) × (x ≡ y)
told_flow q a b t name x y like same =
    let long_taken : length (taken_by a t) ≡ length (taken_by b t) = length-map a.places (λ p. pre_weight p t) ∙ like.long
    ∙ sym (length-map b.places (λ p. pre_weight p t)) in
    let long_put : length (put_by a t) ≡ length (put_by b t) = length-map a.places (λ p. post_weight p t) ∙ like.long
    ∙ sym (length-map b.places (λ p. post_weight p t)) in
    let few_taken : IsPrinted (length (taken_by a t)) = subst IsPrinted (sym (length-map a.places (λ p. pre_weight p t))) like.few in
    let few_put : IsPrinted (length (put_by a t)) = subst IsPrinted (sym (length-map a.places (λ p. post_weight p t))) like.few in
    let whole = sym (five_parts name (codes ": ") (set_text (112 ∷ q) (taken_by a t)) (codes " -> ") (set_text (112 ∷ q) (put_by a t)) (10 ∷ x))
    ∙ same ∙ five_parts name (codes ": ") (set_text (112 ∷ q) (taken_by b t)) (codes " -> ") (set_text (112 ∷ q) (put_by b t)) (10 ∷ y) in
    let taken = told_set q (taken_by a t) (taken_by b t) _ _ long_taken few_taken (printed_taken a t like.left) (printed_taken b t like.right)
    (append_cancel_left (codes ": ") _ _ (append_cancel_left name _ _ whole)) in
    let put = told_set q (put_by a t) (put_by b t) _ _ long_put few_put (printed_put a t like.left) (printed_put b t like.right)
    (append_cancel_left (codes " -> ") _ _ taken.1) in
    (taken.0, put.0, same_rest 10 x y put.1)

-- the nets have the same flows for the n labels from t on
abbrev pub HaveSameFlows : Net → Net → ℕ → ℕ → Type 0
HaveSameFlows a b t n = (k : ℕ) → k < n → (taken_by a (t + k) ≡ taken_by b (t + k)) × (put_by a (t + k) ≡ put_by b (t + k))

pub told_flows : (q : List ℕ) (a b : Net) (t : ℕ) (names xs ys : List (List ℕ)) → AreLike a b
    → fed (flow_lines (112 ∷ q) a t names ++ xs) ≡ fed (flow_lines (112 ∷ q) b t names ++ ys)
    → HaveSameFlows a b t (length names) × (fed xs ≡ fed ys)
told_flows q a b t [] xs ys like same = ((λ k h. absurd (omega arith)), same)
told_flows q a b t (name ∷ names) xs ys like same =
    let one = told_flow q a b t name _ _ like same in
    let more = told_flows q a b (t + 1) names xs ys like one.2 in
    (flows (one.0, one.1) more.0, more.1)
  where
    flows : (taken_by a t ≡ taken_by b t) × (put_by a t ≡ put_by b t) → HaveSameFlows a b (t + 1) (length names)
        → HaveSameFlows a b t (suc (length names))
    flows here later zero h = subst (λ u. (taken_by a u ≡ taken_by b u) × (put_by a u ≡ put_by b u)) (omega arith) here
    flows here later (suc k) h = subst (λ u. (taken_by a u ≡ taken_by b u) × (put_by a u ≡ put_by b u)) (omega arith) (later k (omega arith))
