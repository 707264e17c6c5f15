-- A net is told by its text.
use Rattle.std.proofs.Common.{◌≡◌, ℕ, zero, suc, ◌+◌, ◌==◌, ◌<◌, Bool, true, false, not, List, [], ◌∷◌, ◌++◌, length, map, codes, decimal, refl, sym, ◌∙◌, subst, arith, zero-add, All}
use Rattle.std.specs.List.{list_any}
use Rattle.std.proofs.lemmas.List.{append_cancel_left, ext_get_or, length-map}
use Rattle.std.proofs.lemmas.List.Elements.{All-head, All-tail}
use Rattle.rg_text.specs.Line.{fed}
use Rattle.rg_theory.specs.System.{System, labels}
use Rattle.rg_theory.specs.Net.{Place, Net, pre_weight, post_weight}
use Rattle.rg_net.specs.Range.{IsNetInRange}
use Rattle.rg_net.specs.NetText.{blocks, candidate, first_free, place_prefix, set_text, taken_by, put_by, flow_lines, starts, net_lines, net_text}
use Rattle.rg_net.proofs.Digits.{IsPrinted}
use Rattle.rg_net.proofs.Members.{told_set}
use Rattle.rg_net.proofs.Lines.{AreLike, HaveSameFlows, told_count, told_flows, printed_starts}
use Rattle.rg_text.proofs.Grown.{fed-append}

-- each prefix begins with `p`
begins_with_p : (k : ℕ) → (q : List ℕ) × (candidate k ≡ 112 ∷ q)
begins_with_p k = by (k == 0) refl
  where
    by : (b : Bool) → (k == 0) ≡ b → (q : List ℕ) × (candidate k ≡ 112 ∷ q)
    by true e = ([], rw e refl)
    by false e = (decimal k ++ codes "_", rw e refl)

free_begins : (names : List (List ℕ)) (k n : ℕ) → (q : List ℕ) × (first_free names k n ≡ 112 ∷ q)
free_begins names k zero = ([], refl)
free_begins names k (suc n) = by (not (list_any (blocks (candidate k)) names)) refl (free_begins names (k + 1) n)
  where
    by : (b : Bool) → not (list_any (blocks (candidate k)) names) ≡ b → (q : List ℕ) × (first_free names (k + 1) n ≡ 112 ∷ q)
        → (q : List ℕ) × (first_free names k (suc n) ≡ 112 ∷ q)
    by true e more = let one = begins_with_p k in (one.0, rw e one.1)
    by false e more = (more.0, rw e more.1)

prefix_begins : (names : List (List ℕ)) → (q : List ℕ) × (place_prefix names ≡ 112 ∷ q)
unfolding place_prefix
prefix_begins names = free_begins names 0 257

-- two heads that a list of places maps alike
same_head : (f : Place → ℕ) (p q : Place) (ps qs : List Place) → map f (p ∷ ps) ≡ map f (q ∷ qs) → f p ≡ f q
same_head f p q ps qs same = cc

same_tail : (f : Place → ℕ) (p q : Place) (ps qs : List Place) → map f (p ∷ ps) ≡ map f (q ∷ qs) → map f ps ≡ map f qs
same_tail f p q ps qs same = cc

same_place : (p q : Place) → p.start ≡ q.start → p.pre ≡ q.pre → p.post ≡ q.post → p ≡ q
same_place p q e f g = λ i. record { start = e i; pre = f i; post = g i }

-- each place has n weights of each kind
abbrev HaveWeights : ℕ → List Place → Type 0
HaveWeights n ps = All (λ p. (length p.pre ≡ n) × (length p.post ≡ n)) ps

-- the places have the same weights of the n labels
abbrev HaveSameWeights : ℕ → List Place → List Place → Type 0
HaveSameWeights n ps qs = (t : ℕ) → t < n → (map (λ p. pre_weight p t) ps ≡ map (λ p. pre_weight p t) qs)
    × (map (λ p. post_weight p t) ps ≡ map (λ p. post_weight p t) qs)

same_places : (n : ℕ) (ps qs : List Place) → HaveWeights n ps → HaveWeights n qs → map (λ p. p.start) ps ≡ map (λ p. p.start) qs
    → HaveSameWeights n ps qs → ps ≡ qs
same_places n [] [] h k start same = refl
same_places n [] (q ∷ qs) h k start same = absurd cc
same_places n (p ∷ ps) [] h k start same = absurd cc
same_places n (p ∷ ps) (q ∷ qs) h k start same =
    both first (same_places n ps qs (All-tail P p ps h) (All-tail P q qs k) (same_tail (λ p. p.start) p q ps qs start)
    (λ t less. (same_tail (λ p. pre_weight p t) p q ps qs (same t less).0, same_tail (λ p. post_weight p t) p q ps qs (same t less).1)))
  where
    P : Place → Type 0
    P p = (length p.pre ≡ n) × (length p.post ≡ n)

    both : p ≡ q → ps ≡ qs → p ∷ ps ≡ q ∷ qs
    both e f = cc

    first : p ≡ q
    first =
        let left = All-head P p ps h in
        let right = All-head P q qs k in
        same_place p q (same_head (λ p. p.start) p q ps qs start)
        (ext_get_or 0 p.pre q.pre (left.0 ∙ sym right.0) (λ t less. same_head (λ p. pre_weight p t) p q ps qs
        (same t (subst (λ m. t < m) left.0 less)).0))
        (ext_get_or 0 p.post q.post (left.1 ∙ sym right.1) (λ t less. same_head (λ p. post_weight p t) p q ps qs
        (same t (subst (λ m. t < m) left.1 less)).1))

same_net : (a b : Net) → a.labels ≡ b.labels → a.places ≡ b.places → a ≡ b
same_net a b e f = λ i. record { labels = e i; places = f i }

few_printed : (n : ℕ) → n < 4294967296 → IsPrinted n
few_printed n h = omega arith

-- the last line tells the starts
told_starts : (q : List ℕ) (a b : Net) → AreLike a b
    → fed ((codes ".initial_marking " ++ set_text (112 ∷ q) (starts a)) ∷ [])
    ≡ fed ((codes ".initial_marking " ++ set_text (112 ∷ q) (starts b)) ∷ [])
    → starts a ≡ starts b
told_starts q a b like same =
    let long : length (starts a) ≡ length (starts b) = length-map a.places (λ p. p.start) ∙ like.long ∙ sym (length-map b.places (λ p. p.start)) in
    let few : IsPrinted (length (starts a)) = subst IsPrinted (sym (length-map a.places (λ p. p.start))) like.few in
    let whole : codes ".initial_marking " ++ (set_text (112 ∷ q) (starts a) ++ (10 ∷ []))
    ≡ codes ".initial_marking " ++ (set_text (112 ∷ q) (starts b) ++ (10 ∷ [])) = same in
    (told_set q (starts a) (starts b) (10 ∷ []) (10 ∷ []) long few (printed_starts a like.left) (printed_starts b like.right)
    (append_cancel_left (codes ".initial_marking ") _ _ whole)).0

-- what follows the lines with the places' names
abbrev after_places : List ℕ → Net → List (List ℕ) → List (List ℕ)
after_places prefix net names =
    names ++ codes ".flows" ∷ (flow_lines prefix net 0 names ++ (codes ".initial_marking " ++ set_text prefix (starts net)) ∷ [])

from_zero : (a b : Net) (n : ℕ) → HaveSameFlows a b 0 n → HaveSameWeights n a.places b.places
from_zero a b n same = λ t less. subst (λ u. (taken_by a u ≡ taken_by b u) × (put_by a u ≡ put_by b u)) (zero-add t) (same t less)

told_after : (q : List ℕ) (a b : Net) (names : List (List ℕ)) → AreLike a b → HaveWeights (length names) a.places
    → HaveWeights (length names) b.places
    → fed (after_places (112 ∷ q) a names) ≡ fed (after_places (112 ∷ q) b names) → a.places ≡ b.places
told_after q a b names like left right same =
    let named = sym (fed-append names _) ∙ same ∙ fed-append names _ in
    let flows_on = append_cancel_left (codes ".flows\n") _ _ (append_cancel_left (fed names) _ _ named) in
    let flows = told_flows q a b 0 names _ _ like flows_on in
    same_places (length names) a.places b.places left right (told_starts q a b like flows.1) (from_zero a b (length names) flows.0)

told_lines : (q : List ℕ) (a b : Net) (names : List (List ℕ)) → IsNetInRange a → IsNetInRange b → HaveWeights (length names) a.places
    → HaveWeights (length names) b.places
    → fed (net_lines (112 ∷ q) a names) ≡ fed (net_lines (112 ∷ q) b names) → a.places ≡ b.places
told_lines q a b names ra rb left right same =
    let counted = told_count q 0 (length a.places) (length b.places) _ (after_places (112 ∷ q) a names) (after_places (112 ∷ q) b names)
    (append_cancel_left (codes ".type PN\n.places\n") _ _ same) in
    let like : AreLike a b = record { long = counted.0; few = few_printed _ ra.few; left = ra.places; right = rb.places } in
    told_after q a b names like left right counted.1

pub told_net : (lts : System) (a b : Net) → a.labels ≡ labels lts → b.labels ≡ labels lts → IsNetInRange a → IsNetInRange b
    → net_text a lts ≡ net_text b lts → a ≡ b
told_net lts a b la lb ra rb same =
    let names = lts.label_names in
    let begins = prefix_begins names in
    let whole : fed (net_lines (112 ∷ begins.0) a names) ≡ fed (net_lines (112 ∷ begins.0) b names) =
    subst (λ p. fed (net_lines p a names) ≡ fed (net_lines p b names)) begins.1 same in
    same_net a b (la ∙ sym lb)
    (told_lines begins.0 a b names ra rb (subst (λ n. HaveWeights n a.places) la ra.weights)
    (subst (λ n. HaveWeights n b.places) lb rb.weights) whole)
