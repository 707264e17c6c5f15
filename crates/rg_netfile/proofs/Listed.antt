-- Sets of places as lists of their members: how a list grows, and its text.
use Rattle.std.proofs.Common.{◌≡◌, ℕ, zero, suc, ◌+◌, ◌<◌, ◌==◌, Bool, true, false, List, [], ◌∷◌, ◌++◌, length, take, get_or, codes, refl, sym, ap, ap₂, ◌∙◌, arith, append_assoc, append-nil}
use Rattle.rg_net.specs.NetText.{member_text, comma_if, members_text, set_text}
use Rattle.rg_netfile.specs.declared.flows.WeightedPlace.{WeightedPlace}
use Rattle.rg_netfile.specs.ListedSets.{member_if, members_from, members_of}

-- the text of members that are listed, and the closing brace
abbrev pub listed_text : List ℕ → Bool → List WeightedPlace → List ℕ
listed_text prefix later [] = codes "}"
listed_text prefix later (m ∷ ms) = comma_if later ++ (member_text prefix m.place m.weight ++ listed_text prefix true ms)

-- it is the text of their weights
pub listed_members : (prefix : List ℕ) (later : Bool) (i : ℕ) (weights : List ℕ) → listed_text prefix later (members_from i weights) ≡ members_text prefix later i weights
listed_members prefix later i [] = refl
listed_members prefix later i (w ∷ ws) = by (w == 0) refl (λ l. listed_members prefix l (i + 1) ws)
  where
    by : (b : Bool) → (w == 0) ≡ b → ((l : Bool) → listed_text prefix l (members_from (i + 1) ws) ≡ members_text prefix l (i + 1) ws)
        → listed_text prefix later (members_from i (w ∷ ws)) ≡ members_text prefix later i (w ∷ ws)
    by true e more = rw e (more later)
    by false e more = rw e (ap (λ l. comma_if later ++ (member_text prefix i w ++ l)) (more true))

pub listed_set : (prefix : List ℕ) (members : List WeightedPlace) (weights : List ℕ) → members ≡ members_of weights → codes "{" ++ listed_text prefix false members ≡ set_text prefix weights
listed_set prefix members weights e = ap (λ ms. codes "{" ++ listed_text prefix false ms) e ∙ ap (λ l. codes "{" ++ l) (listed_members prefix false 0 weights)

-- the next place joins the list
members_grow : (k : ℕ) (weights : List ℕ) (i n : ℕ) → n ≡ k + i → i < length weights
    → members_from k (take i weights) ++ member_if n (get_or weights i 0) ≡ members_from k (take (suc i) weights)
members_grow k [] i n e lt = absurd (omega arith)
members_grow k (w ∷ ws) zero n e lt = (let same : n ≡ k = omega arith in ap (λ m. member_if m w) same) ∙ sym (append-nil (member_if k w))
members_grow k (w ∷ ws) (suc i) n e lt =
    append_assoc (member_if k w) (members_from (k + 1) (take i ws)) (member_if n (get_or ws i 0))
    ∙ ap (λ l. member_if k w ++ l) (members_grow (k + 1) ws i n (omega arith) (omega arith))

pub members_next : (weights : List ℕ) (i w : ℕ) (set grown : List WeightedPlace) → i < length weights → w ≡ get_or weights i 0
    → set ≡ members_of (take i weights) → grown ≡ set ++ member_if i w → grown ≡ members_of (take (i + 1) weights)
members_next weights i w set grown lt is so_far more =
    let next : suc i ≡ i + 1 = omega arith in
    more ∙ ap₂ (λ l n. l ++ member_if i n) so_far is ∙ members_grow 0 weights i i (omega arith) lt ∙ ap (λ n. members_of (take n weights)) next
