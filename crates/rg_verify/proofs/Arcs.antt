-- A binary search finds each arc of a list of arcs in order, and no other.
use Rattle.std.proofs.Common.{◌≡◌, ◌↔◌, ◌⊎◌, ℕ, ◌<◌, ◌≤◌, Bool, List, length, slice_index_or, slice_get, Option, Some, None, is_some, IfSome, IfNone, Result, Ok, Err, is_ok, Contains, AllPairs, IsTrue, true≢false, inl, inr, refl, sym, subst, ap, ◌∙◌, arith, Ordering, Less, Equal, Greater}
use Rattle.std.specs.Ordering.{nat_cmp, ordering_then, ordering_index}
use Rattle.std.specs.List.Sorted.{IsBinarySearchResult, IsSearchInRange, IsNonDecreasingBy}
use Rattle.std.proofs.lemmas.Bool.{cases_order}
use Rattle.std.proofs.lemmas.Option.{slice_get-get_or}
use Rattle.rg_theory.specs.declared.Arc.{Arc}
use Rattle.rg_theory.specs.System.{System, IsArcBefore, HasArc}
use Rattle.rg_cert_meaning.specs.Row.{HasArcAt}
use Rattle.rg_lts.proofs.OrderedArcs.{before_trans as trans}
use Rattle.rg_lts.proofs.ArcSets.{at_less, at_equal, at_greater}

-- by from, label and to
abbrev arc_cmp : Arc → Arc → Ordering
arc_cmp x y = ordering_then (nat_cmp x.from y.from) (ordering_then (nat_cmp x.label y.label) (nat_cmp x.to y.to))

-- a tie is decided by the next comparison
tied : (a b : ℕ) (o : Ordering) → a ≡ b → ordering_then (nat_cmp a b) o ≡ o
tied a b o e = ap (λ z. ordering_then z o) (at_equal a b e)

before_less : (x y : Arc) → IsArcBefore x y → arc_cmp x y ≡ Less
before_less x y (inl p) = ap (λ z. ordering_then z (ordering_then (nat_cmp x.label y.label) (nat_cmp x.to y.to))) (at_less x.from y.from p)
before_less x y (inr (e, inl p)) = tied x.from y.from _ e ∙ ap (λ z. ordering_then z (nat_cmp x.to y.to)) (at_less x.label y.label p)
before_less x y (inr (e, inr (f, p))) = tied x.from y.from _ e ∙ tied x.label y.label _ f ∙ at_less x.to y.to p

after_greater : (x y : Arc) → IsArcBefore y x → arc_cmp x y ≡ Greater
after_greater x y (inl p) = ap (λ z. ordering_then z (ordering_then (nat_cmp x.label y.label) (nat_cmp x.to y.to))) (at_greater x.from y.from p)
after_greater x y (inr (e, inl p)) = tied x.from y.from _ (sym e) ∙ ap (λ z. ordering_then z (nat_cmp x.to y.to)) (at_greater x.label y.label p)
after_greater x y (inr (e, inr (f, p))) = tied x.from y.from _ (sym e) ∙ tied x.label y.label _ (sym f) ∙ at_greater x.to y.to p

same_equal : (x : Arc) → arc_cmp x x ≡ Equal
same_equal x = tied x.from x.from _ refl ∙ tied x.label x.label _ refl ∙ at_equal x.to x.to refl

-- two arcs are the same, or one comes before the other
in_order : (x y : Arc) → IsArcBefore x y ⊎ ((x ≡ y) ⊎ IsArcBefore y x)
in_order x y = by_from (cases_order x.from y.from)
  where
    by_to : x.from ≡ y.from → x.label ≡ y.label → (x.to ≡ y.to) ⊎ ((x.to < y.to) ⊎ (y.to < x.to)) → IsArcBefore x y ⊎ ((x ≡ y) ⊎ IsArcBefore y x)
    by_to e f (inl g) = inr (inl (λ i. record { from = e i; label = f i; to = g i }))
    by_to e f (inr (inl p)) = inl (inr (e, inr (f, p)))
    by_to e f (inr (inr p)) = inr (inr (inr (sym e, inr (sym f, p))))

    by_label : x.from ≡ y.from → (x.label ≡ y.label) ⊎ ((x.label < y.label) ⊎ (y.label < x.label)) → IsArcBefore x y ⊎ ((x ≡ y) ⊎ IsArcBefore y x)
    by_label e (inl f) = by_to e f (cases_order x.to y.to)
    by_label e (inr (inl p)) = inl (inr (e, inl p))
    by_label e (inr (inr p)) = inr (inr (inr (sym e, inl p)))

    by_from : (x.from ≡ y.from) ⊎ ((x.from < y.from) ⊎ (y.from < x.from)) → IsArcBefore x y ⊎ ((x ≡ y) ⊎ IsArcBefore y x)
    by_from (inl e) = by_label e (cases_order x.label y.label)
    by_from (inr (inl p)) = inl (inl p)
    by_from (inr (inr p)) = inr (inr (inl p))

-- the answers rise along arcs in order
index_most : (o : Ordering) → ordering_index o ≤ 2
index_most Less = omega arith
index_most Equal = omega arith
index_most Greater = omega arith

rises : (a b x : Arc) → IsArcBefore a b → ordering_index (arc_cmp a x) ≤ ordering_index (arc_cmp b x)
rises a b x before = by (in_order b x)
  where
    least : IsArcBefore a x → ordering_index (arc_cmp a x) ≤ ordering_index (arc_cmp b x)
    least l = let e = ap ordering_index (before_less a x l) in omega arith

    by : IsArcBefore b x ⊎ ((b ≡ x) ⊎ IsArcBefore x b) → ordering_index (arc_cmp a x) ≤ ordering_index (arc_cmp b x)
    by (inl l) = least (trans a b x before l)
    by (inr (inl e)) = least (subst (IsArcBefore a) e before)
    by (inr (inr l)) = let e = ap ordering_index (after_greater b x l) in let m = index_most (arc_cmp a x) in omega arith

all_rise : (arcs : List Arc) (x : Arc) → AllPairs IsArcBefore arcs → IsNonDecreasingBy (λ y. ordering_index (arc_cmp y x)) arcs
all_rise arcs x order i j d le lt = by (cases_order i j)
  where
    by : (i ≡ j) ⊎ ((i < j) ⊎ (j < i)) → ordering_index (arc_cmp (slice_index_or arcs i d) x) ≤ ordering_index (arc_cmp (slice_index_or arcs j d) x)
    by (inl e) = let f = ap (λ k. ordering_index (arc_cmp (slice_index_or arcs k d) x)) e in omega arith
    by (inr (inl l)) = rises (slice_index_or arcs i d) (slice_index_or arcs j d) x (order i j d l lt)
    by (inr (inr l)) = absurd (omega arith)

equal_is : (y x : Arc) → arc_cmp y x ≡ Equal → y ≡ x
equal_is y x e = by (in_order y x)
  where
    by : IsArcBefore y x ⊎ ((y ≡ x) ⊎ IsArcBefore x y) → y ≡ x
    by (inl l) = let f = before_less y x l in absurd cc
    by (inr (inl same)) = same
    by (inr (inr l)) = let f = after_greater y x l in absurd cc

-- what a binary search among arcs in order tells
pub found_at : (arcs : List Arc) (x : Arc) (i : ℕ) → i < length arcs → IsBinarySearchResult (λ y. arc_cmp y x) arcs (Ok i) → slice_get arcs i ≡ Some x
found_at arcs x i within told = slice_get-get_or arcs i x within ∙ ap (λ a. Some a) (equal_is (slice_index_or arcs i x) x (told x))

pub not_there : (arcs : List Arc) (x : Arc) (i : ℕ) → AllPairs IsArcBefore arcs → IsBinarySearchResult (λ y. arc_cmp y x) arcs (Err i) → Contains arcs x → ⊥
not_there arcs x i order told (k, lt, at) = by (cases_order k i)
  where
    here : arc_cmp (slice_index_or arcs k x) x ≡ Equal
    here = ap (λ y. arc_cmp y x) at ∙ same_equal x

    by : (k ≡ i) ⊎ ((k < i) ⊎ (i < k)) → ⊥
    by (inl e) = let g = here in let f = (told (all_rise arcs x order)).1 k x (omega arith) lt in absurd cc
    by (inr (inl l)) = let g = here in let f = (told (all_rise arcs x order)).0 k x (omega arith) l in absurd cc
    by (inr (inr l)) = let g = here in let f = (told (all_rise arcs x order)).1 k x (omega arith) lt in absurd cc

pub found_iff : (arcs : List Arc) (x : Arc) (r : Result ℕ ℕ) (b : Bool) → AllPairs IsArcBefore arcs → IsSearchInRange r (length arcs) → IsBinarySearchResult (λ y. arc_cmp y x) arcs r → b ≡ is_ok r
    → IsTrue b ↔ Contains arcs x
found_iff arcs x (Ok i) b order within told is = ((λ t. (i, within, equal_is (slice_index_or arcs i x) x (told x))), (λ has. is))
found_iff arcs x (Err i) b order within told is = ((λ t. absurd (true≢false (sym t ∙ is))), (λ has. absurd (not_there arcs x i order told has)))

-- a first target is there exactly where some arc begins
pub at_iff : (lts : System) (q t : ℕ) (o : Option ℕ) (b : Bool) → IfSome o (λ to. HasArc lts q t to) → IfNone o ((to : ℕ) → HasArc lts q t to → ⊥) → b ≡ is_some o → IsTrue b ↔ HasArcAt lts q t
at_iff lts q t (Some to) b found none is = ((λ e. (to, found)), (λ has. is))
at_iff lts q t None b found none is = ((λ e. absurd (true≢false (sym e ∙ is))), (λ (to, has). absurd (none to has)))
