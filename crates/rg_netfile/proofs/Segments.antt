-- Members and flows one after the other.
use Rattle.std.proofs.Common.{◌≡◌, ℕ, ◌+◌, ◌<◌, List, [], ◌∷◌, ◌++◌, length, get_or, take, drop, map, sym, ap, subst, ◌∙◌}
use Rattle.std.specs.List.{flat_map}
use Rattle.std.proofs.lemmas.List.{drop_more, take-append-drop, map-append, append-nil}
use Rattle.std.proofs.lemmas.List.Concat.{flat_map-cons}
use Rattle.std.proofs.lemmas.Grind.{flat_map-append}
use Rattle.rg_theory.specs.Net.{Net}
use Rattle.rg_text.proofs.Left.{before_is}
use Rattle.rg_netfile.specs.declared.fault.NetFault.{NetFault}
use Rattle.rg_netfile.specs.Contents.{Step}
use Rattle.rg_netfile.specs.Built.{KnownNames, Passes, Stops}
use Rattle.rg_netfile.proofs.Steps.{passes_both, stops_sooner, stops_later}

-- a list at a thing of it
split_at : {X Y : Type 0} (f : X → Y) (xs : List X) (i : ℕ) (x : X) → i < length xs → x ≡ get_or xs i x
    → map f xs ≡ map f (take i xs) ++ f x ∷ map f (drop (i + 1) xs)
split_at f xs i x lt is =
    ap (map f) (sym (take-append-drop i xs)) ∙ map-append f (take i xs) (drop i xs)
    ∙ ap (λ l. map f (take i xs) ++ map f l) (drop_more xs i x lt ∙ ap (λ t. t ∷ drop (i + 1) xs) (sym is))

-- things of which each is a step
pub one_passes : {X Y : Type 0} (k : KnownNames) (step : Y → Step) (f : X → Y) (xs : List X) (i : ℕ) (x : X) (old mid new : Net) → i < length xs → x ≡ get_or xs i x
    → Passes k (map step (map f (take i xs))) old mid → Passes k (step (f x) ∷ []) mid new → Passes k (map step (map f (take (i + 1) xs))) old new
one_passes k step f xs i x old mid new lt is p q =
    subst (λ l. Passes k l old new) (sym (ap (map step) (before_is f xs i x lt is) ∙ map-append step (map f (take i xs)) (f x ∷ [])))
    (passes_both k (map step (map f (take i xs))) (step (f x) ∷ []) old mid new p q)

pub one_stops : {X Y : Type 0} (k : KnownNames) (step : Y → Step) (f : X → Y) (xs : List X) (i : ℕ) (x : X) (old mid : Net) (fault : NetFault) → i < length xs → x ≡ get_or xs i x
    → Passes k (map step (map f (take i xs))) old mid → Stops k (step (f x) ∷ []) mid fault → Stops k (map step (map f xs)) old fault
one_stops k step f xs i x old mid fault lt is p s =
    subst (λ l. Stops k l old fault)
    (sym (ap (map step) (split_at f xs i x lt is) ∙ map-append step (map f (take i xs)) (f x ∷ map f (drop (i + 1) xs))))
    (stops_later k (map step (map f (take i xs))) (step (f x) ∷ map step (map f (drop (i + 1) xs))) old mid fault p
    (stops_sooner k (step (f x) ∷ []) (map step (map f (drop (i + 1) xs))) mid fault s))

-- things of which each has its steps
pub some_pass : {X Y : Type 0} (k : KnownNames) (steps : Y → List Step) (f : X → Y) (xs : List X) (i : ℕ) (x : X) (old mid new : Net) → i < length xs → x ≡ get_or xs i x
    → Passes k (flat_map steps (map f (take i xs))) old mid → Passes k (steps (f x)) mid new → Passes k (flat_map steps (map f (take (i + 1) xs))) old new
some_pass k steps f xs i x old mid new lt is p q =
    subst (λ l. Passes k l old new)
    (sym (ap (flat_map steps) (before_is f xs i x lt is) ∙ flat_map-append steps (map f (take i xs)) (f x ∷ [])
    ∙ ap (λ l. flat_map steps (map f (take i xs)) ++ l) (flat_map-cons steps (f x) [] ∙ append-nil (steps (f x)))))
    (passes_both k (flat_map steps (map f (take i xs))) (steps (f x)) old mid new p q)

pub some_stop : {X Y : Type 0} (k : KnownNames) (steps : Y → List Step) (f : X → Y) (xs : List X) (i : ℕ) (x : X) (old mid : Net) (fault : NetFault) → i < length xs → x ≡ get_or xs i x
    → Passes k (flat_map steps (map f (take i xs))) old mid → Stops k (steps (f x)) mid fault → Stops k (flat_map steps (map f xs)) old fault
some_stop k steps f xs i x old mid fault lt is p s =
    subst (λ l. Stops k l old fault)
    (sym (ap (flat_map steps) (split_at f xs i x lt is) ∙ flat_map-append steps (map f (take i xs)) (f x ∷ map f (drop (i + 1) xs))
    ∙ ap (λ l. flat_map steps (map f (take i xs)) ++ l) (flat_map-cons steps (f x) (map f (drop (i + 1) xs)))))
    (stops_later k (flat_map steps (map f (take i xs))) (steps (f x) ++ flat_map steps (map f (drop (i + 1) xs))) old mid fault p
    (stops_sooner k (steps (f x)) (flat_map steps (map f (drop (i + 1) xs))) mid fault s))
