-- What is declared without a fault has a system.
use Rattle.std.proofs.Common.{◌≡◌, ◌≢◌, ℕ, zero, suc, ◌<◌, ◌⊎◌, inl, inr, ⊎_elim, Bool, true, false, cond, not, ◌&&◌, ◌||◌, nat_lt, nat_le, List, [], ◌∷◌, ◌++◌, length, get_or, slice_get, map, Option, None, Some, refl, sym, ap, subst, ◌∙◌, arith}
use Rattle.std.specs.List.{list_any, position_or_len}
use Rattle.std.specs.Str.{bytes_eq}
use Rattle.std.proofs.lemmas.Bool.{or_cases, or_parts, cond-true, lt-ltb, both_ways}
use Rattle.std.proofs.lemmas.Slice.Eq.{bytes_eq-Decides}
use Rattle.rg_theory.specs.Limits.{most_states, most_labels, most_arcs}
use Rattle.rg_theory.specs.declared.Arc.{Arc}
use Rattle.rg_theory.specs.System.{System}
use Rattle.rg_lts.proofs.OrderedArcs.{Has, has_from, contains_from, sorted_of, pairs_from}
use Rattle.rg_lexer.specs.Lexeme.{Lexeme}
use Rattle.rg_apt.specs.declared.fault.TextFault.{TextFault}
use Rattle.rg_apt.specs.declared.fault.TextFault.TheVariants.{NoType, TwiceState, TwiceLabel, UnknownState, UnknownLabel, TwoInitial, NoInitial, TooManyStates, TooManyLabels, TooManyArcs}
use Rattle.rg_text.specs.Faults.{faults_after, if_not, AreNone}
use Rattle.rg_apt.specs.Contents.{StateEntry, ArcNames, Declared, faults, state_fault, label_fault, arc_fault, is_state, is_label, same_text, same_arc, different, IsSystemOf}

-- a list without faults, in parts
none_both : (xs ys : List (Option TextFault)) → AreNone (xs ++ ys) → AreNone xs × AreNone ys
none_both [] ys none = (tt, none)
none_both (None ∷ xs) ys none = none_both xs ys none
none_both (Some f ∷ xs) ys none = absurd none

pub none_head : (o : Option TextFault) (more : List (Option TextFault)) → AreNone (o ∷ more) → (o ≡ None) × AreNone more
none_head None more none = (refl, none)
none_head (Some f) more none = absurd none

-- a name has a number, where it is among the names
pub numbered : {X : Type 0} (text : X → List ℕ) (name : List ℕ) (xs : List X) → list_any (λ x. bytes_eq name (text x)) xs ≡ true → (i : ℕ) × (slice_get (map text xs) i ≡ Some name)
numbered text name [] e = absurd cc
numbered text name (x ∷ xs) e =
    ⊎_elim (λ here. (zero, ap Some (sym ((bytes_eq-Decides name (text x)).0 here))))
    (λ later. let more = numbered text name xs later in (suc more.0, more.1))
    (or_cases (bytes_eq name (text x)) (list_any (λ x. bytes_eq name (text x)) xs) e)

-- an entry that came before has another name
abbrev pub Among : {X : Type 0} → X → List X → Type 0
Among x [] = ⊥
Among x (y ∷ ys) = (y ≡ x) ⊎ Among x ys

pub among-append : {X : Type 0} (x : X) (ys zs : List X) → Among x ys → Among x (ys ++ zs)
among-append x [] zs h = absurd h
among-append x (y ∷ ys) zs (inl e) = inl e
among-append x (y ∷ ys) zs (inr h) = inr (among-append x ys zs h)

pub among-last : {X : Type 0} (x : X) (ys : List X) → Among x (ys ++ x ∷ [])
among-last x [] = inl refl
among-last x (y ∷ ys) = inr (among-last x ys)

other_name : {X : Type 0} (text : X → List ℕ) (x b : X) (before : List X) → list_any (λ b. bytes_eq (text x) (text b)) before ≡ false → Among b before → text x ≢ text b
other_name text x b [] none h = absurd h
other_name text x b (c ∷ before) none (inl e) =
    let parts = or_parts (bytes_eq (text x) (text c)) (list_any (λ b. bytes_eq (text x) (text b)) before) none in
    λ same. both_ways (bytes_eq (text x) (text c)) parts.0 ((bytes_eq-Decides (text x) (text c)).1 (same ∙ ap text (sym e)))
other_name text x b (c ∷ before) none (inr h) =
    let parts = or_parts (bytes_eq (text x) (text c)) (list_any (λ b. bytes_eq (text x) (text b)) before) none in
    other_name text x b before parts.1 h

-- an entry is fresh, where its fault is none
abbrev pub IsFresh : {X : Type 0} → (X → List ℕ) → (List X → X → Option TextFault) → Type 0
IsFresh {X} text fault = (before : List X) (x : X) → fault before x ≡ None → list_any (λ b. bytes_eq (text x) (text b)) before ≡ false

later_differs : {X : Type 0} (text : X → List ℕ) (fault : List X → X → Option TextFault) → IsFresh text fault → (before : List X) (b : X) (more : List X) → Among b before
    → AreNone (faults_after fault before more) → (k : ℕ) → slice_get (map text more) k ≡ Some (text b) → ⊥
later_differs text fault fresh before b [] among none k at = absurd cc
later_differs text fault fresh before b (x ∷ more) among none zero at =
    let head = none_head (fault before x) (faults_after fault (before ++ x ∷ []) more) none in
    let same : text x ≡ text b = cc in
    other_name text x b before (fresh before x head.0) among same
later_differs text fault fresh before b (x ∷ more) among none (suc k) at =
    let head = none_head (fault before x) (faults_after fault (before ++ x ∷ []) more) none in
    later_differs text fault fresh (before ++ x ∷ []) b more (among-append b before (x ∷ []) among) head.1 k at

-- one number for a name
pub one_number : {X : Type 0} (text : X → List ℕ) (fault : List X → X → Option TextFault) → IsFresh text fault → (before xs : List X) → AreNone (faults_after fault before xs)
    → (name : List ℕ) (i j : ℕ) → slice_get (map text xs) i ≡ Some name → slice_get (map text xs) j ≡ Some name → i ≡ j
one_number text fault fresh before [] none name i j at at' = absurd cc
one_number text fault fresh before (x ∷ xs) none name zero zero at at' = refl
one_number text fault fresh before (x ∷ xs) none name zero (suc j) at at' =
    let head = none_head (fault before x) (faults_after fault (before ++ x ∷ []) xs) none in
    absurd (later_differs text fault fresh (before ++ x ∷ []) x xs (among-last x before) head.1 j (at' ∙ sym at))
one_number text fault fresh before (x ∷ xs) none name (suc i) zero at at' =
    let head = none_head (fault before x) (faults_after fault (before ++ x ∷ []) xs) none in
    absurd (later_differs text fault fresh (before ++ x ∷ []) x xs (among-last x before) head.1 i (at ∙ sym at'))
one_number text fault fresh before (x ∷ xs) none name (suc i) (suc j) at at' =
    let head = none_head (fault before x) (faults_after fault (before ++ x ∷ []) xs) none in
    ap suc (one_number text fault fresh (before ++ x ∷ []) xs head.1 name i j at at')

pub state_fresh : IsFresh (λ (e : StateEntry Lexeme). e.name.text) state_fault
state_fresh before x none = by (list_any (λ (b : StateEntry Lexeme). same_text x.name b.name) before) refl none
  where
    by : (t : Bool) → list_any (λ (b : StateEntry Lexeme). same_text x.name b.name) before ≡ t
        → cond t (Some (TwiceState x.name.at)) (cond (nat_le most_states (length before)) (Some (TooManyStates x.name.at))
        (cond (x.initial && list_any (λ (b : StateEntry Lexeme). b.initial) before) (Some (TwoInitial x.name.at)) None)) ≡ None
        → list_any (λ (b : StateEntry Lexeme). same_text x.name b.name) before ≡ false
    by true e none = absurd cc
    by false e none = e

pub label_fresh : IsFresh (λ (x : Lexeme). x.text) label_fault
label_fresh before x none = by (list_any (same_text x) before) refl none
  where
    by : (t : Bool) → list_any (same_text x) before ≡ t
        → cond t (Some (TwiceLabel x.at)) (cond (nat_le most_labels (length before)) (Some (TooManyLabels x.at)) None) ≡ None → list_any (same_text x) before ≡ false
    by true e none = absurd cc
    by false e none = e

-- the names of a triple without a fault are known
pub record Known (d : Declared) (a : ArcNames Lexeme) : Type 0 where
  pub from : is_state d a.from ≡ true
  pub label : is_label d a.label ≡ true
  pub to : is_state d a.to ≡ true

pub known : (d : Declared) (before : List (ArcNames Lexeme)) (a : ArcNames Lexeme) → arc_fault d before a ≡ None → Known d a
known d before a none = by (is_state d a.from) (is_label d a.label) (is_state d a.to) refl refl refl none
  where
    rest : Option TextFault
    rest = cond (nat_le most_arcs (different before) && not (list_any (same_arc a) before)) (Some (TooManyArcs a.from.at)) None

    by : (x y z : Bool) → is_state d a.from ≡ x → is_label d a.label ≡ y → is_state d a.to ≡ z
        → cond (not x) (Some (UnknownState a.from.at)) (cond (not y) (Some (UnknownLabel a.label.at)) (cond (not z) (Some (UnknownState a.to.at))
        (cond (nat_le most_arcs (different before) && not (list_any (same_arc a) before)) (Some (TooManyArcs a.from.at)) None))) ≡ None → Known d a
    by true true true e f g none = record { from = e; label = f; to = g }
    by false y z e f g none = absurd cc
    by true false z e f g none = absurd cc
    by true true false e f g none = absurd cc

-- the numbers of the names
abbrev state_names : Declared → List (List ℕ)
state_names d = map (λ (e : StateEntry Lexeme). e.name.text) d.states

abbrev label_names : Declared → List (List ℕ)
label_names d = map (λ (x : Lexeme). x.text) d.labels

abbrev Names : Declared → Arc → ArcNames Lexeme → Type 0
Names d n a = (slice_get (state_names d) n.from ≡ Some a.from.text) × (slice_get (label_names d) n.label ≡ Some a.label.text) × (slice_get (state_names d) n.to ≡ Some a.to.text)

pub arc_of : (d : Declared) (a : ArcNames Lexeme) → Known d a → (n : Arc) × Names d n a
arc_of d a k =
    let from = numbered (λ (e : StateEntry Lexeme). e.name.text) a.from.text d.states k.from in
    let label = numbered (λ (x : Lexeme). x.text) a.label.text d.labels k.label in
    let to = numbered (λ (e : StateEntry Lexeme). e.name.text) a.to.text d.states k.to in
    (record { from = from.0; label = label.0; to = to.0 }, (from.1, label.1, to.1))

-- the arcs of the triples
pub record ArcsOf (d : Declared) (names : List (ArcNames Lexeme)) (arcs : List Arc) : Type 0 where
  pub named : (n : Arc) → Has arcs n → (a : ArcNames Lexeme) × Among a names × Names d n a
  pub all : (a : ArcNames Lexeme) → Among a names → (n : Arc) × Has arcs n × Names d n a

pub arcs_of : (d : Declared) (before names : List (ArcNames Lexeme)) → AreNone (faults_after (arc_fault d) before names) → (arcs : List Arc) × ArcsOf d names arcs
arcs_of d before [] none = ([], record { named = λ n h. absurd h; all = λ a h. absurd h })
arcs_of d before (a ∷ names) none =
    let head = none_head (arc_fault d before a) (faults_after (arc_fault d) (before ++ a ∷ []) names) none in
    let one = arc_of d a (known d before a head.0) in
    let more = arcs_of d (before ++ a ∷ []) names head.1 in (
      one.0 ∷ more.0,
      record {
        named = λ n h. ⊎_elim (λ e. (a, inl refl, subst (λ m. Names d m a) e one.1)) (λ later. let r = more.1.named n later in (r.0, inr r.1, r.2)) h;
        all = λ b h. ⊎_elim (λ e. (one.0, inl refl, subst (Names d one.0) e one.1)) (λ later. let r = more.1.all b later in (r.0, inr r.1, r.2)) h;
      },
    )

-- the marked state has a number
pub marked_within : {X : Type 0} (p : X → Bool) (xs : List X) → list_any p xs ≡ true → position_or_len p xs < length xs
marked_within p [] e = absurd cc
marked_within p (x ∷ xs) e = by (p x) refl e (marked_within p xs)
  where
    by : (b : Bool) → p x ≡ b → (b || list_any p xs) ≡ true → (list_any p xs ≡ true → position_or_len p xs < length xs) → position_or_len p (x ∷ xs) < length (x ∷ xs)
    by true h e more = rw h (omega arith)
    by false h e more = let lt = more e in rw h (omega arith)

-- a member by its position, and by recursion
pub among_at : {X : Type 0} (xs : List X) (k : ℕ) (x : X) → k < length xs → get_or xs k x ≡ x → Among x xs
among_at [] k x lt e = absurd (omega arith)
among_at (y ∷ xs) zero x lt e = inl e
among_at (y ∷ xs) (suc k) x lt e = inr (among_at xs k x (omega arith) e)

pub index_of : {X : Type 0} (xs : List X) (x : X) → Among x xs → (k : ℕ) × (k < length xs) × (get_or xs k x ≡ x)
index_of [] x h = absurd h
index_of (y ∷ xs) x (inl e) = (zero, omega arith, e)
index_of (y ∷ xs) x (inr h) = let r = index_of xs x h in (suc r.0, omega (arith, r.1), r.2)

-- the parts of a list without faults
pub record Faultless (d : Declared) : Type 0 where
  pub states : AreNone (faults_after state_fault [] d.states)
  pub labels : AreNone (faults_after label_fault [] d.labels)
  pub arcs : AreNone (faults_after (arc_fault d) [] d.arcs)
  pub initial : list_any (λ (e : StateEntry Lexeme). e.initial) d.states ≡ true

pub faultless : (d : Declared) → AreNone (faults d) → Faultless d
faultless d none =
    let a = if_not d.typed NoType in
    let b = faults_after state_fault [] d.states in
    let c = faults_after label_fault [] d.labels in
    let e = faults_after (arc_fault d) [] d.arcs in
    let f = if_not (list_any (λ (e : StateEntry Lexeme). e.initial) d.states) NoInitial in
    let last = none_both (a ++ b ++ c ++ e) f none in
    let third = none_both (a ++ b ++ c) e last.0 in
    let second = none_both (a ++ b) c third.0 in
    let first = none_both a b second.0 in
    record { states = first.1; labels = second.1; arcs = third.1; initial = marked (list_any (λ (e : StateEntry Lexeme). e.initial) d.states) last.1 }
  where
    marked : (b : Bool) → AreNone (if_not b NoInitial) → b ≡ true
    marked true none = refl
    marked false none = absurd none

same_arc_names : (d : Declared) → Faultless d → (m n : Arc) (a : ArcNames Lexeme) → Names d m a → Names d n a → m ≡ n
same_arc_names d none m n a x y =
    let from = one_number (λ (e : StateEntry Lexeme). e.name.text) state_fault state_fresh [] d.states none.states a.from.text m.from n.from x.0 y.0 in
    let label = one_number (λ (e : Lexeme). e.text) label_fault label_fresh [] d.labels none.labels a.label.text m.label n.label x.1 y.1 in
    let to = one_number (λ (e : StateEntry Lexeme). e.name.text) state_fault state_fresh [] d.states none.states a.to.text m.to n.to x.2 y.2 in
    λ i. record { from = from i; label = label i; to = to i }

pub system_exists : (d : Declared) → AreNone (faults d) → (lts : System) × IsSystemOf d lts
system_exists d none =
    let parts = faultless d none in
    let numbers = arcs_of d [] d.arcs parts.arcs in
    let sorted = sorted_of numbers.0 in
    let mark : StateEntry Lexeme → Bool = λ e. e.initial in
    let initial = position_or_len mark d.states in
    let lts : System = record { state_names = state_names d; label_names = label_names d; arcs = sorted.0; initial = initial } in (
      lts,
      record {
        state_names = refl;
        label_names = refl;
        initial = cond-true (nat_lt initial (length d.states)) (Some initial) None (lt-ltb initial (length d.states) (marked_within mark d.states parts.initial));
        arcs = λ n. (
          λ c. let r = numbers.1.named n (sorted.1.to n (has_from sorted.0 n c)) in let at = index_of d.arcs r.0 r.1 in (at.0, r.0, at.1, at.2, r.2),
          λ any. let r = numbers.1.all any.1 (among_at d.arcs any.0 any.1 any.2 any.3) in
              contains_from sorted.0 n (sorted.1.from n (subst (Has numbers.0) (same_arc_names d parts r.0 n any.1 r.2 any.4) r.1)),
        );
        in_order = pairs_from sorted.0 sorted.1.ordered;
      },
    )
