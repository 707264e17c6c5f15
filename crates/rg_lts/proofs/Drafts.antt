-- Each call of the builder keeps the draft well formed.
use Rattle.std.proofs.Common.{◌≡◌, ◌≢◌, ◌⊎◌, ◌↔◌, ℕ, ◌+◌, ◌<◌, ◌≤◌, List, [], ◌∷◌, ◌++◌, length, All, AllPairs, Contains, Option, None, Some, IfSome, Result, Err, slice_get, inl, inr, sym, subst, ◌∙◌, arith, length-append}
use Rattle.std.proofs.lemmas.List.Elements.{All-push, All-weaker, All-contains, All-contains_itself, Contains-get_or}
use Rattle.std.proofs.lemmas.Bool.{cases_order}
use Rattle.std.proofs.lemmas.Option.{slice_get_within, get_or_from_slice_get}
use Rattle.std.proofs.lemmas.List.Quantifiers.{all_pairs_push}
use Rattle.rg_text.specs.Byte.{IsName}
use Rattle.rg_theory.specs.declared.Arc.{Arc}
use Rattle.rg_theory.specs.System.{IsArcInRange, IsArcBefore}
use Rattle.rg_theory.specs.Limits.{most_states, most_labels, most_arcs}
use Rattle.rg_lts.specs.WellFormed.{AreNames, IsWellFormed}
use Rattle.rg_lts.specs.declared.fault.BuildFault.{BuildFault}
use Rattle.rg_lts.specs.declared.fault.BuildFault.TheVariants.{UnknownState, UnknownLabel, TooManyArcs, NoMemory}
use Rattle.rg_lts.specs.Draft.{Draft, finished, names_alone, IsWellFormedDraft, IsArcNamed, HasNames, LacksState, LacksLabel, IsArcOverLimit}

length-push : {X : Type 0} (xs : List X) (x : X) → length (xs ++ x ∷ []) ≡ length xs + 1
length-push xs x = length-append xs (x ∷ [])

pub names_push : (names : List (List ℕ)) (name : List ℕ) → AreNames names → IsName name → (Contains names name → ⊥) → AreNames (names ++ name ∷ [])
names_push names name are is absent = record {
  each = All-push IsName names name are.each is;
  differ = all_pairs_push (λ a b. a ≢ b) names name are.differ (λ k d lt same. absent (subst (Contains names) same (Contains-get_or names k d lt)));
}

-- a new state
pub state_push : (d : Draft) (name : List ℕ) → IsWellFormedDraft d → IsName name → (Contains d.state_names name → ⊥)
    → length d.state_names < most_states → IsWellFormedDraft (record d { state_names = d.state_names ++ name ∷ [] })
state_push d name fine is absent room =
    let longer = length-push d.state_names name in
    record {
      arcs = All-weaker (IsArcInRange (finished d 0)) (IsArcInRange (finished (record d { state_names = d.state_names ++ name ∷ [] }) 0))
          (λ a within. (omega (arith, within.0), within.1, omega (arith, within.2))) d.arcs fine.arcs;
      initial = initial d.initial fine.initial;
      state_names = names_push d.state_names name fine.state_names is absent;
      label_names = fine.label_names;
      arc_order = fine.arc_order;
      few_states = omega arith;
      few_labels = fine.few_labels;
      few_arcs = fine.few_arcs;
    }
  where
    initial : (o : Option ℕ) → IfSome o (λ s. s < length d.state_names) → IfSome o (λ s. s < length (d.state_names ++ name ∷ []))
    initial None h = tt
    initial (Some s) h = let longer = length-push d.state_names name in omega (arith, h)

-- a new label
pub label_push : (d : Draft) (name : List ℕ) → IsWellFormedDraft d → IsName name → (Contains d.label_names name → ⊥)
    → length d.label_names < most_labels → IsWellFormedDraft (record d { label_names = d.label_names ++ name ∷ [] })
label_push d name fine is absent room =
    let longer = length-push d.label_names name in
    record {
      arcs = All-weaker (IsArcInRange (finished d 0)) (IsArcInRange (finished (record d { label_names = d.label_names ++ name ∷ [] }) 0))
          (λ a within. (within.0, omega (arith, within.1), within.2)) d.arcs fine.arcs;
      initial = fine.initial;
      state_names = fine.state_names;
      label_names = names_push d.label_names name fine.label_names is absent;
      arc_order = fine.arc_order;
      few_states = fine.few_states;
      few_labels = omega arith;
      few_arcs = fine.few_arcs;
    }

-- all arcs in range, in order and few enough
pub arcs_set : (d : Draft) (arcs : List Arc) → IsWellFormedDraft d → All (IsArcInRange (finished d 0)) arcs → AllPairs IsArcBefore arcs
    → length arcs ≤ most_arcs → IsWellFormedDraft (record d { arcs = arcs })
arcs_set d arcs fine within order few = record {
  arcs = λ k a lt. (let at = within k a lt in (at.0, at.1, at.2));
  initial = fine.initial;
  state_names = fine.state_names;
  label_names = fine.label_names;
  arc_order = order;
  few_states = fine.few_states;
  few_labels = fine.few_labels;
  few_arcs = few;
}

-- the finished system
pub finished_fine : (d : Draft) (s : ℕ) → IsWellFormedDraft d → d.initial ≡ Some s → IsWellFormed (finished d s)
finished_fine d s fine is = record {
  in_range = record {
    initial = (let h = fine.initial in rw is at h);
    arcs = λ k a lt. (let at = fine.arcs k a lt in (at.0, at.1, at.2));
  };
  state_names = fine.state_names;
  label_names = fine.label_names;
  arc_order = fine.arc_order;
  few_states = fine.few_states;
  few_labels = fine.few_labels;
  few_arcs = fine.few_arcs;
}

-- a name stands at one index
pub one_index : (names : List (List ℕ)) (i j : ℕ) (name : List ℕ) → AllPairs (λ a b. a ≢ b) names → slice_get names i ≡ Some name
    → slice_get names j ≡ Some name → i ≡ j
one_index names i j name differ at too = go (cases_order i j)
  where
    go : (i ≡ j) ⊎ ((i < j) ⊎ (j < i)) → i ≡ j
    go (inl same) = same
    go (inr (inl l)) = absurd (differ i j name l (slice_get_within names j name too)
        (get_or_from_slice_get names i name name at ∙ sym (get_or_from_slice_get names j name name too)))
    go (inr (inr l)) = absurd (differ j i name l (slice_get_within names i name at)
        (get_or_from_slice_get names j name name too ∙ sym (get_or_from_slice_get names i name name at)))

pub there : (names : List (List ℕ)) (i : ℕ) (name : List ℕ) → slice_get names i ≡ Some name → Contains names name
there names i name at = (i, slice_get_within names i name at, get_or_from_slice_get names i name name at)

-- what the names say they say of the whole draft
pub named_in : (d : Draft) (source step target : List ℕ) (a : Arc) → IsArcNamed (names_alone d.state_names d.label_names) source step target a
    → IsArcNamed d source step target a
named_in d source step target a named = record { from = named.from; label = named.label; to = named.to }

pub named_there : (d : Draft) (source step target : List ℕ) (a : Arc) → IsArcNamed d source step target a → HasNames d source step target
named_there d source step target a named = record {
  from = there d.state_names a.from source named.from;
  label = there d.label_names a.label step named.label;
  to = there d.state_names a.to target named.to;
}

-- names that are there lack neither a state nor a label
pub has_states : (d : Draft) (source step target : List ℕ) → HasNames d source step target → LacksState d source step target → ⊥
has_states d source step target has (inl none) = none has.from
has_states d source step target has (inr (_, _, none)) = none has.to

pub has_label : (d : Draft) (source step target : List ℕ) → HasNames d source step target → LacksLabel d source step → ⊥
has_label d source step target has (_, none) = none has.label

-- the arc of three names is one
one_arc : (d : Draft) (source step target : List ℕ) (a b : Arc) → IsWellFormedDraft d → IsArcNamed d source step target a
    → IsArcNamed d source step target b → a ≡ b
one_arc d source step target a b fine named too =
    let from = one_index d.state_names a.from b.from source fine.state_names.differ named.from too.from in
    let label = one_index d.label_names a.label b.label step fine.label_names.differ named.label too.label in
    let to = one_index d.state_names a.to b.to target fine.state_names.differ named.to too.to in
    λ i. record { from = from i; label = label i; to = to i }

pub over_limit : (d : Draft) (source step target : List ℕ) (a : Arc) → IsWellFormedDraft d → IsArcNamed d source step target a
    → ((Contains d.arcs a → ⊥) × (most_arcs ≤ length d.arcs)) ↔ IsArcOverLimit d source step target
over_limit d source step target a fine named = (
  λ (new, full). record {
    names = named_there d source step target a named;
    new = λ b too has. new (subst (Contains d.arcs) (one_arc d source step target b a fine too named) has);
    limit = full;
  },
  λ over. (over.new a named, over.limit),
)

-- the arc's numbers are in range
pub named_in_range : (d : Draft) (source step target : List ℕ) (a : Arc) → IsArcNamed d source step target a → IsArcInRange (finished d 0) a
named_in_range d source step target a named = (
  slice_get_within d.state_names a.from source named.from,
  slice_get_within d.label_names a.label
      step named.label,
  slice_get_within d.state_names a.to target named.to,
)

-- all arcs are in range after one is added
pub added_in_range : (d : Draft) (arcs : List Arc) (a : Arc) → All (IsArcInRange (finished d 0)) d.arcs → IsArcInRange (finished d 0) a
    → ((b : Arc) → Contains arcs b ↔ (Contains d.arcs b ⊎ (b ≡ a))) → All (IsArcInRange (finished d 0)) arcs
added_in_range d arcs a fine within members = All-weaker (Contains arcs) (IsArcInRange (finished d 0)) (λ b has. at b ((members b).0 has)) arcs
    (All-contains_itself arcs)
  where
    at : (b : Arc) → Contains d.arcs b ⊎ (b ≡ a) → IsArcInRange (finished d 0) b
    at b (inl has) = All-contains (IsArcInRange (finished d 0)) d.arcs b fine has
    at b (inr same) = subst (IsArcInRange (finished d 0)) (sym same) within

-- a fault of names is none of room
pub lacks_no_limit : (d : Draft) (source step target : List ℕ) (f : BuildFault) → (f ≡ UnknownState → LacksState d source step target)
    → (f ≡ UnknownLabel → LacksLabel d source step)
    → (f ≡ UnknownState) ⊎ (f ≡ UnknownLabel) → (f ≡ TooManyArcs) ↔ IsArcOverLimit d source step target
lacks_no_limit d source step target f state label cause = (λ e. absurd (other cause e), λ over. absurd (named over cause))
  where
    other : (f ≡ UnknownState) ⊎ (f ≡ UnknownLabel) → f ≡ TooManyArcs → ⊥
    other (inl a) e = cc
    other (inr a) e = cc

    named : IsArcOverLimit d source step target → (f ≡ UnknownState) ⊎ (f ≡ UnknownLabel) → ⊥
    named over (inl a) = has_states d source step target over.names (state a)
    named over (inr a) = has_label d source step target over.names (label a)

-- a fault of room is none of names
pub limit_no_lack : (f : BuildFault) → (f ≡ TooManyArcs) ⊎ (f ≡ NoMemory) → f ≡ UnknownState → ⊥
limit_no_lack f (inl a) e = cc
limit_no_lack f (inr a) e = cc

-- an `Err` is by its fault
pub err_is : {T : Type 0} (f e : BuildFault) → ◌≡◌ {A = Result T BuildFault} (Err f) (Err e) → f ≡ e
err_is f e same = cc
