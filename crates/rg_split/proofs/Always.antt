-- The rounds always come to something, and each of them keeps the file's system.
use Rattle.std.proofs.Common.{◌≡◌, ℕ, zero, suc, ◌+◌, ◌-◌, ◌<◌, List, [], ◌∷◌, ◌++◌, length, get_or, map, slice_get, Option, Some, Contains, refl, sym, ap, subst, ◌∙◌, arith}
use Rattle.std.specs.List.{range_with_len}
use Rattle.std.proofs.lemmas.List.FromFn.{length-range_with_len, get_or-range_with_len}
use Rattle.std.proofs.lemmas.List.{length-append, get_or_append_left}
use Rattle.std.proofs.lemmas.Option.{slice_get-get_or, slice_get_within}
use Rattle.rg_text.specs.Byte.{IsName}
use Rattle.rg_theory.specs.System.{System, labels, IsInRange}
use Rattle.rg_theory.specs.Limits.{most_labels}
use Rattle.rg_theory.specs.ClassWords.{no_condition}
use Rattle.rg_theory.proofs.Arcs.{arc_in_range}
use Rattle.rg_lts.specs.WellFormed.{IsWellFormed}
use Rattle.rg_line_formats.proofs.Parts.{some_with}
use Rattle.rg_cert_meaning.specs.Refutes.{Reason, Reason.unreachable as of_state, Reason.fork, Reason.refuted}
use Rattle.rg_outcome.specs.Outcome.{Answer, Answer.net as of_net, Answer.unsolvable as of_reason, Answer.too_wide as of_term, Out}
use Rattle.rg_split.specs.Erasing.{old_label, Erases}
use Rattle.rg_split.specs.Round.{IsToldApart}
use Rattle.rg_split.specs.Rounds.{Labelling, labelling, itself, relabelled, first_name, IsNext, Splitting, Splitting.done, Splitting.unreachable}
use Rattle.rg_split.specs.Rounds.{Splitting.full, Splitting.too_wide, HasLabel, RoundsCome, RoundsCome.solved, RoundsCome.not_reached, RoundsCome.passed, RoundsCome.no_room, RoundsCome.goes_on}
use Rattle.rg_split.proofs.Names.{new_name}
use Rattle.rg_split.proofs.Parted.{IsToSplit, to_split}
use Rattle.rg_split.proofs.Erasing.{erases_next, formed_next, labels_more}

-- ---- the first labelling

index_range : (n t : ℕ) → t < n → get_or (range_with_len 0 n) t 0 ≡ t
index_range n t lt = get_or-range_with_len 0 n t 0 lt ∙ zero_more t
  where
    zero_more : (t : ℕ) → 0 + t ≡ t
    zero_more t = omega arith

pub told_itself : (lts : System) → IsWellFormed lts → IsToldApart lts (itself lts)
told_itself lts well = record {
  erases = record {
    state_names = refl;
    initial = refl;
    each = length-range_with_len 0 (labels lts);
    within = λ k d lt. (let short : k < labels lts = (let e = length-range_with_len 0 (labels lts) in omega arith) in
        let is = get_or-range_with_len 0 (labels lts) k d short in omega arith);
    there = λ s t s' has. subst (λ u. Contains lts.arcs (record { from = s; label = u; to = s' })) (sym (index_range (labels lts) t (arc_in_range lts well.in_range s t s' has).1)) has;
    back = λ s u s' has. (u, has, index_range (labels lts) u (arc_in_range lts well.in_range s u s' has).1);
    once = λ s t t' s' has has' e. sym (index_range (labels lts) t (arc_in_range lts well.in_range s t s' has).1) ∙ e ∙ index_range (labels lts) t' (arc_in_range lts well.in_range s t' s' has').1;
  };
  formed = well;
  names = λ t lt. refl;
  itself = λ t lt. index_range (labels lts) t lt;
}

-- ---- the next one

name_of_label : (lts : System) (now : Labelling) (t : ℕ) → IsWellFormed lts → Erases now.system now.old lts → t < labels now.system → IsName (first_name lts now.old t)
name_of_label lts now t well erases lt = well.label_names.each (old_label now.old t) [] (erases.within t 0 (let e = erases.each in omega arith))

pub told_next : (lts : System) (reason : Reason) (now next : Labelling) → IsWellFormed lts → IsToldApart lts now → (is : IsNext lts reason now next)
    → is.label < labels now.system → labels now.system < most_labels → IsToldApart lts next
told_next lts reason now next well told is below room = record {
  erases = erases_next lts reason now next is below room told.formed told.erases named;
  formed = formed_next lts reason now next is below room told.formed told.erases named;
  names = λ t lt. (let e = name_stays t (inside t lt) in e ∙ told.names t lt);
  itself = λ t lt. (let e = old_stays t (inside t lt) in e ∙ told.itself t lt);
}
  where
    named : IsName (first_name lts now.old is.label)
    named = name_of_label lts now is.label well told.erases below

    -- the file's labels are labels still
    inside : (t : ℕ) → t < labels lts → t < labels now.system
    inside t lt = still (slice_get now.system.label_names t) refl
      where
        still : (o : Option (List ℕ)) → slice_get now.system.label_names t ≡ o → t < labels now.system
        still o e = slice_get_within now.system.label_names t (get_or lts.label_names t []) (told.names t lt ∙ slice_get-get_or lts.label_names t [] lt)

    name_stays : (t : ℕ) → t < labels now.system → slice_get next.system.label_names t ≡ slice_get now.system.label_names t
    name_stays t lt =
        let longer : t < length (now.system.label_names ++ is.name ∷ []) = (let e = length-append now.system.label_names (is.name ∷ []) in omega arith) in
        ap (λ l. slice_get l t) is.system.label_names ∙ slice_get-get_or (now.system.label_names ++ is.name ∷ []) t [] longer
        ∙ ap Some (get_or_append_left now.system.label_names (is.name ∷ []) [] t lt) ∙ sym (slice_get-get_or now.system.label_names t [] lt)

    old_stays : (t : ℕ) → t < labels now.system → old_label next.old t ≡ old_label now.old t
    old_stays t lt = ap (λ l. get_or l t 0) is.old ∙ get_or_append_left now.old (old_label now.old is.label ∷ []) 0 t (let e = told.erases.each in omega arith)

pub some_next : (lts : System) (reason : Reason) (now : Labelling) → IsToldApart lts now → labels now.system < most_labels
    → (s : IsToSplit now.system reason) → (next : Labelling) × ((is : IsNext lts reason now next) × (is.label ≡ s.label))
some_next lts reason now told room s =
    let (name, new) = new_name now.system.label_names (first_name lts now.old s.label) room in
    let (system, is) = some_with now.system.state_names (now.system.label_names ++ name ∷ []) (map (relabelled reason s.label (labels now.system)) now.system.arcs) now.system.initial in
    (labelling system (now.old ++ old_label now.old s.label ∷ []), (record { label = s.label; splits = s.splits; name = name; new = new; system = is; old = refl }, refl))

-- ---- all rounds

module _ (some_out : (system : System) → IsInRange system → (a : Answer) × Out system no_condition a) (lts : System) (well : IsWellFormed lts) where
  abbrev Comes : Labelling → Type 0
  Comes now = (r : Splitting) × RoundsCome lts now r

  -- with room for so many labels more
  pub comes : (room : ℕ) (now : Labelling) → IsToldApart lts now → labels now.system + room ≡ most_labels → Comes now
  comes zero now told e = by (some_out now.system told.formed.in_range)
    where
      by : (a : Answer) × Out now.system no_condition a → Comes now
      by (of_net places, out) = (done now places, solved places out)
      by (of_term w, out) = (too_wide now w, passed w out)
      by (of_reason (of_state s), out) = (unreachable s, not_reached s out)
      by (of_reason (fork s t s₁ s₂), out) = (full now (fork s t s₁ s₂), no_room (fork s t s₁ s₂) out tt (omega arith))
      by (of_reason (refuted problem trees), out) = (full now (refuted problem trees), no_room (refuted problem trees) out tt (omega arith))
  comes (suc room) now told e = by (some_out now.system told.formed.in_range) (λ next told' e'. comes room next told' e')
    where
      less : labels now.system < most_labels
      less = omega arith

      stepped : (reason : Reason) (next : Labelling) → Out now.system no_condition (of_reason reason) → HasLabel reason → IsNext lts reason now next → Comes next → Comes now
      stepped reason next out has is (r, d) = (r, goes_on reason next out has less is d)

      goes : (reason : Reason) → Out now.system no_condition (of_reason reason) → HasLabel reason
          → ((next : Labelling) → IsToldApart lts next → labels next.system + room ≡ most_labels → Comes next) → Comes now
      goes reason out has go =
          let s = to_split now.system reason told.formed out has in
          let (next, (is, same)) = some_next lts reason now told less s in
          let below : is.label < labels now.system = subst (λ t. t < labels now.system) (sym same) s.below in
          let named = name_of_label lts now is.label well told.erases below in
          let more = labels_more lts reason now next is below less told.formed told.erases named in
          stepped reason next out has is (go next (told_next lts reason now next well told is below less) (omega arith))

      by : (a : Answer) × Out now.system no_condition a → ((next : Labelling) → IsToldApart lts next → labels next.system + room ≡ most_labels → Comes next) → Comes now
      by (of_net places, out) go = (done now places, solved places out)
      by (of_term w, out) go = (too_wide now w, passed w out)
      by (of_reason (of_state s), out) go = (unreachable s, not_reached s out)
      by (of_reason (fork s t s₁ s₂), out) go = goes (fork s t s₁ s₂) out tt go
      by (of_reason (refuted problem trees), out) go = goes (refuted problem trees) out tt go

  pub always : (r : Splitting) × RoundsCome lts (itself lts) r
  always = comes (most_labels - labels lts) (itself lts) (told_itself lts well) (let few = well.few_labels in omega arith)
