-- A name that is added is found, and so are those that were there.
use Rattle.std.proofs.Common.{◌≡◌, ◌∙◌, ap, sym, subst, refl, ℕ, ◌<◌, arith, Bool, true, false, cond, List, [], ◌∷◌, ◌++◌, length, get_or, set, replicate, slice_get, Contains, Option, None, Some, IfSome, IfNone, IsSome, ◌⊎◌, inl, inr, bytes_eq, length-append}
use Rattle.std.proofs.lemmas.List.{length-set, get_or-set_same, get_or-set_other, get_or_at, get_or_append_left}
use Rattle.std.proofs.lemmas.List.Elements.{Contains-push_cases}
use Rattle.std.proofs.lemmas.Option.{slice_get_within, slice_get-get_or, get_or_from_slice_get}
use Rattle.std.proofs.lemmas.Slice.Eq.{bytes_eq-Decides}
use Rattle.std.specs.BTreeMap.{get_by_text}
use Rattle.rg_lts.specs.Slots.{slot_of, NumberMap, IsInSlot, IsIndexed}

abbrev Names : Type 0
Names = List (List ℕ)

abbrev Slots : Type 0
Slots = List (Option ℕ)

-- a name stays where it is
kept : (names : Names) (name other : List ℕ) (i : ℕ) → slice_get names i ≡ Some other → slice_get (names ++ name ∷ []) i ≡ Some other
kept names name other i is =
    let within : i < length names = slice_get_within names i other is in
    let longer = length-append names (name ∷ []) in
    slice_get-get_or (names ++ name ∷ []) i [] (omega arith)
    ∙ ap Some (get_or_append_left names (name ∷ []) [] i within ∙ get_or_from_slice_get names i other [] is)

-- the name that is added is last
last : (names : Names) (name : List ℕ) → slice_get (names ++ name ∷ []) (length names) ≡ Some name
last names name =
    let longer = length-append names (name ∷ []) in
    slice_get-get_or (names ++ name ∷ []) (length names) [] (omega arith) ∙ ap Some (get_or_at names name [] [] (length names) refl)

-- slots without numbers find nothing
pub empty_slots : (names : Names) (others : NumberMap) (count : ℕ) → IsIndexed names [] others → IsIndexed names (replicate count None) others
empty_slots names others count indexed = record {
  is_index = indexed.is_index;
  is_found = λ name has. found name (indexed.is_found name has);
}
  where
    found : (name : List ℕ) → ((i : ℕ) × IsInSlot names [] name i) ⊎ IsSome (get_by_text others name)
        → ((i : ℕ) × IsInSlot names (replicate count None) name i) ⊎ IsSome (get_by_text others name)
    found name (inl (i, (is, named))) = absurd cc
    found name (inr some) = inr some

-- a name that takes a free slot
pub entered_in_slot : (names : Names) (slots : Slots) (others : NumberMap) (name : List ℕ) (at : ℕ) → at ≡ slot_of name (length slots)
    → at < length slots → get_or slots at None ≡ None → IsIndexed names slots others → IsIndexed (names ++ name ∷ []) (set slots at (Some (length names))) others
entered_in_slot names slots others name at is within free indexed = record {
  is_index = λ other. index other (get_by_text others other) (indexed.is_index other);
  is_found = λ other has. either other (Contains-push_cases names name other has);
}
  where
    index : (other : List ℕ) (o : Option ℕ) → IfSome o (λ i. slice_get names i ≡ Some other) → IfSome o (λ i. slice_get (names ++ name ∷ []) i ≡ Some other)
    index other None fact = tt
    index other (Some i) fact = kept names name other i fact

    size : length (set slots at (Some (length names))) ≡ length slots
    size = length-set slots at (Some (length names))

    -- the slot of a name stays where it was
    same : (other : List ℕ) → slot_of other (length (set slots at (Some (length names)))) ≡ slot_of other (length slots)
    same other = ap (slot_of other) size

    found : (other : List ℕ) → ((i : ℕ) × IsInSlot names slots other i) ⊎ IsSome (get_by_text others other)
        → ((i : ℕ) × IsInSlot (names ++ name ∷ []) (set slots at (Some (length names))) other i) ⊎ IsSome (get_by_text others other)
    found other (inl (i, (has, named))) =
        let apart : slot_of other (length slots) ≡ at → ⊥ = λ e. (let none = subst (λ k. get_or slots k None ≡ None) (sym e) free in absurd cc) in
        let stays =
        ap (λ k. get_or (set slots at (Some (length names))) k None) (same other)
        ∙ get_or-set_other slots at (slot_of other (length slots)) (Some (length names)) None apart ∙ has in
        inl (i, (stays, kept names name other i named))
    found other (inr some) = inr some

    either : (other : List ℕ) → Contains names other ⊎ (name ≡ other)
        → ((i : ℕ) × IsInSlot (names ++ name ∷ []) (set slots at (Some (length names))) other i) ⊎ IsSome (get_by_text others other)
    either other (inl has) = found other (indexed.is_found other has)
    either other (inr e) =
        let there =
        ap (λ k. get_or (set slots at (Some (length names))) k None) (same other ∙ ap (λ n. slot_of n (length slots)) (sym e) ∙ sym is)
        ∙ get_or-set_same slots at (Some (length names)) None within in
        inl (length names, (there, last names name ∙ ap Some e))

-- a name that enters the map
pub entered_in_map : (names : Names) (slots : Slots) (old new : NumberMap) (name : List ℕ)
    → ((other : List ℕ) → get_by_text new other ≡ cond (bytes_eq name other) (Some (length names)) (get_by_text old other))
    → IsIndexed names slots old → IsIndexed (names ++ name ∷ []) slots new
entered_in_map names slots old new name adds indexed = record {
  is_index = λ other. subst (λ o. IfSome o (At other)) (sym (adds other)) (index other (bytes_eq name other) refl);
  is_found = λ other has. subst (λ o. InSlot other ⊎ IsSome o) (sym (adds other)) (found other has (bytes_eq name other) refl);
}
  where
    At : List ℕ → ℕ → Type 0
    At other i = slice_get (names ++ name ∷ []) i ≡ Some other

    InSlot : List ℕ → Type 0
    InSlot other = (i : ℕ) × IsInSlot (names ++ name ∷ []) slots other i

    kept_index : (other : List ℕ) (o : Option ℕ) → IfSome o (λ i. slice_get names i ≡ Some other) → IfSome o (At other)
    kept_index other None fact = tt
    kept_index other (Some i) fact = kept names name other i fact

    index : (other : List ℕ) (t : Bool) → bytes_eq name other ≡ t → IfSome (cond t (Some (length names)) (get_by_text old other)) (At other)
    index other true e = last names name ∙ ap Some ((bytes_eq-Decides name other).0 e)
    index other false e = kept_index other (get_by_text old other) (indexed.is_index other)

    kept_found : (other : List ℕ) → ((i : ℕ) × IsInSlot names slots other i) ⊎ IsSome (get_by_text old other) → InSlot other ⊎ IsSome (get_by_text old other)
    kept_found other (inl (i, (has, named))) = inl (i, (has, kept names name other i named))
    kept_found other (inr some) = inr some

    found : (other : List ℕ) → Contains (names ++ name ∷ []) other → (t : Bool) → bytes_eq name other ≡ t
        → InSlot other ⊎ IsSome (cond t (Some (length names)) (get_by_text old other))
    found other has true e = inr refl
    found other has false e = either (Contains-push_cases names name other has)
      where
        either : Contains names other ⊎ (name ≡ other) → InSlot other ⊎ IsSome (get_by_text old other)
        either (inl there) = kept_found other (indexed.is_found other there)
        either (inr same) = let t = (bytes_eq-Decides name other).1 same in absurd cc

-- what is found in the map
pub found_in_map : (names : Names) (slots : Slots) (others : NumberMap) (name : List ℕ) (o : Option ℕ) → o ≡ get_by_text others name
    → IsIndexed names slots others → IfSome o (λ i. slice_get names i ≡ Some name)
found_in_map names slots others name o is indexed = subst (λ n. IfSome n (λ i. slice_get names i ≡ Some name)) (sym is) (indexed.is_index name)

-- and its number is one of a name
pub index_in_map : (names : Names) (slots : Slots) (others : NumberMap) (name : List ℕ) (o : Option ℕ) → o ≡ get_by_text others name → IsIndexed names slots others
    → IfSome o (λ i. i < length names)
index_in_map names slots others name o is indexed = go o (found_in_map names slots others name o is indexed)
  where
    go : (o : Option ℕ) → IfSome o (λ i. slice_get names i ≡ Some name) → IfSome o (λ i. i < length names)
    go None fact = tt
    go (Some i) fact = slice_get_within names i name fact

-- what is neither in its slot nor in the map isn't there
pub lacks : (names : Names) (slots : Slots) (others : NumberMap) (name : List ℕ) (o : Option ℕ) → ((i : ℕ) → IsInSlot names slots name i → ⊥)
    → o ≡ get_by_text others name → IsIndexed names slots others → IfNone o (¬ Contains names name)
lacks names slots others name o no_slot is indexed = go o is
  where
    either : ((i : ℕ) × IsInSlot names slots name i) ⊎ IsSome (get_by_text others name) → None ≡ get_by_text others name → ⊥
    either (inl (i, at)) none = no_slot i at
    either (inr some) none = let nothing = subst IsSome (sym none) some in absurd cc

    go : (o : Option ℕ) → o ≡ get_by_text others name → IfNone o (¬ Contains names name)
    go (Some i) same = tt
    go None same = λ has. either (indexed.is_found name has) same
