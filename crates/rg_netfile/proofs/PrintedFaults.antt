-- What the text of a printed net declares has no fault.
use Rattle.std.proofs.Common.{◌≡◌, ◌==◌, ℕ, zero, suc, ◌≤◌, Bool, true, ◌&&◌, List, [], ◌∷◌, ◌++◌, length, map, get_or, slice_get, Contains, count_by, Option, option_map, None, Some, refl, sym, ap, subst, ◌∙◌, arith, append_assoc, length-append}
use Rattle.std.specs.List.{list_all}
use Rattle.std.specs.Str.{bytes_eq}
use Rattle.std.proofs.lemmas.Bool.{eq-eqb, false_from_ne_true}
use Rattle.std.proofs.lemmas.List.{map-append}
use Rattle.std.proofs.lemmas.List.Sums.{sum_by-cons, sum_by-append, list_all-from_AllPass}
use Rattle.std.proofs.lemmas.Option.{slice_get-map, slice_get-get_or}
use Rattle.std.proofs.lemmas.Slice.Eq.{bytes_eq-Decides}
use Rattle.rg_lexer.specs.Lexeme.{Lexeme}
use Rattle.rg_text.specs.Faults.{faults_after, AreNone}
use Rattle.rg_theory.proofs.Lists.{there_at}
use Rattle.rg_integers.specs.Range.{greatest}
use Rattle.rg_net_grammar.specs.declared.found.Transition.{Transition}
use Rattle.rg_net_grammar.specs.Contents.{label_of}
use Rattle.rg_netfile.specs.Contents.{most_places, place_fault, transition_fault, is_among, have_each_once, Step, flow_of, adds, added, total, step_fault}
use Rattle.rg_netfile.specs.Built.{AreApart}
use Rattle.rg_netfile.proofs.NameTests.{among_true}
use Rattle.rg_netfile.proofs.EntryFaults.{text_of, name_of, place_fine, transition_fine}
use Rattle.rg_netfile.proofs.Apart.{count_yes, count_no}
use Rattle.rg_netfile.proofs.MemberSteps.{member_fine, flow_fine, added_same}
use Rattle.rg_netfile.proofs.PrintedSums.{apart_tail}

-- a list with a thing in it
at_left : {X : Type 0} (xs ys : List X) (k : ℕ) (x : X) → slice_get xs k ≡ Some x → slice_get (xs ++ ys) k ≡ Some x
at_left [] ys k x at = absurd cc
at_left (y ∷ xs) ys zero x at = at
at_left (y ∷ xs) ys (suc k) x at = at_left xs ys k x at

at_seam : {X : Type 0} (xs : List X) (x : X) (ys : List X) → slice_get (xs ++ x ∷ ys) (length xs) ≡ Some x
at_seam [] x ys = refl
at_seam (y ∷ xs) x ys = at_seam xs x ys

-- of things apart one isn't among those before it
not_before : {X : Type 0} (xs : List X) (x : X) (ys : List X) → AreApart (xs ++ x ∷ ys) → Contains xs x → ⊥
not_before xs x ys apart (k, lt, e) =
    let same = apart.same k (length xs) x (at_left xs (x ∷ ys) k x (slice_get-get_or xs k x lt ∙ ap Some e)) (at_seam xs x ys) in
    omega arith

head_none : {F : Type 0} (o : Option F) (more : List (Option F)) → o ≡ None → AreNone more → AreNone (o ∷ more)
head_none o more e none = subst (λ p. AreNone (p ∷ more)) (sym e) none

pub places_none : (before xs : List Lexeme) → AreApart (map text_of (before ++ xs)) → length (before ++ xs) ≤ most_places → AreNone (faults_after place_fault before xs)
places_none before [] apart few = tt
places_none before (x ∷ xs) apart few =
    head_none (place_fault before x) (faults_after place_fault (before ++ x ∷ []) xs)
    (place_fine before x (map text_of before) refl
    (not_before (map text_of before) x.text (map text_of xs) (subst AreApart (map-append text_of before (x ∷ xs)) apart))
    (omega (arith, few, length-append before (x ∷ xs))))
    (places_none (before ++ x ∷ []) xs (subst (λ l. AreApart (map text_of l)) (sym (append_assoc before (x ∷ []) xs)) apart)
    (subst (λ l. length l ≤ most_places) (sym (append_assoc before (x ∷ []) xs)) few))

pub transitions_none : (before ts : List (Transition Lexeme)) → AreApart (map name_of (before ++ ts)) → AreNone (faults_after transition_fault before ts)
transitions_none before [] apart = tt
transitions_none before (t ∷ ts) apart =
    head_none (transition_fault before t) (faults_after transition_fault (before ++ t ∷ []) ts)
    (transition_fine before t (map name_of before) refl
    (not_before (map name_of before) t.name.text (map name_of ts) (subst AreApart (map-append name_of before (t ∷ ts)) apart)))
    (transitions_none (before ++ t ∷ []) ts (subst (λ l. AreApart (map name_of l)) (sym (append_assoc before (t ∷ []) ts)) apart))

abbrev has_label : List ℕ → Transition Lexeme → Bool
has_label label t = bytes_eq label (label_of t)

count_zero : (label : List ℕ) (ts : List (Transition Lexeme)) → (Contains (map label_of ts) label → ⊥) → count_by (has_label label) ts ≡ 0
count_zero label [] absent = refl
count_zero label (t ∷ ts) absent =
    let no = count_no (has_label label) t ts (false_from_ne_true (bytes_eq label (label_of t)) (λ e. absent (0, omega arith, sym ((bytes_eq-Decides label (label_of t)).0 e)))) in
    let more = count_zero label ts (λ (k, lt, e). absent (suc k, omega arith, e)) in
    omega (arith, no, more)

count_label : (ts : List (Transition Lexeme)) → AreApart (map label_of ts) → (k : ℕ) (label : List ℕ) → slice_get (map label_of ts) k ≡ Some label
    → count_by (has_label label) ts ≡ 1
count_label [] apart k label at = absurd cc
count_label (t ∷ ts) apart zero label at =
    let same : label_of t ≡ label = cc in
    let yes = count_yes (has_label label) t ts ((bytes_eq-Decides label (label_of t)).1 (sym same)) in
    let none = count_zero label ts (λ has. not_before [] label (map label_of ts) (subst (λ l. AreApart (l ∷ map label_of ts)) same apart) (later has)) in
    omega (arith, yes, none)
  where
    later : Contains (map label_of ts) label → Contains [] label
    later has = absurd (head_not has)
      where
        head_not : Contains (map label_of ts) label → ⊥
        head_not (j, lt, e) =
            let same : label_of t ≡ label = cc in
            let clash = apart.same 0 (suc j) label (ap Some same) (slice_get-get_or (map label_of ts) j label lt ∙ ap Some e) in
            omega arith
count_label (t ∷ ts) apart (suc k) label at =
    let no = count_no (has_label label) t ts (false_from_ne_true (bytes_eq label (label_of t))
    (λ e. let clash = apart.same 0 (suc k) label (ap Some (sym ((bytes_eq-Decides label (label_of t)).0 e))) at in omega arith)) in
    let more = count_label ts (apart_tail (label_of t) (map label_of ts) apart) k label at in
    omega (arith, no, more)

pub once : (names : List (List ℕ)) (ts : List (Transition Lexeme)) → map label_of ts ≡ names → AreApart names → have_each_once names ts ≡ true
once names ts is apart =
    ap (λ b. b && list_all (λ label. count_by (has_label label) ts == 1) names)
    (list_all-from_AllPass (λ (t : Transition Lexeme). is_among names (label_of t)) ts (λ k d lt.
    let t = get_or ts k d in
    among_true names (label_of t) (there_at names k (label_of t)
    (ap (λ l. slice_get l k) (sym is) ∙ slice_get-map label_of ts k ∙ ap (λ o. option_map label_of o) (slice_get-get_or ts k d lt)))))
    ∙ list_all-from_AllPass (λ label. count_by (has_label label) ts == 1) names (λ k d lt.
    let label = get_or names k d in
    eq-eqb (count_by (has_label label) ts) 1
    (count_label ts (subst AreApart (sym is) apart) k label (ap (λ l. slice_get l k) is ∙ slice_get-get_or names k d lt)))

-- steps that are fine beside all steps
abbrev pub IsFine : List (List ℕ) → List (List ℕ) → List Step → Step → Type 0
IsFine places transitions all (flow_of name) = Contains transitions name.text
IsFine places transitions all (adds cell m) = Contains places m.place.text × (total cell m.place.text all ≤ greatest)

abbrev pub Each : {X : Type 0} → (X → Type 0) → List X → Type 0
Each P [] = Unit {0}
Each P (x ∷ xs) = P x × Each P xs

pub each_joined : {X : Type 0} (P : X → Type 0) (xs ys : List X) → Each P xs → Each P ys → Each P (xs ++ ys)
each_joined P [] ys a b = b
each_joined P (x ∷ xs) ys a b = (a.0, each_joined P xs ys a.1 b)

pub steps_none : (places transitions : List (List ℕ)) (all before steps : List Step) → all ≡ before ++ steps → Each (IsFine places transitions all) steps
    → AreNone (faults_after (step_fault places transitions) before steps)
steps_none places transitions all before [] is fine = tt
steps_none places transitions all before (step ∷ more) is fine =
    head_none (step_fault places transitions before step) (faults_after (step_fault places transitions) (before ++ step ∷ []) more)
    (one step fine.0 is)
    (steps_none places transitions all (before ++ step ∷ []) more (is ∙ sym (append_assoc before (step ∷ []) more)) fine.1)
  where
    one : (s : Step) → IsFine places transitions all s → all ≡ before ++ s ∷ more → step_fault places transitions before s ≡ None
    one (flow_of name) has e = flow_fine places transitions before name has
    one (adds cell m) (has, few) e =
        let first = sum_by-append (added cell m.place.text) before (adds cell m ∷ more) in
        let second = sum_by-cons (added cell m.place.text) (adds cell m) more in
        let here = added_same cell m in
        let whole = ap (total cell m.place.text) e in
        member_fine places transitions before cell m has (omega (arith, first, second, here, whole, few))
