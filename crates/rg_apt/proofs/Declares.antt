-- What a plain text of a system declares: it has no fault, and its system is that one.
use Rattle.std.proofs.Common.{◌≡◌, ◌≢◌, ◌⊎◌, inl, inr, ⊎_elim, ◌↔◌, ℕ, zero, suc, ◌+◌, ◌<◌, ◌≤◌, Bool, true, false, eqb, ◌&&◌, nat_le, nat_lt, List, [], ◌∷◌, ◌++◌}
use Rattle.std.proofs.Common.{length, get_or, map, position, slice_get, Contains, AllPairs, None, Some, refl, sym, ap, ap₂, subst, ◌∙◌, arith, append_assoc}
use Rattle.std.proofs.Common.{length-append}
use Rattle.std.specs.List.{list_any, position_or_len}
use Rattle.std.proofs.lemmas.Bool.{cond-true, cond-false, eqb-true, or_parts}
use Rattle.std.proofs.lemmas.Bool.Decides.{nat_tests}
use Rattle.std.proofs.lemmas.List.{get_or_append_left, map-append, length-map}
use Rattle.rg_theory.specs.Limits.{most_states, most_labels, most_arcs}
use Rattle.rg_theory.specs.declared.Arc.{Arc}
use Rattle.rg_theory.specs.System.{System, IsArcBefore}
use Rattle.rg_lexer.specs.Lexeme.{Lexeme}
use Rattle.rg_lts.specs.WellFormed.{IsWellFormed}
use Rattle.rg_lts.specs.Draft.{Draft, draft_of, IsWellFormedDraft}
use Rattle.rg_text.specs.Faults.{faults_after, AreNone}
use Rattle.rg_text.proofs.NameBytes.{absent_none, contains_any}
use Rattle.rg_apt.specs.Contents.{StateEntry, ArcNames, Declared, faults, state_fault, label_fault, arc_fault, same_text, same_arc, different, is_state, is_label, HasNames, IsSystemOf}
use Rattle.rg_apt.specs.Built.{state_text, label_text, is_marked, IsArcOfNames}
use Rattle.rg_apt.proofs.Names.{le_says}
use Rattle.rg_lts.proofs.OrderedArcs.{Has, has_from, contains_from, Ordered, ordered_from, after_has, before_itself, before_back}
use Rattle.rg_lts.proofs.Drafts.{there}
use Rattle.rg_apt.proofs.Existing.{Among, among_at}
use Rattle.rg_apt.proofs.Built.{all_none}
use Rattle.rg_apt.proofs.StateSteps.{is_fine, label_fine}
use Rattle.rg_apt.proofs.ArcSteps.{counted, one_arc, to_last, last_test, among_parts, any_from}

-- the entries of these states, of which one is marked
abbrev pub AreStatesOf : ℕ → ℕ → List (List ℕ) → List (StateEntry Lexeme) → Type 0
AreStatesOf initial s [] [] = Unit {0}
AreStatesOf initial s (name ∷ names) (e ∷ es) = (e.name.text ≡ name) × (e.initial ≡ eqb s initial) × AreStatesOf initial (s + 1) names es
AreStatesOf initial s _ _ = ⊥

-- the triples of names of these arcs
abbrev pub AreArcsOf : System → List Arc → List (ArcNames Lexeme) → Type 0
AreArcsOf lts [] [] = Unit {0}
AreArcsOf lts (a ∷ arcs) (x ∷ xs) = HasNames lts a x × AreArcsOf lts arcs xs
AreArcsOf lts _ _ = ⊥

-- what is declared is the system, in which these arcs are listed
pub record Declares (lts : System) (listed : List Arc) (d : Declared) : Type 0 where
  pub typed : d.typed ≡ true
  pub states : AreStatesOf lts.initial 0 lts.state_names d.states
  pub labels : map label_text d.labels ≡ lts.label_names
  pub arcs : AreArcsOf lts listed d.arcs

-- each name is none of those before it
abbrev AreFresh : List (List ℕ) → List (List ℕ) → Type 0
AreFresh before [] = Unit {0}
AreFresh before (name ∷ names) = (Contains before name → ⊥) × AreFresh (before ++ name ∷ []) names

get_or-middle : (before after : List (List ℕ)) (name d : List ℕ) → get_or (before ++ name ∷ after) (length before) d ≡ name
get_or-middle [] after name d = refl
get_or-middle (b ∷ before) after name d = get_or-middle before after name d

fresh_from : (before names : List (List ℕ)) → AllPairs (λ a b. a ≢ b) (before ++ names) → AreFresh before names
fresh_from before [] differ = tt
fresh_from before (name ∷ names) differ = (
  λ has. differ has.0 (length before) name has.1 (omega (arith, length-append before (name ∷ names)))
      (get_or_append_left before (name ∷ names) name has.0 has.1 ∙ has.2 ∙ sym (get_or-middle before names name name)),
  fresh_from (before ++ name ∷ []) names (subst (AllPairs (λ (a b : List ℕ). a ≢ b)) (sym (append_assoc before (name ∷ []) names)) differ),
)

-- states

same_text_name : (before : List (StateEntry Lexeme)) (e : StateEntry Lexeme) (name : List ℕ) → e.name.text ≡ name → (Contains (map state_text before) name → ⊥)
    → list_any (λ (b : StateEntry Lexeme). same_text e.name b.name) before ≡ false
same_text_name before e name is new = absent_none state_text e.name.text before (λ has. new (subst (Contains (map state_text before)) is has))

any-push : (p : StateEntry Lexeme → Bool) (xs : List (StateEntry Lexeme)) (x : StateEntry Lexeme) → list_any p xs ≡ false → p x ≡ false → list_any p (xs ++ x ∷ []) ≡ false
any-push p [] x none e = rw e refl
any-push p (y ∷ xs) x none e =
    let parts = or_parts (p y) (list_any p xs) none in rw parts.0 (any-push p xs x parts.1 e)

one_mark : (s initial : ℕ) (before : List (StateEntry Lexeme)) (e : StateEntry Lexeme) → e.initial ≡ eqb s initial → (s ≤ initial → list_any is_marked before ≡ false)
    → (e.initial && list_any is_marked before) ≡ false
one_mark s initial before e is none = by (eqb s initial) refl
  where
    by : (b : Bool) → eqb s initial ≡ b → (e.initial && list_any is_marked before) ≡ false
    by false h = rw (is ∙ h) refl
    by true h = let same = eqb-true s initial h in rw (is ∙ h) (none (omega arith))

later_mark : (s initial : ℕ) (before : List (StateEntry Lexeme)) (e : StateEntry Lexeme) → e.initial ≡ eqb s initial → (s ≤ initial → list_any is_marked before ≡ false)
    → s + 1 ≤ initial → list_any is_marked (before ++ e ∷ []) ≡ false
later_mark s initial before e is none le =
    any-push is_marked before e (none (omega arith)) (is ∙ not_same s initial (omega arith))
  where
    not_same : (m n : ℕ) → m < n → eqb m n ≡ false
    not_same m n lt = grind (arith, nat_tests)

states_none : (initial s : ℕ) (before : List (StateEntry Lexeme)) (names : List (List ℕ)) (es : List (StateEntry Lexeme)) → s ≡ length before
    → AreStatesOf initial s names es → AreFresh (map state_text before) names → length before + length names ≤ most_states
    → (s ≤ initial → list_any is_marked before ≡ false) → AreNone (faults_after state_fault before es)
states_none initial s before [] [] at are fresh few none = tt
states_none initial s before [] (e ∷ es) at are fresh few none = absurd are
states_none initial s before (name ∷ names) [] at are fresh few none = absurd are
states_none initial s before (name ∷ names) (e ∷ es) at are fresh few none =
    let fine : state_fault before e ≡ None =
    is_fine before e (same_text_name before e name are.0 fresh.0) (omega arith) (one_mark s initial before e are.1 none) in
    let texts : map state_text before ++ name ∷ [] ≡ map state_text (before ++ e ∷ []) =
    ap (λ n. map state_text before ++ n ∷ []) (sym are.0) ∙ sym (map-append state_text before (e ∷ [])) in
    rw fine (states_none initial (s + 1) (before ++ e ∷ []) names es (omega (arith, length-append before (e ∷ []))) are.2
    (subst (λ l. AreFresh l names) texts fresh.1) (omega (arith, length-append before (e ∷ [])))
    (later_mark s initial before e are.1 none))

states_texts : (initial s : ℕ) (names : List (List ℕ)) (es : List (StateEntry Lexeme)) → AreStatesOf initial s names es → names ≡ map state_text es
states_texts initial s [] [] are = refl
states_texts initial s [] (e ∷ es) are = absurd are
states_texts initial s (name ∷ names) [] are = absurd are
states_texts initial s (name ∷ names) (e ∷ es) are = ap₂ (λ n ns. n ∷ ns) (sym are.0) (states_texts initial (s + 1) names es are.2)

mark_at : (initial s k : ℕ) (names : List (List ℕ)) (es : List (StateEntry Lexeme)) → AreStatesOf initial s names es → initial ≡ s + k → k < length names
    → (position_or_len is_marked es ≡ k) × (k < length es)
mark_at initial s k [] es are at lt = absurd (omega arith)
mark_at initial s k (name ∷ names) [] are at lt = absurd are
mark_at initial s zero (name ∷ names) (e ∷ es) are at lt =
    let mark : e.initial ≡ true = are.1 ∙ same s initial (omega arith) in
    (rw mark refl, omega arith)
  where
    same : (m n : ℕ) → m ≡ n → eqb m n ≡ true
    same m n h = grind (arith, nat_tests)
mark_at initial s (suc k) (name ∷ names) (e ∷ es) are at lt =
    let plain : e.initial ≡ false = are.1 ∙ differ s initial (omega arith) in
    let more = mark_at initial (s + 1) k names es are.2 (omega arith) (omega arith) in
    (rw plain (omega (arith, more.0)), omega (arith, more.1))
  where
    differ : (m n : ℕ) → m < n → eqb m n ≡ false
    differ m n h = grind (arith, nat_tests)

marked_state : (initial : ℕ) (names : List (List ℕ)) (es : List (StateEntry Lexeme)) → AreStatesOf initial 0 names es → initial < length names
    → position is_marked es ≡ Some initial
marked_state initial names es are lt =
    let at = mark_at initial 0 initial names es are (omega arith) lt in
    cond-true _ (Some (position_or_len is_marked es)) None (less (position_or_len is_marked es) (length es) (omega (arith, at.0, at.1))) ∙ ap Some at.0
  where
    less : (m n : ℕ) → m < n → nat_lt m n ≡ true
    less m n h = grind (arith, nat_tests)

-- labels

labels_none : (before labels : List Lexeme) → AreFresh (map label_text before) (map label_text labels) → length before + length labels ≤ most_labels
    → AreNone (faults_after label_fault before labels)
labels_none before [] fresh few = tt
labels_none before (x ∷ labels) fresh few =
    let fine : label_fault before x ≡ None =
    label_fine before x (map label_text before) refl (record { new = fresh.0; room = omega (arith, length-map before label_text) }) in
    rw fine (labels_none (before ++ x ∷ []) labels
    (subst (λ l. AreFresh l (map label_text labels)) (sym (map-append label_text before (x ∷ []))) fresh.1)
    (omega (arith, length-append before (x ∷ []))))

-- arcs

-- the system as a draft
abbrev draft_from : System → Draft
draft_from lts = draft_of lts.state_names lts.label_names lts.arcs (Some lts.initial)

draft_formed : (lts : System) → IsWellFormed lts → IsWellFormedDraft (draft_from lts)
draft_formed lts formed = record {
  arcs = formed.in_range.arcs;
  initial = formed.in_range.initial;
  state_names = formed.state_names;
  label_names = formed.label_names;
  arc_order = formed.arc_order;
  few_states = formed.few_states;
  few_labels = formed.few_labels;
  few_arcs = formed.few_arcs;
}

named : (lts : System) (x : ArcNames Lexeme) (a : Arc) → HasNames lts a x → IsArcOfNames (draft_from lts) x a
named lts x a h = record { from = h.0; label = h.1; to = h.2 }

one_here : (lts : System) (x : ArcNames Lexeme) (a b : Arc) → IsWellFormed lts → HasNames lts a x → HasNames lts b x → a ≡ b
one_here lts x a b formed h k = one_arc (draft_from lts) x a b (draft_formed lts formed) (named lts x a h) (named lts x b k)

-- the triple is one of an arc of these
abbrev IsOneOf : System → List Arc → ArcNames Lexeme → Type 0
IsOneOf lts arcs x = (a : Arc) × Has arcs a × HasNames lts a x

triple_of : (lts : System) (arcs : List Arc) (xs : List (ArcNames Lexeme)) → AreArcsOf lts arcs xs → (a : Arc) → Has arcs a → (x : ArcNames Lexeme) × Among x xs × HasNames lts a x
triple_of lts [] xs are a has = absurd has
triple_of lts (b ∷ arcs) [] are a has = absurd are
triple_of lts (b ∷ arcs) (x ∷ xs) are a (inl e) = (x, inl refl, subst (λ c. HasNames lts c x) e are.0)
triple_of lts (b ∷ arcs) (x ∷ xs) are a (inr h) = let r = triple_of lts arcs xs are.1 a h in (r.0, inr r.1, r.2)

arc_of : (lts : System) (arcs : List Arc) (xs : List (ArcNames Lexeme)) → AreArcsOf lts arcs xs → (x : ArcNames Lexeme) → Among x xs → IsOneOf lts arcs x
arc_of lts arcs [] are x among = absurd among
arc_of lts [] (y ∷ xs) are x among = absurd are
arc_of lts (b ∷ arcs) (y ∷ xs) are x (inl e) = (b, inl refl, subst (HasNames lts b) e are.0)
arc_of lts (b ∷ arcs) (y ∷ xs) are x (inr h) = let r = arc_of lts arcs xs are.1 x h in (r.0, inr r.1, r.2)

-- of lists in order the one with fewer members is shorter
fewer : (zs arcs : List Arc) → Ordered zs → Ordered arcs → ((c : Arc) → Has zs c → Has arcs c) → length zs ≤ length arcs
fewer [] arcs x y to = omega arith
fewer (z ∷ zs) [] x y to = absurd (to z (inl refl))
fewer (z ∷ zs) (a ∷ arcs) x y to = by (to z (inl refl)) (fewer zs arcs x.1 y.1) (fewer (z ∷ zs) arcs x y.1)
  where
    without : (c : Arc) → (a ≡ c → ⊥) → (a ≡ c) ⊎ Has arcs c → Has arcs c
    without c new (inl e) = absurd (new e)
    without c new (inr h) = h

    by : (a ≡ z) ⊎ Has arcs z → (((c : Arc) → Has zs c → Has arcs c) → length zs ≤ length arcs)
        → (((c : Arc) → Has (z ∷ zs) c → Has arcs c) → length (z ∷ zs) ≤ length arcs) → length (z ∷ zs) ≤ length (a ∷ arcs)
    by (inl e) rest all = omega (
      arith,
      rest (λ c h. without c
          (λ same. before_itself z (subst (IsArcBefore z) (sym same ∙ e) (after_has z c zs x.0 h))) (to c (inr h))),
    )
    by (inr later) rest all = omega (arith, all (λ c h. without c (λ same. before c same h) (to c h)))
      where
        before : (c : Arc) → a ≡ c → (z ≡ c) ⊎ Has zs c → ⊥
        before c same (inl e) = before_itself a (subst (IsArcBefore a) (e ∙ sym same) (after_has a z arcs y.0 later))
        before c same (inr h) = before_back a z (after_has a z arcs y.0 later) (subst (IsArcBefore z) (sym same) (after_has z c zs x.0 h))

-- there are no more different triples than arcs
few_different : (lts : System) (xs : List (ArcNames Lexeme)) → IsWellFormed lts → ((x : ArcNames Lexeme) → Among x xs → IsOneOf lts lts.arcs x)
    → different xs ≤ length lts.arcs
few_different lts xs formed here =
    let all = counted (draft_from lts) xs (draft_formed lts formed) (λ x among. let r = here x among in (r.0, named lts x r.0 r.2)) in
    let le = fewer all.0 lts.arcs all.1.ordered (ordered_from lts.arcs formed.arc_order)
    (λ c has.
    let y = all.1.to c has in
    let r = here y.0 y.1 in
    subst (Has lts.arcs) (one_arc (draft_from lts) y.0 r.0 c (draft_formed lts formed) (named lts y.0 r.0 r.2) y.2) r.1) in
    omega (arith, le, all.1.size)

module _ (lts : System) (formed : IsWellFormed lts) (d : Declared) (state_texts : map state_text d.states ≡ lts.state_names)
    (label_texts : map label_text d.labels ≡ lts.label_names) where
  state_there : (i : ℕ) (x : Lexeme) → slice_get lts.state_names i ≡ Some x.text → is_state d x ≡ true
  state_there i x at = contains_any state_text x.text d.states (subst (λ l. Contains l x.text) (sym state_texts) (there lts.state_names i x.text at))

  label_there : (i : ℕ) (x : Lexeme) → slice_get lts.label_names i ≡ Some x.text → is_label d x ≡ true
  label_there i x at = contains_any label_text x.text d.labels (subst (λ l. Contains l x.text) (sym label_texts) (there lts.label_names i x.text at))

  arc_fine : (before : List (ArcNames Lexeme)) (x : ArcNames Lexeme) → ((y : ArcNames Lexeme) → Among y (x ∷ before) → IsOneOf lts lts.arcs y) → arc_fault d before x ≡ None
  arc_fine before x here =
      let a = here x (inl refl) in
      to_last d before x (state_there a.0.from x.from a.2.0) (label_there a.0.label x.label a.2.1) (state_there a.0.to x.to a.2.2)
      ∙ by (nat_le most_arcs (different before)) (list_any (same_arc x) before) refl refl (few_different lts (x ∷ before) formed here)
    where
      by : (p q : Bool) → nat_le most_arcs (different before) ≡ p → list_any (same_arc x) before ≡ q → different (x ∷ before) ≤ length lts.arcs
          → last_test before x ≡ None
      by false q e f few = rw e refl
      by true true e f few = rw (e, f) refl
      by true false e f few =
          let many = le_says most_arcs (different before) e in
          let more = cond-false (list_any (same_arc x) before) (different before) (different before + 1) f in
          absurd (omega (arith, few, more, many, formed.few_arcs))

  arcs_none : (before xs : List (ArcNames Lexeme)) → ((y : ArcNames Lexeme) → Among y before → IsOneOf lts lts.arcs y) → ((y : ArcNames Lexeme) → Among y xs → IsOneOf lts lts.arcs y)
      → AreNone (faults_after (arc_fault d) before xs)
  arcs_none before [] had here = tt
  arcs_none before (x ∷ xs) had here =
      let fine = arc_fine before x (λ y among. ⊎_elim (λ e. subst (IsOneOf lts lts.arcs) e (here x (inl refl))) (λ h. had y h) among) in
      rw fine (arcs_none (before ++ x ∷ []) xs
      (λ y among. ⊎_elim (λ h. had y h) (λ e. subst (IsOneOf lts lts.arcs) e (here x (inl refl))) (among_parts y x before among))
      (λ y among. here y (inr among)))

module _ (lts : System) (listed : List Arc) (d : Declared) (formed : IsWellFormed lts) (members : (a : Arc) → Contains listed a ↔ Contains lts.arcs a)
    (declares : Declares lts listed d) where
  state_texts : map state_text d.states ≡ lts.state_names
  state_texts = sym (states_texts lts.initial 0 lts.state_names d.states declares.states)

  -- what is declared has no fault
  pub declares_none : AreNone (faults d)
  declares_none =
      all_none d lts.initial declares.typed
      (states_none lts.initial 0 [] lts.state_names d.states refl declares.states (fresh_from [] lts.state_names formed.state_names.differ)
      (omega (arith, formed.few_states)) (λ le. refl))
      (labels_none [] d.labels (subst (AreFresh []) (sym declares.labels) (fresh_from [] lts.label_names formed.label_names.differ))
      (omega (arith, formed.few_labels, length-map d.labels label_text, ap length declares.labels)))
      (arcs_none lts formed d state_texts declares.labels [] d.arcs (λ y among. absurd among)
      (λ y among. let r = arc_of lts listed d.arcs declares.arcs y among in
      (r.0, has_from lts.arcs r.0 ((members r.0).0 (contains_from listed r.0 r.1)), r.2)))
      (marked_state lts.initial lts.state_names d.states declares.states formed.in_range.initial)

  -- and its system is the one that was meant
  pub declares_system : IsSystemOf d lts
  declares_system = record {
    state_names = sym state_texts;
    label_names = sym declares.labels;
    initial = marked_state lts.initial lts.state_names d.states declares.states formed.in_range.initial;
    arcs = λ a. (
      λ has. let r = triple_of lts listed d.arcs declares.arcs a (has_from listed a ((members a).1 has)) in any_from (HasNames lts a) d.arcs r.0 r.1 r.2,
      λ any.
          let r = arc_of lts listed d.arcs declares.arcs any.1 (among_at d.arcs any.0 any.1 any.2 any.3) in
          (members a).0 (contains_from listed a (subst (Has listed) (one_here lts any.1 r.0 a formed r.2 any.4) r.1)),
    );
    in_order = formed.arc_order;
  }
