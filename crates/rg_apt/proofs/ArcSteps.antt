-- One arc more: its fault, or that there is none; and how many different arcs there are.
use Rattle.std.proofs.Common.{◌≡◌, ◌⊎◌, inl, inr, ⊎_elim, ◌+◌, Bool, true, false, cond, not, ◌&&◌, nat_le, List, [], ◌∷◌, ◌++◌, length, get_or, slice_get, Contains, Any, Option, None, Some, refl, sym, ap, subst, ◌∙◌, arith}
use Rattle.std.specs.List.{list_any}
use Rattle.std.specs.Str.{bytes_eq}
use Rattle.std.proofs.lemmas.Bool.{cond-true, cond-false, or_cases, or_right, le-leb}
use Rattle.std.proofs.lemmas.List.Elements.{All-push}
use Rattle.std.proofs.lemmas.Slice.Eq.{bytes_eq-Decides}
use Rattle.std.proofs.lemmas.Option.{same_Some}
use Rattle.rg_text.proofs.NameBytes.{absent_none, contains_any}
use Rattle.rg_theory.specs.Limits.{most_arcs}
use Rattle.rg_theory.specs.declared.Arc.{Arc}
use Rattle.rg_lexer.specs.Lexeme.{Lexeme}
use Rattle.rg_lts.proofs.OrderedArcs.{Has, has_from, contains_from, Ordered, ordered_from, one_order, inserted}
use Rattle.rg_lts.proofs.Drafts.{one_index}
use Rattle.rg_lts.specs.Draft.{Draft, AddsArc, IsWellFormedDraft}
use Rattle.rg_apt.specs.declared.fault.TextFault.{TextFault}
use Rattle.rg_apt.specs.declared.fault.TextFault.TheVariants.{UnknownState, UnknownLabel, TooManyArcs}
use Rattle.rg_apt.specs.Contents.{ArcNames, Declared, arc_fault, is_state, is_label, same_arc, different}
use Rattle.rg_apt.specs.Built.{state_text, label_text, HasArcs, IsArcOfNames, IsUnknownOf, HasNamesOf, IsOverLimit}
use Rattle.rg_apt.proofs.Existing.{Among, among-append, among-last, among_at, index_of}
use Rattle.rg_apt.proofs.Names.{le_says}

any_among : {X : Type 0} (p : X → Bool) (xs : List X) → list_any p xs ≡ true → (x : X) × Among x xs × (p x ≡ true)
any_among p [] e = absurd cc
any_among p (x ∷ xs) e =
    ⊎_elim (λ here. (x, inl refl, here)) (λ later. let r = any_among p xs later in (r.0, inr r.1, r.2)) (or_cases (p x) (list_any p xs) e)

among_any : {X : Type 0} (p : X → Bool) (xs : List X) (x : X) → Among x xs → p x ≡ true → list_any p xs ≡ true
among_any p [] x h e = absurd h
among_any p (y ∷ xs) x (inl same) e = rw (ap p same ∙ e) refl
among_any p (y ∷ xs) x (inr h) e = or_right (p y) (list_any p xs) (among_any p xs x h e)

pub among_parts : {X : Type 0} (y x : X) (xs : List X) → Among y (xs ++ x ∷ []) → Among y xs ⊎ (x ≡ y)
among_parts y x [] (inl e) = inr e
among_parts y x [] (inr h) = absurd h
among_parts y x (z ∷ xs) (inl e) = inl (inl e)
among_parts y x (z ∷ xs) (inr h) = ⊎_elim (λ before. inl (inr before)) (λ last. inr last) (among_parts y x xs h)

pub any_from : {X : Type 0} (P : X → Type 0) (xs : List X) (x : X) → Among x xs → P x → Any P xs
any_from P xs x h p = let at = index_of xs x h in (at.0, x, at.1, at.2, p)

-- two triples with the same names
pub record AreSame (a b : ArcNames Lexeme) : Type 0 where
  pub from : a.from.text ≡ b.from.text
  pub label : a.label.text ≡ b.label.text
  pub to : a.to.text ≡ b.to.text

same_true : (a b : ArcNames Lexeme) → AreSame a b → same_arc a b ≡ true
same_true a b s =
    let p = (bytes_eq-Decides a.from.text b.from.text).1 s.from in
    let q = (bytes_eq-Decides a.label.text b.label.text).1 s.label in
    let r = (bytes_eq-Decides a.to.text b.to.text).1 s.to in
    rw (p, q, r) refl

same_says : (a b : ArcNames Lexeme) → same_arc a b ≡ true → AreSame a b
same_says a b e =
    by (bytes_eq a.from.text b.from.text) (bytes_eq a.label.text b.label.text) (bytes_eq a.to.text b.to.text) refl refl refl e
  where
    by : (p q r : Bool) → bytes_eq a.from.text b.from.text ≡ p → bytes_eq a.label.text b.label.text ≡ q → bytes_eq a.to.text b.to.text ≡ r → (p && q && r) ≡ true → AreSame a b
    by true true true x y z e = record {
      from = (bytes_eq-Decides a.from.text b.from.text).0 x;
      label = (bytes_eq-Decides a.label.text b.label.text).0 y;
      to = (bytes_eq-Decides a.to.text b.to.text).0 z;
    }
    by false q r x y z e = absurd cc
    by true false r x y z e = absurd cc
    by true true false x y z e = absurd cc

-- an arc has one triple of names
one_names : (d : Draft) (x y : ArcNames Lexeme) (a : Arc) → IsArcOfNames d x a → IsArcOfNames d y a → AreSame x y
one_names d x y a n m = record {
  from = same_Some x.from.text y.from.text (sym n.from ∙ m.from);
  label = same_Some x.label.text y.label.text (sym n.label ∙ m.label);
  to = same_Some x.to.text y.to.text (sym n.to ∙ m.to);
}

named_too : (d : Draft) (x y : ArcNames Lexeme) (a : Arc) → AreSame x y → IsArcOfNames d x a → IsArcOfNames d y a
named_too d x y a s n = record { from = n.from ∙ ap Some s.from; label = n.label ∙ ap Some s.label; to = n.to ∙ ap Some s.to }

-- a triple of names has one arc
pub one_arc : (d : Draft) (x : ArcNames Lexeme) (a b : Arc) → IsWellFormedDraft d → IsArcOfNames d x a → IsArcOfNames d x b → a ≡ b
one_arc d x a b formed n m =
    let from = one_index d.state_names a.from b.from x.from.text formed.state_names.differ n.from m.from in
    let label = one_index d.label_names a.label b.label x.label.text formed.label_names.differ n.label m.label in
    let to = one_index d.state_names a.to b.to x.to.text formed.state_names.differ n.to m.to in
    λ i. record { from = from i; label = label i; to = to i }

-- the arcs of triples, in order
pub record Counted (d : Draft) (names : List (ArcNames Lexeme)) (zs : List Arc) : Type 0 where
  pub ordered : Ordered zs
  pub to : (c : Arc) → Has zs c → (x : ArcNames Lexeme) × Among x names × IsArcOfNames d x c
  pub from : (c : Arc) (x : ArcNames Lexeme) → Among x names → IsArcOfNames d x c → Has zs c
  pub size : length zs ≡ different names

pub counted : (d : Draft) (names : List (ArcNames Lexeme)) → IsWellFormedDraft d → ((x : ArcNames Lexeme) → Among x names → (a : Arc) × IsArcOfNames d x a) → (zs : List Arc) × Counted d names zs
counted d [] formed named = ([], record { ordered = tt; to = λ c h. absurd h; from = λ c x h n. absurd h; size = refl })
counted d (x ∷ names) formed named = by (list_any (same_arc x) names) refl (named x (inl refl)) (counted d names formed (λ y h. named y (inr h)))
  where
    by : (b : Bool) → list_any (same_arc x) names ≡ b → (a : Arc) × IsArcOfNames d x a → (zs : List Arc) × Counted d names zs → (zs : List Arc) × Counted d (x ∷ names) zs
    by true e one more =
        let there = any_among (same_arc x) names e in
        let same = same_says x there.0 there.2 in (
          more.0,
          record {
            ordered = more.1.ordered;
            to = λ c h. (let r = more.1.to c h in (r.0, inr r.1, r.2));
            from = λ c y h n. ⊎_elim
                (λ is. more.1.from c there.0 there.1 (named_too d x there.0 c same (subst (λ z. IsArcOfNames d z c) (sym is) n)))
                (λ later. more.1.from c y later n) h;
            size = more.1.size ∙ sym (cond-true (list_any (same_arc x) names) (different names) (different names + 1) e);
          },
        )
    by false e one more =
        let put = inserted one.0 more.0 more.1.ordered in
        let new : Has more.0 one.0 → ⊥ = λ h.
        (let r = more.1.to one.0 h in
        let found = among_any (same_arc x) names r.0 r.1 (same_true x r.0 (one_names d x r.0 one.0 one.1 r.2)) in cc) in (
          put.0,
          record {
            ordered = put.1.ordered;
            to = λ c h. ⊎_elim (λ is. (x, inl refl, subst (IsArcOfNames d x) is one.1)) (λ later. let r = more.1.to c later in (r.0, inr r.1, r.2)) (put.1.to c h);
            from = λ c y h n. ⊎_elim
                (λ is. put.1.from c (inl (one_arc d x one.0 c formed one.1 (subst (λ z. IsArcOfNames d z c) (sym is) n))))
                (λ later. put.1.from c (inr (more.1.from c y later n))) h;
            size = put.1.longer new ∙ ap (λ n. n + 1) more.1.size ∙ sym (cond-false (list_any (same_arc x) names) (different names) (different names + 1) e);
          },
        )

-- there are as many arcs as different triples
how_many : (d : Declared) (before : List (ArcNames Lexeme)) (draft : Draft) → IsWellFormedDraft draft → HasArcs d before draft → length draft.arcs ≡ different before
how_many d before draft formed h =
    let all = counted draft before formed
    (λ x among. let at = index_of before x among in subst (λ y. (a : Arc) × IsArcOfNames draft y a) at.2 (h.named at.0 x at.1)) in
    let same = one_order draft.arcs all.0 (ordered_from draft.arcs formed.arc_order) all.1.ordered
    (λ c has. let any = (h.members c).0 (contains_from draft.arcs c has) in all.1.from c any.1 (among_at before any.0 any.1 any.2 any.3) any.4)
    (λ c has. let r = all.1.to c has in let at = index_of before r.0 r.1 in
    has_from draft.arcs c ((h.members c).1 (at.0, r.0, at.1, at.2, r.2))) in
    ap length same ∙ all.1.size

-- the tests of a triple's fault
abbrev pub full : List (ArcNames Lexeme) → ArcNames Lexeme → Bool
full before x = nat_le most_arcs (different before) && not (list_any (same_arc x) before)

abbrev pub last_test : List (ArcNames Lexeme) → ArcNames Lexeme → Option TextFault
last_test before x = cond (full before x) (Some (TooManyArcs x.from.at)) None

abbrev to_test : Declared → List (ArcNames Lexeme) → ArcNames Lexeme → Option TextFault
to_test d before x = cond (not (is_state d x.to)) (Some (UnknownState x.to.at)) (last_test before x)

abbrev label_test : Declared → List (ArcNames Lexeme) → ArcNames Lexeme → Option TextFault
label_test d before x = cond (not (is_label d x.label)) (Some (UnknownLabel x.label.at)) (to_test d before x)

no_from : (d : Declared) (before : List (ArcNames Lexeme)) (x : ArcNames Lexeme) → is_state d x.from ≡ false → arc_fault d before x ≡ Some (UnknownState x.from.at)
no_from d before x e = ap (λ b. cond (not b) (Some (UnknownState x.from.at)) (label_test d before x)) e

to_label : (d : Declared) (before : List (ArcNames Lexeme)) (x : ArcNames Lexeme) → is_state d x.from ≡ true → arc_fault d before x ≡ label_test d before x
to_label d before x e = ap (λ b. cond (not b) (Some (UnknownState x.from.at)) (label_test d before x)) e

no_label : (d : Declared) (before : List (ArcNames Lexeme)) (x : ArcNames Lexeme) → is_state d x.from ≡ true → is_label d x.label ≡ false → arc_fault d before x ≡ Some (UnknownLabel x.label.at)
no_label d before x e f = to_label d before x e ∙ ap (λ b. cond (not b) (Some (UnknownLabel x.label.at)) (to_test d before x)) f

to_to : (d : Declared) (before : List (ArcNames Lexeme)) (x : ArcNames Lexeme) → is_state d x.from ≡ true → is_label d x.label ≡ true → arc_fault d before x ≡ to_test d before x
to_to d before x e f = to_label d before x e ∙ ap (λ b. cond (not b) (Some (UnknownLabel x.label.at)) (to_test d before x)) f

no_to : (d : Declared) (before : List (ArcNames Lexeme)) (x : ArcNames Lexeme) → is_state d x.from ≡ true → is_label d x.label ≡ true → is_state d x.to ≡ false → arc_fault d before x ≡ Some (UnknownState x.to.at)
no_to d before x e f g = to_to d before x e f ∙ ap (λ b. cond (not b) (Some (UnknownState x.to.at)) (last_test before x)) g

pub to_last : (d : Declared) (before : List (ArcNames Lexeme)) (x : ArcNames Lexeme) → is_state d x.from ≡ true → is_label d x.label ≡ true → is_state d x.to ≡ true → arc_fault d before x ≡ last_test before x
to_last d before x e f g = to_to d before x e f ∙ ap (λ b. cond (not b) (Some (UnknownState x.to.at)) (last_test before x)) g

module _ (d : Declared) (before : List (ArcNames Lexeme)) (x : ArcNames Lexeme) (draft : Draft) (h : HasArcs d before draft) where
  state_there : (y : Lexeme) → Contains draft.state_names y.text → is_state d y ≡ true
  state_there y has = contains_any state_text y.text d.states (subst (λ l. Contains l y.text) h.state_names has)

  state_absent : (y : Lexeme) → (Contains draft.state_names y.text → ⊥) → is_state d y ≡ false
  state_absent y none = absent_none state_text y.text d.states (λ has. none (subst (λ l. Contains l y.text) (sym h.state_names) has))

  label_there : (y : Lexeme) → Contains draft.label_names y.text → is_label d y ≡ true
  label_there y has = contains_any label_text y.text d.labels (subst (λ l. Contains l y.text) h.label_names has)

  label_absent : (y : Lexeme) → (Contains draft.label_names y.text → ⊥) → is_label d y ≡ false
  label_absent y none = absent_none label_text y.text d.labels (λ has. none (subst (λ l. Contains l y.text) (sym h.label_names) has))

  pub unknown_fault : (f : TextFault) → IsUnknownOf draft x f → arc_fault d before x ≡ Some f
  unknown_fault f (inl (is, none)) = no_from d before x (state_absent x.from none) ∙ ap Some (sym is)
  unknown_fault f (inr (inl (is, from, none))) = no_label d before x (state_there x.from from) (label_absent x.label none) ∙ ap Some (sym is)
  unknown_fault f (inr (inr (is, from, label, none))) =
      no_to d before x (state_there x.from from) (label_there x.label label) (state_absent x.to none) ∙ ap Some (sym is)

  names_there : HasNamesOf draft x → arc_fault d before x ≡ last_test before x
  names_there has = to_last d before x (state_there x.from has.from) (label_there x.label has.label) (state_there x.to has.to)

  -- an arc of these names that is there came before
  came_before : (a : Arc) → IsArcOfNames draft x a → Contains draft.arcs a → list_any (same_arc x) before ≡ true
  came_before a named has =
      let any = (h.members a).0 has in
      among_any (same_arc x) before any.1 (among_at before any.0 any.1 any.2 any.3) (same_true x any.1 (one_names draft x any.1 a named any.4))

  -- what came before has an arc that is there
  is_there : list_any (same_arc x) before ≡ true → (a : Arc) × IsArcOfNames draft x a × Contains draft.arcs a
  is_there e =
      let y = any_among (same_arc x) before e in
      let same = same_says x y.0 y.2 in
      let back : AreSame y.0 x = record { from = sym same.from; label = sym same.label; to = sym same.to } in
      let at = index_of before y.0 y.1 in
      let one = subst (λ z. (a : Arc) × IsArcOfNames draft z a) at.2 (h.named at.0 y.0 at.1) in
      (one.0, named_too draft y.0 x one.0 back one.1, (h.members one.0).1 (at.0, y.0, at.1, at.2, one.1))

  pub limit_fault : (f : TextFault) → IsWellFormedDraft draft → (f ≡ TooManyArcs x.from.at) × IsOverLimit draft x → arc_fault d before x ≡ Some f
  limit_fault f formed (is, over) =
      let count = how_many d before draft formed h in
      let many = le-leb most_arcs (different before) (omega (arith, over.limit)) in
      names_there over.names ∙ by (list_any (same_arc x) before) refl many ∙ ap Some (sym is)
    where
      by : (b : Bool) → list_any (same_arc x) before ≡ b → nat_le most_arcs (different before) ≡ true → last_test before x ≡ Some (TooManyArcs x.from.at)
      by true e many = let a = is_there e in absurd (over.new a.0 a.1 a.2)
      by false e many = rw (many, e) refl

  arc_fine : HasNamesOf draft x → IsWellFormedDraft draft → (IsOverLimit draft x → ⊥) → arc_fault d before x ≡ None
  arc_fine has formed within = names_there has ∙ by (nat_le most_arcs (different before)) (list_any (same_arc x) before) refl refl
    where
      by : (p q : Bool) → nat_le most_arcs (different before) ≡ p → list_any (same_arc x) before ≡ q → last_test before x ≡ None
      by false q e f = rw e refl
      by true true e f = rw (e, f) refl
      by true false e f =
          let count = how_many d before draft formed h in
          let many = le_says most_arcs (different before) e in
          absurd (within (record {
            names = has;
            new = λ a named there. (let found = came_before a named there in cc);
            limit = omega arith;
          }))

  pub arc_step : (new : Draft) → HasNamesOf draft x → IsWellFormedDraft draft → (IsOverLimit draft x → ⊥) → ((a : Arc) × IsArcOfNames draft x a × AddsArc draft new a)
      → (arc_fault d before x ≡ None) × HasArcs d (before ++ x ∷ []) new
  arc_step new has formed within (a, named, adds) =
      let states : new.state_names ≡ draft.state_names = ap (λ (v : Draft). v.state_names) adds.rest in
      let labels : new.label_names ≡ draft.label_names = ap (λ (v : Draft). v.label_names) adds.rest in
      let initial : new.initial ≡ draft.initial = ap (λ (v : Draft). v.initial) adds.rest in
      let to_new : (y : ArcNames Lexeme) (c : Arc) → IsArcOfNames draft y c → IsArcOfNames new y c =
      λ y c n. record { from = ap (λ l. slice_get l c.from) states ∙ n.from; label = ap (λ l. slice_get l c.label) labels ∙ n.label; to = ap (λ l. slice_get l c.to) states ∙ n.to } in
      let to_old : (y : ArcNames Lexeme) (c : Arc) → IsArcOfNames new y c → IsArcOfNames draft y c =
      λ y c n. record {
        from = ap (λ l. slice_get l c.from) (sym states) ∙ n.from;
        label = ap (λ l. slice_get l c.label) (sym labels) ∙ n.label;
        to = ap (λ l. slice_get l c.to) (sym states) ∙ n.to;
      } in (
        arc_fine has formed within,
        record {
          state_names = states ∙ h.state_names;
          initial = initial ∙ h.initial;
          label_names = labels ∙ h.label_names;
          named = All-push (λ (y : ArcNames Lexeme). (c : Arc) × IsArcOfNames new y c) before x
              (λ k y lt. let one = h.named k y lt in (one.0, to_new (get_or before k y) one.0 one.1)) (a, to_new x a named);
          members = λ c. (
            λ there. ⊎_elim
                (λ old. let any = (h.members c).0 old in
                any_from (λ (y : ArcNames Lexeme). IsArcOfNames new y c) (before ++ x ∷ []) any.1
                (among-append any.1 before (x ∷ []) (among_at before any.0 any.1 any.2 any.3)) (to_new any.1 c any.4))
                (λ same. any_from (λ (y : ArcNames Lexeme). IsArcOfNames new y c) (before ++ x ∷ []) x (among-last x before)
                (to_new x c (subst (IsArcOfNames draft x) (sym same) named))) ((adds.members c).0 there),
            λ any. (adds.members c).1 (⊎_elim
                (λ old. inl ((h.members c).1 (any_from (λ (y : ArcNames Lexeme). IsArcOfNames draft y c) before any.1 old (to_old any.1 c any.4))))
                (λ last. inr (one_arc draft x c a formed (to_old x c (subst (λ z. IsArcOfNames new z c) (sym last) any.4)) named))
                (among_parts any.1 x before (among_at (before ++ x ∷ []) any.0 any.1 any.2 any.3))),
          );
        },
      )
