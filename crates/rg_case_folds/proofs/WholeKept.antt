-- In a class that is plain or bounded, the numbers that a point with whole forms makes are whole and keep all rows of the case.
use Rattle.std.proofs.Common.{◌≡◌, ⊎_elim, ℕ, ◌<◌, ◌≤◌, ◌&&◌, ◌||◌, not, is_some, unwrap_or, Option, Some, None, IfSome, Bool, true, false, List, [], ◌∷◌, ◌++◌, map, length, Contains, Ok, refl, sym, ap, ap₂, subst, ◌∙◌, arith}
use Rattle.std.specs.Prelude.{ℤ, pos, negsuc, neg_ℤ, ◌+ℤ◌, ◌*ℤ◌, ◌<ℤ◌, ◌≤ℤ◌, unsigned_abs}
use Rattle.std.proofs.Math.IntN.{*ℤ-zero}
use Rattle.std.proofs.lemmas.Int.{ints, by_lt_z}
use Rattle.std.proofs.lemmas.Bool.{true≢false, cases_Bool}
use Rattle.std.proofs.lemmas.List.{length-map, get_or-map}
use Rattle.std.proofs.lemmas.List.Elements.{Contains-get_or}
use Rattle.rg_theory.specs.declared.Problem.{Problem}
use Rattle.rg_theory.specs.declared.Problem.TheVariants.{Event, States}
use Rattle.rg_theory.specs.System.{states, labels}
use Rattle.rg_theory.proofs.Arcs.{arc_in_range}
use Rattle.rg_theory.proofs.Trees.{tree_arcs}
use Rattle.rg_integers.specs.Range.{InRange}
use Rattle.rg_integers.proofs.Ring.{ring}
use Rattle.rg_integers.proofs.Order.{mul-cancel_left, positive_differs}
use Rattle.rg_linear.specs.Branching.{form_at}
use Rattle.rg_linear.proofs.Branches.{positive_times_less}
use Rattle.rg_cert_meaning.specs.declared.Variable.{Variable}
use Rattle.rg_cert_meaning.specs.Row.{form_variable, step_of}
use Rattle.rg_cert_meaning.specs.declared.Form.{Form}
use Rattle.rg_case_folds.specs.Setting.{CaseSetting}
use Rattle.rg_folds.specs.Fold.{each, Ratio, whole, add}
use Rattle.rg_case_folds.specs.Rewriting.{has_label, all_numbers, has_start, splits_start, split_forms, CaseSystem}
use Rattle.rg_case_folds.specs.Values.{numbers_along}
use Rattle.rg_case_folds.specs.Shown.{IsLive}
use Rattle.rg_case_folds.specs.Placing.{negated, ratio_at, along_tree, least_of, is_shifted, is_lifted, top_at, effect_fold, made_whole}
use Rattle.rg_case_folds.specs.Meaning.{KeepsRowsOver, IsCaseOver, AreEffects, MeetsCase}
use Rattle.rg_case_folds.specs.WholeParts.{AreWholeParts}
use Rattle.rg_case_folds.proofs.RowValues.{add_over}
use Rattle.rg_case_folds.proofs.CaseMeaning.{start_means}
use Rattle.rg_case_folds.proofs.Forms.{form_of_variable, form_value, form_positive, form_names, bounded_has, start_has}
use Rattle.rg_case_folds.proofs.Times.{rest_none, allows_by}
use Rattle.rg_theory.specs.Class.{AllowsStart}
use Rattle.rg_theory.proofs.Lists.{map_from}
use Rattle.rg_cert_meaning.specs.Refutes.{IsSeparationProblem}
use Rattle.rg_case_folds.proofs.WholeParts.{whole_tokens, whole_rows}
use Rattle.rg_case_folds.proofs.WholePoints.{bounded_parts, plain_parts, plain_splits, allowed}
use Rattle.rg_case_folds.proofs.Lists.{where_is}
use Rattle.rg_case_folds.specs.Places.{IsReduced, AreValuesOf, AreFormsWhole}
use Rattle.rg_case_folds.proofs.Wholes.{each_at}
use Rattle.rg_case_folds.proofs.Found.{IsOverAt, all_length, all_at, whole_by, label_at, start_at}
use Rattle.rg_case_folds.proofs.Reduced.{effect_reduced, start_is_reduced}
use Rattle.rg_case_folds.proofs.PlaceKept.{AreMoved, shift_by}
use Rattle.rg_case_folds.proofs.Overs.{whole_over, sum_in_range, along_gives_over, opposite_over, AreOver, one_value, least_over}
use Rattle.rg_case_folds.proofs.Lowered.{lowered, lowered_at, lowered_keeps}
use Rattle.rg_case_folds.proofs.Items.{each_length}
use Rattle.rg_cert_meaning.specs.declared.RowName.TheVariants as row_name
use Rattle.rg_cert_meaning.specs.declared.Form.TheVariants as split_form
use Rattle.rg_cert_meaning.specs.declared.Variable.TheVariants.{Tokens, Effect}

-- ---- numbers with one fractional part

parts_order : (k a b y z r : ℤ) → pos 0 <ℤ k → a ≡ (k *ℤ y) +ℤ r → b ≡ (k *ℤ z) +ℤ r → a ≤ℤ b → y ≤ℤ z
parts_order k a b y z r h p q le = by_lt_z z y (λ less. (let m = positive_times_less k z y h less in absurd (omega (arith, ints)))) (λ most. most)

parts_less : (k a b y z r : ℤ) → a ≡ (k *ℤ y) +ℤ r → b ≡ (k *ℤ z) +ℤ r → b +ℤ neg_ℤ a ≡ k *ℤ (z +ℤ neg_ℤ y)
parts_less k a b y z r p q = let d : k *ℤ (z +ℤ neg_ℤ y) ≡ (k *ℤ z) +ℤ neg_ℤ (k *ℤ y) = simp ring (omega (arith, ints)) in omega (arith, ints)

module _ (it : CaseSetting) (case : CaseSystem) (first : ℤ) (effect : ℕ → ℤ)
    (scale : ℤ) (start : Ratio) (value : ℕ → Ratio) (effects found numbers : List Ratio) (out : ℕ → Ratio) (c : IsCaseOver it case)
    (live : IsLive it.lts it.problem) (e : AreEffects it.lts it.tree it.basis effect) (v : AreValuesOf it.lts it.basis start value first effect scale)
    (whole_forms : AreFormsWhole it.setting case first effect scale) (met : MeetsCase it.setting case first effect scale)
    (whole_class : (it.class.plain || is_some it.class.bound) ≡ true) (made : each (effect_fold it.lts it.basis value) (all_numbers (labels it.lts)) (Ok effects))
    (whole_made : made_whole it.class (effects ++ start ∷ []) (Ok found)) (along : along_tree (ratio_at found) (λ s. ratio_at found (labels it.lts)) it.tree (Ok out))
    (shift : shift_by (is_shifted it.class) (map out (all_numbers (states it.lts))) numbers) where
  abbrev x : Variable → ℤ
  x = numbers_along it.lts it.tree first effect

  abbrev worth : Form → ℤ
  worth split = x (form_variable it.lts.initial split)

  abbrev steps : Form → ℤ
  steps split = pos (step_of it.class split)

  abbrev HasForm : Form → Type 0
  HasForm split = Contains (split_forms it.lts it.class it.problem) split

  abbrev KeepsWhole : Problem → (Variable → ℤ) → Type 0
  KeepsWhole p y = KeepsRowsOver it.lts it.class p it.number (pos 1) y

  abbrev Allows : ℤ → Type 0
  Allows z = AllowsStart it.class (unsigned_abs z)

  abbrev AreMovedTo : (Variable → ℤ) → Type 0
  AreMovedTo y = AreMoved it.lts it.class it.problem it.number found numbers y

  abbrev SomeAreKept : Type 0
  SomeAreKept = (y : Variable → ℤ) × AreMovedTo y × (is_lifted it.class it.problem ≡ false → Allows (y (Tokens it.lts.initial)))

  starts : has_start it.class ≡ true
  starts = ap (λ b. it.class.pure || b) whole_class ∙ either_way it.class.pure
    where
      either_way : (b : Bool) → (b || true) ≡ true
      either_way true = refl
      either_way false = refl

  keeps : KeepsRowsOver it.lts it.class it.problem it.number scale x
  keeps = (start_means it case first effect scale c e v.positive starts).0 met

  -- a variable that has a form is whole, by its steps
  variable_steps : (split : Form) → HasForm split → (u : ℤ) × (worth split ≡ scale *ℤ (steps split *ℤ u))
  variable_steps split has =
      let f = form_of_variable it case split c.is_case has in
      let (u, is) = whole_forms f.number f.within in
      let form = form_at case.forms f.number in
      let names = form_names it.lts it.class it.problem split has in
      let value_is = form_value it case c split form first effect f.made names (λ none. absurd (true≢false (sym starts ∙ none))) e in (
        u,
        mul-cancel_left form.scale (worth split) (scale *ℤ (steps split *ℤ u)) (positive_differs form.scale (form_positive it case c split form f.made))
            (sym value_is ∙ ap (λ z. steps split *ℤ z) is ∙ turn (steps split) u form.scale scale),
      )
    where
      turn : (n u f s : ℤ) → n *ℤ (u *ℤ (f *ℤ s)) ≡ f *ℤ (s *ℤ (n *ℤ u))
      turn n u f s = simp ring

  variable_whole : (split : Form) → HasForm split → (u : ℤ) × (worth split ≡ scale *ℤ u)
  variable_whole split has = let (u, is) = variable_steps split has in (steps split *ℤ u, is)

  start_whole : splits_start it.class it.problem ≡ true → (u : ℤ) × (x (Tokens it.lts.initial) ≡ scale *ℤ (pos (unwrap_or it.class.marking 1) *ℤ u))
  start_whole splits = variable_steps split_form.Start (start_has it.lts it.class it.problem splits)

  -- ---- the numbers of the fold

  same : found ≡ effects ++ start ∷ []
  same = subst (λ b. whole_by it.class b (effects ++ start ∷ []) found) whole_class whole_made

  label_over : (t : ℕ) → t < labels it.lts → IsOverAt scale (ratio_at found t) (effect t)
  label_over t lt = subst (λ l. IsOverAt scale (ratio_at l t) (effect t)) (sym same)
      (label_at it.lts it.tree it.basis start value first effect scale effects c.is_basis e v made t lt)

  start_over : IsOverAt scale (ratio_at found (labels it.lts)) first
  start_over = subst (λ l. IsOverAt scale (ratio_at l (labels it.lts)) first) (sym same)
      (start_at it.lts it.tree it.basis start value first effect scale effects c.is_basis e v made)

  label_reduced : (t : ℕ) → t < labels it.lts → IsReduced (ratio_at found t)
  label_reduced t lt = subst (λ l. IsReduced (ratio_at l t)) (sym same) (effect_reduced it.lts it.basis start value first effect scale effects v made t lt)

  start_reduced : IsReduced (ratio_at found (labels it.lts))
  start_reduced = subst (λ l. IsReduced (ratio_at l (labels it.lts))) (sym same)
      (start_is_reduced it.lts it.basis start value first effect scale effects v made)

  -- the number of a state, before the shift
  state_over : (s : ℕ) → s < states it.lts → IsOverAt scale (out s) (x (Tokens s)) × IsReduced (out s)
  state_over s lt =
      along_gives_over it.lts it.tree scale (ratio_at found) out (ratio_at found (labels it.lts)) first effect s c.in_range c.is_tree (c.reachable.each s lt)
      (λ a has. label_over a.label (arc_in_range it.lts c.in_range a.from a.label a.to (tree_arcs it.lts (it.lts.initial ∷ []) it.tree a c.is_tree has)).1)
      start_over start_reduced along

  abbrev list : List Ratio
  list = map out (all_numbers (states it.lts))

  list_length : length list ≡ states it.lts
  list_length = length-map (all_numbers (states it.lts)) out ∙ all_length (states it.lts)

  list_at : (s : ℕ) → s < states it.lts → ratio_at list s ≡ out s
  list_at s lt = get_or-map out (all_numbers (states it.lts)) s 0 (whole (pos 0)) (subst (λ k. s < k) (sym (all_length (states it.lts))) lt)
      ∙ ap out (all_at (states it.lts) s lt)

  all_over : AreOver scale list
  all_over r has =
      let (s, within, is) = map_from out (all_numbers (states it.lts)) r has in
      let (_, _, lt) = where_is (λ q. true) 0 (states it.lts) s within in
      (x (Tokens s), subst (λ q. IsOverAt scale q (x (Tokens s))) is (state_over s (omega arith)).0)

  -- ---- whole parts

  module _ (y : Variable → ℤ) (parts : AreWholeParts it.lts scale x y) where
    effect_whole : (t : ℕ) → t < labels it.lts → top_at found t ≡ y (Effect t)
    effect_whole t lt = ap (λ (r : Ratio). r.top)
        (whole_over scale (y (Effect t)) (ratio_at found t) v.positive (subst (IsOverAt scale (ratio_at found t)) times (label_over t lt)) (label_reduced t lt))
      where
        none : (s a b : ℤ) → a ≡ pos 0 → b ≡ pos 0 → a ≡ s *ℤ b
        none s a b p q = p ∙ sym (*ℤ-zero s) ∙ ap (λ z. s *ℤ z) (sym q)

        times : effect t ≡ scale *ℤ y (Effect t)
        times = ⊎_elim (λ used. parts.effects t used)
            (λ unused. none scale (effect t) (y (Effect t)) (e.unused t unused) (parts.unused t unused)) (cases_Bool (has_label t it.lts.arcs))

    keeps_whole : KeepsWhole it.problem y
    keeps_whole = whole_rows it.lts it.class it.problem it.number scale x y c.in_range c.asked live parts keeps

    not_negative : (s : ℕ) → pos 0 ≤ℤ y (Tokens s)
    not_negative s = whole_tokens it.lts it.class it.problem it.number scale x y s parts keeps

    -- ---- in a bounded class

    module _ (bound : is_some it.class.bound ≡ true) where
      exact : (s : ℕ) → s < states it.lts → x (Tokens s) ≡ scale *ℤ y (Tokens s)
      exact s lt =
          let (u, is) = variable_whole (split_form.Tokens s) (bounded_has it.lts it.class it.problem s bound lt) in
          is ∙ ap (λ z. scale *ℤ z) (sym (rest_none scale (y (Tokens s)) parts.rest u parts.not_negative parts.below (sym (parts.tokens s lt) ∙ is)).1)

      fits : (s : ℕ) → s < states it.lts → InRange (y (Tokens s))
      fits s lt = capped (y (Tokens s)) (unwrap_or it.class.bound 0) (not_negative s) (cap it.problem keeps_whole) (few it.class.bound c.numbers.bound)
        where
          few : (o : Option ℕ) → IfSome o (λ k. (0 < k) × (k ≤ 255)) → unwrap_or o 0 ≤ 255
          few None h = omega arith
          few (Some k) h = h.1

          capped : (z : ℤ) (k : ℕ) → pos 0 ≤ℤ z → pos 0 ≤ℤ (((negsuc 0 *ℤ z) +ℤ pos 0) +ℤ (pos k *ℤ pos 1)) → k ≤ 255 → InRange z
          capped z k low high most = omega (arith, ints)

          cap : (p : Problem) → KeepsWhole p y → pos 0 ≤ℤ (((negsuc 0 *ℤ y (Tokens s)) +ℤ pos 0) +ℤ (pos (unwrap_or it.class.bound 0) *ℤ pos 1))
          cap (Event a b) kept = kept (row_name.Cap s) (lt, bound)
          cap (States a b) kept = kept (row_name.Cap s) (lt, bound)

      bounded_moved : AreMovedTo y
      bounded_moved = record {
        keeps = keeps_whole;
        at = (ap length stays ∙ list_length, λ s lt. (ap (λ l. ratio_at l s) stays ∙ list_at s lt ∙ out_is s lt, fits s lt));
        effects = effect_whole;
      }
        where
          stays : numbers ≡ list
          stays = subst (λ b. shift_by b list numbers) (ap (λ b. not b && (it.class.plain || not it.class.pure)) bound) shift

          out_is : (s : ℕ) → s < states it.lts → out s ≡ whole (y (Tokens s))
          out_is s lt =
              let (over, reduced) = state_over s lt in
              whole_over scale (y (Tokens s)) (out s) v.positive (subst (IsOverAt scale (out s)) (exact s lt) over) reduced

    -- ---- in a plain class without bound, where state l has the least number

    module _ (bound : is_some it.class.bound ≡ false) (plain : it.class.plain ≡ true) (l : ℕ) (l_lt : l < states it.lts) (is : out l ≡ least_of list) where
      abbrev by : ℤ
      by = neg_ℤ (y (Tokens l))

      least_over_l : IsOverAt scale (least_of list) (x (Tokens l))
      least_over_l = subst (λ q. IsOverAt scale q (x (Tokens l))) is (state_over l l_lt).0

      lowest : (s : ℕ) → s < states it.lts → x (Tokens l) ≤ℤ x (Tokens s)
      lowest s lt =
          let (least, over, has, low) = least_over scale list (subst (λ k. 0 < k) (sym list_length) (omega arith)) v.positive all_over in
          let within = Contains-get_or list s (whole (pos 0)) (subst (λ k. s < k) (sym list_length) lt) in
          subst (λ z. z ≤ℤ x (Tokens s)) (sym (one_value scale (x (Tokens l)) least (least_of list) least_over_l over))
          (low (ratio_at list s) (x (Tokens s)) within (subst (λ q. IsOverAt scale q (x (Tokens s))) (sym (list_at s lt)) (state_over s lt).0))

      order : (s : ℕ) → s < states it.lts → y (Tokens l) ≤ℤ y (Tokens s)
      order s lt = parts_order scale (x (Tokens l)) (x (Tokens s)) (y (Tokens l)) (y (Tokens s)) parts.rest v.positive
          (parts.tokens l l_lt) (parts.tokens s lt) (lowest s lt)

      down : by ≤ℤ pos 0
      down = turned (y (Tokens l)) (not_negative l)
        where
          turned : (z : ℤ) → pos 0 ≤ℤ z → neg_ℤ z ≤ℤ pos 0
          turned z h = omega (arith, ints)

      above : (s : ℕ) → s < states it.lts → pos 0 ≤ℤ (y (Tokens s) +ℤ by)
      above s lt = difference (y (Tokens l)) (y (Tokens s)) (order s lt)
        where
          difference : (a b : ℤ) → a ≤ℤ b → pos 0 ≤ℤ (b +ℤ neg_ℤ a)
          difference a b h = omega (arith, ints)

      abbrev low : Variable → ℤ
      low = lowered (states it.lts) by y

      low_at : (s : ℕ) → s < states it.lts → low (Tokens s) ≡ y (Tokens s) +ℤ by
      low_at s lt = lowered_at it.lts it.class plain c.in_range by down y above s lt

      plain_moved : AreMovedTo low
      plain_moved = record {
        keeps = lowered_keeps it.lts it.class plain c.in_range by down y above it.problem it.number c.asked keeps_whole;
        at = (each_length (λ m. add m (negated (least_of list))) list numbers shifts ∙ list_length, number_is);
        effects = effect_whole;
      }
        where
          shifts : shift_by true list numbers
          shifts = subst (λ b. shift_by b list numbers) (ap₂ (λ a b. not a && (b || not it.class.pure)) bound plain) shift

          number_is : (s : ℕ) → s < states it.lts → (ratio_at numbers s ≡ whole (low (Tokens s))) × InRange (low (Tokens s))
          number_is s lt =
              let sum = subst (λ r. add r (negated (least_of list)) (Ok (ratio_at numbers s))) (list_at s lt)
              (each_at (λ m. add m (negated (least_of list))) list numbers (whole (pos 0)) (whole (pos 0)) s shifts (subst (λ k. s < k) (sym list_length) lt)) in
              let over = (state_over s lt).0 in
              let opposite = opposite_over scale (x (Tokens l)) (least_of list) least_over_l in
              let less = parts_less scale (x (Tokens l)) (x (Tokens s)) (y (Tokens l)) (y (Tokens s)) parts.rest (parts.tokens l l_lt) (parts.tokens s lt) in
              let added = add_over scale (out s) (negated (least_of list)) (ratio_at numbers s) (x (Tokens s)) (neg_ℤ (x (Tokens l))) sum over.0 opposite.0 in
              let is_whole = whole_over scale (y (Tokens s) +ℤ by) (ratio_at numbers s) v.positive
              (subst (IsOverAt scale (ratio_at numbers s)) less (added, sum.2.positive)) sum.2.reduced in (
                is_whole ∙ ap whole (sym (low_at s lt)),
                subst InRange (sym (low_at s lt)) (sum_in_range (out s) (negated (least_of list)) (y (Tokens s) +ℤ by) over.1 opposite.1
                    (subst (λ r. add (out s) (negated (least_of list)) (Ok r)) is_whole sum)),
              )

      -- of an event the least is 0, at the stopped state; of two states the numbers are moved back
      allowed_by : (p : Problem) → IsSeparationProblem it.lts p → KeepsWhole p y
          → (splits_start it.class p ≡ true → (u : ℤ) × (y (Tokens it.lts.initial) ≡ pos (unwrap_or it.class.marking 1) *ℤ u)) → is_lifted it.class p ≡ false
          → Allows (y (Tokens it.lts.initial) +ℤ by)
      allowed_by (Event s t) asked kept start_steps none = allowed it.class (unsigned_abs (y (Tokens it.lts.initial) +ℤ by))
          (λ some. (let (u, steps_are) = start_steps (plain_splits it.class s t some plain) in
          allows_by it.class (y (Tokens it.lts.initial) +ℤ by) u (less_none (y (Tokens it.lts.initial)) (y (Tokens l)) (unwrap_or it.class.marking 1) u least_none steps_are)))
        where
          low_empty : (a l : ℤ) → pos 0 ≤ℤ l → l ≤ℤ a → pos 0 ≤ℤ (((negsuc 0 *ℤ a) +ℤ pos 0) +ℤ (pos 0 *ℤ pos 1)) → l ≡ pos 0
          low_empty a l h k g = omega (arith, ints)

          low_block : (a e l : ℤ) → pos 0 ≤ℤ l → l ≤ℤ a → pos 0 ≤ℤ (((negsuc 0 *ℤ a) +ℤ ((negsuc 0 *ℤ e) +ℤ pos 0)) +ℤ (negsuc 0 *ℤ pos 1))
              → pos 0 ≤ℤ (((pos 1 *ℤ e) +ℤ pos 0) +ℤ (pos 1 *ℤ pos 1)) → l ≡ pos 0
          low_block a e l h k g d = omega (arith, ints)

          less_none : (a l : ℤ) (n : ℕ) (u : ℤ) → l ≡ pos 0 → a ≡ pos n *ℤ u → a +ℤ neg_ℤ l ≡ pos n *ℤ u
          less_none a l n u e g = same a l e ∙ g
            where
              same : (a l : ℤ) → l ≡ pos 0 → a +ℤ neg_ℤ l ≡ a
              same a l e = omega (arith, ints)

          least_none : y (Tokens l) ≡ pos 0
          least_none = ⊎_elim
              (λ pure. low_block (y (Tokens s)) (y (Effect t)) (y (Tokens l)) (not_negative l) (order s asked.0) (kept row_name.Block pure) (kept (row_name.Down t) (asked.1, plain)))
              (λ impure. low_empty (y (Tokens s)) (y (Tokens l)) (not_negative l) (order s asked.0) (kept row_name.Empty (plain, impure)))
              (cases_Bool it.class.pure)
      allowed_by (States s s') asked kept start_steps none = allowed it.class (unsigned_abs (y (Tokens it.lts.initial) +ℤ by))
          (λ some. absurd (true≢false (sym (lifts (is_some it.class.marking) it.class.plain (is_some it.class.bound) some plain bound) ∙ none)))
        where
          lifts : (m p b : Bool) → m ≡ true → p ≡ true → b ≡ false → (m && (p && not b)) ≡ true
          lifts true true false e f g = refl
          lifts true true true e f g = absurd (true≢false g)
          lifts true false b e f g = absurd (true≢false (sym f))
          lifts false p b e f g = absurd (true≢false (sym e))

  bounded_kept : is_some it.class.bound ≡ true → SomeAreKept
  bounded_kept bound =
      let (y, parts, start_allowed) = bounded_parts it c.in_range c.is_tree scale v.positive first effect e keeps variable_whole start_whole bound in
      (y, bounded_moved y parts bound, λ none. start_allowed)

  plain_kept : is_some it.class.bound ≡ false → it.class.plain ≡ true → SomeAreKept
  plain_kept bound plain =
      let (y, parts, start_steps) = plain_parts it c.in_range c.is_tree scale v.positive first effect e keeps variable_whole start_whole bound plain in
      let (least, over, has, low) = least_over scale list (subst (λ k. 0 < k) (sym list_length) (let lt = c.in_range.initial in omega arith)) v.positive all_over in
      let (l, within, is) = map_from out (all_numbers (states it.lts)) (least_of list) has in
      let (_, _, below) = where_is (λ q. true) 0 (states it.lts) l within in
      let l_lt : l < states it.lts = omega arith in (
        lowered (states it.lts) (neg_ℤ (y (Tokens l))) y,
        plain_moved y parts bound plain l l_lt is,
        λ none. subst Allows (sym (low_at y parts bound plain l l_lt is it.lts.initial c.in_range.initial))
            (allowed_by y parts bound plain l l_lt is it.problem c.asked (keeps_whole y parts) start_steps none),
      )

  pub whole_kept : SomeAreKept
  whole_kept = ⊎_elim bounded_kept (λ bound. plain_kept bound (plainly it.class.plain (is_some it.class.bound) whole_class bound)) (cases_Bool (is_some it.class.bound))
    where
      plainly : (a b : Bool) → (a || b) ≡ true → b ≡ false → a ≡ true
      plainly true b e f = refl
      plainly false true e f = absurd (true≢false f)
      plainly false false e f = e
