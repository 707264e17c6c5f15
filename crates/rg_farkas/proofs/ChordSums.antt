-- With the chords' multipliers, the named rows cancel at all numbers along the tree.
use Rattle.std.proofs.Common.{◌≡◌, ◌≢◌, ⊎_elim, ℕ, suc, ◌+◌, List, [], ◌∷◌, map, Result, Ok, Contains, All, ap, ap₂, refl, subst, sym, ◌∙◌, arith}
use Rattle.std.specs.Prelude.{ℤ, pos, neg_ℤ, ◌+ℤ◌, ◌*ℤ◌, ◌<ℤ◌}
use Rattle.std.proofs.lemmas.Int.{ints}
use Rattle.std.proofs.lemmas.List.Elements.{All-contains, Contains-append_cases}
use Rattle.rg_theory.proofs.Lists.{Contains-cons_cases, map_from}
use Rattle.rg_theory.specs.declared.Arc.{Arc}
use Rattle.rg_theory.specs.System.{System, IsInRange, states, labels}
use Rattle.rg_theory.specs.Tree.{IsTree}
use Rattle.rg_integers.specs.Sum.{sum_over}
use Rattle.rg_integers.proofs.Ring.{ring, mul-add, add-mul, mul-neg, mul_assoc, mul_left_comm}
use Rattle.rg_integers.proofs.Order.{mul-cancel, mul-cancel_left, mul_positive, positive_differs}
use Rattle.rg_integers.proofs.ListSums.{sum_over-same, sum_over-append, sum_over-map, sum_over-plus, sum_over-times, sum_over-swap}
use Rattle.rg_integers.specs.declared.term.Wide.{Wide}
use Rattle.rg_cert_meaning.specs.Expression.{Expression, value_in}
use Rattle.rg_cert_meaning.specs.declared.Variable.{Variable}
use Rattle.rg_cert_meaning.specs.declared.RowName.{RowName}
use Rattle.rg_cert_meaning.specs.Refutes.{NamedRow}
use Rattle.rg_linear.specs.Cycle.{CycleBasis}
use Rattle.rg_folds.specs.Fold.{each, further, joined, Ratio, whole, add}
use Rattle.rg_case_folds.specs.Potentials.{chord_sum}
use Rattle.rg_case_folds.specs.Chords.{IsBasis}
use Rattle.rg_folds.specs.Substitution.{dependent_labels}
use Rattle.rg_case_folds.specs.Rewriting.{start_of, count_of}
use Rattle.rg_case_folds.specs.Values.{NamesLabels, numbers_along}
use Rattle.rg_case_folds.specs.Spreading.{Share, Pair, pairs_of, pair_fold, used_chords, chord_fold}
use Rattle.rg_case_folds.proofs.RowValues.{IsOver, rewritten, quotient_over}
use Rattle.rg_case_folds.proofs.Scaling.{Divides, AllDivide}
use Rattle.rg_case_folds.proofs.ChordRows.{effects_exact}
use Rattle.rg_farkas.specs.Refuting.{KeepsEachArc, terms_sum, RefuteOnArcs, AreShares}
use Rattle.rg_farkas.specs.View.{AreRowsWithin, arc_times}
use Rattle.rg_cert_data.specs.Certificates.{IsTermWithin}
use Rattle.rg_farkas.proofs.Fractions.{product_over, whole_over_one, joined_sum, negated_over, whole_in, whole_in_over}
use Rattle.rg_farkas.proofs.Relations.{used_chord, taken, taken_follows, chords_at, counts_away}
use Rattle.rg_farkas.proofs.Variables.{within_names}

-- ---- the shares as rows, over a scale

abbrev pub weighted : ℤ → List Share → List NamedRow
weighted m shares = map (λ s. record { multiplier = whole_in m s.multiplier; name = s.name }) shares

pub are_shares : (m : ℤ) (shares : List Share) → AllDivide (map (λ r. r.bottom) (map (λ s. s.multiplier) shares)) m → AreShares m shares (weighted m shares)
are_shares m [] d = tt
are_shares m (s ∷ shares) (here, d) = (refl, sym (whole_in_over m s.multiplier here), are_shares m shares d)

pub divides_share : (m : ℤ) (shares : List Share) (s : Share) → AllDivide (map (λ r. r.bottom) (map (λ s. s.multiplier) shares)) m → Contains shares s → Divides s.multiplier.bottom m
divides_share m [] s d (k, lt, e) = absurd (omega arith)
divides_share m (r ∷ shares) s (here, d) has =
    ⊎_elim (λ e. subst (λ (u : Share). Divides u.multiplier.bottom m) e here) (λ there. divides_share m shares s d there) (Contains-cons_cases r s shares has)

-- ---- sums over pairs of rows and labels

pub pairs_sum : (f : Pair → ℤ) (shares : List Share) (ts : List ℕ) → sum_over f (pairs_of shares ts) ≡ sum_over (λ s. sum_over (λ t. f (record { share = s; label = t })) ts) shares
pairs_sum f [] ts = refl
pairs_sum f (s ∷ shares) ts = sum_over-append f (map (λ t. record { share = s; label = t }) ts) (pairs_of shares ts)
    ∙ ap₂ ◌+ℤ◌ (sum_over-map f (λ t. record { share = s; label = t }) ts) (pairs_sum f shares ts)

pub in_pairs : (shares : List Share) (ts : List ℕ) (p : Pair) → Contains (pairs_of shares ts) p → Contains shares p.share × Contains ts p.label
in_pairs [] ts p (k, lt, e) = absurd (omega arith)
in_pairs (s ∷ shares) ts p has = ⊎_elim
    (λ here. (let (t, has', e) = map_from (λ t. record { share = s; label = t }) ts p here in
    ((0, omega arith, ap (λ (q : Pair). q.share) e), subst (Contains ts) (ap (λ (q : Pair). q.label) e) has')))
    (λ there. (let ((k, lt, e), has') = in_pairs shares ts p there in ((suc k, omega arith, e), has')))
    (Contains-append_cases (map (λ t. record { share = s; label = t }) ts) (pairs_of shares ts) p has)

-- ---- one chord

-- the bottom of a sum is positive
further_bottom : {A : Type 0} (make : A → Result Ratio Wide → Type 0) (f h : Ratio) (items : List A) → pos 0 <ℤ f.bottom → further add make f items (Ok h) → pos 0 <ℤ h.bottom
further_bottom make f h [] p e = subst (λ (r : Ratio). pos 0 <ℤ r.bottom) (sym e) p
further_bottom make f h (a ∷ items) p (k, made, (g, (_, _, added), rest)) = further_bottom make g h items added.positive rest

joined_bottom : {A : Type 0} (make : A → Result Ratio Wide → Type 0) (h : Ratio) (items : List A)
    → ((a : A) (k : Ratio) → make a (Ok k) → pos 0 <ℤ k.bottom) → joined add make (whole (pos 0)) items (Ok h) → pos 0 <ℤ h.bottom
joined_bottom make h [] made e = subst (λ (r : Ratio). pos 0 <ℤ r.bottom) (sym e) (omega (arith, ints))
joined_bottom make h (a ∷ items) made (k, is, rest) = further_bottom make k h items (made a k is) rest

pair_bottom : (tree : List Arc) (basis : CycleBasis) (expression : RowName → Expression) (c : ℕ) (p : Pair) (k : Ratio) → pair_fold tree basis expression c p (Ok k) → pos 0 <ℤ k.bottom
pair_bottom tree basis expression c p k (x, first, (q, is, (_, _, r))) = r.positive

pub chord_bottom : (lts : System) (tree : List Arc) (basis : CycleBasis) (expression : RowName → Expression) (shares : List Share) (c : ℕ)
    (x : Ratio) → chord_fold lts tree basis expression shares c (Ok x) → pos 0 <ℤ x.bottom
chord_bottom lts tree basis expression shares c x (h, sum, e) =
    subst (λ (r : Ratio). pos 0 <ℤ r.bottom) (sym e)
    (joined_bottom (pair_fold tree basis expression (labels lts + c)) h (pairs_of shares (dependent_labels (labels lts) basis))
    (pair_bottom tree basis expression (labels lts + c)) sum)

module _ (lts : System) (tree : List Arc) (basis : CycleBasis) (expression : RowName → Expression) (shares : List Share) (m b : ℤ) (part : ℕ → ℤ)
    (divides : AllDivide (map (λ r. r.bottom) (map (λ s. s.multiplier) shares)) m)
    (exact : (t : ℕ) → Contains (dependent_labels (labels lts) basis) t → b ≡ (basis.relation t).d *ℤ part t) where
  -- what a pair gives the chord c, over m * b
  abbrev pub pair_value : ℕ → Pair → ℤ
  pair_value c p = (whole_in m p.share.multiplier *ℤ count_of tree (expression p.share.name).terms p.label) *ℤ ((basis.relation p.label).coefficient (labels lts + c) *ℤ part p.label)

  abbrev pub chord_value : ℕ → ℤ
  chord_value c = sum_over (pair_value c) (pairs_of shares (dependent_labels (labels lts) basis))

  pair_over : (c : ℕ) (p : Pair) (k : Ratio) → Contains (pairs_of shares (dependent_labels (labels lts) basis)) p
      → pair_fold tree basis expression (labels lts + c) p (Ok k) → IsOver ((m *ℤ pos 1) *ℤ b) k (pair_value c p)
  pair_over c p k has (x, first, (q, is, second)) =
      let (has_share, has_label) = in_pairs shares (dependent_labels (labels lts) basis) p has in
      product_over (m *ℤ pos 1) b x q k (whole_in m p.share.multiplier *ℤ count_of tree (expression p.share.name).terms p.label)
      ((basis.relation p.label).coefficient (labels lts + c) *ℤ part p.label) second
      (product_over m (pos 1) p.share.multiplier (whole (count_of tree (expression p.share.name).terms p.label)) x (whole_in m p.share.multiplier)
      (count_of tree (expression p.share.name).terms p.label) first (whole_in_over m p.share.multiplier (divides_share m shares p.share divides has_share))
      (whole_over_one (count_of tree (expression p.share.name).terms p.label)))
      (subst (λ z. IsOver z q ((basis.relation p.label).coefficient (labels lts + c) *ℤ part p.label)) (sym (exact p.label has_label))
      (quotient_over ((basis.relation p.label).coefficient (labels lts + c)) (basis.relation p.label).d (part p.label) q is))

  one_chord : (c : ℕ) (x : Ratio) → chord_fold lts tree basis expression shares c (Ok x) → Divides x.bottom m → whole_in m x *ℤ b ≡ neg_ℤ (chord_value c)
  one_chord c x fold d = go fold
    where
      close : (t u m b z s : ℤ) → u ≢ pos 0 → t *ℤ ((m *ℤ pos 1) *ℤ b) ≡ s *ℤ u → t *ℤ m ≡ z *ℤ u → z *ℤ b ≡ s
      close t u m b z s ne p q = mul-cancel (z *ℤ b) s u ne (turn z b u ∙ ap (λ y. y *ℤ b) (sym q) ∙ turn' t m b ∙ p)
        where
          turn : (z b u : ℤ) → (z *ℤ b) *ℤ u ≡ (z *ℤ u) *ℤ b
          turn z b u = simp ring

          turn' : (t m b : ℤ) → (t *ℤ m) *ℤ b ≡ t *ℤ ((m *ℤ pos 1) *ℤ b)
          turn' t m b = simp ring

      go : chord_fold lts tree basis expression shares c (Ok x) → whole_in m x *ℤ b ≡ neg_ℤ (chord_value c)
      go (h, sum, e) =
          close x.top x.bottom m b (whole_in m x) (neg_ℤ (chord_value c)) (positive_differs x.bottom (chord_bottom lts tree basis expression shares c x fold))
          (subst (λ (r : Ratio). IsOver ((m *ℤ pos 1) *ℤ b) r (neg_ℤ (chord_value c))) (sym e)
          (negated_over ((m *ℤ pos 1) *ℤ b) h (chord_value c)
          (joined_sum ((m *ℤ pos 1) *ℤ b) (pair_fold tree basis expression (labels lts + c)) (pair_value c) h
          (pairs_of shares (dependent_labels (labels lts) basis)) sum (pair_over c))))
          (whole_in_over m x d)

  -- the chords with their multipliers, at what g says of each
  pub chords_sum : (g : Arc → ℤ) (cs : List ℕ) (xs : List Ratio) → each (chord_fold lts tree basis expression shares) cs (Ok xs) → AllDivide (map (λ r. r.bottom) xs) m
      → sum_over (λ r. r.multiplier *ℤ g r.arc) (arc_times (map (used_chord lts tree basis) cs) (map (whole_in m) xs)) *ℤ b
      ≡ neg_ℤ (sum_over (λ c. g (used_chord lts tree basis c) *ℤ chord_value c) cs)
  chords_sum g [] xs e d = none b
    where
      none : (b : ℤ) → pos 0 *ℤ b ≡ neg_ℤ (pos 0)
      none b = omega (arith, ints)
  chords_sum g (c ∷ cs) xs (x, fold, (rest, each_is, e)) d = subst
      (λ l. AllDivide (map (λ r. r.bottom) l) m → sum_over (λ r. r.multiplier *ℤ g r.arc) (arc_times (map (used_chord lts tree basis) (c ∷ cs)) (map (whole_in m) l)) *ℤ
      b ≡ neg_ℤ (sum_over (λ c. g (used_chord lts tree basis c) *ℤ chord_value c) (c ∷ cs))) (sym e) (λ d'. go d' (λ d''. chords_sum g cs rest each_is d'')) d
    where
      close : (z g s b v t : ℤ) → z *ℤ b ≡ neg_ℤ v → s *ℤ b ≡ neg_ℤ t → ((z *ℤ g) +ℤ s) *ℤ b ≡ neg_ℤ ((g *ℤ v) +ℤ t)
      close z g s b v t p q = add-mul (z *ℤ g) s b ∙ ap₂ ◌+ℤ◌ (turn z g b ∙ ap (λ y. g *ℤ y) p) q ∙ shut g v t
        where
          turn : (z g b : ℤ) → (z *ℤ g) *ℤ b ≡ g *ℤ (z *ℤ b)
          turn z g b = simp ring

          shut : (g v t : ℤ) → (g *ℤ neg_ℤ v) +ℤ neg_ℤ t ≡ neg_ℤ ((g *ℤ v) +ℤ t)
          shut g v t = rw mul-neg (omega (arith, ints))

      go : AllDivide (map (λ r. r.bottom) (x ∷ rest)) m
          → (AllDivide (map (λ r. r.bottom) rest) m → sum_over (λ r. r.multiplier *ℤ g r.arc) (arc_times (map (used_chord lts tree basis) cs) (map (whole_in m) rest)) *ℤ
          b ≡ neg_ℤ (sum_over (λ c. g (used_chord lts tree basis c) *ℤ chord_value c) cs))
          → sum_over (λ r. r.multiplier *ℤ g r.arc) (arc_times (map (used_chord lts tree basis) (c ∷ cs)) (map (whole_in m) (x ∷ rest))) *ℤ b ≡ neg_ℤ
          (sum_over (λ c. g (used_chord lts tree basis c) *ℤ chord_value c) (c ∷ cs))
      go (here, d) ih = close (whole_in m x) (g (used_chord lts tree basis c)) _ b (chord_value c) _ (one_chord c x fold here) (ih d)

  -- ---- at all numbers along the tree

  -- what the labels that are not free give, row by row and chord by chord
  both_ways : (is : IsBasis lts tree basis) (effect : ℕ → ℤ)
      → sum_over (λ s. whole_in m s.multiplier *ℤ sum_over
      (λ t. count_of tree (expression s.name).terms t *ℤ (part t *ℤ chords_at lts tree basis is effect t)) (dependent_labels (labels lts) basis)) shares
      ≡ sum_over (λ c. chord_sum lts tree effect (used_chord lts tree basis c) *ℤ chord_value c) (used_chords lts basis)
  both_ways is effect =
      sum_over-same _ _ shares (λ s has. sym (sum_over-times (whole_in m s.multiplier)
      (λ t. count_of tree (expression s.name).terms t *ℤ (part t *ℤ chords_at lts tree basis is effect t)) (dependent_labels (labels lts) basis)))
      ∙ sym (pairs_sum (λ p. whole_in m p.share.multiplier
      *ℤ (count_of tree (expression p.share.name).terms p.label *ℤ (part p.label *ℤ chords_at lts tree basis is effect p.label))) shares
      (dependent_labels (labels lts) basis))
      ∙ sum_over-same _ (λ p. sum_over (λ c. chord_sum lts tree effect (used_chord lts tree basis c) *ℤ pair_value c p) (used_chords lts basis))
      (pairs_of shares (dependent_labels (labels lts) basis)) (λ p has. one p)
      ∙ sum_over-swap (λ p c. chord_sum lts tree effect (used_chord lts tree basis c) *ℤ pair_value c p) (pairs_of shares (dependent_labels (labels lts) basis)) (used_chords lts basis)
      ∙ sum_over-same _ _ (used_chords lts basis)
      (λ c has. sum_over-times (chord_sum lts tree effect (used_chord lts tree basis c)) (pair_value c) (pairs_of shares (dependent_labels (labels lts) basis)))
    where
      one : (p : Pair) → whole_in m p.share.multiplier
          *ℤ (count_of tree (expression p.share.name).terms p.label *ℤ (part p.label *ℤ chords_at lts tree basis is effect p.label))
          ≡ sum_over (λ c. chord_sum lts tree effect (used_chord lts tree basis c) *ℤ pair_value c p) (used_chords lts basis)
      one p =
          turn (whole_in m p.share.multiplier) (count_of tree (expression p.share.name).terms p.label) (part p.label) (chords_at lts tree basis is effect p.label)
          ∙ sym (sum_over-times ((whole_in m p.share.multiplier *ℤ count_of tree (expression p.share.name).terms p.label) *ℤ part p.label)
          (λ c. (basis.relation p.label).coefficient (labels lts + c) *ℤ chord_sum lts tree effect (used_chord lts tree basis c)) (used_chords lts basis))
          ∙ sum_over-same _ _ (used_chords lts basis)
          (λ c has. turn' (whole_in m p.share.multiplier *ℤ count_of tree (expression p.share.name).terms p.label) (part p.label)
          ((basis.relation p.label).coefficient (labels lts + c)) (chord_sum lts tree effect (used_chord lts tree basis c)))
        where
          turn : (z c p s : ℤ) → z *ℤ (c *ℤ (p *ℤ s)) ≡ ((z *ℤ c) *ℤ p) *ℤ s
          turn z c p s = simp ring

          turn' : (z p k s : ℤ) → (z *ℤ p) *ℤ (k *ℤ s) ≡ s *ℤ (z *ℤ (k *ℤ p))
          turn' z p k s = simp ring

  named_sum : (x : Variable → ℤ) → terms_sum expression (weighted m shares) x ≡ sum_over (λ s. whole_in m s.multiplier *ℤ value_in x (expression s.name).terms) shares
  named_sum x = sum_over-map (λ r. r.multiplier *ℤ value_in x (expression r.name).terms) (λ s. record { multiplier = whole_in m s.multiplier; name = s.name }) shares

  -- the value of one named row, times the bottoms
  row_away : (is : IsBasis lts tree basis) (start : ℤ) (effect : ℕ → ℤ) (s : Share) → All (IsTermWithin (states lts) (labels lts)) (expression s.name).terms
      → (b *ℤ (taken lts tree basis is effect).times) *ℤ value_in (numbers_along lts tree start effect) (expression s.name).terms
      ≡ (b *ℤ value_in (numbers_along lts tree ((taken lts tree basis is effect).times *ℤ start) (taken lts tree basis is effect).v) (expression s.name).terms) +ℤ
      ((taken lts tree basis is effect).times *ℤ sum_over (λ t. count_of tree (expression s.name).terms t *ℤ (part t *ℤ chords_at lts tree basis is effect t))
      (dependent_labels (labels lts) basis))
  row_away is start effect s within =
      ap (λ z. (b *ℤ (taken lts tree basis is effect).times) *ℤ z) (rewritten lts tree start effect (expression s.name).terms names)
      ∙ close b (taken lts tree basis is effect).times (start_of (expression s.name).terms) start _ _ _ (counts_away lts tree basis is effect (count_of tree (expression s.name).terms) part b exact)
      ∙ ap (λ z. (b *ℤ z) +ℤ ((taken lts tree basis is effect).times *ℤ sum_over
      (λ t. count_of tree (expression s.name).terms t *ℤ (part t *ℤ chords_at lts tree basis is effect t)) (dependent_labels (labels lts) basis)))
      (sym (rewritten lts tree ((taken lts tree basis is effect).times *ℤ start) (taken lts tree basis is effect).v (expression s.name).terms names))
    where
      names : NamesLabels (labels lts) (expression s.name).terms
      names = within_names (states lts) (labels lts) (expression s.name).terms within

      close : (b n c z e v a : ℤ) → b *ℤ (n *ℤ e) ≡ (b *ℤ v) +ℤ (n *ℤ a) → (b *ℤ n) *ℤ ((c *ℤ z) +ℤ e) ≡ (b *ℤ ((c *ℤ (n *ℤ z)) +ℤ v)) +ℤ (n *ℤ a)
      close b n c z e v a p = mul-add (b *ℤ n) (c *ℤ z) e ∙ ap₂ ◌+ℤ◌ (turn b n c z) (mul_assoc b n e ∙ p) ∙ shut b (c *ℤ (n *ℤ z)) v (n *ℤ a)
        where
          turn : (b n c z : ℤ) → (b *ℤ n) *ℤ (c *ℤ z) ≡ b *ℤ (c *ℤ (n *ℤ z))
          turn b n c z = simp ring

          shut : (b x v a : ℤ) → (b *ℤ x) +ℤ ((b *ℤ v) +ℤ a) ≡ (b *ℤ (x +ℤ v)) +ℤ a
          shut b x v a = simp ring (omega (arith, ints))

  -- the named rows and the chords cancel
  pub rows_cancel : (fine : IsInRange lts) (g : IsTree lts tree) (is : IsBasis lts tree basis) → pos 0 <ℤ b → AreRowsWithin lts expression shares
      → RefuteOnArcs lts expression (weighted m shares) → (xs : List Ratio) → each (chord_fold lts tree basis expression shares) (used_chords lts basis) (Ok xs)
      → AllDivide (map (λ r. r.bottom) xs) m → (start : ℤ) (effect : ℕ → ℤ)
      → terms_sum expression (weighted m shares) (numbers_along lts tree start effect)
      +ℤ sum_over (λ r. r.multiplier *ℤ chord_sum lts tree effect r.arc)
      (arc_times (map (used_chord lts tree basis) (used_chords lts basis)) (map (whole_in m) xs)) ≡ pos 0
  rows_cancel fine g is positive within refute xs folds d start effect =
      close b (taken lts tree basis is effect).times _ _ _
      (positive_differs _ (mul_positive b (taken lts tree basis is effect).times positive (taken lts tree basis is effect).positive)) rows
      (chords_sum (chord_sum lts tree effect) (used_chords lts basis) xs folds d)
    where
      rows : (b *ℤ (taken lts tree basis is effect).times) *ℤ terms_sum expression (weighted m shares) (numbers_along lts tree start effect)
          ≡ (taken lts tree basis is effect).times *ℤ sum_over (λ c. chord_sum lts tree effect (used_chord lts tree basis c) *ℤ chord_value c) (used_chords lts basis)
      rows =
          ap (λ z. (b *ℤ (taken lts tree basis is effect).times) *ℤ z) (named_sum (numbers_along lts tree start effect))
          ∙ sym (sum_over-times (b *ℤ (taken lts tree basis is effect).times) (λ s. whole_in m s.multiplier *ℤ value_in (numbers_along lts tree start effect) (expression s.name).terms) shares)
          ∙ sum_over-same _ (λ s. (b *ℤ (whole_in m s.multiplier *ℤ value_in
          (numbers_along lts tree ((taken lts tree basis is effect).times *ℤ start) (taken lts tree basis is effect).v) (expression s.name).terms)) +ℤ
          ((taken lts tree basis is effect).times *ℤ
          (whole_in m s.multiplier *ℤ sum_over (λ t. count_of tree (expression s.name).terms t *ℤ (part t *ℤ chords_at lts tree basis is effect t))
          (dependent_labels (labels lts) basis)))) shares (λ s has. one s has)
          ∙ sum_over-plus (λ s. b *ℤ (whole_in m s.multiplier *ℤ value_in
          (numbers_along lts tree ((taken lts tree basis is effect).times *ℤ start) (taken lts tree basis is effect).v) (expression s.name).terms))
          (λ s. (taken lts tree basis is effect).times *ℤ
          (whole_in m s.multiplier *ℤ sum_over (λ t. count_of tree (expression s.name).terms t *ℤ (part t *ℤ chords_at lts tree basis is effect t))
          (dependent_labels (labels lts) basis))) shares
          ∙ ap₂ ◌+ℤ◌
          (sum_over-times b (λ s. whole_in m s.multiplier *ℤ value_in
          (numbers_along lts tree ((taken lts tree basis is effect).times *ℤ start) (taken lts tree basis is effect).v) (expression s.name).terms) shares
          ∙ ap (λ z. b *ℤ z) (sym (named_sum (numbers_along lts tree ((taken lts tree basis is effect).times *ℤ start) (taken lts tree basis is effect).v))
          ∙ refute.cancel (numbers_along lts tree ((taken lts tree basis is effect).times *ℤ start) (taken lts tree basis is effect).v) kept) ∙ times_zero b)
          (sum_over-times (taken lts tree basis is effect).times
          (λ s. whole_in m s.multiplier *ℤ sum_over (λ t. count_of tree (expression s.name).terms t *ℤ (part t *ℤ chords_at lts tree basis is effect t))
          (dependent_labels (labels lts) basis)) shares ∙ ap (λ z. (taken lts tree basis is effect).times *ℤ z) (both_ways is effect))
          ∙ first _
        where
          times_zero : (z : ℤ) → z *ℤ pos 0 ≡ pos 0
          times_zero z = omega (arith, ints)

          first : (z : ℤ) → pos 0 +ℤ z ≡ z
          first z = omega (arith, ints)

          kept : KeepsEachArc lts (numbers_along lts tree ((taken lts tree basis is effect).times *ℤ start) (taken lts tree basis is effect).v)
          kept = (effects_exact lts tree basis ((taken lts tree basis is effect).times *ℤ start) (taken lts tree basis is effect).v fine g is).1 (taken_follows lts tree basis is effect)

          one : (s : Share) → Contains shares s → (b *ℤ (taken lts tree basis is effect).times) *ℤ
              (whole_in m s.multiplier *ℤ value_in (numbers_along lts tree start effect) (expression s.name).terms) ≡
              (b *ℤ (whole_in m s.multiplier *ℤ value_in (numbers_along lts tree ((taken lts tree basis is effect).times *ℤ start) (taken lts tree basis is effect).v)
              (expression s.name).terms)) +ℤ ((taken lts tree basis is effect).times *ℤ
              (whole_in m s.multiplier *ℤ sum_over (λ t. count_of tree (expression s.name).terms t *ℤ (part t *ℤ chords_at lts tree basis is effect t))
              (dependent_labels (labels lts) basis)))
          one s has = mul_left_comm (b *ℤ (taken lts tree basis is effect).times) (whole_in m s.multiplier)
              (value_in (numbers_along lts tree start effect) (expression s.name).terms)
              ∙ ap (λ z. whole_in m s.multiplier *ℤ z)
              (row_away is start effect s (All-contains (λ (u : Share). All (IsTermWithin (states lts) (labels lts)) (expression u.name).terms) shares s within has))
              ∙ shut (whole_in m s.multiplier) b (value_in (numbers_along lts tree ((taken lts tree basis is effect).times *ℤ start) (taken lts tree basis is effect).v)
              (expression s.name).terms) (taken lts tree basis is effect).times
              (sum_over (λ t. count_of tree (expression s.name).terms t *ℤ (part t *ℤ chords_at lts tree basis is effect t)) (dependent_labels (labels lts) basis))
            where
              shut : (z b v n a : ℤ) → z *ℤ ((b *ℤ v) +ℤ (n *ℤ a)) ≡ (b *ℤ (z *ℤ v)) +ℤ (n *ℤ (z *ℤ a))
              shut z b v n a = simp ring (omega (arith, ints))

      close : (b n x y s : ℤ) → (b *ℤ n) ≢ pos 0 → (b *ℤ n) *ℤ x ≡ n *ℤ s → y *ℤ b ≡ neg_ℤ s → x +ℤ y ≡ pos 0
      close b n x y s ne p q = mul-cancel_left (b *ℤ n) (x +ℤ y) (pos 0) ne (mul-add (b *ℤ n) x y ∙ ap₂ ◌+ℤ◌ p (turn b n y ∙ ap (λ z. n *ℤ z) q) ∙ shut n s ∙ sym (times_zero (b *ℤ n)))
        where
          turn : (b n y : ℤ) → (b *ℤ n) *ℤ y ≡ n *ℤ (y *ℤ b)
          turn b n y = simp ring

          shut : (n s : ℤ) → (n *ℤ s) +ℤ (n *ℤ neg_ℤ s) ≡ pos 0
          shut n s = rw mul-neg (omega (arith, ints))

          times_zero : (z : ℤ) → z *ℤ pos 0 ≡ pos 0
          times_zero z = omega (arith, ints)
