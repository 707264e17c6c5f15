-- Going over the uses of labels.
use Rattle.std.proofs.Common.{◌≡◌, ℕ, List, [], ◌∷◌, ◌++◌, Contains, None, Some, refl, sym, ap, subst, ◌∙◌, append_assoc, append-nil}
use Rattle.rg_theory.specs.System.{System}
use Rattle.rg_lts.specs.Draft.{Draft, finished}
use Rattle.rg_lts.specs.WellFormed.{IsWellFormed}
use Rattle.rg_text.specs.Faults.{faults_after, IsFirst, AreNone}
use Rattle.rg_words.specs.declared.fault.WordFault.{WordFault}
use Rattle.rg_words.specs.Contents.{Word, Use, uses, uses_from, state_names, use_fault}
use Rattle.rg_words.specs.Spells.{IsTreeOf, Spells}
use Rattle.rg_words.specs.Reading.{use_of, IsDraftOf, IsAt, GoesTo, Stands}
use Rattle.rg_words.proofs.Growing.{empty_first}

goes_more : (all before : List Use) (u : Use) (rest : List Use) → use_fault before u ≡ None → GoesTo all before (u ∷ rest) → GoesTo all (before ++ u ∷ []) rest
goes_more all before u rest right g =
    let left : faults_after use_fault before (u ∷ rest) ≡ None ∷ faults_after use_fault (before ++ u ∷ []) rest = ap (λ o. o ∷ faults_after use_fault (before ++ u ∷ []) rest) right in
    record {
      whole = g.whole ∙ sym (append_assoc before (u ∷ []) rest);
      first = λ f is. g.first f (subst (λ l. IsFirst l f) (sym left) is);
      none = λ n. g.none (subst AreNone (sym left) n);
    }

goes_wrong : (all before : List Use) (u : Use) (rest : List Use) (f : WordFault) → use_fault before u ≡ Some f → GoesTo all before (u ∷ rest)
    → IsFirst (faults_after use_fault [] all) f
goes_wrong all before u rest f wrong g =
    let left : faults_after use_fault before (u ∷ rest) ≡ Some f ∷ faults_after use_fault (before ++ u ∷ []) rest = ap (λ o. o ∷ faults_after use_fault (before ++ u ∷ []) rest) wrong in
    g.first f (subst (λ l. IsFirst l f) (sym left) refl)

module _ (all more : List Use) (n : ℕ) (word : Word) (names : List (List ℕ)) (steps : List (ℕ × ℕ)) (state : ℕ) where
  -- a label is taken
  pub label_taken : (label : List ℕ) (labels : Word) (more_names : List (List ℕ)) (more_steps : List (ℕ × ℕ)) (to : ℕ)
      → ((before : List Use) (w : Word) → IsAt before w names steps state
      → IsAt (before ++ use_of n w label ∷ []) (w ++ label ∷ []) more_names more_steps to × (use_fault before (use_of n w label) ≡ None))
      → Stands all (uses_from n word (label ∷ labels) ++ more) word names steps state
      → Stands all (uses_from n (word ++ label ∷ []) labels ++ more) (word ++ label ∷ []) more_names more_steps to
  label_taken label labels more_names more_steps to step s =
      let r = step s.before word s.at in
      record { before = s.before ++ use_of n word label ∷ []; goes = goes_more all s.before (use_of n word label) _ r.1 s.goes; at = r.0 }

  -- a label is wrong
  pub label_wrong : (label : List ℕ) (labels : Word) (f : WordFault) → ((before : List Use) (w : Word) → IsAt before w names steps state → use_fault before (use_of n w label) ≡ Some f)
      → Stands all (uses_from n word (label ∷ labels) ++ more) word names steps state → IsFirst (faults_after use_fault [] all) f
  label_wrong label labels f step s = goes_wrong all s.before (use_of n word label) _ f (step s.before word s.at) s.goes

  -- the word is at its end
  pub word_ends : Stands all more word names steps state → Stands all more [] names steps 0
  word_ends s = record {
    before = s.before;
    goes = s.goes;
    at = record { labels = s.at.labels; tree = s.at.tree; index = empty_first s.before };
  }

-- at the end the system is the tree
pub all_there : (bytes : List ℕ) (names : List (List ℕ)) (steps : List (ℕ × ℕ)) (d : Draft) (lts : System) → Stands (uses bytes) [] [] names steps 0 → d.label_names ≡ names
    → IsDraftOf d steps → lts ≡ finished d 0 → IsWellFormed lts → Spells bytes lts
all_there bytes names steps d lts s named draft is formed =
    let whole : uses bytes ≡ s.before = s.goes.whole ∙ append-nil s.before in
    let tree = s.at.tree in
    let arcs : lts.arcs ≡ d.arcs = ap (λ (l : System). l.arcs) is in
    let system : IsTreeOf s.before lts = record {
      state_names = ap (λ (l : System). l.state_names) is ∙ draft.states ∙ ap state_names (sym tree.size);
      label_names = ap (λ (l : System). l.label_names) is ∙ named ∙ s.at.labels;
      initial = ap (λ (l : System). l.initial) is;
      members = λ a. (
        λ h. (tree.same a).0 ((draft.arcs a).0 (subst (λ l. Contains l a) arcs h)),
        λ h. subst (λ l. Contains l a) (sym arcs) ((draft.arcs a).1 ((tree.same a).1 h)),
      );
      in_order = formed.arc_order;
    } in
    record { none = s.goes.none tt; tree = subst (λ u. IsTreeOf u lts) (sym whole) system }
