-- `selftest` ends in one way for a number.
use Rattle.std.proofs.Common.{◌≡◌, inl, inr, ℕ, List, [], ◌++◌, length, refl, sym, ap, ap₂, subst, ◌∙◌}
use Rattle.rg_theory.specs.System.{System}
use Rattle.rg_case_folds.specs.Shown.{Shown}
use Rattle.rg_outcome.specs.Outcome.{Out, Answer, Answer.net as of_net, Answer.unsolvable as of_reason, Answer.too_wide as of_term}
use Rattle.rg_separate.specs.View.{shown_of}
use Rattle.rg_messages.specs.CheckedTexts.{yes_line}
use Rattle.rg_messages.specs.TrialTexts.{solved_line, unsolvable_line}
use Rattle.rg_top.specs.End.{End, says_yes, shows_term, HasStatus}
use Rattle.rg_top.specs.SelfTest.{Trial, grid_trial, doubling_trial, lock_trial, HasLine, solved, unsolvable, Passes, HasAnswer, IsConclusive, IsTerm}
use Rattle.rg_top.specs.SelfTest.{SelfTestEnds, three_lines, first_passes, second_passes, third_passes, TrialsPass, SelfTestIsDue, by_answers, by_term}
use Rattle.rg_top.specs.Terms.{Term.of_net as of_net_term}
use Rattle.rg_top.specs.declared.status.Status.{Status}
use Rattle.rg_top.proofs.GenerateOnce.{OneOfFamily}
use Rattle.rg_top.proofs.SynthesizeOnce.{OneOut}
use Rattle.rg_top.proofs.Told.{TellsOne, IsEndOf, IsStatusOf, one_end, due_end}

-- what is one: the system of a family and a number, the answer for a system and a class
pub record OneOfTrials : Type 0 where
  pub system : OneOfFamily
  pub out : OneOut

one_answer : OneOfTrials → (t : Trial) (a b : Answer) → HasAnswer t a → HasAnswer t b → a ≡ b
one_answer one t a b x y = one.out x.lts t.class a b x.answer (subst (λ l. Out l t.class b) (one.system t.kind t.number y.lts x.lts y.of_family x.of_family) y.answer)

-- ---- the line of a trial

abbrev line_for : Trial → System → Answer → List ℕ
line_for t lts (of_net places) = solved_line t.kind t.number lts (length places) yes_line
line_for t lts (of_reason reason) = unsolvable_line t.kind t.number lts reason
line_for t lts (of_term w) = []

abbrev IsNoTerm : Answer → Type 0
IsNoTerm (of_net places) = Unit {0}
IsNoTerm (of_reason reason) = Unit {0}
IsNoTerm (of_term w) = ⊥

-- a line is that of an answer
record Told (t : Trial) (line : List ℕ) : Type 0 where
  pub answer : Answer
  pub has : HasAnswer t answer
  pub no_term : IsNoTerm answer
  pub text : line ≡ line_for t has.lts answer

told : (t : Trial) (line : List ℕ) → HasLine t line → Told t line
told t line (solved lts net family answer right) = record {
  answer = of_net net.places;
  has = record { lts = lts; of_family = family; answer = answer };
  no_term = tt;
  text = refl;
}
told t line (unsolvable lts reason family answer is holds none) = record {
  answer = of_reason reason;
  has = record { lts = lts; of_family = family; answer = answer };
  no_term = tt;
  text = refl;
}

one_line : OneOfTrials → (t : Trial) (line other : List ℕ) → Told t line → Told t other → line ≡ other
one_line one t line other a b =
    let system = one.system t.kind t.number a.has.lts b.has.lts a.has.of_family b.has.of_family in
    a.text ∙ ap₂ (λ l c. line_for t l c) system (one_answer one t a.answer b.answer a.has b.has) ∙ sym b.text

-- a line is that of a net or of a reason, and these have a line
conclusive : (t : Trial) (line : List ℕ) → HasLine t line → IsConclusive t
conclusive t _ (solved lts net family answer right) = inl (net.places, record { lts = lts; of_family = family; answer = answer })
conclusive t _ (unsolvable lts reason family answer is holds none) = inr (reason, record { lts = lts; of_family = family; answer = answer })

line_of : (t : Trial) → IsConclusive t → (line : List ℕ) × Told t line
line_of t (inl (places, has)) = (line_for t has.lts (of_net places), record { answer = of_net places; has = has; no_term = tt; text = refl })
line_of t (inr (reason, has)) = (line_for t has.lts (of_reason reason), record { answer = of_reason reason; has = has; no_term = tt; text = refl })

-- ---- no line and no conclusion where there is a term

line_or_term : OneOfTrials → (t : Trial) (line : List ℕ) (w : Shown) → Told t line → IsTerm t w → ⊥
line_or_term one t line w a y = subst IsNoTerm (one_answer one t a.answer (of_term w) a.has y) a.no_term

conclusive_or_term : OneOfTrials → (t : Trial) (w : Shown) → IsConclusive t → IsTerm t w → ⊥
conclusive_or_term one t w (inl (places, x)) y = subst IsNoTerm (one_answer one t (of_net places) (of_term w) x y) tt
conclusive_or_term one t w (inr (reason, x)) y = subst IsNoTerm (one_answer one t (of_reason reason) (of_term w) x y) tt

one_term : OneOfTrials → (t : Trial) (w v : Shown) → IsTerm t w → IsTerm t v → w ≡ v
one_term one t w v x y = let e = one_answer one t (of_term w) (of_term v) x y in cc

term_of : (t : Trial) (w : Shown) → Passes t w → IsTerm t w
term_of t w p = record { lts = p.lts; of_family = p.of_family; answer = p.shown.answer }

-- ---- the three trials

data Trials : Type 0 where
  lines : List ℕ → List ℕ → List ℕ → Trials
  passes : Shown → Trials

abbrev Tells : ℕ → Trials → Type 0
Tells n (lines first second third) = Told (grid_trial n) first × Told (doubling_trial n) second × Told (lock_trial n) third
Tells n (passes w) = TrialsPass n w

abbrev end_of : Trials → End
end_of (lines first second third) = says_yes (first ++ (second ++ third))
end_of (passes w) = shows_term (of_net_term w)

passes_once : OneOfTrials → (n : ℕ) (w v : Shown) → TrialsPass n w → TrialsPass n v → w ≡ v
passes_once one n w v (inl h) (inl k) = one_term one (grid_trial n) w v h k
passes_once one n w v (inl h) (inr (inl (a, k))) = absurd (conclusive_or_term one (grid_trial n) w a h)
passes_once one n w v (inl h) (inr (inr (a, b, k))) = absurd (conclusive_or_term one (grid_trial n) w a h)
passes_once one n w v (inr (inl (a, h))) (inl k) = absurd (conclusive_or_term one (grid_trial n) v a k)
passes_once one n w v (inr (inl (a, h))) (inr (inl (b, k))) = one_term one (doubling_trial n) w v h k
passes_once one n w v (inr (inl (a, h))) (inr (inr (b, c, k))) = absurd (conclusive_or_term one (doubling_trial n) w c h)
passes_once one n w v (inr (inr (a, b, h))) (inl k) = absurd (conclusive_or_term one (grid_trial n) v a k)
passes_once one n w v (inr (inr (a, b, h))) (inr (inl (c, k))) = absurd (conclusive_or_term one (doubling_trial n) v b k)
passes_once one n w v (inr (inr (a, b, h))) (inr (inr (c, d, k))) = one_term one (lock_trial n) w v h k

lines_or_term : OneOfTrials → (n : ℕ) (first second third : List ℕ) (w : Shown) → Tells n (lines first second third) → TrialsPass n w → ⊥
lines_or_term one n f g h w (a, b, c) (inl t) = line_or_term one (grid_trial n) f w a t
lines_or_term one n f g h w (a, b, c) (inr (inl (k, t))) = line_or_term one (doubling_trial n) g w b t
lines_or_term one n f g h w (a, b, c) (inr (inr (k, l, t))) = line_or_term one (lock_trial n) h w c t

one_of_trials : OneOfTrials → (n : ℕ) → TellsOne (Tells n)
one_of_trials one n (lines f g h) (lines f' g' h') (a, b, c) (a', b', c') =
    let first = one_line one (grid_trial n) f f' a a' in
    let second = one_line one (doubling_trial n) g g' b b' in
    let third = one_line one (lock_trial n) h h' c c' in
    λ i. lines (first i) (second i) (third i)
one_of_trials one n (lines f g h) (passes w) x y = absurd (lines_or_term one n f g h w x y)
one_of_trials one n (passes w) (lines f g h) x y = absurd (lines_or_term one n f g h w y x)
one_of_trials one n (passes w) (passes v) x y = ap passes (passes_once one n w v x y)

trials : (n : ℕ) (e : End) → SelfTestEnds n e → IsEndOf (Tells n) end_of e
trials n _ (three_lines f g h a b c) = (lines f g h, (told (grid_trial n) f a, told (doubling_trial n) g b, told (lock_trial n) h c), refl)
trials n _ (first_passes w p) = (passes w, inl (term_of (grid_trial n) w p), refl)
trials n _ (second_passes f w a p) = (passes w, inr (inl (conclusive (grid_trial n) f a, term_of (doubling_trial n) w p)), refl)
trials n _ (third_passes f g w a b p) =
    (passes w, inr (inr (conclusive (grid_trial n) f a, conclusive (doubling_trial n) g b, term_of (lock_trial n) w p)), refl)

due : (n : ℕ) (s : Status) → SelfTestIsDue n s → IsStatusOf (Tells n) end_of s
due n _ (by_answers (a, b, c)) =
    let (f, first) = line_of (grid_trial n) a in
    let (g, second) = line_of (doubling_trial n) b in
    let (h, third) = line_of (lock_trial n) c in
    (lines f g h, (first, second, third), refl)
due n _ (by_term at is) = (passes (shown_of at), is, refl)

pub self_test_due : OneOfTrials → (n : ℕ) (e : End) (s : Status) → SelfTestEnds n e → SelfTestIsDue n s → HasStatus e s
self_test_due one n e s x y = due_end (Tells n) end_of (one_of_trials one n) e s (trials n e x) (due n s y)

pub self_test_once : OneOfTrials → (n : ℕ) (e e' : End) → SelfTestEnds n e → SelfTestEnds n e' → e ≡ e'
self_test_once one n e e' x y = one_end (Tells n) end_of (one_of_trials one n) e e' (trials n e x) (trials n e' y)

-- a term that decides the trials is shown
pub self_test_term : OneOfTrials → (n : ℕ) (w : Shown) (e : End) → SelfTestEnds n e → TrialsPass n w → e ≡ shows_term (of_net_term w)
self_test_term one n w e x is = one_end (Tells n) end_of (one_of_trials one n) e (shows_term (of_net_term w)) (trials n e x) (passes w, is, refl)
