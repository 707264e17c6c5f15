-- `split` ends in one way for a system and what is asked.
use Rattle.std.proofs.Common.{◌≡◌, ℕ, List, refl, ap, ◌∙◌}
use Rattle.rg_theory.specs.System.{System, labels, IsLeastUnreachable}
use Rattle.rg_checks.specs.declared.flaw.Flaw.TheVariants.{Unreachable}
use Rattle.rg_theory.specs.Net.{Net, Place}
use Rattle.rg_case_folds.specs.Shown.{Shown}
use Rattle.rg_separate.specs.View.{shown_of}
use Rattle.rg_split.specs.Rounds.{Labelling, labelling, Splitting, Splitting.done as done, Splitting.unreachable as unreachable, Splitting.full as full, Splitting.too_wide as passes, SplitsTo}
use Rattle.rg_commands.specs.declared.splitting.SplitOutput.{SplitOutput}
use Rattle.rg_messages.specs.FlawTexts.{flaw_line}
use Rattle.rg_messages.specs.SplitTexts.{full_line}
use Rattle.rg_top.specs.End.{End, says_yes, says_no, shows_term, HasStatus}
use Rattle.rg_top.specs.Split.{labelled_net_text, solved_text, SplitEnds, a_net, a_system, a_state, no_room, a_term, SplitIsDue, for_a_net, for_a_state, for_room, for_a_term}
use Rattle.rg_top.specs.Terms.{of_split}
use Rattle.rg_top.specs.declared.status.Status.{Status}
use Rattle.rg_top.proofs.SynthesizeOnce.{with_labels}
use Rattle.rg_top.proofs.Told.{IsEndOf, IsStatusOf, one_end, due_end}

-- splitting has one result, the least state that can't be reached where there is one
pub record OneSplitting : Type 0 where
  pub one : (lts : System) (r r' : Splitting) → SplitsTo lts r → SplitsTo lts r' → r ≡ r'
  pub state : (lts : System) (s : ℕ) → IsLeastUnreachable lts s → SplitsTo lts (unreachable s)

-- ---- the end of a result

abbrev net_of : Labelling → List Place → Net
net_of now places = record { labels = labels now.system; places = places }

abbrev end_of : System → SplitOutput → Splitting → End
end_of lts output (done now places) = says_yes (solved_text lts now (net_of now places) output)
end_of lts output (unreachable q) = says_no (flaw_line lts (Unreachable q))
end_of lts output (full now reason) = says_no full_line
end_of lts output (passes now w) = shows_term (of_split now.system w)

told : OneSplitting → (lts : System) (output : SplitOutput) (e : End) → SplitEnds lts output e → IsEndOf (SplitsTo lts) (end_of lts output) e
told one lts _ _ (a_net text is) =
    let labelled = with_labels is.net (labels is.now.system) is.solved.right.solves.transitions in
    (done is.now is.net.places, is.solved.comes, ap says_yes (is.text ∙ ap (labelled_net_text lts is.now) labelled))
told one lts _ _ (a_system text is) = (done is.now is.net.places, is.solved.comes, ap says_yes is.text)
told one lts output _ (a_state q is) = (unreachable q, one.state lts q is, refl)
told one lts output _ (no_room is) = (full is.now is.reason, is.comes, refl)
told one lts output _ (a_term system w is) = (passes (labelling system is.old) w, is.comes, refl)

due : OneSplitting → (lts : System) (output : SplitOutput) (s : Status) → SplitIsDue lts s → IsStatusOf (SplitsTo lts) (end_of lts output) s
due one lts output _ (for_a_net now places comes) = (done now places, comes, refl)
due one lts output _ (for_a_state q is) = (unreachable q, one.state lts q is, refl)
due one lts output _ (for_room now reason comes) = (full now reason, comes, refl)
due one lts output _ (for_a_term system old at comes) = (passes (labelling system old) (shown_of at), comes, refl)

pub split_due : OneSplitting → (lts : System) (output : SplitOutput) (e : End) (s : Status) → SplitEnds lts output e → SplitIsDue lts s → HasStatus e s
split_due one lts output e s x y = due_end (SplitsTo lts) (end_of lts output) (one.one lts) e s (told one lts output e x) (due one lts output s y)

pub split_once : OneSplitting → (lts : System) (output : SplitOutput) (e e' : End) → SplitEnds lts output e → SplitEnds lts output e' → e ≡ e'
split_once one lts output e e' x y = one_end (SplitsTo lts) (end_of lts output) (one.one lts) e e' (told one lts output e x) (told one lts output e' y)

-- a term that the rounds end with is shown
pub split_term : OneSplitting → (lts : System) (output : SplitOutput) (system : System) (old : List ℕ) (w : Shown) (e : End) → SplitEnds lts output e
    → SplitsTo lts (passes (labelling system old) w) → e ≡ shows_term (of_split system w)
split_term one lts output system old w e x comes =
    one_end (SplitsTo lts) (end_of lts output) (one.one lts) e (shows_term (of_split system w)) (told one lts output e x) (passes (labelling system old) w, comes, refl)
