use Rattle.std.proofs.Common.{◌≡◌, ℕ, List}
use Rattle.std.proofs.lemmas.Iterator.{YieldsList}
use Rattle.std.specs.Str.Iter.{split_steps}
use Rattle.std.specs.Str.Pattern.{FindsChar}
use Rattle.rg_theory.proofs.ClassLoop.{ReadsTo}
use Rattle.rg_theory.proofs.Class.read.Given as goal

abbrev pub invariant-loop-word : goal.invariant-loop-word
invariant-loop-word l =
    (goal.iterator-loop-word).can_next l.word-iterator ×
    (goal.iterator-loop-word).is_finite l.word-iterator ×
    ((left : List (List ℕ)) × YieldsList (split_steps FindsChar (λ a b. b ≡ a)) (λ x. x.now) l.word-iterator left × ReadsTo l.fn.text l.class l.number left)
