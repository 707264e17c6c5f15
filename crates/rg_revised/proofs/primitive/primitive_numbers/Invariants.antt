use Rattle.std.proofs.Common.{◌≡◌, ◌+◌, ◌∷◌, ℕ, length, map, take}
use Rattle.rg_integers.specs.Range.{InRange}
use Rattle.rg_integers.specs.Sum.{number_at}
use Rattle.rg_linear.specs.Dictionary.{Relation}
use Rattle.rg_linear.specs.Exchange.{IsReduced}
use Rattle.rg_revised.specs.Held.{AreDistinct, relation_of}
use Rattle.rg_revised.proofs.primitive.primitive_numbers.Given as goal

abbrev pub invariant-loop-index : goal.invariant-loop-index
invariant-loop-index l = record {
  size : length l.numbers.items ≡ l.index + 2;
  in_range : (n : ℕ) → InRange (number_at l.numbers.items n);
  shown : (k : Relation) → AreDistinct l.slots → IsReduced (relation_of l.slots l.d l.row) k → l.numbers.items ≡ k.d ∷ k.constant ∷ map k.coefficient (take l.index l.members);
}
