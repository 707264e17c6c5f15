use Rattle.std.proofs.Common.{arith}
use Rattle.std.specs.Int.{w128, trailing_zeros}
use Rattle.std.proofs.lemmas.Nat.Bits.{bit_at-trailing_zeros}
use Rattle.rg_fraction.proofs.Twos.{odd_part_is, is_odd}
use Rattle.rg_fraction.proofs.exact.Divisor.new.Goals as goal

pub inverse_of-inverse-requires : goal.inverse_of-inverse-requires
inverse_of-inverse-requires c = is_odd c.args.size c.requires (omega arith)

pub invariant_of-result : goal.invariant_of-result
invariant_of-result c = record {
  taken_apart = record {
    parts = odd_part_is c.args.size (trailing_zeros w128 c.args.size) c.requires (omega arith) (omega arith);
    few = (bit_at-trailing_zeros w128 c.args.size c.requires (omega arith)).0;
    some = c.requires;
    inverse_is = c.inverse_of-inverse.ensures;
  };
}
