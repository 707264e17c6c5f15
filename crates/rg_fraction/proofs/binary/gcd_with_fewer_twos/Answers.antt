use Rattle.std.proofs.Common.{arith, sym, subst}
use Rattle.std.specs.Int.{IsGcd, w128, trailing_zeros}
use Rattle.std.proofs.lemmas.Nat.{pow_pos}
use Rattle.rg_fraction.proofs.Twos.{odd_part_is, is_odd, with_shared, unwrapped}
use Rattle.rg_fraction.proofs.binary.gcd_with_fewer_twos.Goals as goal

pub gcd_with_odd-requires : goal.gcd_with_odd-requires
gcd_with_odd-requires c = is_odd c.args.b c.requires.second (omega arith)

pub returns : goal.returns
returns c =
    let k = trailing_zeros w128 c.args.b in
    let a = odd_part_is c.args.a k c.requires.first (omega arith) c.requires.twos in
    let b = odd_part_is c.args.b k c.requires.second (omega arith) (omega arith) in
    subst (λ g. IsGcd c.args.a c.args.b g) (sym (unwrapped c.gcd_with_odd.result c.args.b k c.gcd_with_odd.ensures.bound b (omega arith)))
    (with_shared c.args.a c.args.b c.gcd_with_odd.result k _ _ a b (pow_pos k) c.gcd_with_odd.ensures.greatest)
