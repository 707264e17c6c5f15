use Rattle.std.proofs.Common.{arith}
use Rattle.rg_fraction.proofs.Newton.{odd_square}
use Rattle.rg_fraction.proofs.exact.inverse_of.Goals as goal

pub returns : goal.returns
returns c =
    let one = odd_square c.args.odd c.requires in
    let two = c.refine_inverse-two.ensures 1 (omega arith) (omega arith) one in
    let four = c.refine_inverse-four.ensures 2 (omega arith) (omega arith) two in
    let eight = c.refine_inverse-eight.ensures 4 (omega arith) (omega arith) four in
    let sixteen = c.refine_inverse-sixteen.ensures 8 (omega arith) (omega arith) eight in
    let half_word = c.refine_inverse-half_word.ensures 16 (omega arith) (omega arith) sixteen in
    let word = c.refine_inverse-word.ensures 32 (omega arith) (omega arith) half_word in
    c.refine_inverse.ensures 64 (omega arith) (omega arith) word
