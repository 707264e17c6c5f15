use Rattle.std.proofs.Common.{◌≡◌, refl, ℕ, zero, suc, ◌<◌, ◌^◌, List, [], ◌∷◌, false, true, subst, arith}
use Rattle.std.specs.Prelude.{ℤ, pos, ◌<ℤ◌, int_lt}
use Rattle.std.proofs.lemmas.Int.{ints}
use Rattle.std.proofs.lemmas.List.Elements.{All-nil}
use Rattle.rg_integers.proofs.Casts.{back}
use Rattle.rg_cert_meaning.specs.declared.RowName.TheVariants as row_name
use Rattle.rg_cert_meaning.specs.Row.{RowStands, Side}
use Rattle.rg_theory.specs.System.{arc, states}
use Rattle.rg_theory.specs.declared.Class.{Class}
use Rattle.rg_theory.specs.declared.Problem.TheVariants.{Event}
use Rattle.rg_cert_meaning.specs.declared.Form.{Form}
use Rattle.rg_cert_data.specs.Certificates.{IsFormOf, IsRowNameOf}
use Rattle.rg_case_folds.specs.Spreading.{Share}
use Rattle.rg_farkas.specs.Leaves.{share_of, RefutesCase}
use Rattle.rg_solver_tests.proofs.Loops.{three, loop_refutes}
use Rattle.rg_solver_tests.proofs.leaves.leaf_of_loop.Goals as goal

above : (z : ℤ) → int_lt z (pos 1) ≡ false → pos 0 <ℤ z
above z h = omega (arith, ints)

first : (n : ℕ) → 1 < n → 0 < n
first n h = omega arith

one : 0 < 1
one = omega arith

three_few : 3 < 2 ^ 32
three_few = omega arith

none_few : 0 < 2 ^ 32
none_few = omega arith

pub spread-requires : goal.spread-requires
spread-requires c =
    let asked = c.is_asked.ensures c.if-not-is_asked.false in
    let loop = c.is_loop.ensures c.if-not-is_loop.false in
    let n = back c.numerator.result c.numerator.ensures.in_range in
    let m = back c.numerator-else-numerator-lt1.result c.numerator-else-numerator-lt1.ensures.in_range in
    let h = rw n at c.if-numerator-lt1.false in
    let k = rw m at c.if-numerator-lt1-2.false in
    let top : pos 0 <ℤ c.args.times.numerator = subst (λ z. pos 0 <ℤ z) c.numerator.ensures.value (above c.numerator.result h) in
    let around : pos 0 <ℤ c.args.around.numerator = subst (λ z. pos 0 <ℤ z) c.numerator-else-numerator-lt1.ensures.value (above c.numerator-else-numerator-lt1.result k) in
    let class : Class = record { pure = true; plain = false; bound = Rattle.std.proofs.Common.None; marking = Rattle.std.proofs.Common.None; nonbranching = false } in
    let some : 0 < states c.args.lts.now = first _ asked.0 in
    let block : Share = share_of (row_name.Block, c.args.times) in
    let tokens : Share = share_of (row_name.Tokens 1, c.args.times) in
    let round : Share = share_of (row_name.Arc (arc 0 0 0), c.args.around) in
    record {
      reachable = c.requires.reachable;
      tree = c.requires.tree;
      labels = c.requires.labels;
      basis = c.requires.basis;
      asked = asked;
      case = one;
      sides = All-nil (λ (s : Side). IsFormOf c.args.lts.now s.form);
      stand = three (λ (s : Share). RowStands c.args.lts.now class (Event 1 0) 0 [] s.name) block tokens round refl tt loop;
      names = three (λ (s : Share). IsRowNameOf c.args.lts.now s.name) block tokens round tt asked.0 (some, asked.1, some);
      refute = loop_refutes c.args.lts.now class 1 0 0 c.args.times c.args.around loop top c.args.times.positive around;
      few_rows = three_few;
      few_sides = none_few;
    }
