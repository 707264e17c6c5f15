use Rattle.std.proofs.Common.{refl}
use Rattle.rg_verify.proofs.Tables.{tidy_same, tidy_pushed, pushed_listed}
use Rattle.rg_verify.proofs.sums.Sums.touch.Goals as goal

pub returns-in_err-push-clause-tidy : goal.returns-in_err-push-clause-tidy
returns-in_err-push-clause-tidy c = tidy_same c.args.self.now _ c.requires.tidy (record { tokens = refl; effects = refl }) c.in_err-push.ensures.items

pub returns-in_ok-push-clause-tidy : goal.returns-in_ok-push-clause-tidy
returns-in_ok-push-clause-tidy c = tidy_pushed c.args.self.now _ c.args.variable c.requires.tidy (record { tokens = refl; effects = refl }) c.requires.entry c.in_ok-push.ensures.items

pub returns-in_ok-push-clause-listed : goal.returns-in_ok-push-clause-listed
returns-in_ok-push-clause-listed c = pushed_listed c.args.self.now.touched.items c.push.new.self.items c.args.variable c.in_ok-push.ensures.items
