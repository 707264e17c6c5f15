use Rattle.std.proofs.Common.{◌≡◌, [], append-nil, refl, ◌∙◌, sym}
use Rattle.std.proofs.lemmas.List.{nil_from_length}
use Rattle.rg_verify.proofs.Tables.{has_entry, popped_entry, tidy_popped, tidy_same, zero_where_none}
use Rattle.rg_verify.proofs.sums.Sums.clear.Goals as goal

pub set-requires : goal.set-requires
set-requires c =
    has_entry c.loop-variable.self (record c.loop-variable.self { touched = c.pop.new.self }) c.in-Some.variable (record { tokens = refl; effects = refl })
    (popped_entry c.loop-variable.self c.pop.new.self.items c.in-Some.variable c.loop-variable.invariant.tidy c.in-Some.ensures.items)

pub loop-variable-preserved : goal.loop-variable-preserved
loop-variable-preserved c = record {
  tidy = tidy_popped c.loop-variable.self _ c.set.new.self c.in-Some.variable c.zero.result c.loop-variable.invariant.tidy
      (record { tokens = refl; effects = refl }) c.set.ensures.variables c.in-Some.ensures.items c.set.ensures.entries c.zero.ensures.size c.set.ensures.touched;
  variables = record {
    tokens = c.set.ensures.variables.tokens ∙ c.loop-variable.invariant.variables.tokens;
    effects = c.set.ensures.variables.effects ∙ c.loop-variable.invariant.variables.effects;
  };
}

pub returns-clause-tidy : goal.returns-clause-tidy
returns-clause-tidy c =
    tidy_same c.loop-variable.self _ c.loop-variable.invariant.tidy (record { tokens = refl; effects = refl }) (sym (c.in_default.ensures.items ∙ append-nil c.pop.new.self.items))

pub returns-clause-zero : goal.returns-clause-zero
returns-clause-zero c =
    let none : c.pop.new.self.items ≡ [] = nil_from_length c.pop.new.self.items (sym c.pop.new.self.ok.0 ∙ c.in_default.ensures.cases.1) in
    record { sizes = zero_where_none _ (returns-clause-tidy c) none; constant = c.zero-self.ensures.size }
