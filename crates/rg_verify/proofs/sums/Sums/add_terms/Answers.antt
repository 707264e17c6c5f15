use Rattle.std.proofs.Common.{None, subst, ◌∙◌}
use Rattle.std.proofs.lemmas.List.{take_all}
use Rattle.std.proofs.lemmas.Result.{err_from_is_err_and}
use Rattle.rg_integers.proofs.Casts.{back}
use Rattle.rg_cert_data.specs.Sums.{terms_in, term_of}
use Rattle.rg_verify.specs.Sums.{AddsTerms}
use Rattle.rg_verify.proofs.Tables.{has_entry}
use Rattle.rg_verify.proofs.Adding.{term_entry, adds_at, adds_past, passes_at}
use Rattle.rg_verify.proofs.sums.Sums.add_terms.Goals as goal
use Rattle.rg_verify.proofs.sums.Sums.add_terms.Goals.{in-Some+in_ok-add_term, in_default}

pub add_term-requires-clause-entry : goal.add_term-requires-clause-entry
add_term-requires-clause-entry c =
    has_entry c.args.self.now c.loop-place.self (term_of c.in-Some.term).variable c.loop-place.invariant.variables
    (term_entry c.args.self.now c.args.terms.now c.loop-place.place-index None c.in-Some.term c.loop-place-test.true c.in-Some.is c.requires.entries)

pub returns-in_err-add_term-clause-passes : goal.returns-in_err-add_term-clause-passes
returns-in_err-add_term-clause-passes c =
    let p = err_from_is_err_and c.from_residual.result c.from_residual.ensures.1 in
    let k = back c.args.multiplier c.requires.multiplier in
    let added = rw k at c.loop-place.invariant.added in
    let passes = rw k at c.in_err-add_term.ensures.passes in
    rw (p.1, p.2) (λ e. passes_at c.args.multiplier c.args.terms.now c.loop-place.place-index None c.in-Some.term c.args.self.now c.loop-place.self
    c.loop-place-test.true c.in-Some.is added (passes e))

pub loop-place-preserved : goal.loop-place-preserved
loop-place-preserved c = elim c.match-place.branch [
  | in-Some+in_ok-add_term w ↦ rw w.self-is (record {
    tidy = w.add_term.ensures.tidy;
    variables = record {
      tokens = w.add_term.ensures.variables.tokens ∙ c.loop-place.invariant.variables.tokens;
      effects = w.add_term.ensures.variables.effects ∙ c.loop-place.invariant.variables.effects;
    };
    added = adds_at _ c.args.terms.now c.loop-place.place-index None w.in-Some.term c.args.self.now c.loop-place.self w.add_term.new.self
        c.loop-place-test.true w.in-Some.is c.loop-place.invariant.added w.in_ok-add_term.ensures.ok;
  })
  | in_default w ↦ rw w.self-is (record {
    tidy = c.loop-place.invariant.tidy;
    variables = c.loop-place.invariant.variables;
    added = adds_past _ c.args.terms.now c.loop-place.place-index None c.args.self.now c.loop-place.self c.loop-place-test.true w.in_default.is c.loop-place.invariant.added;
  })
]

pub returns-clause-ok : goal.returns-clause-ok
returns-clause-ok c =
    let all = take_all c.loop-place.place-index c.args.terms.now c.loop-place-test.false in
    let added = rw (back c.args.multiplier c.requires.multiplier) at c.loop-place.invariant.added in
    subst (λ places. AddsTerms c.args.multiplier (terms_in places) c.args.self.now c.loop-place.self) all added
