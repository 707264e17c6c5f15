use Rattle.std.proofs.Common.{take}
use Rattle.rg_cert_data.specs.Sums.{terms_in}
use Rattle.rg_verify.specs.Sums.{IsTidy, HasSameVariables, AddsTerms}
use Rattle.rg_verify.proofs.sums.Sums.add_terms.Given as goal

abbrev pub invariant-loop-place : goal.invariant-loop-place
invariant-loop-place l = record {
  tidy : IsTidy l.self;
  variables : HasSameVariables l.initial.self l.self;
  added : AddsTerms l.multiplier (terms_in (take l.place-index l.terms)) l.initial.self l.self;
}
