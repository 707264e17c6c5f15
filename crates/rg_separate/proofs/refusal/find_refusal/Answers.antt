use Rattle.std.proofs.Common.{subst}
use Rattle.rg_theory.specs.ClassWords.{no_condition}
use Rattle.rg_separate.specs.Answer.{ending_with_firsts, SearchTells, IsSearchedFrom}
use Rattle.rg_separate.proofs.Refusing.{refused_by, places_not_refused, wide_not_refused}
use Rattle.rg_separate.proofs.refusal.find_refusal.Goals as goal

pub returns-in-Unsolvable-clause-refused : goal.returns-in-Unsolvable-clause-refused
returns-in-Unsolvable-clause-refused g c =
    let lts = c.args.lts.now in
    let tells = subst (SearchTells lts no_condition) c.in-Unsolvable.is c.in_ok-certificate.ensures.tells in
    record {
      searched = refused_by lts c.is_well_formed.ensures.in_range c.requires.reachable c.args.known.now c.requires.known c.in-Unsolvable.certificate
          (subst (λ s. IsSearchedFrom lts no_condition c.args.known.now (ending_with_firsts s)) c.in-Unsolvable.is c.in_ok-certificate.ensures.searched);
      good = tells.0;
      places = tells.1;
    }

pub returns-in-Places-clause-not_refused : goal.returns-in-Places-clause-not_refused
returns-in-Places-clause-not_refused g c =
    let lts = c.args.lts.now in
    places_not_refused lts c.is_well_formed.ensures.in_range c.requires.reachable c.args.known.now c.requires.known c.in-Places.field-0.items
    (subst (λ s. IsSearchedFrom lts no_condition c.args.known.now (ending_with_firsts s)) c.in-Places.is c.in_ok-certificate.ensures.searched)

pub returns-clause-not_refused : goal.returns-clause-not_refused
returns-clause-not_refused g c =
    let lts = c.args.lts.now in
    wide_not_refused lts c.is_well_formed.ensures.in_range c.requires.reachable c.args.known.now c.requires.known c.in-TooWide.field-0
    (subst (λ s. IsSearchedFrom lts no_condition c.args.known.now (ending_with_firsts s)) c.in-TooWide.is c.in_ok-certificate.ensures.searched)
