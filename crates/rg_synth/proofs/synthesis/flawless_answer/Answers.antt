use Rattle.std.proofs.Common.{subst}
use Rattle.rg_marks.specs.Firsts.{AreAllFirsts}
use Rattle.rg_separate.specs.Answer.{ending_with_firsts, IfPlaces, IfFirsts, IfUnsolvable, IsSearched, AreSeparating, IsGoodCertificate}
use Rattle.rg_synth.proofs.Pruned.{narrow_all}
use Rattle.rg_synth.proofs.Nets.{solving_net}
use Rattle.rg_synth.proofs.Answers.{net_out, reason_out, term_out, right}
use Rattle.rg_synth.proofs.synthesis.flawless_answer.Goals as goal

pub net_of_those_needed-requires-clause-narrow : goal.net_of_those_needed-requires-clause-narrow
net_of_those_needed-requires-clause-narrow g c =
    narrow_all c.args.lts.now c.args.class c.in-Places.places.items
    (subst (λ s. IfPlaces (ending_with_firsts s) (AreSeparating c.args.lts.now c.args.class)) c.in-Places.is c.in_ok-places.ensures.places)

pub net_of_those_needed-requires-clause-firsts : goal.net_of_those_needed-requires-clause-firsts
net_of_those_needed-requires-clause-firsts g c = subst (λ s. IfFirsts s (AreAllFirsts c.args.lts.now)) c.in-Places.is c.in_ok-places.ensures.firsts

pub returns-in-Places-clause-out : goal.returns-in-Places-clause-out
returns-in-Places-clause-out g c =
    net_out c.args.lts.now c.args.class c.in-Places.places.items c.in_ok-net-in-Places.net.places c.requires.flawless
    (subst (λ s. IsSearched c.args.lts.now c.args.class (ending_with_firsts s)) c.in-Places.is c.in_ok-places.ensures.searched) c.in_ok-net-in-Places.ensures.pruned

pub returns-in-Places-clause-net : goal.returns-in-Places-clause-net
returns-in-Places-clause-net g c =
    let made = c.in_ok-net-in-Places in
    solving_net c.args.lts.now c.args.class c.in-Places.places.items made.net c.is_well_formed.ensures.in_range c.requires.flawless.reachable
    (subst (λ s. IfPlaces (ending_with_firsts s) (AreSeparating c.args.lts.now c.args.class)) c.in-Places.is c.in_ok-places.ensures.places)
    made.ensures.labels made.ensures.in_range made.ensures.pruned

pub returns-in-Unsolvable-clause-out : goal.returns-in-Unsolvable-clause-out
returns-in-Unsolvable-clause-out g c =
    reason_out c.args.lts.now c.args.class c.in-Unsolvable.cert c.requires.flawless
    (subst (λ s. IsSearched c.args.lts.now c.args.class (ending_with_firsts s)) c.in-Unsolvable.is c.in_ok-places.ensures.searched)

pub returns-in-Unsolvable-clause-unsolvable : goal.returns-in-Unsolvable-clause-unsolvable
returns-in-Unsolvable-clause-unsolvable g c =
    let lts = c.args.lts.now in
    let good : IsGoodCertificate lts c.args.class c.in-Unsolvable.cert =
    subst (λ s. IfUnsolvable (ending_with_firsts s) (IsGoodCertificate lts c.args.class)) c.in-Unsolvable.is c.in_ok-places.ensures.unsolvable in
    let searched = subst (λ s. IsSearched lts c.args.class (ending_with_firsts s)) c.in-Unsolvable.is c.in_ok-places.ensures.searched in
    let answer = reason_out lts c.args.class c.in-Unsolvable.cert c.requires.flawless searched in
    right lts c.args.class c.in-Unsolvable.cert c.is_well_formed.ensures.in_range good.of_class answer good.holds good.in_range

pub returns-clause-out : goal.returns-clause-out
returns-clause-out g c =
    term_out c.args.lts.now c.args.class c.in-TooWide.at c.requires.flawless
    (subst (λ s. IsSearched c.args.lts.now c.args.class (ending_with_firsts s)) c.in-TooWide.is c.in_ok-places.ensures.searched)
