use Rattle.std.proofs.Common.{◌≡◌, ◌++◌, [], length, sym, ap, subst, ◌∙◌, arith}
use Rattle.std.proofs.lemmas.List.{length-map, length-replicate}
use Rattle.std.proofs.lemmas.Result.{err_from_is_err_and}
use Rattle.rg_theory.specs.Net.{Net}
use Rattle.rg_lexer.specs.Lexeme.{lexeme}
use Rattle.rg_text.specs.Faults.{faults_after, if_not, IsFirst, AreNone}
use Rattle.rg_text.proofs.Left.{first_left, first_right, none_joined}
use Rattle.rg_net_grammar.specs.View.{found_in}
use Rattle.rg_netfile.specs.declared.fault.NetFault.TheVariants.{NoType}
use Rattle.rg_netfile.specs.Contents.{name_faults, step_fault, steps, place_names, transition_names, IsNetOf}
use Rattle.rg_netfile.proofs.Ranges.{zero_place}
use Rattle.rg_netfile.proofs.WholeNets.{if_none, no_sums, net_is, fits_blank, by_known}
use Rattle.rg_netfile.proofs.building.build.Goals as goal

pub returns-in_err-known-clause-fault : goal.returns-in_err-known-clause-fault
returns-in_err-known-clause-fault c =
    let p = err_from_is_err_and c.from_residual.result c.from_residual.ensures.1 in
    let d = found_in c.args.bytes.now c.args.found.now in
    let f = c.in_err-known.field-0.0 in
    let a = if_not d.typed NoType in
    let b = name_faults c.args.lts.now d in
    rw (p.1, p.2)
    (λ memory. first_left (a ++ b) (faults_after (step_fault (place_names d) (transition_names d)) [] (steps d)) f
    (first_right a b f (if_none d.typed NoType c.if-not-found.false) (c.in_err-known.ensures.fault memory)))

pub fill-requires-clause-fits : goal.fill-requires-clause-fits
fill-requires-clause-fits c =
    let bytes = c.args.bytes.now in
    let places = c.args.found.now.places.items in
    let vec = c.args.found.now.places.ok.0 in
    let long : c.len.result ≡ length places = omega (arith, c.len.ensures) in
    fits_blank c.args.lts.now (found_in bytes c.args.found.now) c.in_ok-known.known c.labels.result c.len.result c.in_ok-sums.sums c.in_ok-known.ensures.known
    c.in_ok-known.ensures.within c.in_ok-sums.ensures.value c.labels.ensures.value (long ∙ sym (length-map places (lexeme bytes)))

pub returns-in_err-fill-clause-fault : goal.returns-in_err-fill-clause-fault
returns-in_err-fill-clause-fault c =
    let p = err_from_is_err_and c.from_residual-in_err-fill.result c.from_residual-in_err-fill.ensures.1 in
    let d = found_in c.args.bytes.now c.args.found.now in
    let k = c.in_ok-known.known in
    let f = c.in_err-fill.field-0.0 in
    let a = if_not d.typed NoType in
    let b = name_faults c.args.lts.now d in
    rw (p.1, p.2)
    (λ memory. first_right (a ++ b) (faults_after (step_fault (place_names d) (transition_names d)) [] (steps d)) f
    (none_joined a b (if_none d.typed NoType c.if-not-found.false) c.in_ok-known.ensures.none)
    (by_known (λ ps ts. IsFirst (faults_after (step_fault ps ts) [] (steps d)) f) c.args.lts.now d k c.in_ok-known.ensures.known
    (c.in_err-fill.ensures.fault.first [] (no_sums k c.labels.result c.len.result c.in_ok-sums.sums c.in_ok-sums.ensures.value))))

pub returns-clause-none : goal.returns-clause-none
returns-clause-none c =
    let d = found_in c.args.bytes.now c.args.found.now in
    let k = c.in_ok-known.known in
    let a = if_not d.typed NoType in
    let b = name_faults c.args.lts.now d in
    none_joined (a ++ b) (faults_after (step_fault (place_names d) (transition_names d)) [] (steps d))
    (none_joined a b (if_none d.typed NoType c.if-not-found.false) c.in_ok-known.ensures.none)
    (by_known (λ ps ts. AreNone (faults_after (step_fault ps ts) [] (steps d))) c.args.lts.now d k c.in_ok-known.ensures.known
    (c.in_ok-fill.ensures.ok.none [] (no_sums k c.labels.result c.len.result c.in_ok-sums.sums c.in_ok-sums.ensures.value)))

pub returns-clause-net : goal.returns-clause-net
returns-clause-net c =
    let bytes = c.args.bytes.now in
    let d = found_in bytes c.args.found.now in
    let k = c.in_ok-known.known in
    let places = c.args.found.now.places.items in
    let vec = c.args.found.now.places.ok.0 in
    let long : c.len.result ≡ length places = omega (arith, c.len.ensures) in
    let blank = c.in_ok-sums.ensures.value in
    let same = c.in_ok-fill.ensures.same in
    subst (IsNetOf c.args.lts.now d) (sym c.finish.ensures.value)
    (net_is c.args.lts.now d k c.fill.new.sums c.in_ok-known.ensures.known c.labels.ensures.well_formed
    (c.in_ok-fill.ensures.ok.sums [] (no_sums k c.labels.result c.len.result c.in_ok-sums.sums blank)) c.finish.ensures.in_range.weights
    (same.same_labels ∙ ap (λ (n : Net). n.labels) blank ∙ c.labels.ensures.value)
    (same.same_places ∙ ap (λ (n : Net). length n.places) blank ∙ length-replicate c.len.result (zero_place c.labels.result) ∙ long
    ∙ sym (length-map places (lexeme bytes))))
