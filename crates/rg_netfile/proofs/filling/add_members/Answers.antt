use Rattle.std.proofs.Common.{◌≡◌, ◌<◌, ℕ, List, length, get_or, None, arith}
use Rattle.std.proofs.lemmas.List.{get_or_default}
use Rattle.std.proofs.lemmas.Result.{err_from_is_err_and}
use Rattle.rg_lexer.specs.declared.token.Token.{Token}
use Rattle.rg_lexer.specs.declared.token.Kind.TheVariants.{Name}
use Rattle.rg_net_grammar.specs.declared.found.Member.{Member}
use Rattle.rg_net_grammar.specs.View.{member_in}
use Rattle.rg_netfile.specs.Contents.{adds}
use Rattle.rg_netfile.proofs.Segments.{one_passes, one_stops}
use Rattle.rg_netfile.proofs.Steps.{passes_none}
use Rattle.rg_netfile.proofs.Slots.{fits_too, slot_too, same_size, same_sizes}
use Rattle.rg_netfile.proofs.filling.add_members.Goals as goal

-- what a read past the end would give
abbrev past_end : Member Token
past_end = record { number = None; place = record { kind = Name; from = 0; to = 0 } }

same_read : (xs : List (Member Token)) (i : ℕ) → i < length xs → get_or xs i past_end ≡ get_or xs i (get_or xs i past_end)
same_read xs i within = get_or_default xs i past_end (get_or xs i past_end) within

pub add_member-requires-clause-fits : goal.add_member-requires-clause-fits
add_member-requires-clause-fits c = fits_too c.args.known.now c.args.sums.now c.loop-member.sums c.requires.fits c.loop-member.invariant.same

pub add_member-requires-clause-slot : goal.add_member-requires-clause-slot
add_member-requires-clause-slot c = slot_too c.args.sums.now c.loop-member.sums c.args.slot c.requires.slot c.loop-member.invariant.same

pub loop-member-init : goal.loop-member-init
loop-member-init c = record { same = same_size c.args.sums.now; passes = λ cell for. passes_none c.args.known.now c.args.sums.now }

pub loop-member-preserved : goal.loop-member-preserved
loop-member-preserved c =
    let xs = c.args.members.now in
    let i = c.loop-member.member-index in
    let within : i < length xs = omega arith in
    record {
      same = same_sizes c.args.sums.now c.loop-member.sums c.add_member.new.sums c.loop-member.invariant.same c.in_ok-add_member.ensures.same;
      passes = λ cell for. one_passes c.args.known.now (adds cell) (member_in c.args.bytes.now) xs i (get_or xs i past_end) c.args.sums.now c.loop-member.sums
          c.add_member.new.sums within (same_read xs i within) (c.loop-member.invariant.passes cell for) (c.in_ok-add_member.ensures.ok cell for);
    }

pub returns-in_err-add_member-clause-fault : goal.returns-in_err-add_member-clause-fault
returns-in_err-add_member-clause-fault c =
    let p = err_from_is_err_and c.from_residual.result c.from_residual.ensures.1 in
    let xs = c.args.members.now in
    let i = c.loop-member.member-index in
    let within : i < length xs = omega arith in
    rw (p.1, p.2)
    (λ cell for. one_stops c.args.known.now (adds cell) (member_in c.args.bytes.now) xs i (get_or xs i past_end) c.args.sums.now c.loop-member.sums
    _ within (same_read xs i within) (c.loop-member.invariant.passes cell for) (c.in_err-add_member.ensures.fault cell for))
