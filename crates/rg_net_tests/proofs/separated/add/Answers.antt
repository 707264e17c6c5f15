use Rattle.std.proofs.Common.{◌∷◌, refl}
use Rattle.rg_net.specs.Shown.{shown_place}
use Rattle.rg_marks.proofs.Members.{adds_front}
use Rattle.rg_net_tests.proofs.ByTokens.{narrow_by, tokens_by}
use Rattle.rg_net_tests.proofs.separated.add.Goals as goal

pub add-requires-clause-narrow : goal.add-requires-clause-narrow
add-requires-clause-narrow c =
    narrow_by c.args.lts.now (shown_place (record { start = c.args.given.start; pre = c.in_ok-from_slice.field-0; post = c.in_ok-from_slice-2.field-0 })) c.args.given.tokens
    (c.if-not-is_region.ensures refl)

pub add-requires-clause-tokens : goal.add-requires-clause-tokens
add-requires-clause-tokens c =
    tokens_by c.args.lts.now (shown_place (record { start = c.args.given.start; pre = c.in_ok-from_slice.field-0; post = c.in_ok-from_slice-2.field-0 })) c.args.given.tokens
    (c.if-not-is_region.ensures refl) c.requires.reachable

pub returns : goal.returns
returns c =
    let place = shown_place (record { start = c.args.given.start; pre = c.in_ok-from_slice.field-0; post = c.in_ok-from_slice-2.field-0 }) in
    let before = c.requires.some in
    record {
      places = place ∷ before.places;
      so_much = c.in_ok-add.ensures.separated before.places (place ∷ before.places) (adds_front place before.places) before.so_much;
    }
