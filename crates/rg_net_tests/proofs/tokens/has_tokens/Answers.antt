use Rattle.rg_net.specs.Shown.{shown_place}
use Rattle.rg_net_tests.proofs.ByTokens.{narrow_by}
use Rattle.std.proofs.Common.{refl}
use Rattle.rg_net_tests.proofs.tokens.has_tokens.Goals as goal

pub fill_tokens-requires-clause-narrow : goal.fill_tokens-requires-clause-narrow
fill_tokens-requires-clause-narrow c =
    narrow_by c.args.lts.now (shown_place (record { start = c.args.given.start; pre = c.in_ok-from_slice.field-0; post = c.in_ok-from_slice-2.field-0 })) c.args.given.tokens
    (c.if-not-is_region.ensures refl)
