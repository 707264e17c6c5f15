use Rattle.std.proofs.Common.{◌∙◌, ap, sym, inl, inr, map, string_bytes, List, Ok}
use Rattle.clap.specs.Words.{App, Kinds, Row, app_of, fault_of, is_simple_and_free, matches_of}
use Rattle.rg_commands.specs.Table.{app_for}
use Rattle.rg_commands.specs.Says.{if_no_fault}
use Rattle.rg_commands.proofs.WordLemmas.{simple_of, simple_app, some_fault}
use Rattle.rg_commands.proofs.matches.matches_of.Goals as goal

pub returns-in-Ok-clause-taken : goal.returns-in-Ok-clause-taken
returns-in-Ok-clause-taken c =
    let app_is = c.in_ok-app.ensures in
    let words = map string_bytes c.args.words.now in
    let free = ap is_simple_and_free app_is ∙ simple_app c.args.command in
    let none = sym (ap (λ (a : App). fault_of a words) app_is) ∙ c.in-Ok.ensures.kinds free in
    let rows = (c.in-Ok.ensures.matches (simple_of (app_of c.in_ok-app.app) free)).0 ∙ ap (λ (a : App). matches_of a words) app_is in
    ap (λ (kinds : Kinds). if_no_fault kinds (matches_of (app_for c.args.command) words)) none ∙ ap (λ (r : List Row). Ok r) (sym rows)

pub returns : goal.returns
returns c =
    let app_is = c.in_ok-app.ensures in
    let words = map string_bytes c.args.words.now in
    let rows = matches_of (app_for c.args.command) words in
    let free = ap is_simple_and_free app_is ∙ simple_app c.args.command in
    record {
      taken = tt;
      refused = elim (c.in-Err.ensures.kinds free) [
        | inl memory ↦ absurd (c.in_default.not-OutOfMemory (c.kind.ensures ∙ memory))
        | inr among ↦ ap (λ (a : App). if_no_fault (fault_of a words) rows) (sym app_is) ∙ some_fault (fault_of (app_of c.in_ok-app.app) words) _ rows among
      ];
    }
