use Rattle.std.proofs.Common.{◌≡◌, map, string_bytes, Err}
use Rattle.std.proofs.lemmas.Result.{err_from_is_err_and}
use Rattle.clap.specs.Words.{found_of, rows_of}
use Rattle.rg_commands.specs.Says.{values_asked, AreRefused}
use Rattle.rg_commands.proofs.Bounds.{words_in_range}
use Rattle.rg_commands.proofs.WordLemmas.{stop_goes_on}
use Rattle.rg_commands.proofs.Telling.{values_say, no_command, no_values}
use Rattle.rg_commands.proofs.reading.read_words.Goals as goal

pub returns-in_err-command-clause-refused : goal.returns-in_err-command-clause-refused
returns-in_err-command-clause-refused c =
    let p = err_from_is_err_and c.from_residual.result c.from_residual.ensures.1 in
    rw (p.1, p.2) (no_command (map string_bytes c.args.words.now) c.in_err-command.field-0.0 c.in_err-command.ensures)

pub returns-in_err-matches-clause-refused : goal.returns-in_err-matches-clause-refused
returns-in_err-matches-clause-refused c =
    let p = err_from_is_err_and c.from_residual-in_err-matches.result c.from_residual-in_err-matches.ensures.1 in
    let words = map string_bytes c.args.words.now in
    rw (p.1, p.2) (stop_goes_on (λ usage. values_asked c.in_ok-command.command words ≡ Err usage) (AreRefused words) c.in_err-matches.field-0.0
    (λ usage none. no_values words c.in_ok-command.command usage c.in_ok-command.ensures none) c.in_err-matches.ensures.refused)

pub returns-in_err-request_of-clause-refused : goal.returns-in_err-request_of-clause-refused
returns-in_err-request_of-clause-refused c =
    let p = err_from_is_err_and c.from_residual-in_err-request_of.result c.from_residual-in_err-request_of.ensures.1 in
    let rows = rows_of (found_of c.in_ok-matches.matches) in
    rw (p.1, p.2) (values_say (map string_bytes c.args.words.now) c.in_ok-command.command rows _ c.in_ok-command.ensures c.in_ok-matches.ensures.taken c.in_err-request_of.ensures)

pub returns-clause-asks : goal.returns-clause-asks
returns-clause-asks c =
    let rows = rows_of (found_of c.in_ok-matches.matches) in
    values_say (map string_bytes c.args.words.now) c.in_ok-command.command rows _ c.in_ok-command.ensures c.in_ok-matches.ensures.taken c.in_ok-request_of.ensures

pub returns-clause-bounds : goal.returns-clause-bounds
returns-clause-bounds c =
    let words = map string_bytes c.args.words.now in
    let rows = rows_of (found_of c.in_ok-matches.matches) in
    words_in_range words _ (values_say words c.in_ok-command.command rows _ c.in_ok-command.ensures c.in_ok-matches.ensures.taken c.in_ok-request_of.ensures)
