use Rattle.std.proofs.Common.{◌≡◌, ◌++◌, map, drop}
use Rattle.rg_text.specs.Line.{fed}
use Rattle.rg_cert_data.specs.Trees.{named_row}
use Rattle.rg_cert.specs.Text.{named_fields, spaced}
use Rattle.rg_cert.proofs.printing.push_rows.Given as goal

abbrev pub invariant-loop-row : goal.invariant-loop-row
invariant-loop-row l =
    l.text.items ++ fed (map spaced (map (named_fields l.lts) (map named_row (drop l.row-index l.rows))))
    ≡ l.fn.text.items ++ fed (map spaced (map (named_fields l.lts) (map named_row l.rows)))
