use Rattle.std.proofs.Common.{◌≡◌, ◌++◌, ◌-◌, map}
use Rattle.std.specs.List.{range_with_len}
use Rattle.rg_text.specs.Line.{fed}
use Rattle.rg_net.specs.NetText.{place_name}
use Rattle.rg_netfile.proofs.print.push_places.Given as goal

-- the text so far, and the lines that are left
abbrev pub invariant-loop-i : goal.invariant-loop-i
invariant-loop-i l =
    l.text.items ++ fed (map (place_name l.prefix) (range_with_len l.i (l.count - l.i)))
    ≡ l.fn.text.items ++ fed (map (place_name l.prefix) (range_with_len 0 l.count))
