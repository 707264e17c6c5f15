use Rattle.std.proofs.Common.{◌≡◌, ◌≤◌, map, take}
use Rattle.rg_lexer.specs.Lexeme.{Lexeme, lexeme}
use Rattle.rg_text.proofs.Left.{LeftAt}
use Rattle.rg_net_grammar.specs.View.{places_in}
use Rattle.rg_netfile.specs.Contents.{place_fault, most_places}
use Rattle.rg_netfile.specs.Built.{AreApart}
use Rattle.rg_netfile.proofs.building.place_table.Given as goal

-- the names so far are there, without a fault
abbrev pub invariant-loop-place : goal.invariant-loop-place
invariant-loop-place l = record {
  names : l.table ≡ map (λ (x : Lexeme). x.text) (places_in l.bytes (take l.place-index l.places));
  few : l.place-index ≤ most_places;
  apart : AreApart l.table;
  left : LeftAt (lexeme l.bytes) place_fault l.places l.place-index;
}
