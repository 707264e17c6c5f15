use Rattle.rg_grammar.specs.declared.fault.ItemFault.{ItemFault}
use Rattle.rg_grammar.proofs.Described.{ReadsTo}
use Rattle.rg_grammar.proofs.reading.found_of.Given as goal

-- what is left is read and refused as the whole
abbrev pub invariant-loop-token : goal.invariant-loop-token
invariant-loop-token g l = record {
  held : g.R.Reader.holds_tokens l.bytes l.position;
  names : g.R.Reader.holds_names l.bytes l.found;
  reads : ReadsTo g.R.Reader.GrammarPosition g.R.Reader.Content ItemFault g.R.Reader.grammar l.bytes l.tokens l.token-index
      (g.R.Reader.grammar_position_in l.bytes l.position) (g.R.Reader.content_in l.bytes l.found);
}
