use Rattle.std.proofs.Common.{◌≡◌, ◌<◌, ℕ, List, length, get_or, sym, ◌∙◌, arith}
use Rattle.std.proofs.lemmas.List.{get_or_default}
use Rattle.rg_lexer.specs.declared.token.Token.{Token}
use Rattle.rg_lexer.specs.declared.token.Kind.TheVariants.{Name}
use Rattle.rg_grammar.proofs.Described.{reads_none, reads_more, refused_at, refused_end, read_end}
use Rattle.rg_grammar.proofs.reading.found_of.Goals as goal

-- what a read past the end would give
abbrev past_end : Token
past_end = record { kind = Name; from = 0; to = 0 }

-- a read within the tokens, at any default
same_read : (tokens : List Token) (i : ℕ) → i < length tokens → get_or tokens i past_end ≡ get_or tokens i (get_or tokens i past_end)
same_read tokens i within = get_or_default tokens i past_end (get_or tokens i past_end) within

pub loop-token-init : goal.loop-token-init
loop-token-init g c =
    let bytes = c.args.bytes.now in
    record {
      held = c.start-position.ensures.holds bytes;
      names = c.new-found.ensures.names bytes;
      reads = reads_none g.R.Reader.grammar bytes c.args.tokens.now (g.R.Reader.grammar_position_in bytes c.start-position.result) (g.R.Reader.content_in bytes c.new-found.result)
          (c.start-position.ensures.position bytes) (c.new-found.ensures.found bytes);
    }

pub lead-requires : goal.lead-requires
lead-requires g c = record { token = c.requires.tokens c.loop-token.token-index past_end c.loop-token-test.true; held = c.loop-token.invariant.held }

pub returns-in-None-clause-fault : goal.returns-in-None-clause-fault
returns-in-None-clause-fault g c = λ memory.
    let bytes = c.args.bytes.now in
    let tokens = c.args.tokens.now in
    let i = c.loop-token.token-index in
    let within : i < length tokens = omega arith in
    rw (c.refusal.ensures bytes)
    (refused_at g.R.Reader.grammar bytes tokens i (get_or tokens i past_end) (g.R.Reader.grammar_position_in bytes c.loop-token.position)
    (g.R.Reader.content_in bytes c.loop-token.found) within (same_read tokens i within)
    (sym c.in-None.ensures.leads) c.loop-token.invariant.reads)

pub loop-token-preserved : goal.loop-token-preserved
loop-token-preserved g c =
    let bytes = c.args.bytes.now in
    let tokens = c.args.tokens.now in
    let i = c.loop-token.token-index in
    let within : i < length tokens = omega arith in
    record {
      held = c.in-Some.ensures.holds;
      names = c.in_ok-add-in-Some.ensures.names c.loop-token.invariant.names;
      reads = reads_more g.R.Reader.grammar bytes tokens i (get_or tokens i past_end) (g.R.Reader.grammar_position_in bytes c.loop-token.position) (g.R.Reader.grammar_position_in bytes c.in-Some.next)
          (g.R.Reader.content_in bytes c.loop-token.found) (g.R.Reader.content_in bytes c.add.new.self) within (same_read tokens i within)
          (sym c.in-Some.ensures.leads) c.in_ok-add-in-Some.ensures.ok c.loop-token.invariant.reads;
    }

pub returns-then-may_end-clause-ok : goal.returns-then-may_end-clause-ok
returns-then-may_end-clause-ok g c =
    let bytes = c.args.bytes.now in
    read_end g.R.Reader.grammar bytes c.args.tokens.now c.loop-token.token-index (g.R.Reader.grammar_position_in bytes c.loop-token.position) (g.R.Reader.content_in bytes c.loop-token.found)
    (omega arith) (sym (c.may_end.ensures bytes) ∙ c.if-may_end.true) c.loop-token.invariant.reads

pub returns-else-may_end-clause-fault : goal.returns-else-may_end-clause-fault
returns-else-may_end-clause-fault g c = λ memory.
    let bytes = c.args.bytes.now in
    rw (c.end_refusal.ensures bytes)
    (refused_end g.R.Reader.grammar bytes c.args.tokens.now c.loop-token.token-index (g.R.Reader.grammar_position_in bytes c.loop-token.position) (g.R.Reader.content_in bytes c.loop-token.found)
    (omega arith) (sym (c.may_end.ensures bytes) ∙ c.if-may_end.false) c.loop-token.invariant.reads)
