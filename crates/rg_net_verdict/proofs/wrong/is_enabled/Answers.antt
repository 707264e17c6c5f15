use Rattle.rg_net_verdict.proofs.Treading.{read_within, read_enabled, read_tokens}
use Rattle.rg_net_verdict.proofs.wrong.is_enabled.Goals as goal

pub allows-requires : goal.allows-requires
allows-requires c = read_within c.args.marked c.requires.marked c.args.s c.args.t c.requires.state c.requires.label c.index-marked-t.result
    c.index-marked-s.result c.index-marked-s.is c.deref.result.now c.deref.ensures.value c.deref-2.result.now c.deref-2.ensures.value

pub returns : goal.returns
returns c = (
  λ e. read_enabled c.args.marked c.requires.marked c.args.s c.args.t c.requires.state c.requires.label c.index-marked-t.result
      c.index-marked-s.result c.index-marked-s.is c.deref.result.now c.deref.ensures.value c.deref-2.result.now c.deref-2.ensures.value (c.allows.ensures.0 e),
  λ on. c.allows.ensures.1 (read_tokens c.args.marked c.requires.marked c.args.s c.args.t c.requires.state c.requires.label c.index-marked-t.result
      c.index-marked-s.result c.index-marked-s.is c.deref.result.now c.deref.ensures.value c.deref-2.result.now c.deref-2.ensures.value on),
)
