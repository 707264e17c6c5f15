use Rattle.std.proofs.Common.{ℕ, ◌<◌}
use Rattle.rg_theory.specs.System.{states, labels, HasArc}
use Rattle.rg_theory.proofs.Arcs.{arc_in_range}
use Rattle.rg_net_verdict.specs.declared.wrong.Marked.{Marked}
use Rattle.rg_net_verdict.specs.Marked.{IsMarked}
use Rattle.rg_net_verdict.proofs.Treading.{read_listed, read_in_range, read_enabled, read_tokens, read_long, read_fires, read_moved}
use Rattle.rg_net_verdict.proofs.wrong.is_step.Goals as goal

range : (m : Marked) → IsMarked m → (s t to : ℕ) → HasArc m.lts.now s t to → (s < states m.lts.now) × (t < labels m.lts.now) × (to < states m.lts.now)
range m is s t to has = arc_in_range m.lts.now is.system s t to has

pub leads-requires-clause-listed : goal.leads-requires-clause-listed
leads-requires-clause-listed c = read_listed c.args.marked c.requires.marked c.args.s c.args.t
    (range c.args.marked c.requires.marked c.args.s c.args.t c.args.to c.requires.arc).0
    (range c.args.marked c.requires.marked c.args.s c.args.t c.args.to c.requires.arc).1 c.index-marked-t.result c.index-marked-s.result c.index-marked-s.is
    c.deref.result.now c.deref.ensures.value c.deref-2.result.now c.deref-2.ensures.value

pub leads-requires-clause-long : goal.leads-requires-clause-long
leads-requires-clause-long c = read_long c.args.marked c.requires.marked c.args.s c.args.t
    (range c.args.marked c.requires.marked c.args.s c.args.t c.args.to c.requires.arc).0
    (range c.args.marked c.requires.marked c.args.s c.args.t c.args.to c.requires.arc).1 c.index-marked-t.result c.index-marked-s.result c.index-marked-s.is
    c.deref.result.now c.deref.ensures.value c.deref-2.result.now c.deref-2.ensures.value c.args.to
    (range c.args.marked c.requires.marked c.args.s c.args.t c.args.to c.requires.arc).2 c.index-marked-to.result c.index-marked-to.is c.deref-3.result.now
    c.deref-3.ensures.value

pub leads-requires-clause-in_range : goal.leads-requires-clause-in_range
leads-requires-clause-in_range c = read_in_range c.args.marked c.requires.marked c.args.s c.args.t
    (range c.args.marked c.requires.marked c.args.s c.args.t c.args.to c.requires.arc).0
    (range c.args.marked c.requires.marked c.args.s c.args.t c.args.to c.requires.arc).1 c.index-marked-t.result c.index-marked-s.result c.index-marked-s.is
    c.deref.result.now c.deref.ensures.value c.deref-2.result.now c.deref-2.ensures.value

pub returns : goal.returns
returns c = (
  λ e. (let (has, moved) = c.leads.ensures.0 e in read_fires c.args.marked c.requires.marked c.args.s c.args.t
      (range c.args.marked c.requires.marked c.args.s c.args.t c.args.to c.requires.arc).0
      (range c.args.marked c.requires.marked c.args.s c.args.t c.args.to c.requires.arc).1 c.index-marked-t.result c.index-marked-s.result c.index-marked-s.is
      c.deref.result.now c.deref.ensures.value c.deref-2.result.now c.deref-2.ensures.value c.args.to
      (range c.args.marked c.requires.marked c.args.s c.args.t c.args.to c.requires.arc).2 c.index-marked-to.result c.index-marked-to.is c.deref-3.result.now
      c.deref-3.ensures.value (read_enabled c.args.marked c.requires.marked c.args.s c.args.t
      (range c.args.marked c.requires.marked c.args.s c.args.t c.args.to c.requires.arc).0
      (range c.args.marked c.requires.marked c.args.s c.args.t c.args.to c.requires.arc).1 c.index-marked-t.result c.index-marked-s.result c.index-marked-s.is
      c.deref.result.now c.deref.ensures.value c.deref-2.result.now c.deref-2.ensures.value has) moved),
  λ fires. c.leads.ensures.1 (
    read_tokens c.args.marked c.requires.marked c.args.s c.args.t
        (range c.args.marked c.requires.marked c.args.s c.args.t c.args.to c.requires.arc).0
        (range c.args.marked c.requires.marked c.args.s c.args.t c.args.to c.requires.arc).1 c.index-marked-t.result c.index-marked-s.result c.index-marked-s.is
        c.deref.result.now c.deref.ensures.value c.deref-2.result.now c.deref-2.ensures.value fires.enabled,
    read_moved c.args.marked c.requires.marked c.args.s c.args.t
        (range c.args.marked c.requires.marked c.args.s c.args.t c.args.to c.requires.arc).0
        (range c.args.marked c.requires.marked c.args.s c.args.t c.args.to c.requires.arc).1 c.index-marked-t.result c.index-marked-s.result c.index-marked-s.is
        c.deref.result.now c.deref.ensures.value c.deref-2.result.now c.deref-2.ensures.value c.args.to
        (range c.args.marked c.requires.marked c.args.s c.args.t c.args.to c.requires.arc).2 c.index-marked-to.result c.index-marked-to.is c.deref-3.result.now
        c.deref-3.ensures.value fires,
  ),
)
