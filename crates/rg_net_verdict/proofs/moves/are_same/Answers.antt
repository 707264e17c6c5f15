use Rattle.std.proofs.Common.{◌≡◌, ℕ, ◌+◌, ◌-◌, ◌<◌, ◌≤◌, List, length, get_or, sym, ap, ◌∙◌, arith, ext_get_or}
use Rattle.std.specs.List.{slice_range}
use Rattle.std.proofs.lemmas.Bool.Decides.{Decides-eqb}
use Rattle.std.proofs.lemmas.Slice.Eq.{slice_eq-Decides}
use Rattle.std.proofs.lemmas.List.Edits.{length-between, get_or-between}
use Rattle.rg_net_verdict.proofs.moves.are_same.Goals as goal

parts_same : (from to : List ℕ) (start end : ℕ) → start ≤ end → end ≤ length from → end ≤ length to
    → slice_range from start end ≡ slice_range to start end → (i : ℕ) → start ≤ i → i < end → get_or to i 0 ≡ get_or from i 0
parts_same from to start end le lf lt e i low high =
    let at : start + (i - start) ≡ i = omega arith in
    ap (λ n. get_or to n 0) (sym at) ∙ sym (get_or-between to start end (i - start) 0 (omega arith)) ∙ sym (ap (λ l. get_or l (i - start) 0) e)
    ∙ get_or-between from start end (i - start) 0 (omega arith) ∙ ap (λ n. get_or from n 0) at

same_parts : (from to : List ℕ) (start end : ℕ) → start ≤ end → end ≤ length from → end ≤ length to
    → ((i : ℕ) → start ≤ i → i < end → get_or to i 0 ≡ get_or from i 0) → slice_range from start end ≡ slice_range to start end
same_parts from to start end le lf lt each =
    ext_get_or 0 (slice_range from start end) (slice_range to start end) (length-between from start end lf ∙ sym (length-between to start end lt))
    (λ i below. (let long = length-between from start end lf in
    get_or-between from start end i 0 (omega arith) ∙ sym (each (start + i) (omega arith) (omega arith)) ∙ sym (get_or-between to start end i 0 (omega arith))))

pub returns : goal.returns
returns c =
    let h = slice_eq-Decides Decides-eqb (slice_range c.args.from.now c.args.start c.args.end) (slice_range c.args.to.now c.args.start c.args.end) c.eq.result c.eq.ensures in (
      λ e. parts_same c.args.from.now c.args.to.now c.args.start c.args.end c.requires.order c.requires.from c.requires.to (h.0 e),
      λ each. h.1 (same_parts c.args.from.now c.args.to.now c.args.start c.args.end c.requires.order c.requires.from c.requires.to each),
    )
