use Rattle.std.proofs.Common.{◌+◌, ◌<◌, ◌++◌, ◌∷◌, [], map, length, ap, refl, sym, subst, ◌∙◌, inl, arith}
use Rattle.std.proofs.lemmas.Bool.{false≢true}
use Rattle.std.proofs.lemmas.List.{length-map}
use Rattle.rg_folds.specs.Fold.{ratio_of}
use Rattle.rg_linear.specs.View.{linear_row}
use Rattle.rg_rows.proofs.Slices.{has_numbers}
use Rattle.rg_rows.specs.View.{kept_row, row_in}
use Rattle.rg_rows.proofs.Keeping.{kept-start, kept-end, kept-drop, row_next, asked-new, asked-old}
use Rattle.rg_rows.proofs.Placing.{IndicesSoFar, indices-start, indices-end, indices-idle, indices-new, indices-old, keys_stay, index_fits, row_got}
use Rattle.rg_rows.proofs.Sharing.{held_is}
use Rattle.rg_rows.proofs.kept.firsts.Goals as goal
use Rattle.rg_rows.proofs.kept.firsts.Goals.{then-is_new+in_ok-push-2, else-is_new}

pub loop-held-init : goal.loop-held-init
loop-held-init c = (
  [],
  record { rows = ap (map linear_row) c.in_ok-with_capacity.ensures.items; names = c.in_ok-with_capacity-2.ensures.items; factors = ap (map ratio_of) c.in_ok-with_capacity-3.ensures.items },
  kept-start (map kept_row (map row_in c.args.all.now)) _ (λ q. ap (λ k. has_numbers k q) c.in_ok-seen.ensures.empty),
  indices-start (map kept_row (map row_in c.args.all.now)) c.in_ok-seen.seen.keys c.in_ok-indices.indices.items c.in_ok-seen.ensures.empty c.in_ok-indices.ensures.items,
)

pub loop-held-preserved-then-is_idle : goal.loop-held-preserved-then-is_idle
loop-held-preserved-then-is_idle c =
    let (kept, shows, so_far, indices) = c.loop-held.invariant in
    let row = c.row-row.result.now in
    let rows = map row_in c.args.all.now in
    let all = map kept_row rows in
    let below : c.loop-held.held-index < length rows = simp length-map c.loop-held-test.true in
    let at = held_is c.args.all.now c.loop-held.held-index c.held-item.result row c.loop-held-test.true c.held-item.is c.row-row.ensures in
    let idle = c.is_idle.ensures.0 c.if-is_idle.true in (
      kept,
      shows,
      kept-drop all _ _ c.loop-held.held-index kept so_far (kept_row row) (row_next rows c.loop-held.held-index row below at) (inl idle) (λ q. refl),
      subst (IndicesSoFar all (c.loop-held.held-index + 1) kept c.loop-held.seen.keys) (sym c.in_ok-push.ensures.items)
          (indices-idle all c.loop-held.held-index kept c.loop-held.seen.keys c.loop-held.indices.items indices (kept_row row)
          (row_got rows c.loop-held.held-index row below at) idle),
    )

pub overflow_cast-index : goal.overflow_cast-index
overflow_cast-index c =
    let (kept, shows, so_far, indices) = c.loop-held.invariant in
    let row = c.row-row.result.now in
    let rows = map row_in c.args.all.now in
    let all = map kept_row rows in
    let below : c.loop-held.held-index < length rows = simp length-map c.loop-held-test.true in
    let at = held_is c.args.all.now c.loop-held.held-index c.held-item.result row c.loop-held-test.true c.held-item.is c.row-row.ensures in
    let (k, stored, equal) = c.in_ok-index.ensures.stored in
    let lt = index_fits all c.loop-held.held-index kept c.loop-held.seen.keys c.loop-held.indices.items indices (kept_row row)
    (row_got rows c.loop-held.held-index row below at) c.insert_full.new.self.keys c.key.result k c.in_ok-index.index
    (c.key.ensures ∙ row.numbers_are) c.in_ok-index.is_new c.in_ok-index.ensures.added c.in_ok-index.ensures.keys stored equal in
    let below = c.loop-held-test.true in
    let few = c.requires.few in
    omega arith

pub loop-held-preserved : goal.loop-held-preserved
loop-held-preserved c =
    let (kept, shows, so_far, indices) = c.loop-held.invariant in
    let row = c.row-row.result.now in
    let rows = map row_in c.args.all.now in
    let all = map kept_row rows in
    let below : c.loop-held.held-index < length rows = simp length-map c.loop-held-test.true in
    let at = held_is c.args.all.now c.loop-held.held-index c.held-item.result row c.loop-held-test.true c.held-item.is c.row-row.ensures in
    let next = row_next rows c.loop-held.held-index row below at in
    let got = row_got rows c.loop-held.held-index row below at in
    let is = c.key.ensures ∙ row.numbers_are in
    let (k, stored, equal) = c.in_ok-index.ensures.stored in
    let pushed = sym c.in_ok-push-3.ensures.items in
    elim c.if-is_new.branch [
      | then-is_new+in_ok-push-2 w ↦ rw w.kept-is (
        kept ++ kept_row row ∷ [],
        w.in_ok-push-2.ensures kept shows,
        asked-new all c.loop-held.held-index kept _ _ c.key.result so_far (kept_row row) next is c.in_ok-index.is_new c.in_ok-index.ensures.added
            (λ idle. false≢true (sym c.if-is_idle.false ∙ c.is_idle.ensures.1 idle)) w.if-is_new.true c.in_ok-index.ensures.updates.0,
        subst (IndicesSoFar all (c.loop-held.held-index + 1) (kept ++ kept_row row ∷ []) c.insert_full.new.self.keys) pushed
            (indices-new all c.loop-held.held-index kept c.loop-held.seen.keys c.loop-held.indices.items indices
            (kept_row row) got c.insert_full.new.self.keys c.key.result k c.in_ok-index.index is c.in_ok-index.is_new c.in_ok-index.ensures.added
            c.in_ok-index.ensures.keys stored equal w.if-is_new.true),
      )
      | else-is_new w ↦ rw w.kept-is (
        kept,
        shows,
        asked-old all c.loop-held.held-index kept _ _ c.key.result so_far (kept_row row) next is c.in_ok-index.is_new c.in_ok-index.ensures.added w.if-is_new.false
            (keys_stay all c.loop-held.held-index kept c.loop-held.seen.keys c.loop-held.indices.items indices
            (kept_row row) got c.insert_full.new.self.keys c.key.result k c.in_ok-index.index is c.in_ok-index.is_new c.in_ok-index.ensures.added
            c.in_ok-index.ensures.keys stored equal w.if-is_new.false),
        subst (IndicesSoFar all (c.loop-held.held-index + 1) kept c.insert_full.new.self.keys) pushed
            (indices-old all c.loop-held.held-index kept c.loop-held.seen.keys c.loop-held.indices.items indices
            (kept_row row) got c.insert_full.new.self.keys c.key.result k c.in_ok-index.index is c.in_ok-index.is_new c.in_ok-index.ensures.added
            c.in_ok-index.ensures.keys stored equal w.if-is_new.false),
      )
    ]

pub returns : goal.returns
returns c =
    let (kept, shows, so_far, indices) = c.loop-held.invariant in
    let end = c.loop-held.auto.held-index-end in
    let past = c.loop-held-test.false in
    let rows = map row_in c.args.all.now in
    let size = length-map rows kept_row in
    let held = length-map c.args.all.now row_in in (
      kept,
      shows,
      kept-end (map kept_row (map row_in c.args.all.now)) _ c.loop-held.held-index kept so_far
          (simp length-map c.loop-held-test.false),
      indices-end (map kept_row (map row_in c.args.all.now)) c.loop-held.held-index kept _ _ indices (omega arith),
    )
