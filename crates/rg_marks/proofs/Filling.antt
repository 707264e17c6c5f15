-- The tokens of a place, tree arc by tree arc.
use Rattle.std.proofs.Common.{◌≡◌, ℕ, ◌+◌, ◌-◌, ◌<◌, ◌≤◌, List, [], ◌∷◌, ◌++◌, length, get_or, set, drop, drop-cons, add-one, Contains, Vec, ⊎_elim, refl, sym, ap, ◌∙◌, subst, arith}
use Rattle.std.proofs.lemmas.List.{length-set, get_or-set_other, with_items_is}
use Rattle.std.specs.Vec.{with_items}
use Rattle.std.specs.declared.alloc.Global.{Global}
use Rattle.std.proofs.lemmas.Grind.{get_or-set_at}
use Rattle.std.proofs.lemmas.List.Elements.{Contains-append_left, Contains-push_cases}
use Rattle.rg_theory.specs.declared.Arc.{Arc}
use Rattle.rg_theory.specs.System.{System, states, labels, IsInRange, IsAllReachable, IsReachable}
use Rattle.rg_theory.specs.Net.{Place, pre_weight, post_weight}
use Rattle.rg_theory.specs.Region.{Region}
use Rattle.rg_theory.specs.Tree.{Grows, IsTree}
use Rattle.rg_theory.proofs.Lists.{only_one}
use Rattle.rg_theory.proofs.Arcs.{arc_in_range}
use Rattle.rg_theory.proofs.Trees.{source_met, led_is_met}
use Rattle.rg_integers.specs.Range.{greatest}
use Rattle.rg_marks.specs.Tokens.{IsNarrow, AreTokens}
use Rattle.rg_marks.proofs.Marking.{weight_read}

-- the tokens are right at the states that are met, and the rest of the tree grows from these
pub record FilledSoFar (lts : System) (p : Place) (rest : List Arc) (tokens : List ℕ) : Type 0 where
  pub met : List ℕ
  pub grows : Grows lts met rest
  pub initial : Contains met lts.initial
  pub within : (s : ℕ) → Contains met s → s < states lts
  pub one_each : length tokens ≡ states lts
  pub right : (m : ℕ → ℕ) → Region lts p m → (s : ℕ) → Contains met s → get_or tokens s 0 ≡ m s

pub filled_start : (lts : System) (p : Place) (tree : List Arc) (tokens : List ℕ) → IsInRange lts → IsTree lts tree → length tokens ≡ states lts
    → FilledSoFar lts p tree (set tokens lts.initial p.start)
filled_start lts p tree tokens fine is count =
    record {
      met = lts.initial ∷ [];
      grows = is;
      initial = (0, omega arith, refl);
      within = λ s has. subst (λ k. k < states lts) (only_one lts.initial s has) fine.initial;
      one_each = length-set tokens lts.initial p.start ∙ count;
      right = λ m region s has. subst (λ k. get_or (set tokens lts.initial p.start) k 0 ≡ m k) (only_one lts.initial s has)
          (get_or-set_at tokens lts.initial lts.initial p.start 0 refl (subst (λ n. lts.initial < n) (sym count) fine.initial) ∙ sym region.start);
    }

module _ (lts : System) (p : Place) (a : Arc) (rest : List Arc) (tokens : List ℕ) (fine : IsInRange lts) (so_far : FilledSoFar lts p (a ∷ rest) tokens) where
  met_before : Contains so_far.met a.from
  met_before = source_met lts so_far.met a so_far.grows.0

  pub source_within : a.from < length tokens
  source_within = subst (λ n. a.from < n) (sym so_far.one_each) (so_far.within a.from met_before)

  target_in_range : a.to < states lts
  target_in_range = (arc_in_range lts fine a.from a.label a.to so_far.grows.0.has).2

  pub target_within : a.to < length tokens
  target_within = subst (λ n. a.to < n) (sym so_far.one_each) target_in_range

  pub label_within : a.label < labels lts
  label_within = (arc_in_range lts fine a.from a.label a.to so_far.grows.0.has).1

  pub enough : (m : ℕ → ℕ) → Region lts p m → pre_weight p a.label ≤ get_or tokens a.from 0
  enough m region = subst (λ n. pre_weight p a.label ≤ n) (sym (so_far.right m region a.from met_before)) (region.enabled a.from a.label a.to so_far.grows.0.has)

  -- the weights that are read
  pub pre_read : (x : ℕ) → length p.pre ≡ labels lts → x ≡ get_or p.pre a.label x → x ≡ pre_weight p a.label
  pre_read x all e = weight_read p.pre a.label x (subst (λ n. a.label < n) (sym all) label_within) e

  pub post_read : (x : ℕ) → length p.post ≡ labels lts → x ≡ get_or p.post a.label x → x ≡ post_weight p a.label
  post_read x all e = weight_read p.post a.label x (subst (λ n. a.label < n) (sym all) label_within) e

  -- what the target gets
  pub moved_to : (m : ℕ → ℕ) → Region lts p m → get_or tokens a.from 0 - pre_weight p a.label + post_weight p a.label ≡ m a.to
  moved_to m region = ap (λ n. n - pre_weight p a.label + post_weight p a.label) (so_far.right m region a.from met_before) ∙ sym (region.moved a.from a.label a.to so_far.grows.0.has)

  pub room : IsNarrow lts p → get_or tokens a.from 0 - pre_weight p a.label + post_weight p a.label ≤ greatest
  room narrow = subst (λ n. n ≤ greatest) (sym (moved_to narrow.m narrow.region)) (narrow.narrow a.to target_in_range)

  pub filled_next : (x y : ℕ) → x ≡ pre_weight p a.label → y ≡ post_weight p a.label → FilledSoFar lts p rest (set tokens a.to (get_or tokens a.from 0 - x + y))
  filled_next x y ex ey =
      record {
        met = so_far.met ++ a.to ∷ [];
        grows = so_far.grows.1;
        initial = Contains-append_left so_far.met (a.to ∷ []) lts.initial so_far.initial;
        within = λ s has. ⊎_elim (λ before. so_far.within s before) (λ e. subst (λ k. k < states lts) e target_in_range) (Contains-push_cases so_far.met a.to s has);
        one_each = length-set tokens a.to (get_or tokens a.from 0 - x + y) ∙ so_far.one_each;
        right = λ m region s has. ⊎_elim
            (λ before. get_or-set_other tokens a.to s (get_or tokens a.from 0 - x + y) 0 (λ e. so_far.grows.0.fresh (subst (Contains so_far.met) e before)) ∙ so_far.right m region s before)
            (λ e. subst (λ k. get_or (set tokens a.to (get_or tokens a.from 0 - x + y)) k 0 ≡ m k) e
            (get_or-set_at tokens a.to a.to (get_or tokens a.from 0 - x + y) 0 refl target_within ∙ value ∙ moved_to m region))
            (Contains-push_cases so_far.met a.to s has);
      }
    where
      value : get_or tokens a.from 0 - x + y ≡ get_or tokens a.from 0 - pre_weight p a.label + post_weight p a.label
      value = ap (λ n. get_or tokens a.from 0 - n + y) ex ∙ ap (λ n. get_or tokens a.from 0 - pre_weight p a.label + n) ey

-- the next arc of the tree
pub next_arc : (lts : System) (p : Place) (tree : List Arc) (i : ℕ) (d : Arc) (tokens : List ℕ) → i < length tree
    → FilledSoFar lts p (drop i tree) tokens → FilledSoFar lts p (get_or tree i d ∷ drop (i + 1) tree) tokens
next_arc lts p tree i d tokens lt so_far = subst (λ l. FilledSoFar lts p l tokens) (rw add-one (drop-cons tree i d lt)) so_far

pub filled_end : (lts : System) (p : Place) (tokens : List ℕ) → IsAllReachable lts → FilledSoFar lts p [] tokens → AreTokens lts p tokens
filled_end lts p tokens reach so_far =
    record {
      one_each = so_far.one_each;
      each = λ m region s lt. so_far.right m region s (met_all s (reach.each s lt));
    }
  where
    met_all : (s : ℕ) → IsReachable lts s → Contains so_far.met s
    met_all s (ts, leads) = led_is_met lts so_far.met [] lts.initial ts s so_far.grows so_far.initial leads

-- a list that was written over keeps its length
pub written_length : (v : Vec ℕ Global) (ws : List ℕ) (before : List ℕ) (n : ℕ) → length ws ≡ length before → before ≡ v.items → length v.items ≡ n → length (with_items v ws).items ≡ n
written_length v ws before n same is all =
    ap (λ (l : List ℕ). length l) (with_items_is v ws (same ∙ ap (λ (l : List ℕ). length l) is ∙ sym v.ok.0)) ∙ same ∙ ap (λ (l : List ℕ). length l) is ∙ all
