-- The closure meets exactly the states to which the labels of the block lead.
use Rattle.std.proofs.Common.{Vec, Global, map, filter, slice_index, ◌==◌, ◌≡◌, ◌⊎◌, ◌↔◌, inl, inr, ℕ, ◌+◌, ◌<◌, ◌≤◌, Bool, true, false, true≢false, List, [], ◌∷◌, ◌++◌, length, Option, get_or}
use Rattle.std.proofs.Common.{Contains, refl, sym, ap, subst, ◌∙◌, arith, eq-eqb}
use Rattle.std.proofs.lemmas.Bool.{cases_lt, eqb-true}
use Rattle.std.proofs.lemmas.List.{map-append, length-map, get_or-map, get_or_past}
use Rattle.std.proofs.lemmas.List.Elements.{AllZip-push}
use Rattle.std.specs.List.{range_with_len, AllZip}
use Rattle.std.proofs.lemmas.List.Kept.{AllPairs-filter}
use Rattle.rg_theory.specs.declared.Arc.{Arc}
use Rattle.rg_theory.specs.System.{System, states, arc}
use Rattle.rg_product.specs.Factoring.{LeadsBy, IsReachedBy, AreReachedBy}
use Rattle.rg_product.proofs.Paths.{leads_step}
use Rattle.rg_checks.specs.declared.walks.Step.{Step}
use Rattle.rg_checks.specs.Closure.{IsEntered, begin, then, is_met, IsClosure}
use Rattle.rg_checks.proofs.Walking.{initial_met, met_in_range}
use Rattle.rg_factor.specs.Blocks.{block_at}
use Rattle.rg_factor.specs.Reached.{all_met}
use Rattle.rg_factor.proofs.Blocking.{own_more, range_there, range_rises, filter_there, filter_from, block_there, block_from}

-- ---- the labels of the block

-- a label that is in the block has this least one
pub label_there : (leasts : List ℕ) (least t : ℕ) → Contains (block_at leasts least) t → get_or (map (λ l. l == least) leasts) t false ≡ true
label_there leasts least t has =
    let (lt, is) = block_from leasts least t has in
    get_or-map (λ l. l == least) leasts t 0 false lt ∙ eq-eqb (get_or leasts t 0) least is

-- and a label with this least one is in the block
pub label_from : (leasts : List ℕ) (least t : ℕ) → get_or (map (λ l. l == least) leasts) t false ≡ true → Contains (block_at leasts least) t
label_from leasts least t is = by (cases_lt t (length leasts))
  where
    by : (t < length leasts) ⊎ (length leasts ≤ t) → Contains (block_at leasts least) t
    by (inl lt) = block_there leasts least t lt (eqb-true (get_or leasts t 0) least (sym (get_or-map (λ l. l == least) leasts t 0 false lt) ∙ is))
    by (inr le) = absurd (true≢false (sym is ∙ get_or_past (map (λ l. l == least) leasts) t false (let n = length-map leasts (λ l. l == least) in omega (arith, le, n))))

-- ---- what the closure meets

module _ (lts : System) (block : List ℕ) (P : Arc → Type 0) (any : (a : Arc) → Contains lts.arcs a → Contains block a.label → P a)
    (only : (a : Arc) → P a → Contains lts.arcs a × Contains block a.label) (first : lts.initial < states lts) (steps : List (Option Step))
    (c : IsClosure P (states lts) lts.initial steps) where
  reached : (s : ℕ) → IsEntered P lts.initial steps s → IsReachedBy lts block s
  reached s begin = ([], refl)
  reached s (then q step before at has) =
      let (ts, path) = reached step.before before in
      let (there, inside) = only (arc step.before step.label q) has in
      (ts ++ step.label ∷ [], leads_step lts (Contains block) lts.initial ts step.before step.label q path inside there)

  along : (q : ℕ) (ts : List ℕ) (q' : ℕ) → LeadsBy lts (Contains block) q ts q' → is_met lts.initial steps q ≡ true → is_met lts.initial steps q' ≡ true
  along q [] q' e is = subst (λ k. is_met lts.initial steps k ≡ true) e is
  along q (t ∷ ts) q' (mid, inside, has, rest) is = along mid ts q' rest (c.closed (arc q t mid) (any (arc q t mid) has inside) is)

  pub reached_are : AreReachedBy lts block (all_met lts.initial steps)
  reached_are = record {
    members = λ s. (
      λ has. reached s (c.entered s (filter_from (is_met lts.initial steps) (range_with_len 0 (length steps)) s has).1),
      λ by. (let is = along lts.initial by.0 s by.1 (initial_met lts.initial steps) in
          let lt = met_in_range (states lts) lts.initial steps s first c.long is in
          filter_there (is_met lts.initial steps) (range_with_len 0 (length steps)) s (range_there (length steps) s (let n = c.long in omega (arith, lt, n))) is),
    );
    in_order = AllPairs-filter (λ a b. a < b) (is_met lts.initial steps) (range_with_len 0 (length steps)) (range_rises (length steps));
  }

-- ---- block after block

pub reached_pushed : (lts : System) (leasts : List ℕ) (t : ℕ) (all new : List (Vec ℕ Global)) (reached : Vec ℕ Global) → slice_index leasts t ≡ t → AreReachedBy lts (block_at leasts t) reached.items
    → new ≡ all ++ reached ∷ [] → AllZip (AreReachedBy lts) (map (block_at leasts) (filter (λ t. slice_index leasts t == t) (range_with_len 0 t))) (map (λ r. r.items) all)
    → AllZip (AreReachedBy lts) (map (block_at leasts) (filter (λ t. slice_index leasts t == t) (range_with_len 0 (t + 1)))) (map (λ r. r.items) new)
reached_pushed lts leasts t all new reached is are made so_far =
    subst (λ v. AllZip (AreReachedBy lts) v (map (λ r. r.items) new))
    (sym (ap (map (block_at leasts)) (own_more leasts t is) ∙ map-append (block_at leasts) (filter (λ t. slice_index leasts t == t) (range_with_len 0 t)) (t ∷ [])))
    (subst (AllZip (AreReachedBy lts) (map (block_at leasts) (filter (λ t. slice_index leasts t == t) (range_with_len 0 t)) ++ block_at leasts t ∷ []))
    (sym (ap (map (λ (r : Vec ℕ Global). r.items)) made ∙ map-append (λ (r : Vec ℕ Global). r.items) all (reached ∷ [])))
    (AllZip-push (AreReachedBy lts) (map (block_at leasts) (filter (λ t. slice_index leasts t == t) (range_with_len 0 t))) (map (λ r. r.items) all) (block_at leasts t) reached.items so_far are))
