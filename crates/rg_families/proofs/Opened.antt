-- When the system of a drawing is open, by the names of its states.
use Rattle.std.proofs.Common.{◌≡◌, ℕ, ◌<◌, List, [], length, map, get_or, slice_get, Contains, sym, ap, subst, ◌∙◌}
use Rattle.std.specs.Str.{bytes_eq}
use Rattle.std.proofs.lemmas.List.Elements.{Contains-get_or}
use Rattle.std.proofs.lemmas.Option.{slice_get-get_or, same_Some}
use Rattle.rg_theory.specs.declared.Arc.{Arc}
use Rattle.rg_theory.specs.System.{System, IsReachable, IsAllReachable, IsForkFree}
use Rattle.rg_theory.proofs.Closed.{reached_more}
use Rattle.rg_theory.proofs.Lists.{map_there, map_from}
use Rattle.rg_line_formats.specs.First.{number_of}
use Rattle.rg_line_formats.proofs.Numbers.{number_is, number_at}
use Rattle.rg_line_formats.proofs.Parts.{one_with}
use Rattle.rg_families.specs.Named.{Triple, Drawing, arc_of, IsSystemOf, IsSound}

pub one_system : (d : Drawing) (a b : System) → IsSystemOf d a → IsSystemOf d b → a ≡ b
one_system d a b x y = one_with d.states d.labels (map (arc_of d.states d.labels) d.arcs) (number_of bytes_eq d.states d.initial) a b x y

-- names of the same number are the same
pub same_named : (names : List (List ℕ)) (a b : List ℕ) → Contains names a → Contains names b → number_of bytes_eq names a ≡ number_of bytes_eq names b → a ≡ b
same_named names a b ha hb e = same_Some a b (sym (number_at names a ha) ∙ ap (slice_get names) e ∙ number_at names b hb)

module _ (d : Drawing) (sound : IsSound d) (lts : System) (is : IsSystemOf d lts) where
  -- the state of this name can be reached
  abbrev pub IsMet : List ℕ → Type 0
  IsMet name = IsReachable lts (number_of bytes_eq d.states name)

  pub initial_met : IsMet d.initial
  initial_met = ([], is.initial)

  pub met_more : (t : Triple) → Contains d.arcs t → IsMet t.from → IsMet t.to
  met_more t has met =
      reached_more lts (number_of bytes_eq d.states t.from) (number_of bytes_eq d.labels t.label) (number_of bytes_eq d.states t.to) met
      ((is.members (arc_of d.states d.labels t)).1 (map_there (arc_of d.states d.labels) d.arcs t has))

  pub all_met : ((name : List ℕ) → Contains d.states name → IsMet name) → IsAllReachable lts
  all_met each = record {
    each = λ s lt. (let within : s < length d.states = subst (λ l. s < length l) is.state_names lt in
        let name = get_or d.states s [] in
        subst (IsReachable lts) (number_is d.states s name sound.state_names (slice_get-get_or d.states s [] within)) (each name (Contains-get_or d.states s [] within)));
  }

  pub no_fork : ((t u : Triple) → Contains d.arcs t → Contains d.arcs u → t.from ≡ u.from → t.label ≡ u.label → t.to ≡ u.to) → IsForkFree lts
  no_fork one = record {
    one_target = λ s l s₁ s₂ h₁ h₂. (let f = arc_of d.states d.labels in
        let a = map_from f d.arcs _ ((is.members _).0 h₁) in
        let b = map_from f d.arcs _ ((is.members _).0 h₂) in
        let ka = sound.known a.0 a.1 in
        let kb = sound.known b.0 b.1 in
        let from : a.0.from ≡ b.0.from = same_named d.states a.0.from b.0.from ka.from kb.from (ap (λ (x : Arc). x.from) a.2 ∙ sym (ap (λ (x : Arc). x.from) b.2)) in
        let label : a.0.label ≡ b.0.label = same_named d.labels a.0.label b.0.label ka.label kb.label (ap (λ (x : Arc). x.label) a.2 ∙ sym (ap (λ (x : Arc). x.label) b.2)) in
        sym (ap (λ (x : Arc). x.to) a.2) ∙ ap (number_of bytes_eq d.states) (one a.0 b.0 a.1 b.1 from label) ∙ ap (λ (x : Arc). x.to) b.2);
  }
