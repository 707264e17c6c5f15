-- Places that are kept, and one more.
use Rattle.std.proofs.Common.{◌≡◌, ℕ, ◌+◌, ◌<◌, List, [], ◌∷◌, ◌++◌, length, take, get_or, refl, sym, ap, ◌∙◌, subst, arith}
use Rattle.std.proofs.lemmas.List.{take_more}
use Rattle.std.proofs.lemmas.List.Elements.{All-nil, All-push}
use Rattle.rg_theory.specs.System.{System, IsAllReachable}
use Rattle.rg_theory.specs.Net.{Place as PlaceOfTheory}
use Rattle.rg_theory.specs.declared.Class.{Class}
use Rattle.rg_theory.proofs.Yes.{region_unique}
use Rattle.rg_net.specs.Shown.{shown_place}
use Rattle.rg_marks.specs.declared.region_place.RegionPlace.{RegionPlace}
use Rattle.rg_places.specs.RegionPlaces.{region_tokens, IsRegionPlace}
use Rattle.rg_marks.specs.Tokens.{IsNarrow, AreTokens}
use Rattle.rg_marks.specs.Separated.{AddsOne, SeparateSoMuch, AreSome}
use Rattle.rg_marks.specs.declared.separated.Separated.{Separated}
use Rattle.rg_marks.specs.Firsts.{AreFirsts, AreAllFirsts}
use Rattle.rg_marks.specs.declared.firsts.Firsts.{Firsts}
use Rattle.rg_marks.proofs.Members.{adds_last}
use Rattle.rg_marks.proofs.FirstProblems.{no_firsts, firsts_more}
use Rattle.rg_blocks.specs.Taking.{AreNotable}
use Rattle.rg_separate.specs.Keeping.{MayKeep, IsKept, AreKept}

-- such a place is narrow, and these are its tokens
module _ (lts : System) (r : RegionPlace) (may : MayKeep lts r) where
  pub narrow_place : IsNarrow lts (shown_place r.place)
  narrow_place = record {
    m = region_tokens r;
    region = may.1.region.region;
    narrow = λ s lt. may.1.few_tokens s 0 (let n = may.1.states in omega arith);
    pre = may.1.pre;
    post = may.1.post;
  }

  pub tokens_of_place : IsAllReachable lts → AreTokens lts (shown_place r.place) r.tokens.items
  tokens_of_place reachable = record {
    one_each = may.1.states;
    each = λ m region s lt. region_unique lts (shown_place r.place) (region_tokens r) m may.1.region.region region s (reachable.each s lt);
  }

  pub is_kept : IsKept lts (shown_place r.place)
  is_kept = record { narrow = narrow_place; in_range = may.1.in_range }

-- one more place is kept after the others, with the problems that it is the first to separate
pub one_more : (lts : System) (p : PlaceOfTheory) (is : IsKept lts p) (places after : List PlaceOfTheory) (all more : List Firsts) (f : Firsts) (before now : Separated) → AreKept lts places all before
    → after ≡ places ++ p ∷ [] → more ≡ all ++ f ∷ []
    → ((front more : List PlaceOfTheory) → AddsOne p front more → SeparateSoMuch lts front before → SeparateSoMuch lts more now)
    → ((front : List PlaceOfTheory) → SeparateSoMuch lts front before → AreFirsts lts front p f)
    → AreKept lts after more now
one_more lts p is_one places after all more f before now are is is' adds first = subst (λ l. AreKept lts l more now) (sym is) (record {
  reachable = are.reachable;
  each = All-push (IsKept lts) places p are.each is_one;
  firsts = subst (AreAllFirsts lts (places ++ p ∷ [])) (sym is') (firsts_more lts places p all f are.firsts (first places are.so_much));
  so_much = adds places (places ++ p ∷ []) (adds_last p places) are.so_much;
})

-- what such places separate may be noted
pub notable : (lts : System) (class : Class) → IsAllReachable lts → AreNotable lts (IsRegionPlace lts class)
notable lts class reachable = record { each = λ r is. (narrow_place lts r (class, is), tokens_of_place lts r (class, is) reachable) }

pub some_kept : (lts : System) (places : List PlaceOfTheory) (firsts : List Firsts) (separated : Separated) → AreKept lts places firsts separated → AreSome lts separated
some_kept lts places firsts separated are = record { places = places; so_much = are.so_much }

pub none_kept : (lts : System) (places : List PlaceOfTheory) (firsts : List Firsts) (separated : Separated) → places ≡ [] → firsts ≡ []
    → IsAllReachable lts → SeparateSoMuch lts [] separated → AreKept lts places firsts separated
none_kept lts places firsts separated none none' reachable much =
    subst (λ l. AreKept lts l firsts separated) (sym none)
    (record { reachable = reachable; each = All-nil (IsKept lts); firsts = no_firsts lts [] firsts refl none'; so_much = much })

-- the places that are kept after one more of those that are known
pub known_next : (known : List PlaceOfTheory) (i : ℕ) (x p : PlaceOfTheory) (kept : List PlaceOfTheory) → i < length known → x ≡ get_or known i x
    → p ≡ x → kept ≡ take i known → kept ++ p ∷ [] ≡ take (i + 1) known
known_next known i x p kept lt e same is =
    ap (λ l. l ++ p ∷ []) is ∙ ap (λ q. take i known ++ q ∷ []) same ∙ sym (take_more known i x lt ∙ ap (λ q. take i known ++ q ∷ []) (sym e))
