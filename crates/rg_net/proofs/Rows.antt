-- Markings that the code reads.
use Rattle.std.proofs.Common.{◌≡◌, ℕ, ◌+◌, ◌<◌, ◌≤◌, List, length, get_or, Some, slice_get, All, Vec, ⊎_elim, refl, sym, ap, ◌∙◌, subst, arith}
use Rattle.std.specs.Option.{option_map}
use Rattle.std.specs.declared.alloc.Global.{Global}
use Rattle.std.proofs.lemmas.Bool.{cases_lt}
use Rattle.std.proofs.lemmas.List.{length-map}
use Rattle.std.proofs.lemmas.Option.{same_Some, slice_get-map, slice_get_read, slice_get_within, get_or_from_slice_get}
use Rattle.rg_theory.specs.Net.{Marking}
use Rattle.rg_net.specs.ClassBreaks.{shown_markings}

pub row_read : (rows : List (Vec ℕ Global)) (s : ℕ) (x : Vec ℕ Global) → s < length rows → x ≡ get_or rows s x → slice_get (shown_markings rows) s ≡ Some x.items
row_read rows s x lt e = slice_get-map (λ (r : Vec ℕ Global). r.items) rows s ∙ ap (option_map (λ (r : Vec ℕ Global). r.items)) (slice_get_read rows (length rows) s x refl lt e)

pub rows_long : (rows : List (Vec ℕ Global)) → length (shown_markings rows) ≡ length rows
rows_long rows = length-map rows (λ (r : Vec ℕ Global). r.items)

-- what holds of each of a list holds of the one at s
pub all_at : (P : Marking → Type 0) (ms : List Marking) (s : ℕ) (m : Marking) → All P ms → slice_get ms s ≡ Some m → P m
all_at P ms s m all at = subst P (get_or_from_slice_get ms s m m at) (all s m (slice_get_within ms s m at))

-- what holds of those below s and of the one at s holds of those below s + 1, and in the end of all
pub rows_more : (P : Marking → Type 0) (ms : List Marking) (s : ℕ) (x : Marking) → ((r : ℕ) (m : Marking) → r < s → slice_get ms r ≡ Some m → P m)
    → slice_get ms s ≡ Some x → P x → (r : ℕ) (m : Marking) → r < s + 1 → slice_get ms r ≡ Some m → P m
rows_more P ms s x before at here r m lt at' =
    ⊎_elim
    (λ less. before r m less at')
    (λ more. (let e : r ≡ s = omega arith in subst P (same_Some x m (sym at ∙ subst (λ k. slice_get ms k ≡ Some m) e at')) here))
    (cases_lt r s)

pub rows_all : (P : Marking → Type 0) (ms : List Marking) (s : ℕ) → length ms ≤ s → ((r : ℕ) (m : Marking) → r < s → slice_get ms r ≡ Some m → P m)
    → (r : ℕ) (m : Marking) → slice_get ms r ≡ Some m → P m
rows_all P ms s past before r m at = before r m (let lt = slice_get_within ms r m at in omega arith) at
