-- How many problems come after a problem, which falls with the order.
use Rattle.std.proofs.Common.{◌≡◌, inl, inr, ℕ, zero, suc, ◌+◌, ◌-◌, ◌*◌, ◌<◌, ◌≤◌, Option, None, Some, IfSome, ap, refl, arith}
use Rattle.std.proofs.Math.Nat.{mul-le-mul_right, suc-mul, mul-suc}
use Rattle.std.proofs.lemmas.Nat.{mul-le}
use Rattle.rg_theory.specs.System.{System, states, labels}
use Rattle.rg_theory.specs.declared.Problem.{Problem}
use Rattle.rg_theory.specs.declared.Problem.TheVariants.{Event, States}
use Rattle.rg_theory.specs.Problem.{IsProblem, ComesBefore}
use Rattle.rg_outcome.specs.Coming.{IsBehind}
use Rattle.rg_lts.specs.WellFormed.{IsWellFormed}
use Rattle.rg_blocks.specs.Problems.{pairs, most_problems}

-- how many problems come after the last one, those of labels with an arc counted too
abbrev pub problems_after : System → Option Problem → ℕ
problems_after lts None = most_problems lts
problems_after lts (Some (Event s t)) = labels lts - (t + 1) + ((states lts - (s + 1)) * labels lts + pairs (states lts))
problems_after lts (Some (States s r)) = states lts - (r + 1) + pairs (states lts - (s + 1))

-- one state more makes a pair with each of the others
pairs_more : (n : ℕ) → pairs (suc n) ≡ pairs n + n
pairs_more zero = refl
pairs_more (suc n) =
    let a : suc (suc n) - 1 ≡ suc n = omega arith in
    let b : suc n - 1 ≡ n = omega arith in
    let c : suc (suc n) * (suc (suc n) - 1) ≡ suc (suc n) * suc n = ap (λ k. suc (suc n) * k) a in
    let d : suc n * (suc n - 1) ≡ suc n * n = ap (λ k. suc n * k) b in
    let e : suc (suc n) * suc n ≡ suc n * suc n + suc n = suc-mul (suc n) (suc n) in
    let f : suc n * suc n ≡ suc n * n + suc n = mul-suc (suc n) n in
    omega arith

pub pairs_rise : (m n : ℕ) → m ≤ n → pairs m ≤ pairs n
pairs_rise m n le = let h : m * (m - 1) ≤ n * (n - 1) = mul-le m (m - 1) n (n - 1) le (omega arith) in omega arith

-- of the pairs of n states, those of one state and of others
pairs_split : (k n : ℕ) → k < n → pairs k + k ≤ pairs n
pairs_split k n lt = let e : pairs (suc k) ≡ pairs k + k = pairs_more k in let h : pairs (suc k) ≤ pairs n = pairs_rise (suc k) n lt in omega arith

fewer_rows : (k m n : ℕ) → k < m → k * n + n ≤ m * n
fewer_rows k m n lt =
    let h = mul-le-mul_right {m = suc k} {n = m} n lt in
    let e : suc k * n ≡ k * n + n = suc-mul k n in
    omega arith

after_falls : (lts : System) (p q : Problem) → IsProblem lts p → IsProblem lts q → ComesBefore p q → problems_after lts (Some q) < problems_after lts (Some p)
after_falls lts (Event s t) (Event r u) is is' (inl less) =
    let a = is'.0 in let b = is'.1 in
    let m = fewer_rows (states lts - (r + 1)) (states lts - (s + 1)) (labels lts) (omega arith) in
    omega arith
after_falls lts (Event s t) (Event r u) is is' (inr (e, less)) =
    let b = is'.1 in
    let f : (states lts - (s + 1)) * labels lts ≡ (states lts - (r + 1)) * labels lts = ap (λ k. (states lts - (k + 1)) * labels lts) e in
    omega arith
after_falls lts (Event s t) (States r u) is is' less =
    let a = is'.0 in let b = is'.1 in
    let m = pairs_split (states lts - (r + 1)) (states lts) (omega arith) in
    omega arith
after_falls lts (States s t) (Event r u) is is' less = absurd less
after_falls lts (States s t) (States r u) is is' (inl less) =
    let a = is'.0 in let b = is'.1 in
    let m = pairs_split (states lts - (r + 1)) (states lts - (s + 1)) (omega arith) in
    omega arith
after_falls lts (States s t) (States r u) is is' (inr (e, less)) =
    let b = is'.1 in
    let f : pairs (states lts - (s + 1)) ≡ pairs (states lts - (r + 1)) = ap (λ k. pairs (states lts - (k + 1))) e in
    omega arith

after_first : (lts : System) (q : Problem) → IsProblem lts q → problems_after lts (Some q) < most_problems lts
after_first lts (Event s t) is =
    let a = is.0 in let b = is.1 in
    let m = fewer_rows (states lts - (s + 1)) (states lts) (labels lts) (omega arith) in
    omega arith
after_first lts (States s r) is =
    let a = is.0 in let b = is.1 in
    let m = pairs_split (states lts - (s + 1)) (states lts) (omega arith) in
    omega arith

pub behind_falls : (lts : System) (last : Option Problem) (q : Problem) → IfSome last (IsProblem lts) → IsProblem lts q → IsBehind last q
    → problems_after lts (Some q) < problems_after lts last
behind_falls lts None q is is' behind = after_first lts q is'
behind_falls lts (Some p) q is is' behind = after_falls lts p q is is' behind

-- at the limits
pub most_at_limits : (lts : System) → IsWellFormed lts → most_problems lts ≤ 9435136
most_at_limits lts fine =
    let events : states lts * labels lts ≤ 4096 * 256 = mul-le (states lts) (labels lts) 4096 256 fine.few_states fine.few_labels in
    let both : pairs (states lts) ≤ pairs 4096 = pairs_rise (states lts) 4096 fine.few_states in
    omega arith

-- pairs of states are fewer than those in either order
pub pairs_fewer : (n : ℕ) → pairs n ≤ n * n
pairs_fewer n = let h : n * (n - 1) ≤ n * n = mul-le n (n - 1) n n (omega arith) (omega arith) in omega arith
