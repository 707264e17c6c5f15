-- The names of places are names, and differ.
use Rattle.std.proofs.Common.{◌≡◌, ℕ, zero, suc, ◌+◌, ◌<◌, ◌≤◌, ◌^◌, ◌==◌, Bool, true, false, List, ◌++◌, length, decimal, codes, refl, sym, ap, ◌∙◌, arith, length-append}
use Rattle.std.specs.List.{AllPass, list_any}
use Rattle.std.specs.Str.Parse.{digits_value}
use Rattle.std.proofs.lemmas.Fmt.{decimal_is_IsNumeral_wide, length-decimal-le_wide}
use Rattle.std.proofs.lemmas.List.{append_cancel_left}
use Rattle.std.proofs.lemmas.List.Elements.{All-append}
use Rattle.std.proofs.lemmas.List.Sums.{AllPass-from_list_all}
use Rattle.rg_text.specs.Byte.{is_name_byte, IsName}
use Rattle.rg_netfile.proofs.Decimals.{decimal_name}
use Rattle.rg_net.specs.NetText.{place_name, candidate, blocks, first_free, place_prefix}

-- a prefix of the names of places
pub record IsPrefix (q : List ℕ) : Type 0 where
  pub some : 0 < length q
  pub short : length q ≤ 66
  pub bytes : AllPass is_name_byte q

plain_p : IsPrefix (codes "p")
plain_p = record { some = omega arith; short = omega arith; bytes = AllPass-from_list_all is_name_byte (codes "p") refl }

candidate_is : (k : ℕ) → k < 10 ^ 64 → IsPrefix (candidate k)
candidate_is k lt = by (k == 0) refl
  where
    by : (b : Bool) → (k == 0) ≡ b → IsPrefix (candidate k)
    by true e = rw e plain_p
    by false e = rw e (record {
      some = omega (arith, length-append (codes "p" ++ decimal k) (codes "_"));
      short = omega (arith, length-append (codes "p" ++ decimal k) (codes "_"), length-append (codes "p") (decimal k), length-decimal-le_wide 64 k (omega arith) lt lt);
      bytes = All-append (λ b. is_name_byte b ≡ true) (codes "p" ++ decimal k) (codes "_")
          (All-append (λ b. is_name_byte b ≡ true) (codes "p") (decimal k) plain_p.bytes (decimal_name k lt).bytes)
          (AllPass-from_list_all is_name_byte (codes "_") refl);
    })

first_is_prefix : (names : List (List ℕ)) (k n : ℕ) → k + n < 10 ^ 64 → IsPrefix (first_free names k n)
first_is_prefix names k zero lt = plain_p
first_is_prefix names k (suc n) lt = by (list_any (blocks (candidate k)) names) refl (first_is_prefix names (k + 1) n (omega arith))
  where
    by : (b : Bool) → list_any (blocks (candidate k)) names ≡ b → IsPrefix (first_free names (k + 1) n) → IsPrefix (first_free names k (suc n))
    by false e more = rw e (candidate_is k (omega arith))
    by true e more = rw e more

pub prefix_is : (names : List (List ℕ)) → IsPrefix (place_prefix names)
unfolding place_prefix
prefix_is names = first_is_prefix names 0 257 (omega arith)

pub place_name_is : (q : List ℕ) (i : ℕ) → IsPrefix q → i < 10 ^ 64 → IsName (place_name q i)
place_name_is q i is lt = record {
  some = omega (arith, length-append q (decimal i), is.some);
  short = omega (arith, length-append q (decimal i), is.short, length-decimal-le_wide 64 i (omega arith) lt lt);
  bytes = All-append (λ b. is_name_byte b ≡ true) q (decimal i) is.bytes (decimal_name i lt).bytes;
}

pub decimal_value : (n : ℕ) → n < 10 ^ 64 → digits_value 10 (decimal n) ≡ n
decimal_value n lt = (decimal_is_IsNumeral_wide n lt).1

pub one_place : (q : List ℕ) (i j : ℕ) → i < 10 ^ 64 → j < 10 ^ 64 → place_name q i ≡ place_name q j → i ≡ j
one_place q i j lt lt' same =
    sym (decimal_value i lt) ∙ ap (digits_value 10) (append_cancel_left q (decimal i) (decimal j) same) ∙ decimal_value j lt'
