-- That words and files have one answer.
use Rattle.std.specs.Prelude.{◌≡◌, ℕ, List, Option, Some, ◌⊎◌}
use Rattle.rg_ports.specs.Shelf.{Files}
use Rattle.rg_top.specs.End.{End, shows_term, HasStatus}
use Rattle.rg_top.specs.Ends.{Answers}
use Rattle.rg_top.specs.Due.{IsDue, IsPassed}
use Rattle.rg_top.specs.Run.{IsDecided}
use Rattle.rg_top.specs.Terms.{Term}
use Rattle.rg_top.specs.declared.status.Status.{Status}

-- where it is decided which status is expected, two ends are one, and an expected status is that of the end; and where the answer for the
-- system and the class is a term that is out of range, the end shows that term. Where the files are known, a status is expected, or such a
-- term decides
pub record OneAnswer : Type 0 where
  pub once : (words : List (List ℕ)) (files : Option Files) (e e' : End) → IsDecided words files → Answers words files e → Answers words files e' → e ≡ e'
  pub due : (words : List (List ℕ)) (files : Option Files) (e : End) (due : Status) → IsDecided words files → Answers words files e → IsDue words files due → HasStatus e due
  pub term : (words : List (List ℕ)) (files : Option Files) (w : Term) (e : End) → IsDecided words files → Answers words files e → IsPassed words files w → e ≡ shows_term w
  pub some : (words : List (List ℕ)) (files : Files) → ((due : Status) × IsDue words (Some files) due) ⊎ ((w : Term) × IsPassed words (Some files) w)
