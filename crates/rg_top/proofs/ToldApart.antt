-- How `split` ends for the result of the rounds.
use Rattle.std.proofs.Common.{Vec, Global, ◌≡◌, ◌⊎◌, inl, inr, ℕ, List, sym, subst}
use Rattle.rg_theory.specs.System.{System}
use Rattle.rg_theory.specs.Net.{Place, Net}
use Rattle.rg_lts.specs.WellFormed.{IsWellFormed}
use Rattle.rg_netfile.specs.LabelledTexts.{named_labels, without_options}
use Rattle.rg_netfile.specs.Spells.{Spells as NetSpells}
use Rattle.rg_netfile.proofs.LabelledNets.{labelled_spelled, named_net}
use Rattle.rg_apt.specs.Spells.{Spells}
use Rattle.rg_apt.proofs.PlainTexts.{printed_spelled}
use Rattle.rg_case_folds.specs.Shown.{Shown}
use Rattle.rg_cert_data.specs.declared.certificate.Certificate.{Certificate}
use Rattle.rg_cert_data.specs.Certificates.{reason_of}
use Rattle.rg_cert_data.specs.declared.wide_at.WideAt.{WideAt}
use Rattle.rg_separate.specs.View.{shown_of}
use Rattle.rg_split.specs.Answer.{splitting_of, Says}
use Rattle.rg_split.specs.Rounds.{labelling, itself, SplitsTo}
use Rattle.rg_split.specs.Rounds as rounds
use Rattle.rg_split.specs.declared.splitting.Splitting.{Splitting}
use Rattle.rg_split.specs.declared.splitting.Splitting.TheVariants.{Done as Solved, Full, TooWide as Passes}
use Rattle.rg_split.proofs.Labels.{solves_labelled}
use Rattle.rg_split.proofs.Saying.{solved_at_once}
use Rattle.rg_messages.specs.SplitTexts.{full_line}
use Rattle.rg_commands.specs.declared.splitting.SplitOutput.{SplitOutput}
use Rattle.rg_commands.specs.declared.splitting.SplitOutput.TheVariants as output
use Rattle.rg_top.specs.Split.{IsSolvedBy, solved_text, SplitEnds, a_net, a_system, no_room, a_term}
use Rattle.rg_top.specs.End.{says_yes, says_no, shows_term}
use Rattle.rg_top.specs.Terms.{of_split}

-- the result of a file's system, with what it says
pub record IsResult (lts : System) (r : Splitting) : Type 0 where
  pub comes : SplitsTo lts (splitting_of r)
  pub says : Says lts r

pub result_is : (lts : System) (r r' : Splitting) → r ≡ r' → SplitsTo lts (splitting_of r) → Says lts r → IsResult lts r'
result_is lts r r' same comes says = subst (IsResult lts) same (record { comes = comes; says = says })

-- where a net solves the file's system, a net is found at once
pub is_itself : (lts : System) (now : rounds.Labelling) (places : List Place)
    → ((others : List Place) × (rounds.Splitting.done now places ≡ rounds.Splitting.done (itself lts) others))
    ⊎ ((w : Shown) × (rounds.Splitting.done now places ≡ rounds.Splitting.too_wide (itself lts) w))
    → now ≡ itself lts
is_itself lts now places (inl (others, same)) = cc
is_itself lts now places (inr (w, same)) = cc

-- the net of the result, for numbers that are those of its labels
pub solved_by : (lts system : System) (old : Vec ℕ Global) (numbers : List ℕ) (net : Net) → IsWellFormed lts → numbers ≡ old.items → IsResult lts (Solved system old net)
    → IsSolvedBy lts (labelling system numbers) net
solved_by lts system old numbers net formed same result =
    let (apart, right) = result.says in
    let now = labelling system old.items in
    subst (λ ns. IsSolvedBy lts (labelling system ns) net) (sym same) (record {
      comes = result.comes;
      apart = apart;
      right = right;
      labelled = solves_labelled net system old.items lts apart.formed.in_range apart.erases right.solves;
      at_once = λ other solves. is_itself lts now net.places (solved_at_once lts formed other (rounds.Splitting.done now net.places) solves result.comes);
    })

-- the text that is asked for of what is solved
pub solved_ends : (lts : System) (now : rounds.Labelling) (net : Net) (wanted : SplitOutput) (out : List ℕ) → IsWellFormed lts
    → IsSolvedBy lts now net → out ≡ solved_text lts now net wanted → SplitEnds lts wanted (says_yes out)
solved_ends lts now net output.Net out formed solved is = a_net out (record {
  now = now;
  net = net;
  solved = solved;
  text = is;
  spelled = λ few. subst (λ bytes. NetSpells (without_options bytes) now.system net) (sym is)
      (labelled_spelled now.system solved.apart.formed net (named_labels lts now.old)
      (named_net lts now.system net now.old formed solved.right.solves.transitions solved.right.in_range solved.labelled.transitions solved.labelled.within) few);
})
solved_ends lts now net output.System out formed solved is = a_system out (record {
  now = now;
  net = net;
  solved = solved;
  text = is;
  spelled = subst (λ bytes. Spells bytes now.system) (sym is) (printed_spelled now.system solved.apart.formed);
})

pub full_ends : (lts : System) (wanted : SplitOutput) (system : System) (old : Vec ℕ Global) (certificate : Certificate) → IsResult lts (Full system old certificate)
    → SplitEnds lts wanted (says_no full_line)
full_ends lts wanted system old certificate result =
    let (apart, all, right, has) = result.says in
    no_room (record { now = labelling system old.items; reason = reason_of certificate.reason; comes = result.comes; apart = apart; all = all; none = right.none })

pub wide_ends : (lts : System) (wanted : SplitOutput) (system : System) (old : Vec ℕ Global) (at : WideAt) → IsResult lts (Passes system old at)
    → SplitEnds lts wanted (shows_term (of_split system (shown_of at)))
wide_ends lts wanted system old at result =
    let (apart, opened, shown) = result.says in
    a_term system (shown_of at) (record { old = old.items; comes = result.comes; apart = apart; is_open = opened; shown = shown })
