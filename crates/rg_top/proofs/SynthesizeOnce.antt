-- `synthesize` ends in one way for a system and a class.
use Rattle.std.proofs.Common.{◌≡◌, ℕ, List, refl, ap, ◌∙◌}
use Rattle.rg_theory.specs.System.{System, labels}
use Rattle.rg_theory.specs.Net.{Net}
use Rattle.rg_theory.specs.declared.Class.{Class}
use Rattle.rg_net.specs.NetText.{net_text}
use Rattle.rg_cert.specs.Text.{cert_text}
use Rattle.rg_case_folds.specs.Shown.{Shown}
use Rattle.rg_outcome.specs.Outcome.{Out, Answer, Answer.net as of_net, Answer.unsolvable as of_reason, Answer.too_wide as of_term}
use Rattle.rg_separate.specs.View.{shown_of}
use Rattle.rg_top.specs.End.{End, says_yes, says_no, shows_term, HasStatus}
use Rattle.rg_top.specs.Synthesize.{IsNetText, SynthesizeEnds, a_net, a_certificate, a_term, SynthesizeIsDue, by_net, by_reason, by_term}
use Rattle.rg_top.specs.Terms.{Term.of_net as of_net_term}
use Rattle.rg_top.specs.declared.status.Status.{Status}
use Rattle.rg_top.proofs.Told.{IsEndOf, IsStatusOf, one_end, due_end}

abbrev pub OneOut : Type 0
OneOut = (lts : System) (class : Class) (a b : Answer) → Out lts class a → Out lts class b → a ≡ b

-- ---- the end of an answer

abbrev end_of : Class → System → Answer → End
end_of class lts (of_net places) = says_yes (net_text (record { labels = labels lts; places = places }) lts)
end_of class lts (of_reason reason) = says_no (cert_text (record { class = class; reason = reason }) lts)
end_of class lts (of_term w) = shows_term (of_net_term w)

pub with_labels : (n : Net) (k : ℕ) → n.labels ≡ k → n ≡ record { labels = k; places = n.places }
with_labels n k is = λ i. record { labels = is i; places = n.places }

net_written : (class : Class) (lts : System) (out : List ℕ) (is : IsNetText class lts out) → out ≡ net_text (record { labels = labels lts; places = is.net.places }) lts
net_written class lts out is = is.text ∙ ap (λ n. net_text n lts) (with_labels is.net (labels lts) is.right.solves.transitions)

told : (class : Class) (lts : System) (e : End) → SynthesizeEnds class lts e → IsEndOf (Out lts class) (end_of class lts) e
told class lts _ (a_net text is) = (of_net is.net.places, is.answer, ap says_yes (net_written class lts text is))
told class lts _ (a_certificate text is) = (of_reason is.reason, is.answer, ap says_no is.text)
told class lts _ (a_term w is) = (of_term w, is.answer, refl)

due : (class : Class) (lts : System) (s : Status) → SynthesizeIsDue class lts s → IsStatusOf (Out lts class) (end_of class lts) s
due class lts _ (by_net places is) = (of_net places, is, refl)
due class lts _ (by_reason reason is) = (of_reason reason, is, refl)
due class lts _ (by_term at is) = (of_term (shown_of at), is, refl)

pub synthesize_due : OneOut → (class : Class) (lts : System) (e : End) (s : Status) → SynthesizeEnds class lts e → SynthesizeIsDue class lts s → HasStatus e s
synthesize_due one class lts e s x y = due_end (Out lts class) (end_of class lts) (one lts class) e s (told class lts e x) (due class lts s y)

pub synthesize_once : OneOut → (class : Class) (lts : System) (e e' : End) → SynthesizeEnds class lts e → SynthesizeEnds class lts e' → e ≡ e'
synthesize_once one class lts e e' x y = one_end (Out lts class) (end_of class lts) (one lts class) e e' (told class lts e x) (told class lts e' y)

-- a term that is the answer is shown
pub synthesize_term : OneOut → (class : Class) (lts : System) (w : Shown) (e : End) → SynthesizeEnds class lts e → Out lts class (of_term w) → e ≡ shows_term (of_net_term w)
synthesize_term one class lts w e x answer =
    one_end (Out lts class) (end_of class lts) (one lts class) e (shows_term (of_net_term w)) (told class lts e x) (of_term w, answer, refl)
