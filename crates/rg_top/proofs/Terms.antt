-- Statuses of one end, and the line of a term.
use Rattle.std.proofs.Common.{◌≡◌, refl, ap, sym, subst}
use Rattle.rg_separate.specs.View.{stage_of}
use Rattle.rg_cert_data.specs.declared.wide_at.Stage.{Stage}
use Rattle.rg_cert_data.specs.declared.wide_at.Stage.TheVariants.{Cycle, Row, Pivot, Place, Spread}
use Rattle.rg_messages.specs.Wides.{stage_words, passed_line, wide_line}
use Rattle.rg_messages.specs.declared.wide.WideCause.{WideCause}
use Rattle.rg_messages.specs.declared.wide.WideCause.TheVariants.{Synthesis, Check, Factor, Split}
use Rattle.rg_top.specs.End.{End, says_yes, says_no, refuses_words, refuses_file, shows_term, HasStatus}
use Rattle.rg_top.specs.Run.{IsTheOne}
use Rattle.rg_top.specs.Terms.{Term, term_of, ShowsTerm, stage_line, term_line}
use Rattle.rg_top.specs.declared.status.Status.{Status}
use Rattle.rg_top.specs.declared.status.Status.TheVariants.{Done, No, Usage, File, TooWide, ReadFault, WriteFault, NoMemory}

shows_one : (t : Term) (due s : Status) → ShowsTerm t due → ShowsTerm t s → IsTheOne due s
shows_one t (TooWide cause) s is also = subst (λ (u : Term). ShowsTerm u s) (sym is) also
shows_one t Done s is also = absurd is
shows_one t No s is also = absurd is
shows_one t (Usage usage) s is also = absurd is
shows_one t (File fault) s is also = absurd is
shows_one t ReadFault s is also = absurd is
shows_one t WriteFault s is also = absurd is
shows_one t NoMemory s is also = absurd is

-- two statuses of one end are one
pub same_status : (e : End) (s due : Status) → HasStatus e s → HasStatus e due → IsTheOne due s
same_status (says_yes text) s due is also = subst (λ t. IsTheOne t s) (sym also) is
same_status (says_no text) s due is also = subst (λ t. IsTheOne t s) (sym also) is
same_status (refuses_words usage) s due is also = subst (λ t. IsTheOne t s) (sym also) is
same_status (refuses_file fault) s due is also = subst (λ t. IsTheOne t s) (sym also) is
same_status (shows_term t) s due is also = shows_one t due s also is

same_words : (s : Stage) → stage_words s ≡ stage_line (stage_of s)
same_words Cycle = refl
same_words Row = refl
same_words Pivot = refl
same_words Place = refl
same_words Spread = refl

-- the line of a number out of range is that of its term
pub same_line : (cause : WideCause) → wide_line cause ≡ term_line (term_of cause)
same_line (Synthesis at) = ap (λ words. passed_line words at.wide) (same_words at.stage)
same_line (Factor i at) = ap (λ words. passed_line words at.wide) (same_words at.stage)
same_line (Split system at) = ap (λ words. passed_line words at.wide) (same_words at.stage)
same_line (Check at) = refl
