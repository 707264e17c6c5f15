-- How a run ends for what is written.
use Rattle.std.proofs.Common.{◌≡◌, ◌⊎◌, inl, inr, ℕ, List, sym, subst}
use Rattle.rg_top.specs.End.{End, says_yes, says_no, refuses_words, refuses_file, shows_term, Output, to_out, to_err, output_of, HasStatus}
use Rattle.rg_top.specs.Ends.{Answers}
use Rattle.rg_top.specs.Requests.{IsWritten}
use Rattle.rg_top.specs.Run.{Run, IsLeft, TakesOutput, BreaksOutput, Says, Ends, IsMishap}
use Rattle.rg_top.specs.declared.status.Status.{Status}
use Rattle.rg_top.specs.declared.status.Status.TheVariants.{Done, No, Usage, File, TooWide, ReadFault, WriteFault, NoMemory}

-- a run that says its end ended so: no end has the status of a fault or of want of memory
says_ends : (run : Run) (e : End) (s : Status) → HasStatus e s → Says run s → Ends run s
says_ends run (says_yes text) s is says = subst (λ t. Says run t → Ends run t) (sym is) (λ h. h) says
says_ends run (says_no text) s is says = subst (λ t. Says run t → Ends run t) (sym is) (λ h. h) says
says_ends run (refuses_words usage) s is says = subst (λ t. Says run t → Ends run t) (sym is) (λ h. h) says
says_ends run (refuses_file fault) s is says = subst (λ t. Says run t → Ends run t) (sym is) (λ h. h) says
says_ends run (shows_term t) (TooWide cause) is says = says
says_ends run (shows_term t) Done is says = absurd is
says_ends run (shows_term t) No is says = absurd is
says_ends run (shows_term t) (Usage usage) is says = absurd is
says_ends run (shows_term t) (File fault) is says = absurd is
says_ends run (shows_term t) ReadFault is says = absurd is
says_ends run (shows_term t) WriteFault is says = absurd is
says_ends run (shows_term t) NoMemory is says = absurd is

-- the output was taken or broke
written_ends : (run : Run) (e : End) (output : Output) (s result : Status) → Answers run.words run.files e → HasStatus e s → output_of e ≡ output
    → ((result ≡ s) × TakesOutput run output) ⊎ ((result ≡ WriteFault) × BreaksOutput run output) → Ends run result
written_ends run e output s result due has is (inl (same, takes)) =
    subst (Ends run) (sym same) (says_ends run e s has (record { end = e; due = due; has = has; taken = subst (TakesOutput run) (sym is) takes }))
written_ends run e output s result due has is (inr (same, breaks)) =
    subst (Ends run) (sym same) (record { status = s; end = e; due = due; has = has; broken = subst (BreaksOutput run) (sym is) breaks })

pub out_ends : (run : Run) (e : End) (bytes : List ℕ) (s result : Status) → Answers run.words run.files e → HasStatus e s → output_of e ≡ to_out bytes
    → IsWritten run.out bytes s result → IsLeft run.err → Ends run result
out_ends run e bytes s result due has is (inl (same, takes)) left = written_ends run e (to_out bytes) s result due has is (inl (same, (takes, left)))
out_ends run e bytes s result due has is (inr (same, breaks)) left = written_ends run e (to_out bytes) s result due has is (inr (same, (breaks, left)))

pub err_ends : (run : Run) (e : End) (bytes : List ℕ) (s result : Status) → Answers run.words run.files e → HasStatus e s → output_of e ≡ to_err bytes
    → IsLeft run.out → IsWritten run.err bytes s result → Ends run result
err_ends run e bytes s result due has is left (inl (same, takes)) = written_ends run e (to_err bytes) s result due has is (inl (same, (left, takes)))
err_ends run e bytes s result due has is left (inr (same, breaks)) = written_ends run e (to_err bytes) s result due has is (inr (same, (left, breaks)))

-- what holds of the status that is written holds of the result, but for a write that failed
pub or_mishap : {A B : Type 0} (P : Status → Type 0) (s result : Status) → ((result ≡ s) × A) ⊎ ((result ≡ WriteFault) × B) → P s → P result ⊎ IsMishap result
or_mishap P s result (inl (same, _)) holds = inl (subst P (sym same) holds)
or_mishap P s result (inr (same, _)) holds = inr (subst IsMishap (sym same) tt)
