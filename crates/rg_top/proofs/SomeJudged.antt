-- `verify` and `check` have an expected status for each second file.
use Rattle.std.proofs.Common.{◌≡◌, ◌⊎◌, inl, inr, ℕ, List, Some, Ok, Err, refl, subst}
use Rattle.rg_ports.specs.Shelf.{Files}
use Rattle.rg_theory.specs.System.{System, IsInRange, labels}
use Rattle.rg_theory.specs.Net.{Net}
use Rattle.rg_theory.specs.declared.Class.{Class}
use Rattle.rg_lts.specs.WellFormed.{IsWellFormed}
use Rattle.rg_cert_data.specs.Certificates.{Claim, IsClaimOf}
use Rattle.rg_cert.specs.declared.fault.CertFault.{CertFault}
use Rattle.rg_cert.specs.Spells.{Spells}
use Rattle.rg_cert.specs.Faults.{FirstFault}
use Rattle.rg_netfile.specs.Spells.{Spells as NetSpells, FirstFault as FirstNetFault}
use Rattle.rg_netfile.specs.declared.fault.NetFault.{NetFault}
use Rattle.rg_netfile.specs.declared.fault.NetFault.TheVariants.{NoMemory as LacksMemory}
use Rattle.rg_net_verdict.specs.Verdict.{Told, IsVerdict}
use Rattle.rg_net_verdict.specs.declared.verdict.NetVerdict.TheVariants as verdict
use Rattle.rg_verify.specs.declared.verdict.Verdict.{Verdict}
use Rattle.rg_verify.specs.declared.verdict.Verdict.TheVariants.{Accepted, Refused}
use Rattle.rg_verify.specs.Judged.{Holds, Judges}
use Rattle.rg_verify.proofs.OneVerdict.{refused_fails}
use Rattle.rg_messages.specs.declared.fault.Fault.TheVariants.{Net as OfNet}
use Rattle.rg_messages.specs.declared.wide.WideCause.TheVariants.{Check}
use Rattle.rg_top.specs.Given.{IsFile}
use Rattle.rg_top.specs.Second.{second_fault}
use Rattle.rg_top.specs.Verify.{VerifyIsDue, by_no_file, by_proof, by_no_proof}
use Rattle.rg_top.specs.Check.{IsNetFile, CheckIsDue, by_no_net, by_yes, by_no, by_term}
use Rattle.rg_top.specs.declared.status.Status.{Status}
use Rattle.rg_top.specs.declared.status.Status.TheVariants.{Done, No, File, TooWide}
use Rattle.rg_top.proofs.Judged.{unread_is_no_net}
use Rattle.rg_top.proofs.SomeFile.{WhichFile, not_read, has, which_file, is_other}
use Rattle.rg_top.proofs.VerifyOnce.{OneJudgement}

-- ---- certificates

-- a text spells a claim, whose numbers are in range, or has a first fault; and a claim has a verdict
pub record SomeJudgement : Type 0 where
  pub claim : (bytes : List ℕ) (lts : System) → ((claim : Claim) × Spells bytes lts claim) ⊎ ((fault : CertFault) × FirstFault bytes lts fault)
  pub in_range : (bytes : List ℕ) (lts : System) (claim : Claim) → Spells bytes lts claim → IsClaimOf lts claim
  pub verdict : (lts : System) (claim : Claim) → IsInRange lts → IsClaimOf lts claim → (v : Verdict) × Judges lts claim v

pub verify_some : OneJudgement → SomeJudgement → (files : Files) (cert : List ℕ) (lts : System) → IsWellFormed lts → (s : Status) × VerifyIsDue (Some files) cert lts s
verify_some one some files cert lts formed = by (which_file files cert)
  where
    judged : (bytes : List ℕ) (claim : Claim) → IsFile (Some files) cert bytes → Spells bytes lts claim → (v : Verdict) → Judges lts claim v
        → (s : Status) × VerifyIsDue (Some files) cert lts s
    judged bytes claim file spelled Accepted holds =
        (Done, by_proof claim.class (record { claim = claim; of_class = refl; given = record { bytes = bytes; file = file; spelled = spelled }; holds = holds }))
    judged bytes claim file spelled (Refused case node defect) fails = (
      No,
      by_no_proof (record {
        bytes = bytes;
        file = file;
        none = λ other also holds. refused_fails lts claim case node defect fails (subst (Holds lts) (one.one_claim bytes lts other claim formed also spelled) holds);
      }),
    )

    with_claim : (bytes : List ℕ) (claim : Claim) → IsFile (Some files) cert bytes → Spells bytes lts claim → (s : Status) × VerifyIsDue (Some files) cert lts s
    with_claim bytes claim file spelled =
        let (v, judges) = some.verdict lts claim formed.in_range (some.in_range bytes lts claim spelled) in
        judged bytes claim file spelled v judges

    with_bytes : (bytes : List ℕ) → IsFile (Some files) cert bytes → ((claim : Claim) × Spells bytes lts claim) ⊎ ((fault : CertFault) × FirstFault bytes lts fault)
        → (s : Status) × VerifyIsDue (Some files) cert lts s
    with_bytes bytes file (inl (claim, spelled)) = with_claim bytes claim file spelled
    with_bytes bytes file (inr (fault, first)) =
        (No, by_no_proof (record { bytes = bytes; file = file; none = λ claim spelled holds. one.not_both bytes lts claim fault formed spelled first }))

    by : WhichFile files cert → (s : Status) × VerifyIsDue (Some files) cert lts s
    by (not_read fault h) = (File (second_fault fault), by_no_file fault h)
    by (has bytes file) = with_bytes bytes file (some.claim bytes lts)

-- ---- nets

-- a text spells a net with the system's labels or has a first fault, which isn't want of memory; and a net has a verdict
pub record SomeVerdict : Type 0 where
  pub net : (bytes : List ℕ) (lts : System) → ((net : Net) × NetSpells bytes lts net) ⊎ ((f : NetFault) × FirstNetFault bytes lts f)
  pub same_labels : (bytes : List ℕ) (lts : System) (net : Net) → NetSpells bytes lts net → net.labels ≡ labels lts
  pub memory : (bytes : List ℕ) (lts : System) → ¬ FirstNetFault bytes lts LacksMemory
  pub verdict : (lts : System) (net : Net) (class : Class) → IsInRange lts → net.labels ≡ labels lts → (v : Told) × IsVerdict lts net class v

pub check_some : SomeVerdict → (files : Files) (class : Class) (name : List ℕ) (lts : System) → IsInRange lts → (s : Status) × CheckIsDue (Some files) class name lts s
check_some some files class name lts in_range = by (which_file files name)
  where
    judged : (net : Net) → IsNetFile (Some files) name lts net → (told : Told) → IsVerdict lts net class told → (s : Status) × CheckIsDue (Some files) class name lts s
    judged net file (Ok verdict.Yes) judges = (Done, by_yes (record { net = net; file = file; judged = judges }))
    judged net file (Ok (verdict.No found)) judges = (No, by_no found (record { net = net; file = file; judged = judges }))
    judged net file (Err w) judges = (TooWide (Check w), by_term w (record { net = net; file = file; judged = judges }))

    with_net : (bytes : List ℕ) (net : Net) → IsFile (Some files) name bytes → NetSpells bytes lts net → (s : Status) × CheckIsDue (Some files) class name lts s
    with_net bytes net file spelled =
        let (told, judges) = some.verdict lts net class in_range (some.same_labels bytes lts net spelled) in
        judged net (record { bytes = bytes; file = file; spelled = spelled }) told judges

    with_bytes : (bytes : List ℕ) → IsFile (Some files) name bytes → ((net : Net) × NetSpells bytes lts net) ⊎ ((f : NetFault) × FirstNetFault bytes lts f)
        → (s : Status) × CheckIsDue (Some files) class name lts s
    with_bytes bytes file (inl (net, spelled)) = with_net bytes net file spelled
    with_bytes bytes file (inr (f, first)) =
        let real = is_other (FirstNetFault bytes lts) LacksMemory f first (some.memory bytes lts) in
        (File (second_fault (OfNet f)), by_no_net (OfNet f) (record { bytes = bytes; file = file; first = (first, real) }))

    by : WhichFile files name → (s : Status) × CheckIsDue (Some files) class name lts s
    by (not_read fault h) = (File (second_fault fault), by_no_net fault (unread_is_no_net (Some files) name lts fault h))
    by (has bytes file) = with_bytes bytes file (some.net bytes lts)
