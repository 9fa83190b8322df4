-- Only the run of an image or a state that was read may meet a machine fault.
use Rattle.std.proofs.Common.{◌≡◌, ◌∙◌, ℕ, List, [], ◌∷◌, sym}
use Rattle.plain_commands.specs.fram_board.msp_step.declared.machine.Stop.TheVariants as stop
use Rattle.plain_commands.specs.fram_board.Run.{End, Charges, Stopped}
use Rattle.plain_commands.specs.report_audit.declared.verdict.Verdict.{Verdict}
use Rattle.plain_commands.specs.report_audit.declared.verdict.Verdict.TheVariants.{Yes, No}
use Rattle.plain_commands.specs.command_answers.declared.status.Status.{Status}
use Rattle.plain_commands.specs.command_answers.declared.status.Status.TheVariants.{Done, Refused, Usage, Unreadable, Unwritable, OutOfMemory, MachineFault}
use Rattle.plain_commands.specs.command_answers.declared.status.Status.TheVariants.{TooLong, Differs}
use Rattle.alpaca_cli.specs.Answers.{Answers}
use Rattle.alpaca_cli.specs.Calls.{Call, mean, try_, build, run, asm, dis, gen, save, resume, migrate, undo, audit, OnLine, IsRun, IsAudit}
use Rattle.plain_commands.specs.command_answers.Ending.{Ending, well, at_fault, differs}
use Rattle.plain_commands.specs.RunReport.{ending_of}
use Rattle.plain_commands.specs.Verdicts.{verdict_ending}
use Rattle.plain_commands.specs.command_answers.Outside.{Shelved, Written}
use Rattle.plain_commands.specs.command_answers.Promises.{Product}
use Rattle.alpaca_cli.specs.Products.{IsProduct}

not_both : (e : Ending) → e ≡ well → e ≡ at_fault → ⊥
not_both e ends faults = let same : well ≡ at_fault = sym ends ∙ faults in cc

no_fault : (v : Verdict) → verdict_ending v ≡ at_fault → ⊥
no_fault (Yes t) e = cc
no_fault (No line) e = cc

pub faults_alone : (call : Call) (texts : List (List ℕ)) (p : Product) → IsProduct call texts p → p.ending ≡ at_fault → IsRun call
faults_alone (run image trace) texts p is e = tt
faults_alone (save image trace state) texts p is e = tt
faults_alone (resume image state trace) texts p is e = tt
faults_alone (mean a b) [] p is e = is
faults_alone (mean a b) (x ∷ []) p is e = is
faults_alone (mean a b) (x ∷ y ∷ []) p is e = not_both p.ending is.2 e
faults_alone (mean a b) (x ∷ y ∷ z ∷ more) p is e = is
faults_alone (try_ a b i) [] p is e = is
faults_alone (try_ a b i) (x ∷ []) p is e = is
faults_alone (try_ a b i) (x ∷ y ∷ []) p is e = not_both p.ending is.1 e
faults_alone (try_ a b i) (x ∷ y ∷ z ∷ more) p is e = is
faults_alone (undo a b i) [] p is e = is
faults_alone (undo a b i) (x ∷ []) p is e = is
faults_alone (undo a b i) (x ∷ y ∷ []) p is e = not_both p.ending is.1 e
faults_alone (undo a b i) (x ∷ y ∷ z ∷ more) p is e = is
faults_alone (build a i) [] p is e = is
faults_alone (build a i) (x ∷ []) p is e = not_both p.ending is.1 e
faults_alone (build a i) (x ∷ y ∷ more) p is e = is
faults_alone (asm a i) [] p is e = is
faults_alone (asm a i) (x ∷ []) p is e = not_both p.ending is.2 e
faults_alone (asm a i) (x ∷ y ∷ more) p is e = is
faults_alone (dis a) [] p is e = is
faults_alone (dis a) (x ∷ []) p is e = not_both p.ending is.2 e
faults_alone (dis a) (x ∷ y ∷ more) p is e = is
faults_alone (gen n i) [] p is e = not_both p.ending is.1 e
faults_alone (gen n i) (x ∷ more) p is e = is
faults_alone (migrate a b c d k f) [] p is e = is
faults_alone (migrate a b c d k f) (x ∷ []) p is e = is
faults_alone (migrate a b c d k f) (x ∷ y ∷ []) p is e = is
faults_alone (migrate a b c d k f) (x ∷ y ∷ z ∷ []) p is e = is
faults_alone (migrate a b c d k f) (x ∷ y ∷ z ∷ u ∷ []) p is e = is
faults_alone (migrate a b c d k f) (x ∷ y ∷ z ∷ u ∷ v ∷ []) p is e = not_both p.ending is.2 e
faults_alone (migrate a b c d k f) (x ∷ y ∷ z ∷ u ∷ v ∷ w ∷ more) p is e = is
faults_alone (audit a b c) [] p is e = is
faults_alone (audit a b c) (x ∷ []) p is e = is
faults_alone (audit a b c) (x ∷ y ∷ []) p is e = is
faults_alone (audit a b c) (x ∷ y ∷ z ∷ []) p is e = no_fault is.0.verdict (sym is.0.ends ∙ e)
faults_alone (audit a b c) (x ∷ y ∷ z ∷ u ∷ more) p is e = is

pub only_runs_fault : (status : Status) (words : List (List ℕ)) (shelf : Shelved) (out err : Written) → Answers status words shelf out err
    → status ≡ MachineFault → OnLine words IsRun
only_runs_fault MachineFault words shelf out err a e =
    let whole = a.2.2.0 in
    (a.0, a.1, faults_alone a.0 a.2.0 whole.product whole.is whole.ends)
only_runs_fault Done words shelf out err a e = cc
only_runs_fault Refused words shelf out err a e = cc
only_runs_fault Usage words shelf out err a e = cc
only_runs_fault Unreadable words shelf out err a e = cc
only_runs_fault Unwritable words shelf out err a e = cc
only_runs_fault OutOfMemory words shelf out err a e = cc
only_runs_fault TooLong words shelf out err a e = cc
only_runs_fault Differs words shelf out err a e = cc

-- and only an audit may tell that a report differs

well_alone : (e : Ending) → e ≡ well → e ≡ differs → ⊥
well_alone e ends other = let same : well ≡ differs = sym ends ∙ other in cc

no_difference : (e : End) → ending_of e ≡ differs → ⊥
no_difference Charges e = cc
no_difference (Stopped stop.Off) e = cc
no_difference (Stopped stop.NoReading) e = cc
no_difference (Stopped (stop.Illegal pc word)) e = cc
no_difference (Stopped (stop.Bus pc address)) e = cc

differs_alone : (call : Call) (texts : List (List ℕ)) (p : Product) → IsProduct call texts p → p.ending ≡ differs → IsAudit call
differs_alone (audit a b c) texts p is e = tt
differs_alone (mean a b) [] p is e = is
differs_alone (mean a b) (x ∷ []) p is e = is
differs_alone (mean a b) (x ∷ y ∷ []) p is e = well_alone p.ending is.2 e
differs_alone (mean a b) (x ∷ y ∷ z ∷ more) p is e = is
differs_alone (try_ a b i) [] p is e = is
differs_alone (try_ a b i) (x ∷ []) p is e = is
differs_alone (try_ a b i) (x ∷ y ∷ []) p is e = well_alone p.ending is.1 e
differs_alone (try_ a b i) (x ∷ y ∷ z ∷ more) p is e = is
differs_alone (undo a b i) [] p is e = is
differs_alone (undo a b i) (x ∷ []) p is e = is
differs_alone (undo a b i) (x ∷ y ∷ []) p is e = well_alone p.ending is.1 e
differs_alone (undo a b i) (x ∷ y ∷ z ∷ more) p is e = is
differs_alone (build a i) [] p is e = is
differs_alone (build a i) (x ∷ []) p is e = well_alone p.ending is.1 e
differs_alone (build a i) (x ∷ y ∷ more) p is e = is
differs_alone (run a b) [] p is e = is
differs_alone (run a b) (x ∷ []) p is e = is
differs_alone (run a b) (x ∷ y ∷ []) p is e = no_difference is.0.report.outcome.ending (sym is.0.report.ends ∙ e)
differs_alone (run a b) (x ∷ y ∷ z ∷ more) p is e = is
differs_alone (asm a i) [] p is e = is
differs_alone (asm a i) (x ∷ []) p is e = well_alone p.ending is.2 e
differs_alone (asm a i) (x ∷ y ∷ more) p is e = is
differs_alone (dis a) [] p is e = is
differs_alone (dis a) (x ∷ []) p is e = well_alone p.ending is.2 e
differs_alone (dis a) (x ∷ y ∷ more) p is e = is
differs_alone (gen n i) [] p is e = well_alone p.ending is.1 e
differs_alone (gen n i) (x ∷ more) p is e = is
differs_alone (save a b i) [] p is e = is
differs_alone (save a b i) (x ∷ []) p is e = is
differs_alone (save a b i) (x ∷ y ∷ []) p is e = no_difference is.outcome.ending (sym is.ends ∙ e)
differs_alone (save a b i) (x ∷ y ∷ z ∷ more) p is e = is
differs_alone (resume a b c) [] p is e = is
differs_alone (resume a b c) (x ∷ []) p is e = is
differs_alone (resume a b c) (x ∷ y ∷ []) p is e = is
differs_alone (resume a b c) (x ∷ y ∷ z ∷ []) p is e = no_difference is.0.report.outcome.ending (sym is.0.report.ends ∙ e)
differs_alone (resume a b c) (x ∷ y ∷ z ∷ u ∷ more) p is e = is
differs_alone (migrate a b c d k f) [] p is e = is
differs_alone (migrate a b c d k f) (x ∷ []) p is e = is
differs_alone (migrate a b c d k f) (x ∷ y ∷ []) p is e = is
differs_alone (migrate a b c d k f) (x ∷ y ∷ z ∷ []) p is e = is
differs_alone (migrate a b c d k f) (x ∷ y ∷ z ∷ u ∷ []) p is e = is
differs_alone (migrate a b c d k f) (x ∷ y ∷ z ∷ u ∷ v ∷ []) p is e = well_alone p.ending is.2 e
differs_alone (migrate a b c d k f) (x ∷ y ∷ z ∷ u ∷ v ∷ w ∷ more) p is e = is

pub only_audits_differ : (status : Status) (words : List (List ℕ)) (shelf : Shelved) (out err : Written) → Answers status words shelf out err
    → status ≡ Differs → OnLine words IsAudit
only_audits_differ Differs words shelf out err a e =
    let whole = a.2.2.0 in
    (a.0, a.1, differs_alone a.0 a.2.0 whole.product whole.is whole.ends)
only_audits_differ Done words shelf out err a e = cc
only_audits_differ Refused words shelf out err a e = cc
only_audits_differ Usage words shelf out err a e = cc
only_audits_differ Unreadable words shelf out err a e = cc
only_audits_differ Unwritable words shelf out err a e = cc
only_audits_differ OutOfMemory words shelf out err a e = cc
only_audits_differ MachineFault words shelf out err a e = cc
only_audits_differ TooLong words shelf out err a e = cc
