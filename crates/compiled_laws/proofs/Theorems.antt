-- The crash theorem on compiled sources.
use Rattle.std.proofs.Common.{◌*◌, ◌≤◌, sym, subst, arith}
use Rattle.crash_rules.specs.Model.{bound}
use Rattle.crash_rules.proofs.Interface.{crash_theorem, stops_short, sent_once, spans_follow, progress_law}
use Rattle.compiled_model.specs.Parts.{compiled_model}
use Rattle.compiled_bounds.proofs.Interface.{bound_is_the_sources}
use Rattle.compiled_runs.specs.Program.{compiled_program}
use Rattle.compiled_runs.proofs.Interface.{code_keeps_the_laws, runs_leave_the_code}
use Rattle.compiled_laws.specs.Laws.{SourcesKeepTheLaws, CodeKeepsTheLaws, CodeStays, RunsStandForTheSource, RunsStopWhereTheSourceIsShort, WordsAreSentOnce}
use Rattle.compiled_laws.specs.Laws.{OneChargeReadsInOrder, BoundsPayForTransitions}
use Rattle.compiled_laws.proofs.Ready.{sources_are_ready}

pub sources_keep_the_laws : SourcesKeepTheLaws
sources_keep_the_laws text p allow plans l laid = (sources_are_ready text p allow plans l laid).model

pub code_keeps : CodeKeepsTheLaws
code_keeps text p allow plans l laid = let ready = sources_are_ready text p allow plans l laid in code_keeps_the_laws p l ready.code ready.model

pub code_stays : CodeStays
code_stays text p allow plans l laid = let ready = sources_are_ready text p allow plans l laid in runs_leave_the_code p l ready.code ready.model ready.stores

pub runs_stand : RunsStandForTheSource
runs_stand text p allow plans l laid = crash_theorem (compiled_model p l) (compiled_program p l) (sources_keep_the_laws text p allow plans l laid)
    (code_keeps text p allow plans l laid)

pub runs_stop : RunsStopWhereTheSourceIsShort
runs_stop text p allow plans l laid readings origin b up n price e halted =
    let r = stops_short (compiled_model p l) (compiled_program p l) (sources_keep_the_laws text p allow plans l laid) (code_keeps text p allow plans l laid)
    readings origin b up n price e halted in
    (r.0, (r.1.0, r.1.2))

pub words_are_sent_once : WordsAreSentOnce
words_are_sent_once text p allow plans l laid = sent_once (compiled_model p l) (sources_keep_the_laws text p allow plans l laid)

pub reads_in_order : OneChargeReadsInOrder
reads_in_order text p allow plans l laid = spans_follow (compiled_model p l) (compiled_program p l) (sources_keep_the_laws text p allow plans l laid)
    (code_keeps text p allow plans l laid)

pub bounds_pay : BoundsPayForTransitions
bounds_pay text p allow plans l laid readings origin b up n amount pays spent =
    let own : n * bound (compiled_model p l) ≤ amount = subst (λ c. n * c ≤ amount) (sym (bound_is_the_sources p l)) pays in
    progress_law (compiled_model p l) (compiled_program p l) (sources_keep_the_laws text p allow plans l laid) (code_keeps text p allow plans l laid)
    readings origin b up n amount (omega (arith, own)) spent
