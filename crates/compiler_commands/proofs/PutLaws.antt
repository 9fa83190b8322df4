-- What `build`, `try` and `undo` make, whose source keeps its text.
use Rattle.std.proofs.Common.{◌≡◌, ℕ, List, Ok, sym, subst}
use Rattle.plain_commands.specs.alp_io.Report.{bound_line}
use Rattle.plain_commands.specs.cost_bound.declared.allowance.Allow.{Allow}
use Rattle.plain_commands.specs.energy_trace.TraceValue.{TraceValue}
use Rattle.plain_commands.specs.energy_trace.Reading.{trace_of}
use Rattle.plain_commands.specs.image_text.ImageValue.{ImageValue}
use Rattle.plain_commands.specs.source_values.Runs.{CheckedProgram}
use Rattle.plain_commands.specs.source_meaning.Acceptance.{IsAcceptedText}
use Rattle.plain_commands.specs.command_answers.Ending.{well}
use Rattle.compiler_commands.specs.Build.{Builds}
use Rattle.memory_map.specs.declared.runtime.Logging.{Logging}
use Rattle.compiler_commands.specs.Built.{IsBuiltFor, IsBuilt}
use Rattle.compiler_commands.specs.Try.{Tries}
use Rattle.source_runs.specs.Traces.{IsTraceOfWords}
use Rattle.image_reports.specs.ImageLaw.{ImagesKeepTheLaws}
use Rattle.plain_commands.specs.RunReport.{IsRunReport}
use Rattle.compiler_commands.specs.ToldRuns.{IsTold}

pub builds : ImagesKeepTheLaws → (source text file : List ℕ) (p : CheckedProgram) (allow : Allow) (image : ImageValue) → text ≡ source
    → IsAcceptedText source p allow → (built : IsBuilt text p allow image file)
    → ((trace : TraceValue) → IsTraceOfWords trace → IsTold text p built.map image trace)
    → (output : List ℕ) → output ≡ bound_line allow.cycles → Builds source file output
builds law source text file p allow image kept accepted built told output bound =
    let own = subst (λ x. IsAcceptedText x p allow) (sym kept) accepted in
    let made : Builds text file output = record {
      program = p;
      allow = allow;
      image = image;
      accepted = own;
      built = built;
      bound = bound;
      told = told;
      lawful = law _ text p allow image own built.compiled;
    } in subst (λ x. Builds x file output) kept made

pub tries : {logging : Logging} (source trace text file : List ℕ) (p : CheckedProgram) (allow : Allow) (image : ImageValue) (charges : TraceValue)
    → text ≡ source → IsAcceptedText source p allow → trace_of trace ≡ Ok charges → (built : IsBuiltFor logging text p allow image file)
    → IsTold text p built.map image charges
    → (output : List ℕ) → IsRunReport image charges well output → Tries logging source trace file output
tries {logging} source trace text file p allow image charges kept accepted said built told output report =
    let tried : Tries logging text trace file output = record {
      program = p;
      allow = allow;
      image = image;
      charges = charges;
      accepted = subst (λ x. IsAcceptedText x p allow) (sym kept) accepted;
      trace_said = said;
      built = built;
      report = report;
      told = told.told output report;
      answered = told.answered output report;
    } in subst (λ x. Tries logging x trace file output) kept tried
