-- The headline.
use Rattle.image_reports.proofs.Names.{◌<◌, ◌^◌, ℕ, sym, refl, ap, subst, Option, List, Allow, MapValue, ImageValue, BoardValue, fresh, BoardCharge}
use Rattle.image_reports.proofs.Names.{RunOutcome, start_with, start_of, report_of, CheckedProgram, IsRunnable, IsAcceptedText, accepted_texts_run}
use Rattle.image_reports.proofs.Names.{IsRunOfWords, all_amounts, compiled_program, IsToldBySource, map_of, IsCompiledFor, [], world_with, laid_out}
use Rattle.image_reports.proofs.Names.{images_are_fresh}
use Rattle.image_reports.proofs.Names.{maps_find_states, sources_are_ready, ImagesAreMapped}
use Rattle.memory_map.specs.declared.runtime.Logging.{Logging}
use Rattle.energy_trace.specs.TraceValue.{Event}
use Rattle.source_runs.specs.Traces.{AreInputs}
use Rattle.image_reports.specs.Sources.{IsSourcesMap}
use Rattle.source_maps.proofs.Interface.{names_are_names, maps_are_of_sources}
use Rattle.source_maps.specs.Laws.{IsSourceMap}
use Rattle.image_reports.proofs.CompiledTold.{compiled_runs_are_told}
use Rattle.image_reports.proofs.Begins.{begins_with_source}
use Rattle.image_reports.proofs.InFront.{map_is_in_front}

module _ {logging : Logging} (text : List ℕ) (p : CheckedProgram) (allow : Allow) (image : ImageValue) (ok : IsAcceptedText text p allow)
    (c : IsCompiledFor logging text p allow image) where
  runs : IsRunnable p
  runs = accepted_texts_run text p allow ok

  pub made : IsSourceMap text p allow c.layout
  made = maps_are_of_sources text p allow c.plans c.layout (record {
    names = names_are_names text p ok.checks;
    few_shared = runs.few_shared;
    few_tasks = runs.few_tasks;
    allowed = ok.allowed;
    plan = c.is_plan;
    logging = logging;
    layout = c.is_layout;
  })

  abbrev m : MapValue
  m = map_of text p c.layout allow

  pub source : IsSourcesMap text p c.layout m
  source = record {
    runnable = runs;
    is_map = made.is_map;
    of_source = made.of_source;
    bound = ok.allowed.cycles;
    words = refl;
    ring = refl;
    runtime = ap (λ r. r.events) c.is_layout.runtime;
    front = map_is_in_front text p c.layout allow c.is_layout.rules made.places;
    rests = maps_find_states text p allow image ok c;
  }

  -- its run under any charges that have fewer than 2^64 cycles and instructions in all
  pub runs_are_told : (cs : List BoardCharge) (readings : List ℕ) (events : List Event) → AreInputs readings events → (r : RunOutcome)
      → IsRunOfWords cs (fresh image.words readings events) r → all_amounts cs < 2 ^ 64
      → IsToldBySource text p (map_of text p c.layout allow) cs (fresh image.words readings events) r (report_of (start_of image) events r)
  runs_are_told cs readings events inputs r run few =
      let l = c.layout in
      let x = world_with image.words [] in
      let b : BoardValue = fresh image.words readings events in
      let ready = sources_are_ready text p allow c.plans l (laid_out text p allow image ok c) in
      let new = images_are_fresh text p allow image ok c in
      let P : Option MapValue → Type 0 = λ o. IsToldBySource text p m cs b r (report_of (start_with image.words o) events r) in
      subst P (sym c.map)
      (compiled_runs_are_told (compiled_program p l) text p l m x cs b r source
      (begins_with_source text p allow image c readings events inputs ready new) run few)

pub images_are_mapped : ImagesAreMapped
images_are_mapped logging text p allow image ok c = (made text p allow image ok c).of_source
