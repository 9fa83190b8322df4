-- The names that the proofs here share, from the rooms below and from this one's specs.
-- std
pub use Rattle.std.proofs.Common.{All, Bool, List, None, Option, Some, [], ap, ap₂, append-nil, append_assoc, arith, cond, drop, eqb-true, false, get_or}
pub use Rattle.std.proofs.Common.{if◌then◌else◌, length}
pub use Rattle.std.proofs.Common.{length-append, length-take-le, refl, slice_index, subst, suc, sym, take, true, zero, ℕ, ◌%◌, ◌*◌, ◌++◌, ◌+◌, ◌<◌, ◌==◌, ◌^◌}
pub use Rattle.std.proofs.Common.{◌∙◌, ◌∷◌, ◌≡◌, ◌≢◌, ◌≤◌, ◌⊎◌, inl, inr}
pub use Rattle.std.proofs.lemmas.Bool.Decides.{nat_tests}
-- the machine
pub use Rattle.memory_map.specs.MemoryMap.{MemoryMap, word_place}
pub use Rattle.memory_map.specs.declared.words.RuntimeWord.TheVariants.{CurrentTask, EmitCount, Gate, ListLength, Version}
pub use Rattle.msp_isa.specs.Encoding.{IsInstruction, encoding}
-- traces and images
pub use Rattle.image_map.specs.MapValue.{MapValue}
pub use Rattle.image_text.specs.ImageValue.{ImageValue, place_of}
-- the board
pub use Rattle.fram_board.specs.Board.{BoardValue, PowerState, filled, fresh, opened, powered, started}
pub use Rattle.fram_board.specs.Effects.{Effect, Store}
pub use Rattle.fram_board.specs.Run.{BoardCharge, Moment, PowerUp, Run, RunOutcome}
pub use Rattle.machine_effects.proofs.Interface.{fram_after-append, fresh_is_whole, is_fram_address, put_other, put_same}
pub use Rattle.machine_effects.specs.Going.{At, Goes, Halted, StepOutcome, Stops, continued, going}
pub use Rattle.machine_effects.specs.Machine.{Code, IsFram, MachineBoard, exec, fram_of, standing, undisturbed}
pub use Rattle.machine_effects.specs.Runs.{last_board}
pub use Rattle.machine_effects.specs.World.{EachStore, World, fram_after, put, world_after}
pub use Rattle.code_forms.specs.Placed.{AreInstructions, Holds, placed_at, words_of}
pub use Rattle.runtime_effects.specs.Stages.{cleared, clearing_if, commit_effects, copied_in, counting_effects, is_at_end, opening_effects, start_effects}
pub use Rattle.crash_rules.proofs.Interface.{changed, never_lost, pending_sends, runs_may_begin, sent_once, stops_short, stores_only, world_fram}
pub use Rattle.crash_rules.specs.History.{History, behind_boot, first_history, observe}
pub use Rattle.crash_rules.specs.Laws.{Begins, CommittingPhase, DecidedPhase, IsFirstWithin, IsTaskWithin, Origin, Pending, Phase, Resting, StandsFor}
pub use Rattle.crash_rules.specs.Laws.{UndecidedPhase}
pub use Rattle.crash_rules.specs.Model.{Ends, Given, IsElsewhere, Marks, Model, ModelLaws, Short, nothing_given}
pub use Rattle.crash_rules.specs.Runs.{Charge, Charged, IsPoweredFrom, Program}
pub use Rattle.stands_for.proofs.Interface.{each_weaker, elsewhere_same, unsent_are_few}
pub use Rattle.stands_for.specs.StandsFor.{HoldsWords, IsAtRest, IsPendingCommit, IsSound, SoundAtRest, SoundPending, VersionsWithin}
pub use Rattle.program_view.specs.View.{outside_of, outside_with, steady}
pub use Rattle.program_view.specs.Stands.{Shows, StandsAs}
pub use Rattle.program_view.proofs.Interface.{steady_low, steady_off}
pub use Rattle.run_charges.specs.Charges.{AreInstructionMoments, ArePowerStates, program_steps}
pub use Rattle.run_charges.specs.Fronts.{IsPlacedProgram}
pub use Rattle.run_charges.specs.Laws.{IsRunOfWords}
pub use Rattle.run_charges.specs.View.{NoneServes}
pub use Rattle.run_charges.specs.Moments.{AreMoments, Instructs, IsMomentFrom, PowersUp, Serves}
pub use Rattle.board_run.specs.History.{start_of, start_with}
pub use Rattle.board_run.specs.Report.{report_of}
pub use Rattle.model_runs.proofs.Interface.{AtFront, at_front, fronts_are_lawful, powers_up, starts_hold, stood, stops_where_short}
pub use Rattle.model_runs.specs.Runs.{all_amounts}
pub use Rattle.model_runs.specs.Bears.{BearsModel}
-- sources
pub use Rattle.cost_bound.specs.declared.allowance.Allow.{Allow}
pub use Rattle.source_values.specs.Running.{IsRunnable}
pub use Rattle.source_values.specs.Runs.{CheckedProgram, Completion, EndsWell, State, Transition, TransitionComes, attempt_of, body_of, completion_of, exactly}
pub use Rattle.source_values.specs.Runs.{TaskInputs, first_state, fresh_attempt, state_after, transition_of}
pub use Rattle.source_meaning.proofs.Interface.{accepted_texts_run}
pub use Rattle.source_meaning.specs.Acceptance.{IsAcceptedText}
pub use Rattle.source_runs.proofs.Interface.{charges_pay, resumed_runs_are_told, runs_are_told, state_within, task_costs, trace_inputs, traces_are_few}
pub use Rattle.source_runs.specs.Tells.{EachChargePays, IsToldBySource, at_first, cost_due, cost_of}
pub use Rattle.source_maps.specs.Maps.{map_of}
-- compiled sources
pub use Rattle.compiled_model.proofs.Interface.{is_redo, under_map}
pub use Rattle.compiled_model.specs.Parts.{compiled_model, outcome_of, redo_model, start_under, whole_task}
pub use Rattle.compiled_model.specs.Places.{program_places}
pub use Rattle.compiled_runs.proofs.Interface.{code_is_placed, code_keeps_the_laws, power_ups_raise_version, runs_leave_the_code, scripts_store_below}
pub use Rattle.compiled_runs.specs.Program.{compiled_program, placed_code, source_code}
pub use Rattle.compiled_bounds.proofs.Interface.{KeepsVersions, bound_is_the_sources, capacities_are_kept, phase_keeps_versions}
pub use Rattle.compiled_bounds.specs.Laws.{AttemptsFit, CountsFit}
pub use Rattle.compiled_bounds.specs.Capacities.{KeepsCapacities}
pub use Rattle.compiled_laws.proofs.Interface.{sources_are_ready}
pub use Rattle.compiled_laws.specs.Ready.{IsReadyToRun}
pub use Rattle.image_laws.proofs.Interface.{images_are_fresh, laid_out, logs_so, maps_find_states, place_in_fram, version, worlds_stand, zero_at}
pub use Rattle.image_laws.specs.Compiled.{IsCompiled, IsCompiledFor}
pub use Rattle.image_laws.specs.Laws.{HasStates, IsFreshImage, fresh_world}
-- this crate
pub use Rattle.image_reports.specs.ImageLaw.{FetchesCode, HoldsAt, ImagesKeepTheLaws, IsRaisedSoon, KeepsCode, RaisesVersion, VersionsBelow, known_behind}
pub use Rattle.image_reports.specs.ImageLaw.{EventsHold, HasRoom, IsLawfulRun, StepsOn, runtime_marks, world_with}
pub use Rattle.image_reports.specs.Laws.{ImagesAnswerInOrder, ImagesAreMapped, ImagesAreTold, ImagesKeepCapacities}
pub use Rattle.image_reports.specs.Resumed.{BelongsTo, HoldsFrom, ImagesBelong, ImagesResume, IsResumedRun, IsToldOnward, ToldAtRest, ToldPending, known_from}
pub use Rattle.image_reports.specs.Resumed.{origin_of, pending_transition}
