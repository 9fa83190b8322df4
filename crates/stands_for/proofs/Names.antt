-- The names that the proofs here share, from the rooms below and from this one's specs.
-- std
pub use Rattle.std.proofs.Common.{All, Bool, List, [], ap, append-nil, append_assoc, ap₂, arith, cond, drop, eq-eqb, false, inl, inr, length, length-append}
pub use Rattle.std.proofs.Common.{length-take-le, ne_eqb, refl, subst, suc, sym, take, take-suc, true, zero, zero-le, ℕ, ⊎_elim, ◌%◌, ◌*◌, ◌++◌, ◌+◌, ◌-◌, ◌<◌}
pub use Rattle.std.proofs.Common.{◌==◌, ◌∙◌, ◌∷◌, ◌≡◌, ◌≤◌, ◌⊎◌, if◌then◌else◌, Option, Some, None}
pub use Rattle.std.proofs.lemmas.Bool.{cases_eq}
pub use Rattle.std.proofs.lemmas.List.{take-append-drop}
pub use Rattle.std.specs.List.{slice_index}
-- the machine
pub use Rattle.memory_map.specs.Laws.{AreApart}
pub use Rattle.memory_map.specs.MemoryMap.{MemoryMap, word_place, where_events}
pub use Rattle.memory_map.specs.event_places.Places.{tail_place, count_place, sent_place, answer_place}
pub use Rattle.memory_map.specs.declared.words.RuntimeWord.TheVariants.{Base, CurrentTask, EmitCount, Gate, ListLength, NextTask, SentBase, Version}
-- the board
pub use Rattle.fram_board.specs.Effects.{Effect, Offered, Outside, Store, Take}
pub use Rattle.machine_effects.proofs.Interface.{each_store-append, put_other, put_same, none_taken_through, world_after-append}
pub use Rattle.machine_effects.specs.Inputs.{inputs_taken, no_inputs}
pub use Rattle.machine_effects.specs.World.{EachStore, World, accepted_after, fram_after, put, received, world_after, world_after_one}
pub use Rattle.runtime_effects.proofs.Interface.{entries_alike, sends_store, where_leaves, where_stores, where_takes}
pub use Rattle.runtime_effects.specs.Places.{CopyPair, entries_from, entry_bytes, listed}
pub use Rattle.runtime_effects.specs.Stages.{cleared, clearing_if, commit_closed, commit_effects, copied_home, copied_in, counting_effects, emits_sent}
pub use Rattle.runtime_effects.specs.Stages.{is_at_end, opening_effects, sends, start_effects, tail_moved}
pub use Rattle.crash_rules.proofs.Interface.{holds-append, in_front, world_fram}
pub use Rattle.crash_rules.specs.Model.{words_stored, answers_at, AttemptContract, CommitKeeps, HoldsThroughout, Inputs, InputsAreWords, IsBetween}
pub use Rattle.crash_rules.specs.Model.{IsElsewhere, behind_effects}
-- this crate
pub use Rattle.stands_for.specs.Layout.{ArePrivate, HaveRoom, IsAmong, IsCopyWord, IsSharedWord, ProgramPlaces, StateView}
pub use Rattle.stands_for.specs.Program.{CommitStores, IsCommitStore, IsStartStore, KeepsTheLaws, NumberedStarts, PendingCanCommit, ProgramParts, StartContract}
pub use Rattle.stands_for.specs.Program.{TasksContract, answer_word, attempt_effects, program_model}
pub use Rattle.stands_for.specs.StandsFor.{AcceptedFrom, CommittingTo, CopiesHome, DecidedFrom, EntriesHaveWords, HoldsWords, IsAtRest, IsPendingCommit}
pub use Rattle.stands_for.specs.StandsFor.{RestsAt, SendsAndCloses, StartedAt, UndecidedAt, VersionsWithin, words_at}
