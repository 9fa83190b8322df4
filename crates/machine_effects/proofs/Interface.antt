-- What the proofs of other crates cite.

-- Stretches of any machine, one after another.
pub use Rattle.machine_effects.proofs.Going.{after_after, after_nothing, stay, one_step, join, join_stall, stall}
-- The world after effects, by its parts and one stretch after another.
pub use Rattle.machine_effects.proofs.Worlds.{fram_after-append, world_after-append, readings_taken-append, looks_taken-append, each_store-append}
pub use Rattle.machine_effects.proofs.Worlds.{each_store-front}
pub use Rattle.machine_effects.proofs.Worlds.{each_store-back, fram_untouched, taking_takes, world_by_its_parts, put_same, put_other, put_at}
-- What effects take of what is ready, one stretch after another.
pub use Rattle.machine_effects.proofs.Inputs.{takes_nothing, takes_behind_store, takes_none, none_taken_through, taken_behind_none, takes_look, takes_through}
pub use Rattle.machine_effects.proofs.Inputs.{left_by_taking, all_behind, left_are_words, taken_is_word}
-- What the machine's bus logs of an instruction: the readings that it takes, and then its one store or its one send.
pub use Rattle.machine_effects.proofs.Logs.{takes, written_effects, LoggedBy, effect_logged, code_changes, step_changes, code_changes_by_effects}
pub use Rattle.machine_effects.proofs.Logs.{machine_changes_by_effects}
-- FRAM from the handler on stays.
pub use Rattle.machine_effects.proofs.Handler.{code_keeps, code_keeps_the_handler}
-- The board's bus and the machine's answer alike, but for what the machine refuses.
pub use Rattle.machine_effects.proofs.Alike.{is_fram_address}
-- Memory by addresses, from the lists of its words: a word read, and a word written.
pub use Rattle.machine_effects.proofs.Alike.{fram_at, ram_at, put_fram, put_ram}
-- Each step of a board is a step of the machine that it is, and each step of that is one of the board, but for its bus faults.
pub use Rattle.machine_effects.proofs.Steps.{looks_as_the_board, current_on, current_to_machine, stopped_to_machine, none_taken}
-- What the next instruction of a board sees is told by the words at PC.
pub use Rattle.machine_effects.proofs.Seen.{seen_by_words}
-- What a handler may change the machine can't depend on.
pub use Rattle.machine_effects.proofs.Blind.{machine_is_blind}
pub use Rattle.machine_effects.proofs.Pushes.{pushes_alike}
-- The boundary behind a step keeps a board whole, and words; there and behind a power-up nothing was read of EVENT.
pub use Rattle.machine_effects.proofs.Lines.{boundary_whole, boundary_words, boundary_heard, powered_heard}
-- What an instruction of a board leaves, made or refused.
pub use Rattle.machine_effects.proofs.Executed.{executed_is_step, told_cycles, Left, left_of}
-- What the operations of the CPU make of words are words.
pub use Rattle.machine_effects.proofs.Values.{bit_low, zero_flag}
-- Words stay words, on the machine and on the board.
pub use Rattle.machine_effects.proofs.Words.{first_small, others_small}
pub use Rattle.machine_effects.proofs.Words.{index_small, words_stay_words, step_leaves_it_whole, acceptance_keeps_words, performed_keeps_words}
pub use Rattle.machine_effects.proofs.Words.{charge_keeps_words, machine_is_of_words, power_up_keeps_words, fresh_is_whole}
-- The views of a powered and of a fresh board.
pub use Rattle.machine_effects.proofs.Views.{power_up_is_the_machines, zeros_at}
-- The effects that moments tell, and that the words that they tell are those that the receiver accepts.
pub use Rattle.machine_effects.proofs.Accepted.{told_effects, count_after, moment_accepts, step_accepts_by_sends}
