-- The names that the proofs here share, from the rooms below.
-- std
pub use Rattle.std.proofs.Common.{◌≡◌, ℕ, zero, ◌+◌, ◌*◌, ◌<◌, ◌==◌, not, List, [], ◌∷◌, ◌++◌, refl, sym, ap, ◌∙◌, subst, arith, Bool, true, false, ◌≤◌}
pub use Rattle.std.proofs.Common.{if◌then◌else◌}
pub use Rattle.std.proofs.Common.{Some, ap₂, suc, ◌-◌, length, drop, get_or, append_assoc, drop-cons, add-one, rules, Result, Ok, Err, is_ok, append-nil}
pub use Rattle.std.proofs.Common.{Option, lt-ltb, le-ltb, max}
pub use Rattle.std.proofs.lemmas.Result.{on_ok_weaker}
pub use Rattle.std.specs.List.{remove, slice_index_or}
-- forms of instructions
pub use Rattle.word_code.specs.msp_isa.declared.instructions.Condition.{Condition}
pub use Rattle.word_code.proofs.code_forms.Interface.{forms_bytes-append}
pub use Rattle.word_code.specs.code_forms.Code.{forms_bytes}
pub use Rattle.word_code.specs.code_forms.Forms.{Source, Form, Push, Jump, Calculate, Number, R4, WorkRegister, Target, Move, ToRegister, StackNext}
-- word programs
pub use Rattle.word_code.specs.array_versions.Cost.{step_words, test_words, words_of}
pub use Rattle.word_code.specs.array_versions.Form.{StepLocalsBelow, TestLocalsBelow, LocalsBelow, locals_of, OfWords}
pub use Rattle.word_code.specs.array_versions.Program.{Step, Test, Program, local, set_local, update_local, versioned_read, versioned_write, versioned_update}
pub use Rattle.word_code.specs.array_versions.Program.{logged_write, logged_update}
pub use Rattle.word_code.specs.array_versions.Program.{truth, choose, repeat, holds, compares, both, either, fails, nothing, step}
pub use Rattle.word_code.specs.array_versions.View.{step_of, steps_of, test_of}
pub use Rattle.word_code.specs.array_versions.declared.operations.Comparison.{Comparison}
pub use Rattle.word_code.specs.array_versions.declared.operations.PlainOperation.{PlainOperation}
pub use Rattle.word_code.specs.array_versions.declared.operations.ShiftOperation.TheVariants.{Left, Right}
pub use Rattle.word_code.specs.array_versions.declared.program.ArrayPlace.{ArrayPlace}
pub use Rattle.word_code.specs.array_versions.declared.program.ListPlace.{ListPlace}
pub use Rattle.word_code.specs.array_versions.declared.program.LoggedPlace.{LoggedPlace}
-- this room's own definitions
pub use Rattle.word_code.specs.Code.{times_code, number_source, check_code, zero_code, fetch_code, element_code, emit_code, entry_code, compare_form, holding}
pub use Rattle.word_code.specs.Code.{failing}
pub use Rattle.word_code.specs.Code.{decision, waiting_source, flushed, top_of, below_top, repeated, size, waiting_behind, step_code, steps_code}
pub use Rattle.word_code.specs.Code.{local_address, local_target, source_from, cleared, kept, four_from, top_number, element_at, stays, sides, right_source}
pub use Rattle.word_code.specs.Code.{five_from, top_to_four, top_to_five, two_to_registers, unary_middle, binary_middle, plain_instruction, double, halve}
pub use Rattle.word_code.specs.Code.{shift_middle, own_code, read_code, stored_code, write_code, pass_over, jump_back, holds_code, compares_code, truth_code}
pub use Rattle.word_code.specs.Code.{number_code, turn_end, turns_code, waiting_after, is_inside, test_code, block_code, rest_source, to_rest}
pub use Rattle.word_code.specs.Code.{right_to_rest, update_sides, made_code, first_update, by_version, inside_update, indexed_update, known_update, update_at}
pub use Rattle.word_code.specs.Code.{local_register, ram_update, mark_code, next_code, word_code, first_code, divide_middle, attempt_form, if_below}
pub use Rattle.word_code.specs.Code.{values_code, below_words, frame_code}
pub use Rattle.word_code.specs.Code.{element_behind, last_code, end_test, longer_code, copy_code}
pub use Rattle.word_code.specs.declared.bounds.Bound.{Bound}
pub use Rattle.word_code.specs.declared.waiting.Waiting.{Waiting}
