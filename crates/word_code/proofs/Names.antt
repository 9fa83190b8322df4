-- The names that the proofs here share, from the rooms below and from this one's specs.
-- std
pub use Rattle.std.proofs.Common.{◌≡◌, ℕ, ◌+◌, ◌*◌, ◌%◌, ◌<◌, ◌==◌, not, List, [], ◌∷◌, ◌++◌, refl, sym, ap, ◌∙◌, subst, arith, Bool, true, false, ◌≤◌, nat_lt}
pub use Rattle.std.proofs.Common.{nat_le, if◌then◌else◌, Some, ap₂, suc, ◌-◌, length, drop, get_or, append_assoc, append-nil, ◌/◌, eq-eqb, ne_eqb, eqb-true}
pub use Rattle.std.proofs.Common.{zero, length-append, Option, None, ltb-true, ◌&&◌, ◌≢◌, ◌||◌, lt-ltb, nat_eq, suc-add, ◌^◌, bit_and, bit_xor, ◌⊎◌, inl, inr}
pub use Rattle.std.proofs.Common.{⊎_elim, w16, le-leb, le-ltb, All, max}
pub use Rattle.std.proofs.Math.Bool.{not-not}
pub use Rattle.std.proofs.lemmas.Bool.{both_ways, and_parts, cases_eq}
pub use Rattle.std.proofs.lemmas.Bool.Decides.{nat_tests}
pub use Rattle.std.proofs.lemmas.Nat.{and_mask, and_le_r, mul-mod_first, div-mul-add, mod-mul-add, pow_pos, pow-add}
pub use Rattle.std.proofs.lemmas.Option.{same_Some}
pub use Rattle.std.specs.List.{AllByRecursion}
pub use Rattle.std.specs.Option.{unwrap_or}
pub use Rattle.std.specs.Prelude.{is_some}
-- words and instructions
pub use Rattle.array_versions.specs.msp_step.msp_isa.Constant.{constant_value}
pub use Rattle.array_versions.specs.msp_step.msp_isa.alp_words.Words.{word_sum, and_of, bit, quotient, remainder, sum_of, word_product, arithmetic_shift}
pub use Rattle.array_versions.specs.msp_step.msp_isa.alp_words.Words.{biased, same, is_negative, difference_of}
pub use Rattle.array_versions.specs.msp_step.msp_isa.alp_words.declared.Flags.{Flags}
pub use Rattle.array_versions.specs.msp_step.msp_isa.alp_words.declared.Width.TheVariants.{Word}
pub use Rattle.array_versions.specs.msp_step.msp_isa.declared.instructions.Condition.{Condition}
pub use Rattle.array_versions.specs.msp_step.msp_isa.declared.instructions.TwoOp.{TwoOp}
pub use Rattle.array_versions.specs.msp_step.msp_isa.declared.operands.Konst.{Konst}
-- the machine and its effects
pub use Rattle.array_versions.proofs.machine_effects.Interface.{put_other, put_same}
pub use Rattle.array_versions.specs.fram_board.Effects.{Effect, Store, Take}
pub use Rattle.array_versions.specs.machine_effects.Going.{At, stretch, Goes, StepOutcome, Stops, Stretch, Halted, after_effects, continued, going}
pub use Rattle.array_versions.specs.machine_effects.Machine.{IsPlace, IsRam, MachineBoard, forgotten, exec, Code}
pub use Rattle.array_versions.specs.machine_effects.World.{put, IsPrefix}
pub use Rattle.array_versions.specs.machine_effects.address_space.Limits.{HasStackRoom, stack_top}
pub use Rattle.array_versions.specs.machine_effects.Inputs.{Inputs}
pub use Rattle.array_versions.specs.machine_effects.msp_cycles.Cycles.{CycleRow, cycles_of, source_cycles, to_register, to_memory, push}
pub use Rattle.array_versions.specs.msp_step.Effect.{word_sum as sum16, distance, is_met, operated, writes_destination}
-- forms of instructions
pub use Rattle.code_forms.proofs.Interface.{stands_at, stands_front, stands_back, end_of, forms_bytes-append, form_small, bytes_are, form_at, forms_at}
pub use Rattle.code_forms.proofs.Interface.{forms_behind, first_forms}
pub use Rattle.code_forms.specs.Code.{Stands, forms_bytes, forms_run, RunsWithin as Runs, StarvesWithin as Starves, AreStraight, FormsNeed, IsTidy, KeptCode}
pub use Rattle.code_forms.specs.Code.{rules_of, anywhere}
pub use Rattle.code_forms.specs.Forms.{R4, R5, Core, Number, Constant, ToRegister, ToIndexed, Form, Move, Calculate, Update, form_bytes, Register}
pub use Rattle.code_forms.specs.Forms.{instruction_of, Push, Fram, Ram, ToFram, Source, Jump, Skip, Branch, source_bytes, ToRam, target_bytes, WorkRegister, R6}
pub use Rattle.code_forms.specs.Forms.{R7, work_number, Indexed, HasPushRoom, source_operand, source_value, source_read, source_effects, SourceNeeds}
pub use Rattle.code_forms.specs.Forms.{board_of, Modify, sensed, CodeRules, IsKept, IsKnown, IsInStack, ram_word}
pub use Rattle.code_forms.specs.Forms.{Call, Return, KeepStack, RestoreStack, StackNext}
pub use Rattle.code_forms.specs.Forms.{flags_after, form_step, FormNeeds, IsNotMov, SetStack}
pub use Rattle.code_forms.specs.Placed.{instructions, words_of as instruction_words, AreInstructions}
-- word programs
pub use Rattle.array_versions.proofs.Interface.{put_words, Leaves, leaves, plain_small, Matches, GoesWell, matches_local, start_matches, step_well, well}
pub use Rattle.array_versions.proofs.Interface.{whole_ends_soundly, local_words, step_words as words_step, words}
pub use Rattle.array_versions.specs.Behaviour.{WordState, is_place, stored, word_emitted, entry_stored, Behaviour, End, GoesOn, Jumps, Short, Strays, Broken}
pub use Rattle.array_versions.specs.Behaviour.{behind_effects, on_end, strays, raised, ends_before, listed_behind, first_stored, with_stack, assigned}
pub use Rattle.array_versions.specs.Behaviour.{step_behaviour, behaviour, with_local, turns, pushed, behaves, goes_on, broken, word_stored, jumped, with_top}
pub use Rattle.array_versions.specs.Behaviour.{with_two, at_place, element_pushed, own_element, versioned_pushed, versioned_stored, with_readings}
pub use Rattle.array_versions.specs.Behaviour.{reading_pushed, own_stored, event_index, none_answered, word_answered, event_pushed}
pub use Rattle.array_versions.specs.Behaviour.{events_frozen, with_looks}
pub use Rattle.array_versions.specs.Behaviour.{first_logged, own_logged, logged_stored, logged_updated}
pub use Rattle.array_versions.specs.Behaviour.{own_place, own_kept, own_updated, versioned_updated, started, local_pushed, local_updated, number_pushed}
pub use Rattle.array_versions.specs.Behaviour.{way_by_top, way_by_two, then_on, tested, Gives, with_words, called, parameter_words, called_behind}
pub use Rattle.array_versions.specs.Cost.{words_spent, call_cycles, call_words}
pub use Rattle.array_versions.specs.Cost.{spent_on, unary_words, binary_words, right_words, shift_words, step_words, test_words, words_of, turns_spent}
pub use Rattle.array_versions.specs.Cost.{unary_cycles, binary_cycles, top_spent, spent_by_top, spent_by_two, step_spent, test_spent, spent}
pub use Rattle.array_versions.specs.Form.{StepLocalsBelow, TestLocalsBelow, LocalsBelow, StepSpares, Spares, Place, start, assigning, Moves, EachTurn}
pub use Rattle.array_versions.specs.Form.{EachStepWay, EachTestWay, EachWay, TestSpares, StepOfWords, TestOfWords}
pub use Rattle.array_versions.specs.Form.{OfWords, step_locals, test_locals, locals_of, IsWhole, StepEachLocal, TestEachLocal, EachLocal, IsOwn}
pub use Rattle.array_versions.specs.Form.{CallBounds, IsCalled, frame_begin, FrameFits, StepIsFormed, TestIsFormed, IsFormed, entry_place}
pub use Rattle.array_versions.specs.Operations.{is_true, compare_words, unary_word, plain_word, binary_word, shift_word, shifted_word}
pub use Rattle.array_versions.specs.Program.{Step, Test, Program, number, load, keep, update, local, set_local, update_local, unary, binary, shift, long}
pub use Rattle.array_versions.specs.Program.{element, emit_word, list_entry, versioned_read, versioned_write, versioned_update, sense, next_event}
pub use Rattle.array_versions.specs.Program.{logged_write, logged_update, freeze_events, truth, choose, repeat}
pub use Rattle.array_versions.specs.Program.{store_number, move_word, jump, call, give, holds, compares, both, either, fails, nothing, step}
pub use Rattle.array_versions.specs.declared.operations.BinaryOperation.{BinaryOperation}
pub use Rattle.array_versions.specs.declared.operations.BinaryOperation.TheVariants.{Multiply, Divide, Remainder, Plain}
pub use Rattle.array_versions.specs.declared.operations.Comparison.{Comparison}
pub use Rattle.array_versions.specs.declared.operations.Comparison.TheVariants.{Equal, Below, Above, SignedBelow, SignedAbove, CommonBit}
pub use Rattle.array_versions.specs.declared.operations.PlainOperation.{PlainOperation}
pub use Rattle.array_versions.specs.declared.operations.PlainOperation.TheVariants.{And, Add, Subtract}
pub use Rattle.array_versions.specs.declared.operations.ShiftOperation.{ShiftOperation}
pub use Rattle.array_versions.specs.declared.operations.ShiftOperation.TheVariants.{Left, Right, SignedRight}
pub use Rattle.array_versions.specs.declared.operations.UnaryOperation.{UnaryOperation}
pub use Rattle.array_versions.specs.declared.operations.UnaryOperation.TheVariants.{Negate, Complement}
pub use Rattle.array_versions.specs.declared.program.ArrayPlace.{ArrayPlace}
pub use Rattle.array_versions.specs.declared.program.ListPlace.{ListPlace}
pub use Rattle.array_versions.specs.declared.program.LoggedPlace.{LoggedPlace}
-- this room's own definitions
pub use Rattle.word_code.specs.Code.{number_source, check_code, zero_code, fetch_code, element_code, emit_code, pair_code, entry_code, compare_form, holding}
pub use Rattle.word_code.specs.Code.{failing, jump_over, decision, waiting_source, flushed, top_of, below_top, any_held, repeated, size, waiting_behind}
pub use Rattle.word_code.specs.Code.{stack_base, stack_set, stack_cycles, code_spent, event_code, freeze_code}
pub use Rattle.word_code.specs.Code.{step_code, steps_code, local_address, local_target, source_from, cleared, kept, four_from, top_number, element_at, stays}
pub use Rattle.word_code.specs.Code.{sides, right_source, top_power, two_code, power_code, five_from, top_to_four, top_to_five, two_to_registers, unary_middle}
pub use Rattle.word_code.specs.Code.{binary_middle, plain_instruction, update_code, double, halve, right_code, shift_by, last_bit, shift_code, shift_middle}
pub use Rattle.word_code.specs.Code.{own_code, read_code, stored_code, write_code, pass_over, jump_back, holds_code, compares_code, truth_code, number_code}
pub use Rattle.word_code.specs.Code.{turn_end, turns_code, waiting_after, bound_of, is_inside, test_code, block_code, code_of, rests, rest_source, to_rest}
pub use Rattle.word_code.specs.Code.{right_to_rest, update_sides, made_code, first_update, by_version, inside_update, checked_update, indexed_update}
pub use Rattle.word_code.specs.Code.{log_code, logged_first, logged_code, kept_in, made_in, known_first, known_logged, right_to_five, logged_update_at}
pub use Rattle.word_code.specs.Code.{known_update, known_index, update_at, local_register, power, power_result, binary_result, ram_update, mark_code, next_code}
pub use Rattle.word_code.specs.Code.{word_code, first_code, is_bounded, ram_turn_end, multiply_turn, divide_middle, divide_turn, known_element, attempt_form}
pub use Rattle.word_code.specs.Code.{below_words, values_code, light_call, frame_code, framed_call, call_code, give_code, routine_code}
pub use Rattle.word_code.specs.Laws.{StepRoutinesStand, TestRoutinesStand, RoutinesStand}
pub use Rattle.word_code.specs.Laws.{HasJumped, CodeIsInstructions, CodeHasItsBytes, CodeHasItsWords, IsWithin, RunsStayWithin, StarvingStaysWithin}
pub use Rattle.word_code.specs.Laws.{ComesToWithin as ComesTo}
pub use Rattle.word_code.specs.Laws.{IsEntry, KeepsWithin, CodeKeepsToTheStack, CodeDoesAsProgram}
pub use Rattle.word_code.specs.declared.bounds.Bound.{Bound}
pub use Rattle.word_code.specs.declared.waiting.Waiting.{Waiting}
