-- What the proofs of other crates cite.

-- Stretches of code one after another.
pub use Rattle.code_forms.proofs.Interface.{no_steps as nothing, comes_on, form_comes}
pub use Rattle.runtime_code.proofs.Chains.{behind, core_at, from_there, ends, then_on, so_ends, recounted, on_fram, moved_to, straight, jumps, compares}
-- Loops that count down.
pub use Rattle.runtime_code.proofs.Loops.{if_any_most, if_any_grows, last_flag, Loop, Turning, Point, Turn, IsBehind, Makes, count_at, loop_ends, in_front}
pub use Rattle.runtime_code.proofs.Loops.{turn_there, loops}
-- What is left of a region as a loop goes over it.
pub use Rattle.runtime_code.proofs.Regions.{IsLeft, all_left, left_from, first_left}
-- The way to the task that CUR names, whatever is done in its stub; the sends.
pub use Rattle.runtime_code.proofs.Ladder.{rung_in, IsRung, Deed, Does, HasLadder, ladder_bytes, to_task}
pub use Rattle.runtime_code.proofs.Sending.{BehindSends, sends_are_made}
-- Code that a runtime has where it takes events.
pub use Rattle.runtime_code.proofs.WhereEvents.{count_is_place, tail_is_place, sent_is_place, with_events_most, where_bytes, where_instructions}
pub use Rattle.runtime_code.proofs.WhereEvents.{with_events_sum, with_events_even}
pub use Rattle.runtime_code.proofs.WhereEvents.{behind_where, where_comes}
-- The length of code.
pub use Rattle.runtime_code.proofs.Sizes.{code_bytes, are_instructions-append}
-- The runtime's words and buffers in a memory map.
pub use Rattle.runtime_code.proofs.Layouts.{places_are_in_fram, opening_keeps_task, privates_are_words}
