use Rattle.std.proofs.Common.{◌≡◌, ◌+◌, ◌≤◌, drop}
use Rattle.word_code.specs.array_versions.View.{steps_of}
use Rattle.word_code.specs.array_versions.Form.{LocalsBelow}
use Rattle.word_code.specs.array_versions.Cost.{words_of}
use Rattle.word_code.specs.Code.{waiting_after}
use Rattle.code_ways.specs.Ways.{ways_of}
use Rattle.dearest_ways.specs.Ways.{program_choices, steps_ways, ways_further}
use Rattle.dearest_ways.proofs.program.+ways.Given as goal

abbrev pub invariant-steps_ways-loop-step : goal.invariant-steps_ways-loop-step
invariant-steps_ways-loop-step l =
    let calls = l.calls in
    let left = steps_of (drop l.step-index l.steps) in
    let all = steps_of l.steps in
    record {
      made : ways_further calls l.bounds l.waiting.items l.choices (ways_of l.ways) left
          ≡ steps_ways calls l.bounds l.initial.waiting.items l.initial.choices all;
      after : waiting_after l.waiting.items left ≡ waiting_after l.initial.waiting.items all;
      count : l.choices + program_choices left ≡ l.initial.choices + program_choices all;
      room : words_of left ≤ 0x7FFF;
      locals : LocalsBelow 1016 left;
    }
