use Rattle.codegen.proofs.Names.{◌≡◌, ◌≤◌, ◌++◌, drop, steps_of, LocalsBelow, OfWords, words_of, waiting_after, steps_code}
use Rattle.codegen.proofs.program.+emit.Given as goal

abbrev pub invariant-emit_steps-loop-step : goal.invariant-emit_steps-loop-step
invariant-emit_steps-loop-step l =
    let left = steps_of (drop l.step-index l.steps) in
    record {
      owed : l.code.items ++ steps_code l.bounds l.waiting.items left
          ≡ l.initial.code.items ++ steps_code l.bounds l.initial.waiting.items (steps_of l.steps);
      after : waiting_after l.waiting.items left ≡ waiting_after l.initial.waiting.items (steps_of l.steps);
      room : words_of left ≤ 0x7FFF;
      locals : LocalsBelow 1016 left;
      in_words : OfWords left → OfWords (steps_of l.steps);
    }
