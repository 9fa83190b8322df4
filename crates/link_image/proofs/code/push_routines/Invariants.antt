use Rattle.link_image.proofs.Names.{◌≡◌, ◌++◌, ◌+◌, ◌*◌, drop, map, length, All, reset_vector, instructions, words_of, program_of, chained}
use Rattle.link_image.proofs.Names.{PartsInOrder, IsShort}
use Rattle.link_image.specs.Needs.{HasFewLocals}
use Rattle.linked_code.specs.Linked.{routine_parts}
use Rattle.link_image.proofs.code.push_routines.Given as goal

abbrev pub invariant-loop-k : goal.invariant-loop-k
invariant-loop-k l =
    let left = routine_parts (drop l.k l.routines) (map program_of (drop l.k l.programs)) in
    let at = l.start + 2 * length l.words.items in
    record {
      made : l.words.items ++ words_of (instructions (chained at left))
          ≡ l.fn.words.items ++ words_of (instructions
          (chained (l.fn.start + 2 * length l.fn.words.items) (routine_parts l.fn.routines (map program_of l.fn.programs))));
      order : PartsInOrder at left reset_vector;
      short : All IsShort (map program_of (drop l.k l.programs));
      locals : All HasFewLocals (map program_of (drop l.k l.programs));
    }
