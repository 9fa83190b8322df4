-- A state of a source by the addresses of its shared words, and the state that a world has.
use Rattle.std.specs.Prelude.{ℕ, ◌-◌, ◌/◌, ◌==◌, ◌&&◌, Bool, true, false, nat_le, nat_lt, if◌then◌else◌, List, [], ◌∷◌, length, map, slice_index}
use Rattle.task_ast.specs.declared.SharedDeclaration.{SharedDeclaration}
use Rattle.source_values.specs.Runs.{CheckedProgram, State, initial_words}
use Rattle.memory_map.specs.declared.place.Region.{Region}
use Rattle.memory_map.specs.declared.place.VariablePlace.{VariablePlace}
use Rattle.memory_map.specs.MemoryMap.{MemoryMap, word_place}
use Rattle.memory_map.specs.Places.{end_of, home_region}
use Rattle.memory_map.specs.declared.words.RuntimeWord.TheVariants.{CurrentTask}
use Rattle.machine_effects.specs.World.{World, world_after}
use Rattle.runtime_effects.specs.Stages.{commit_effects}
use Rattle.stands_for.specs.Layout.{StateView}
use Rattle.stands_for.specs.StandsFor.{words_at}

-- whether an address is within a region
abbrev pub is_within : Region → ℕ → Bool
is_within r a = nat_le r.address a && nat_lt a (end_of r)

-- the word of a row that stands at an address of its region
abbrev pub word_of_row : Region → List ℕ → ℕ → ℕ
word_of_row r row a = slice_index row ((a - r.address) / 2)

-- the shared word at an address, the variables at these places having these rows of words; 0 where no variable stands
abbrev pub shared_word : List VariablePlace → List (List ℕ) → ℕ → ℕ
shared_word [] rows a = 0
shared_word (v ∷ vs) [] a = 0
shared_word (v ∷ vs) (row ∷ rows) a = if is_within (home_region v) a then word_of_row (home_region v) row a else shared_word vs rows a

-- whether all are words
abbrev pub are_words : List ℕ → Bool
are_words [] = true
are_words (w ∷ ws) = nat_lt w 0x10000 && are_words ws

-- whether each variable has as many words as its declaration says, and all are words
abbrev pub are_rows : List SharedDeclaration → List (List ℕ) → Bool
are_rows [] [] = true
are_rows [] (row ∷ rows) = false
are_rows (d ∷ ds) [] = false
are_rows (d ∷ ds) (row ∷ rows) = (length row == length (initial_words d.extent)) && (are_words row && are_rows ds rows)

-- a state by addresses
abbrev pub state_view : CheckedProgram → MemoryMap → StateView State
state_view p l = record {
  word = λ s. shared_word l.variables s.shared;
  task = λ s. s.task;
  emitted = λ s. s.emitted;
  is_state = λ s. are_rows p.shared s.shared;
}

-- the words of a region in FRAM
abbrev pub row_in : (ℕ → ℕ) → Region → List ℕ
row_in f r = words_at r.words r.address f

-- the state that a world has: each variable's words, the task that CUR names, and the accepted words
abbrev pub state_in : MemoryMap → World → State
state_in l x = record {
  shared = map (λ v. row_in x.fram (home_region v)) l.variables;
  task = x.fram (word_place l CurrentTask);
  emitted = x.accepted;
}

-- the state that the pending commit of a world leaves
abbrev pub state_left : MemoryMap → World → State
state_left l x = state_in l (world_after (commit_effects l x.fram) x)
