-- The programs that the Rust values stand for.
use Rattle.std.specs.Prelude.{List, [], ◌∷◌, map}
use Rattle.array_versions.specs.Program as steps
use Rattle.array_versions.specs.Program.{Step, Test, Program, nothing, step}
use Rattle.array_versions.specs.declared.program.WordStep.{WordStep, fold-WordStep}
use Rattle.array_versions.specs.declared.program.WordTest.{WordTest, fold-WordTest}
use Rattle.array_versions.specs.declared.program.WordStep.TheOpen.{WordStep-F, WordTest-F}
use Rattle.array_versions.specs.declared.program.WordProgram.{WordProgram}
use Rattle.array_versions.specs.declared.tasks.TaskPrograms as tasks
use Rattle.array_versions.specs.TaskPrograms.{TaskPrograms}

-- a list of steps as a program
abbrev pub steps_in_order : List Step → Program
steps_in_order [] = nothing
steps_in_order (s ∷ more) = step s (steps_in_order more)

-- one level of a step, with the steps and tests inside already seen
abbrev pub step_layer : WordStep-F Step Test → Step
step_layer (WordStep-F.Number w) = steps.number w
step_layer (WordStep-F.Load a) = steps.load a
step_layer (WordStep-F.Keep a) = steps.keep a
step_layer (WordStep-F.Update op a) = steps.update op a
step_layer (WordStep-F.Local n) = steps.local n
step_layer (WordStep-F.SetLocal n) = steps.set_local n
step_layer (WordStep-F.UpdateLocal op n) = steps.update_local op n
step_layer (WordStep-F.Unary op) = steps.unary op
step_layer (WordStep-F.Binary op) = steps.binary op
step_layer (WordStep-F.Shift op k) = steps.shift op k
step_layer (WordStep-F.Long op) = steps.long op
step_layer (WordStep-F.Element base length) = steps.element base length
step_layer (WordStep-F.EmitWord count buffer) = steps.emit_word count buffer
step_layer (WordStep-F.ListEntry count list home copy words) = steps.list_entry count list home copy words
step_layer (WordStep-F.VersionedRead place list) = steps.versioned_read place list
step_layer (WordStep-F.VersionedWrite place list) = steps.versioned_write place list
step_layer (WordStep-F.VersionedUpdate op place list) = steps.versioned_update op place list
step_layer (WordStep-F.LoggedWrite place list) = steps.logged_write place list
step_layer (WordStep-F.LoggedUpdate op place list) = steps.logged_update op place list
step_layer WordStep-F.Sense = steps.sense
step_layer WordStep-F.NextEvent = steps.next_event
step_layer WordStep-F.FreezeEvents = steps.freeze_events
step_layer (WordStep-F.Truth t) = steps.truth t
step_layer (WordStep-F.Choose t a b) = steps.choose t (steps_in_order a.items) (steps_in_order b.items)
step_layer (WordStep-F.Repeat n from below body) = steps.repeat n from below (steps_in_order body.items)
step_layer (WordStep-F.StoreNumber a w) = steps.store_number a w
step_layer (WordStep-F.MoveWord from to) = steps.move_word from to
step_layer (WordStep-F.Jump to) = steps.jump to
step_layer (WordStep-F.Call entry frame first count) = steps.call entry frame first count nothing
step_layer WordStep-F.Give = steps.give

-- one level of a test
abbrev pub test_layer : WordTest-F Step Test → Test
test_layer (WordTest-F.Holds p) = steps.holds (steps_in_order p.items)
test_layer (WordTest-F.Compares op p) = steps.compares op (steps_in_order p.items)
test_layer (WordTest-F.Both t u) = steps.both t.value u.value
test_layer (WordTest-F.Either t u) = steps.either t.value u.value
test_layer (WordTest-F.Fails t) = steps.fails t.value

-- a step
abbrev pub step_of : WordStep → Step
step_of = fold-WordStep Step Test step_layer test_layer

-- a test
abbrev pub test_of : WordTest → Test
test_of = fold-WordTest Step Test step_layer test_layer

-- steps, one after another
abbrev pub steps_of : List WordStep → Program
steps_of ws = steps_in_order (map step_of ws)

-- a program
abbrev pub program_of : WordProgram → Program
program_of p = steps_of p.steps.items

-- the programs of a task
abbrev pub programs_of : tasks.TaskPrograms → TaskPrograms
programs_of p = record { own = program_of p.own; routines = map program_of p.routines.items }
