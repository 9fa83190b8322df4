-- A word program as a value: a list of steps.
use Rattle.std.specs.Prelude.{ℕ, Option}
use Rattle.array_versions.specs.declared.operations.UnaryOperation.{UnaryOperation}
use Rattle.array_versions.specs.declared.operations.BinaryOperation.{BinaryOperation}
use Rattle.array_versions.specs.declared.operations.PlainOperation.{PlainOperation}
use Rattle.array_versions.specs.declared.operations.Comparison.{Comparison}
use Rattle.array_versions.specs.declared.operations.ShiftOperation.{ShiftOperation}
use Rattle.array_versions.specs.declared.operations.LongOperation.{LongOperation}
use Rattle.array_versions.specs.declared.program.ArrayPlace.{ArrayPlace}
use Rattle.array_versions.specs.declared.program.LoggedPlace.{LoggedPlace}
use Rattle.array_versions.specs.declared.program.ListPlace.{ListPlace}

mutual
  -- One step. It works on a stack of words, on locals by number, and on words of FRAM by address.
  pub data Step : Type 0 where
    number : (word : ℕ) → Step
    load : (address : ℕ) → Step
    keep : (address : ℕ) → Step
    update : (operation : PlainOperation) → (address : ℕ) → Step
    local : (n : ℕ) → Step
    set_local : (n : ℕ) → Step
    update_local : (operation : PlainOperation) → (n : ℕ) → Step
    unary : (operation : UnaryOperation) → Step
    binary : (operation : BinaryOperation) → Step
    shift : (operation : ShiftOperation) → (count : ℕ) → Step
    long : (operation : LongOperation) → Step
    element : (base length : ℕ) → Step
    emit_word : (count buffer : ℕ) → Step
    list_entry : (count list home copy words : ℕ) → Step
    versioned_read : (place : ArrayPlace) → (list : ListPlace) → Step
    versioned_write : (place : ArrayPlace) → (list : ListPlace) → Step
    versioned_update : (operation : PlainOperation) → (place : ArrayPlace) → (list : ListPlace) → Step
    logged_write : (place : LoggedPlace) → (list : ListPlace) → Step
    logged_update : (operation : PlainOperation) → (place : LoggedPlace) → (list : ListPlace) → Step
    sense : Step
    next_event : Step
    freeze_events : Step
    truth : (test : Test) → Step
    choose : (test : Test) → (taken otherwise : Program) → Step
    repeat : (n from below : ℕ) → (body : Program) → Step
    store_number : (address word : ℕ) → Step
    move_word : (from to : ℕ) → Step
    jump : (to : ℕ) → Step
    -- of a function: where its code begins, where its locals stand in RAM if some do, the local of its first parameter, and how many parameters it has
    call : (entry : ℕ) → (frame : Option ℕ) → (first count : ℕ) → (body : Program) → Step
    give : Step

  -- A question that programs ask and that decides where steps go on: whether the word that a program leaves on top isn't 0; whether the
  -- two words that it leaves on top compare so; whether both of two tests hold, or one of them; whether a test doesn't hold
  pub data Test : Type 0 where
    holds : (program : Program) → Test
    compares : (comparison : Comparison) → (program : Program) → Test
    both : (first second : Test) → Test
    either : (first second : Test) → Test
    fails : (test : Test) → Test

  -- steps, one after another
  pub data Program : Type 0 where
    nothing : Program
    step : Step → Program → Program

-- one program behind another
abbrev pub joined : Program → Program → Program
joined nothing q = q
joined (step s p) q = step s (joined p q)

-- one more step behind a program
abbrev pub behind : Program → Step → Program
behind p s = joined p (step s nothing)

abbrev mutual
  -- a step with these bodies in its calls, each by where its code begins
  pub step_filled : (ℕ → Program) → Step → Step
  step_filled bodies (truth t) = truth (test_filled bodies t)
  step_filled bodies (choose t taken otherwise) = choose (test_filled bodies t) (filled bodies taken) (filled bodies otherwise)
  step_filled bodies (repeat n from below body) = repeat n from below (filled bodies body)
  step_filled bodies (call entry frame first count body) = call entry frame first count (bodies entry)
  step_filled bodies s = s

  -- the same of a test
  pub test_filled : (ℕ → Program) → Test → Test
  test_filled bodies (holds p) = holds (filled bodies p)
  test_filled bodies (compares op p) = compares op (filled bodies p)
  test_filled bodies (both t u) = both (test_filled bodies t) (test_filled bodies u)
  test_filled bodies (either t u) = either (test_filled bodies t) (test_filled bodies u)
  test_filled bodies (fails t) = fails (test_filled bodies t)

  -- the same of a program
  pub filled : (ℕ → Program) → Program → Program
  filled bodies nothing = nothing
  filled bodies (step first more) = step (step_filled bodies first) (filled bodies more)
