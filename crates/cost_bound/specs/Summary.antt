-- What is known of a function where it is called.
use Rattle.std.specs.Prelude.{ℕ, Bool}

-- what a call of a function comes to, with all that it calls: numbers without an end
pub record Summary : Type 0 where
  -- of its body, as a task's
  pub cycles : ℕ
  -- of its body's code, without the code of what it calls
  pub words : ℕ
  pub emits : ℕ
  -- counted stores to the shared array of a number
  pub stores : ℕ → ℕ
  -- whether the shared variable of a number stands on the left of an assignment
  pub assigns : ℕ → Bool
  -- whether the function of a number is called in its text, or in that of one that is
  pub reaches : ℕ → Bool
  -- the words of the greatest chain of frames that begins with its own
  pub depth : ℕ
