-- What a reader returns is what reading answers, unless memory runs out.
use Rattle.std.specs.Prelude.{◌≡◌, Result, Ok, Err}
use Rattle.task_grammar.specs.declared.fault.Stop.{Stop}
use Rattle.task_grammar.specs.declared.fault.Stop.TheVariants.{Syntax, Memory}
use Rattle.task_grammar.specs.Reading.{Outcome, fault}

-- where nothing is read
abbrev pub Stops : {A : Type 0} → Outcome A → Stop → Type 0
Stops o (Syntax rest) = o ≡ fault rest.now
Stops o Memory = Unit {0}

-- what is returned, seen as a value, is the outcome
abbrev pub Gives : {X A : Type 0} → (X → Outcome A) → Outcome A → Result X Stop → Type 0
Gives outcome o (Ok x) = o ≡ outcome x
Gives outcome o (Err e) = Stops o e
