-- Which texts a command takes, and what it makes of them.
use Rattle.std.specs.Prelude.{ℕ, List}
use Rattle.alpaca_cli.specs.Calls.{Call, promise_of}
use Rattle.plain_commands.specs.command_answers.Promises.{Product}

-- the texts are accepted, and this is what the command makes of them
abbrev pub IsProduct : Call → List (List ℕ) → Product → Type 0
IsProduct call texts p = (promise_of call).makes texts p

-- the texts of a command are accepted
abbrev pub AreAccepted : Call → List (List ℕ) → Type 0
AreAccepted call texts = (promise_of call).takes texts
