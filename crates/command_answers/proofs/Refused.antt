-- A failure that is a refusal of one kind is one of a wider kind.
use Rattle.std.proofs.Common.{◌≡◌, ℕ, List, sym, subst}
use Rattle.command_answers.specs.declared.failure.Failure.{Failure}
use Rattle.command_answers.specs.declared.failure.Failure.TheVariants.{Refused, Put, Write, Memory}
use Rattle.command_answers.specs.Refusals.{Refusal}
use Rattle.command_answers.specs.Outcomes.{FailsRefused}

pub refused_as : (e : Failure) (name : List ℕ) (r : Refusal) (P : Refusal → Type 0) → FailsRefused name (λ x. x ≡ r) e → P r → FailsRefused name P e
refused_as (Refused file x) name r P is p = (is.0, subst P (sym is.1) p)
refused_as (Put file) name r P is p = is
refused_as Write name r P is p = is
refused_as Memory name r P is p = tt
