-- What the program's refusals stand for.
use Rattle.command_answers.specs.declared.refusal.Detail.{Detail}
use Rattle.command_answers.specs.declared.refusal.Detail.TheVariants.{Nothing, Name, Number, Address}
use Rattle.command_answers.specs.declared.refusal.Refusal.{Refusal}
use Rattle.command_answers.specs.Refusals as view

-- what a fault keeps
abbrev pub detail_of : Detail → view.Detail
detail_of Nothing = view.nothing
detail_of (Name bytes) = view.name bytes.now
detail_of (Number n) = view.number n
detail_of (Address a) = view.address a

-- a refusal
abbrev pub refusal_of : Refusal → view.Refusal
refusal_of r = record { line = r.line; kind = r.kind.now; detail = detail_of r.detail }
