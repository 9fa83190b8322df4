use Rattle.alpaca_cli.proofs.CallLaws.{answers_as, has_no_number, number_as, on_states}
use Rattle.alpaca_cli.proofs.calls.answer_compiler_command.Goals as goal

pub returns-in-Try-clause-number : goal.returns-in-Try-clause-number
returns-in-Try-clause-number g c = number_as _ _ c.in-Try.is tt

pub returns-in-Undo-clause-number : goal.returns-in-Undo-clause-number
returns-in-Undo-clause-number g c = number_as _ _ c.in-Undo.is tt

pub returns-in-Build-clause-number : goal.returns-in-Build-clause-number
returns-in-Build-clause-number g c = number_as _ _ c.in-Build.is tt

pub returns-in-Gen-clause-number : goal.returns-in-Gen-clause-number
returns-in-Gen-clause-number g c = number_as _ _ c.in-Gen.is c.answer_gen.ensures.number

pub returns-in_default-clause-number : goal.returns-in_default-clause-number
returns-in_default-clause-number g c = let d = c.in_default in has_no_number _ (on_states _ c.requires d.not-Try d.not-Undo d.not-Build d.not-Gen)

pub returns-in-Try-clause-answers : goal.returns-in-Try-clause-answers
returns-in-Try-clause-answers g c = answers_as _ _ _ _ _ _ c.in-Try.is c.answer_try.ensures.answers

pub returns-in-Undo-clause-answers : goal.returns-in-Undo-clause-answers
returns-in-Undo-clause-answers g c = answers_as _ _ _ _ _ _ c.in-Undo.is c.answer_undo.ensures.answers

pub returns-in-Build-clause-answers : goal.returns-in-Build-clause-answers
returns-in-Build-clause-answers g c = answers_as _ _ _ _ _ _ c.in-Build.is c.answer_build.ensures.answers

pub returns-in-Gen-clause-answers : goal.returns-in-Gen-clause-answers
returns-in-Gen-clause-answers g c = answers_as _ _ _ _ _ _ c.in-Gen.is c.answer_gen.ensures.answers

pub answer_state_command-requires : goal.answer_state_command-requires
answer_state_command-requires g c = let d = c.in_default in on_states _ c.requires d.not-Try d.not-Undo d.not-Build d.not-Gen
