-- One level of a step, as a value.
use Rattle.std.proofs.Common.{◌≡◌, rules}
use Rattle.word_code.specs.array_versions.declared.program.WordStep.{WordStep, the_lemmas}
use Rattle.word_code.specs.array_versions.declared.program.WordStep.TheVariants.{Choose}
use Rattle.word_code.specs.array_versions.declared.program.WordTest.{WordTest}
use Rattle.word_code.specs.array_versions.Program.{choose}
use Rattle.word_code.specs.array_versions.View.{steps_of, step_of, test_of}
use Rattle.std.specs.declared.alloc.Global.{Global}
use Rattle.std.specs.declared.vec.Vec.{Vec}

pub step_of-choose : (t : WordTest) (p q : Vec WordStep Global) → step_of (Choose t p q) ≡ choose (test_of t) (steps_of p.items) (steps_of q.items)
step_of-choose t p q = search (rules, the_lemmas)
