use Rattle.std.proofs.Common.{◌≡◌, ◌++◌, drop}
use Rattle.linked_code.specs.code_forms.Placed.{instructions, words_of}
use Rattle.link_image.proofs.code.push_code.Given as goal

abbrev pub invariant-loop-form : goal.invariant-loop-form
invariant-loop-form l = l.words.items ++ words_of (instructions (drop l.form-index l.code)) ≡ l.fn.words.items ++ words_of (instructions l.fn.code)
