use Rattle.codegen.proofs.Names.{◌≡◌, ◌+◌, ◌*◌, drop, forms_bytes}
use Rattle.codegen.proofs.decisions.code_words.Given as goal

abbrev pub invariant-loop-form : goal.invariant-loop-form
invariant-loop-form l = 2 * l.words + forms_bytes (drop l.form-index l.code) ≡ forms_bytes l.code
