-- The length of code.
use Rattle.std.proofs.Common.{◌≡◌, ℕ, ◌*◌, List, [], ◌∷◌, ◌++◌, length, refl, arith, length-append}
use Rattle.code_forms.specs.msp_isa.Encoding.{encoding}
use Rattle.code_forms.specs.Forms.{Form, instruction_of}
use Rattle.code_forms.specs.Code.{forms_bytes}
use Rattle.code_forms.specs.Placed.{instructions, words_of, AreInstructions}
use Rattle.code_forms.proofs.Interface.{bytes_are}

-- code is as long as its forms
pub code_bytes : (ms : List Form) → 2 * length (words_of (instructions ms)) ≡ forms_bytes ms
code_bytes [] = refl
code_bytes (m ∷ ms) =
    let e = length-append {A = ℕ} (encoding (instruction_of m)) (words_of (instructions ms)) in
    let d = bytes_are m in
    let r = code_bytes ms in
    omega (arith, e, d, r)

-- forms one list behind another are instructions
pub are_instructions-append : (a b : List Form) → AreInstructions (instructions a) → AreInstructions (instructions b) → AreInstructions (instructions (a ++ b))
are_instructions-append [] b h k = k
are_instructions-append (i ∷ a) b h k = (h.0, are_instructions-append a b h.1 k)
