-- Locals behind another, which may have no register, and no word of RAM.
use Rattle.std.proofs.Common.{◌≡◌, ℕ, suc, ◌+◌, ◌≤◌, ◌<◌, Bool, true, false, nat_lt, if◌then◌else◌, refl, ap, ◌∙◌, arith}
use Rattle.std.proofs.lemmas.Bool.Decides.{nat_tests}
use Rattle.word_code.specs.code_forms.Forms.{R15, ToRegister, ToRam}
use Rattle.word_code.specs.Code.{local_register, local_address, local_target}

pub register_of_more : (n : ℕ) → 8 ≤ n → local_register n ≡ R15
register_of_more (suc (suc (suc (suc (suc (suc (suc (suc n)))))))) l = refl
register_of_more n l = absurd (let none : ⊥ = omega (arith, l) in none)

pub target_of_more : (n : ℕ) → 0x1207 ≤ n → local_target n ≡ ToRam 0
target_of_more n l = by (nat_lt n 8) refl
  where
    zero : local_address n ≡ 0
    zero = omega (arith, l)

    by : (b : Bool) → nat_lt n 8 ≡ b → local_target n ≡ ToRam 0
    by true e = absurd (let few : n < 8 = grind (arith, nat_tests) in omega (arith, l, few))
    by false e = ap (λ c. if c then ToRegister (local_register n) else ToRam (local_address n)) e ∙ ap ToRam zero
