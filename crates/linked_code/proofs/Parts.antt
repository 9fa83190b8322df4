-- Parts in order, with filler between them.
use Rattle.std.proofs.Common.{◌≡◌, ℕ, zero, suc, ◌+◌, ◌-◌, ◌*◌, ◌/◌, ◌%◌, ◌≤◌, List, [], ◌∷◌, ◌++◌, refl, arith, subst}
use Rattle.boot_runtime.specs.machine_effects.Machine.{Code}
use Rattle.boot_runtime.specs.code_forms.Forms.{Form}
use Rattle.boot_runtime.specs.code_forms.Code.{Stands, forms_bytes}
use Rattle.boot_runtime.specs.code_forms.Placed.{instructions, AreInstructions}
use Rattle.boot_runtime.proofs.code_forms.Interface.{stands_front, stands_back, forms_bytes-append}
use Rattle.word_code.proofs.Interface.{bytes_even}
use Rattle.boot_runtime.proofs.runtime_code.Interface.{are_instructions-append}
use Rattle.word_code.specs.Code.{repeated}
use Rattle.linked_code.specs.Parts.{filler, CodePart, part_end, chained, IsPartBehind, PartsInOrder}
use Rattle.linked_code.specs.Laws.{PartStands}

-- the filler up to a part
abbrev pub up_to : ℕ → CodePart → List Form
up_to at part = repeated ((part.address - at) / 2) filler

filler_bytes : (k : ℕ) → forms_bytes (repeated k filler) ≡ 2 * k
filler_bytes zero = refl
filler_bytes (suc k) = let e = filler_bytes k in omega (arith, e)

filler_is : (k : ℕ) → AreInstructions (instructions (repeated k filler))
filler_is zero = tt
filler_is (suc k) = (omega arith, filler_is k)

filled : (at : ℕ) (part : CodePart) → at % 2 ≡ 0 → IsPartBehind at part → at + forms_bytes (up_to at part) ≡ part.address
filled at part e b =
    let f = filler_bytes ((part.address - at) / 2) in
    let from = b.from in let even = b.even in
    omega (arith, f)

even_end : (at : ℕ) (part : CodePart) → IsPartBehind at part → part_end part % 2 ≡ 0
even_end at part b = let e = bytes_even part.forms in let even = b.even in omega (arith, e)

pub chained_end : (at : ℕ) (parts : List CodePart) (end : ℕ) → at % 2 ≡ 0 → PartsInOrder at parts end → at + forms_bytes (chained at parts) ≤ end
chained_end at [] end e o = omega arith
chained_end at (part ∷ parts) end e o =
    let rest = chained (part_end part) parts in
    let a = forms_bytes-append (up_to at part) (part.forms ++ rest) in
    let b = forms_bytes-append part.forms rest in
    let c = filled at part e o.0 in
    let d = chained_end (part_end part) parts end (even_end at part o.0) o.1 in
    omega (arith, a, b, c, d)

-- each part stands at its place
abbrev pub AllStand : Code → List CodePart → Type 0
AllStand code [] = Unit {0}
AllStand code (part ∷ parts) = PartStands code part × AllStand code parts

pub chained_stands : (code : Code) (at : ℕ) (parts : List CodePart) (end : ℕ) → at % 2 ≡ 0 → PartsInOrder at parts end → Stands code at (chained at parts)
    → AllStand code parts
chained_stands code at [] end e o s = tt
chained_stands code at (part ∷ parts) end e o s =
    let rest = chained (part_end part) parts in
    let here : Stands code part.address (part.forms ++ rest) =
    subst (λ q. Stands code q (part.forms ++ rest)) (filled at part e o.0) (stands_back code at (up_to at part) (part.forms ++ rest) s) in (
      stands_front code part.address part.forms rest here,
      chained_stands code (part_end part) parts end (even_end at part o.0) o.1
          (stands_back code part.address part.forms rest here),
    )

-- the forms of each part are instructions
abbrev pub AllAre : List CodePart → Type 0
AllAre [] = Unit {0}
AllAre (part ∷ parts) = AreInstructions (instructions part.forms) × AllAre parts

pub chained_are : (at : ℕ) (parts : List CodePart) → AllAre parts → AreInstructions (instructions (chained at parts))
chained_are at [] h = tt
chained_are at (part ∷ parts) h =
    let rest = chained (part_end part) parts in
    are_instructions-append (up_to at part) (part.forms ++ rest) (filler_is ((part.address - at) / 2))
    (are_instructions-append part.forms rest h.0 (chained_are (part_end part) parts h.1))

-- parts may begin earlier
pub from_before : (from at : ℕ) (parts : List CodePart) (end : ℕ) → at ≤ from → PartsInOrder from parts end → PartsInOrder at parts end
from_before from at [] end l o = omega arith
from_before from at (part ∷ parts) end l o = let f = o.0.from in (record { from = omega (arith, f); even = o.0.even }, o.1)
