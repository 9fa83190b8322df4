-- Parts of code, each at its place, as one list of forms.
use Rattle.std.specs.Prelude.{◌≡◌, ℕ, ◌+◌, ◌-◌, ◌/◌, ◌%◌, ◌≤◌, List, [], ◌∷◌, ◌++◌}
use Rattle.boot_runtime.specs.msp_isa.declared.instructions.Condition.TheVariants.{Always}
use Rattle.boot_runtime.specs.code_forms.Forms.{Form, Jump}
use Rattle.boot_runtime.specs.code_forms.Code.{forms_bytes, back_over}
use Rattle.word_code.specs.Code.{repeated}

-- a jump to itself, of one word
abbrev pub filler : Form
filler = Jump Always (back_over [])

-- a part of the code, and where it stands
pub record CodePart : Type 0 where
  pub address : ℕ
  pub forms : List Form

-- the address behind a part
abbrev pub part_end : CodePart → ℕ
part_end part = part.address + forms_bytes part.forms

-- parts one behind another from an address on, with filler up to each
abbrev pub chained : ℕ → List CodePart → List Form
chained at [] = []
chained at (part ∷ parts) = repeated ((part.address - at) / 2) filler ++ (part.forms ++ chained (part_end part) parts)

-- a part at an even address, behind what ends at another
pub record IsPartBehind (end : ℕ) (part : CodePart) : Type 0 where
  pub from : end ≤ part.address
  pub even : part.address % 2 ≡ 0

-- parts in order, from one address on up to another
abbrev pub PartsInOrder : ℕ → List CodePart → ℕ → Type 0
PartsInOrder from [] end = from ≤ end
PartsInOrder from (part ∷ parts) end = IsPartBehind from part × PartsInOrder (part_end part) parts end
