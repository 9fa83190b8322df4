-- The dearest path through code whose jumps all go forward.
use Rattle.std.specs.Prelude.{ℕ, ◌+◌, ◌-◌, ◌*◌, ◌^◌, ◌==◌, ◌&&◌, Bool, true, false, min, max, nat_lt, if◌then◌else◌, List, [], ◌∷◌}
use Rattle.msp_cycles.specs.Cycles.{cycles_of}
use Rattle.msp_isa.specs.declared.instructions.Condition.{Condition}
use Rattle.msp_isa.specs.declared.instructions.Condition.TheVariants.{Always}
use Rattle.code_forms.specs.Forms.{Form, Move, Calculate, Compare, Update, Push, Modify, SetStack, Sense, Jump, Skip, Branch, BranchIndexed, SkipBy}
use Rattle.code_forms.specs.Forms.{EnableInterrupts, Call, Return, KeepStack, RestoreStack}
use Rattle.code_forms.specs.Forms.{instruction_of, form_bytes}
use Rattle.code_forms.specs.Code.{forms_bytes}

-- the cycles of a form, which are its instruction's
abbrev pub form_cycles : Form → ℕ
form_cycles m = cycles_of (instruction_of m)

-- the dearer way on from a jump, to where it leads or behind it; one that is always made leads there alone
abbrev pub dearer_way : Condition → ℕ → ℕ → ℕ
dearer_way Always there behind = there
dearer_way _ there behind = max there behind

-- what is dearest behind a form, by what is from so many bytes on
abbrev pub behind_form : Form → (ℕ → ℕ) → ℕ
behind_form (Jump c offset) from = dearer_way c (from (2 * offset)) (from 0)
behind_form _ from = from 0

-- the cycles of the dearest path that begins so many bytes behind the front of code
abbrev pub dearest_from : List Form → ℕ → ℕ
dearest_from [] b = 0
dearest_from (m ∷ ms) b = if b == 0 then form_cycles m + behind_form m (dearest_from ms) else dearest_from ms (b - form_bytes m)

-- and at its front
abbrev pub dearest : List Form → ℕ
dearest ms = dearest_from ms 0

-- behind a form only what follows it is done: a jump goes forward, and nothing else goes elsewhere
abbrev pub goes_forward : Form → Bool
goes_forward (Jump c offset) = nat_lt offset 512
goes_forward (Skip n) = false
goes_forward (Branch a) = false
goes_forward (BranchIndexed b x) = false
goes_forward (SkipBy b) = false
goes_forward (Call a) = false
goes_forward Return = false
goes_forward (Move x y) = true
goes_forward (Calculate op x b) = true
goes_forward (Compare x a) = true
goes_forward (Update op x a) = true
goes_forward (Push x) = true
goes_forward (Modify m b) = true
goes_forward (SetStack n) = true
goes_forward (Sense b) = true
goes_forward EnableInterrupts = true
goes_forward (KeepStack b) = true
goes_forward RestoreStack = true

-- so it is with each of them
abbrev pub all_forward : List Form → Bool
all_forward [] = true
all_forward (m ∷ ms) = goes_forward m && all_forward ms

-- and there are few enough that no jump leads round the end of memory into them
abbrev pub is_forward : List Form → Bool
is_forward ms = all_forward ms && nat_lt (forms_bytes ms) 0x8000

-- the cycles of code at most: those of its dearest path where its jumps go forward, and else this many
abbrev pub forward_most : List Form → ℕ → ℕ
forward_most ms most = if is_forward ms then dearest ms else most

-- ---- as it is computed

-- a number, 2^64 - 1 where it is more
abbrev pub capped : ℕ → ℕ
capped n = min n (2 ^ 64 - 1)

-- the dearest path from each form on
abbrev pub costs_of : List Form → List ℕ
costs_of [] = []
costs_of (m ∷ ms) = capped (dearest (m ∷ ms)) ∷ costs_of ms
