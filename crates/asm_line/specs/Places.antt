-- Lines that say the same, but for the labels and the places at which these stand.
use Rattle.std.specs.Prelude.{◌≡◌, Option, Some, None}
use Rattle.asm_line.specs.Values.{ValueMeaning, number, out_of_range, label, here}
use Rattle.asm_line.specs.Lines.{StatementMeaning, nothing, org, words, jump, instruction, LineMeaning}

-- both are there and alike, or neither is
abbrev pub Same : {A : Type 0} → (A → A → Type 0) → Option A → Option A → Type 0
Same R None None = Unit {0}
Same R None (Some y) = ⊥
Same R (Some x) None = ⊥
Same R (Some x) (Some y) = R x y

-- values that differ at most in the label and its place
abbrev pub ValueSame : ValueMeaning → ValueMeaning → Type 0
ValueSame (number n) (number m) = n ≡ m
ValueSame (out_of_range n) (out_of_range m) = n ≡ m
ValueSame (label p) (label q) = Unit {0}
ValueSame here here = Unit {0}
ValueSame v w = ⊥

-- statements that are equal but for their values, which are alike
abbrev pub StatementSame : StatementMeaning → StatementMeaning → Type 0
StatementSame nothing nothing = Unit {0}
StatementSame (org v) (org w) = ValueSame v w
StatementSame (words vs) (words ws) = Unit {0}
StatementSame (jump c v) (jump d w) = (c ≡ d) × ValueSame v w
StatementSame (instruction t) (instruction u) = (t.instr ≡ u.instr) × Same ValueSame t.source u.source × Same ValueSame t.destination u.destination
StatementSame s t = ⊥

-- lines that both have a label or have none, and whose statements are alike
abbrev pub LineSame : LineMeaning → LineMeaning → Type 0
LineSame l m = Same (λ _ _. Unit {0}) l.label m.label × StatementSame l.statement m.statement
