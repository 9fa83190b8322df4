-- One step behind another: the second goes on with what the first gives, and isn't taken where the first gives nothing.
use Rattle.std.specs.Prelude.{Option, Some, None, Result, Ok, Err}

infixl 10 ◌>>?◌
-- the second step behind the first, where there is a value
abbrev pub ◌>>?◌ : {A B : Type 0} → Option A → (A → Option B) → Option B
(Some x) >>? f = f x
None >>? f = None

infixl 10 ◌>>=◌
-- the second step behind the first, where that has no fault
abbrev pub ◌>>=◌ : {E A B : Type 0} → Result A E → (A → Result B E) → Result B E
(Ok x) >>= f = f x
(Err e) >>= f = Err e
