-- The names of a well-formed tree stand for variables that have their places.
use Rattle.lower.proofs.Names.{◌≡◌, ◌<◌, ℕ, Bool, true, List, refl, SharedDeclaration, WordType, Long, Variable, Shared, Local, is_shared}
use Rattle.lower.proofs.Names.{Places, IsScalarAt, IsScalarWord, IsOfType, IsLocal, IsWordName, IsArrayName, IsArray, IsWrittenArray, AsDeclared, HasCopies}
use Rattle.std.proofs.lemmas.Bool.{eq-eqb}

-- ---- variables that are read

-- a variable with an address or a number of its own
abbrev pub IsKnown : Places → Variable → Type 0
IsKnown p (Shared v) = IsScalarAt p v
IsKnown p (Local n) = n < 256

-- a long with an address of its own: no local is one
abbrev pub IsLong : Places → Variable → Type 0
IsLong p (Shared v) = IsScalarWord p v 1
IsLong p (Local n) = ⊥

-- a variable of a type
abbrev pub IsKnownAs : Places → WordType → Variable → Type 0
IsKnownAs p Long x = IsLong p x
IsKnownAs p _ x = IsKnown p x

module _ (shared : List SharedDeclaration) (p : Places) (declared : AsDeclared shared p) where
  known : (x : Variable) → IsWordName shared x → IsKnown p x
  known (Shared v) h = declared.scalars v h
  known (Local n) h = h

  pub known_as : (of : WordType) (x : Variable) → IsWordName shared x → IsOfType shared of x → IsKnownAs p of x
  known_as Long (Shared v) h t = declared.longs v t
  known_as Long (Local n) h t = absurd t
  known_as of x h t = known x h

  pub array_known : (x : Variable) → IsArrayName shared x → IsArray p x
  array_known (Shared v) h = declared.arrays v h
  array_known (Local n) h = absurd h

-- ---- variables that are assigned

-- a variable that may be assigned: a shared one is among those that are written
abbrev pub IsTarget : Places → (ℕ → Bool) → Variable → Type 0
IsTarget p written (Shared v) = IsScalarAt p v × (written v ≡ true)
IsTarget p written (Local n) = n < 256

-- a long that may be assigned
abbrev pub IsLongTarget : Places → (ℕ → Bool) → Variable → Type 0
IsLongTarget p written (Shared v) = IsScalarWord p v 1 × (written v ≡ true)
IsLongTarget p written (Local n) = ⊥

-- the same of a variable of a type
abbrev pub IsTargetOf : Places → (ℕ → Bool) → WordType → Variable → Type 0
IsTargetOf p written Long x = IsLongTarget p written x
IsTargetOf p written _ x = IsTarget p written x

pub local_target : (p : Places) (written : ℕ → Bool) (x : Variable) → IsLocal x → IsTarget p written x
local_target p written (Shared v) h = absurd h
local_target p written (Local n) h = h

-- a shared variable among those that are written
abbrev pub IsWritten : (ℕ → Bool) → Variable → Type 0
IsWritten written x = (v : ℕ) → is_shared v x ≡ true → written v ≡ true

module _ (shared : List SharedDeclaration) (p : Places) (written : ℕ → Bool) (declared : AsDeclared shared p) where
  target : (x : Variable) → IsWordName shared x → IsWritten written x → IsTarget p written x
  target (Shared v) h w = (declared.scalars v h, w v (eq-eqb v v refl))
  target (Local n) h w = h

  pub target_of : (of : WordType) (x : Variable) → IsWordName shared x → IsOfType shared of x → IsWritten written x → IsTargetOf p written of x
  target_of Long (Shared v) h t w = (declared.longs v t, w v (eq-eqb v v refl))
  target_of Long (Local n) h t w = absurd t
  target_of of x h t w = target x h w

  pub array_target : (x : Variable) → HasCopies shared p written → IsArrayName shared x → IsWritten written x → IsWrittenArray p x
  array_target (Shared v) copied h w = copied v h (w v (eq-eqb v v refl))
  array_target (Local n) copied h w = absurd h
