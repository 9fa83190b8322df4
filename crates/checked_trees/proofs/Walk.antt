-- The variables and the functions that the names of a source stand for, each by the use that is made of its name.
use Rattle.std.proofs.Common.{◌≡◌, ℕ, suc, ◌+◌, ◌==◌, Bool, false, List, [], ◌∷◌, ◌++◌, length, Option, Some, None, refl, sym, ap, subst, arith}
use Rattle.std.specs.Option.{is_none}
use Rattle.std.proofs.lemmas.Bool.{eqb-true, not-false}
use Rattle.alp_text.specs.declared.lines.Span.{Span}
use Rattle.task_ast.specs.declared.SharedDeclaration.{SharedDeclaration}
use Rattle.task_ast.specs.declared.WordType.{WordType}
use Rattle.task_ast.specs.declared.names.Variable.{Variable}
use Rattle.task_check.specs.declared.fault.CheckFault.TheVariants as fault
use Rattle.task_check.specs.declared.fault.Kept.TheVariants as kept
use Rattle.task_check.specs.declared.occurrence.Role.{Role}
use Rattle.task_check.specs.declared.occurrence.Role.TheVariants as role
use Rattle.task_check.specs.declared.occurrence.Occurrence.{Occurrence}
use Rattle.task_check.specs.declared.symbol.Symbol.{Symbol}
use Rattle.task_check.specs.declared.symbol.Symbol.TheVariants as symbol
use Rattle.task_check.specs.declared.symbol.TypedVariable.{TypedVariable}
use Rattle.task_check.specs.declared.symbol.TypedFunction.{TypedFunction}
use Rattle.task_check.specs.Scope.{text_of, functions_in, tasks_in, locals_in, locals_after, global_in, local_in, stands_in_front}
use Rattle.task_check.specs.LookedUp.{symbol_by, variable_by, call_by, behind, symbol_at, variables_in, calls_in}
use Rattle.task_check.specs.Faults.{line_at, first_fault, is_repeated, is_unknown, name_fault, is_no_word, is_no_array, is_no_call, use_fault_by}
use Rattle.task_check.specs.Faults.{use_fault, limit_fault}
use Rattle.task_check.specs.SharedTypes.{type_in, shared_type}
use Rattle.task_check.proofs.Interface.{no_fault, no_name_fault}
use Rattle.checked_trees.specs.WellFormed.{IsWordName, IsArrayName, IsLocal, IsOfType, IsBelow}
use Rattle.checked_trees.proofs.Declared.{Functions, IsFunctionAt, Declared}
use Rattle.checked_trees.proofs.Scopes.{ScopesClose}
use Rattle.checked_trees.proofs.Symbols.{AreSound, Few, front_clean, here_clean, IsPlacedName, symbol_sound}
use Rattle.checked_trees.proofs.NameTypes.{Typed, symbol_typed, as_wide}
use Rattle.checked_trees.proofs.Widths.{IsAsWide, word_is_as_wide}

-- how a name is used that stands for a variable: as a word, as an array, or it is a local that is declared
pub data Naming : Type 0 where
  word : Naming
  array : Naming
  declared : Naming

-- what is made use of in a text: a name, where so many locals are declared, a function with so many values, or operands, by whether their types are
-- refused
pub data Use : Type 0 where
  named : Naming → Span → ℕ → Use
  called : ℕ → Use
  operands : Bool → Use

abbrev IsUsed : List SharedDeclaration → Naming → Variable → Type 0
IsUsed shared word v = IsWordName shared v
IsUsed shared array v = IsArrayName shared v
IsUsed shared declared v = IsLocal v

-- the variable of a name is used so, it is of its type, and that is as wide as the type of the name; a local is one of so many
abbrev pub IsNamed : List SharedDeclaration → (Span → WordType) → Naming → Span → ℕ → TypedVariable → Type 0
IsNamed shared types how s locals v =
    IsUsed shared how v.variable × IsOfType shared v.word_type v.variable × IsAsWide v.word_type (types s) × IsBelow locals v.variable

-- the use of a name by its role, if it is that of a variable or a call, and that of operands, where so many locals are declared
abbrev pub use_of : Span → Role → ℕ → List Use
use_of s role.Scalar locals = named word s locals ∷ []
use_of s role.Element locals = named array s locals ∷ []
use_of s role.Counter locals = named word s locals ∷ []
use_of s (role.Local of begin end extra) locals = named declared s (locals + 1) ∷ []
use_of s role.Target locals = []
use_of s (role.Function of count) locals = []
use_of s (role.Call count) locals = called count ∷ []
use_of s role.Task locals = []
use_of s (role.Shared of e) locals = []
use_of s (role.Operand refused what) locals = operands refused ∷ []

-- how many locals are declared behind names in front of which there are so many
abbrev pub locals_from : ℕ → List Occurrence → ℕ
locals_from n [] = n
locals_from n (o ∷ front) = locals_after (locals_from n front) o.role

-- the uses of names in front of which so many locals are declared, in the text's order
abbrev pub uses_from : ℕ → List Occurrence → List Use
uses_from n [] = []
uses_from n (o ∷ front) = uses_from n front ++ use_of o.span o.role (locals_from n front)

-- each variable is used so, each function that is called has so many parameters, and no operands are refused
abbrev pub AreUsed : List SharedDeclaration → Functions → (Span → WordType) → List Use → List TypedVariable → List TypedFunction → Type 0
AreUsed shared functions types [] [] [] = Unit {0}
AreUsed shared functions types [] [] (f ∷ fs) = ⊥
AreUsed shared functions types [] (v ∷ vs) fs = ⊥
AreUsed shared functions types (operands refused ∷ us) vs fs = (refused ≡ false) × AreUsed shared functions types us vs fs
AreUsed shared functions types (named how s n ∷ us) [] fs = ⊥
AreUsed shared functions types (named how s n ∷ us) (v ∷ vs) fs = IsNamed shared types how s n v × AreUsed shared functions types us vs fs
AreUsed shared functions types (called count ∷ us) vs [] = ⊥
AreUsed shared functions types (called count ∷ us) vs (f ∷ fs) =
    IsFunctionAt functions f.function f.word_type count × AreUsed shared functions types us vs fs

module _ (shared : List SharedDeclaration) (functions : Functions) (types : Span → WordType) where
  both_used : (us ws : List Use) (vs xs : List TypedVariable) (fs gs : List TypedFunction) → AreUsed shared functions types us vs fs
      → AreUsed shared functions types ws xs gs → AreUsed shared functions types (us ++ ws) (vs ++ xs) (fs ++ gs)
  both_used [] ws [] xs [] gs h k = k
  both_used [] ws [] xs (f ∷ fs) gs h k = absurd h
  both_used [] ws (v ∷ vs) xs fs gs h k = absurd h
  both_used (operands refused ∷ us) ws vs xs fs gs h k = (h.0, both_used us ws vs xs fs gs h.1 k)
  both_used (named how s n ∷ us) ws [] xs fs gs h k = absurd h
  both_used (named how s n ∷ us) ws (v ∷ vs) xs fs gs h k = (h.0, both_used us ws vs xs fs gs h.1 k)
  both_used (called count ∷ us) ws vs xs [] gs h k = absurd h
  both_used (called count ∷ us) ws vs xs (f ∷ fs) gs h k = (h.0, both_used us ws vs xs fs gs h.1 k)

module _ (source : List ℕ) (shared : List SharedDeclaration) (functions : Functions) (s : Span) (locals : ℕ) where
  -- the type of the first shared variable of the name
  abbrev first : Option WordType
  first = type_in source (text_of source s) shared

  abbrev types : Span → WordType
  types = shared_type source shared

  -- a name that isn't unknown, is used as what it is, and stands for what was declared
  word_used : (x : Option Symbol) → is_none x ≡ false → is_no_word x ≡ false → AreSound shared functions locals x → Typed first x
      → AreUsed shared functions types (named word s locals ∷ []) (variable_by role.Scalar x) []
  word_used None e f h t = absurd (cc)
  word_used (Some (symbol.Scalar n of)) e f h t = ((h.0, h.1, as_wide source shared s of t, tt), tt)
  word_used (Some (symbol.Array n of)) e f h t = absurd (cc)
  word_used (Some (symbol.Local n of)) e f h t = ((h.0, h.1, word_is_as_wide of (types s) h.1, h.2), tt)
  word_used (Some (symbol.Function n of count)) e f h t = absurd (cc)
  word_used (Some (symbol.Task n)) e f h t = absurd (cc)

  array_used : (x : Option Symbol) → is_no_array x ≡ false → AreSound shared functions locals x → Typed first x
      → AreUsed shared functions types (named array s locals ∷ []) (variable_by role.Element x) []
  array_used None f h t = absurd (cc)
  array_used (Some (symbol.Scalar n of)) f h t = absurd (cc)
  array_used (Some (symbol.Array n of)) f h t = ((h.0, h.1, as_wide source shared s of t, tt), tt)
  array_used (Some (symbol.Local n of)) f h t = absurd (cc)
  array_used (Some (symbol.Function n of count)) f h t = absurd (cc)
  array_used (Some (symbol.Task n)) f h t = absurd (cc)

  counter_used : (x : Option Symbol) → is_none x ≡ false → is_no_word x ≡ false → AreSound shared functions locals x → Typed first x
      → AreUsed shared functions types (named word s locals ∷ []) (variable_by role.Counter x) []
  counter_used None e f h t = absurd (cc)
  counter_used (Some (symbol.Scalar n of)) e f h t = ((h.0, h.1, as_wide source shared s of t, tt), tt)
  counter_used (Some (symbol.Array n of)) e f h t = absurd (cc)
  counter_used (Some (symbol.Local n of)) e f h t = ((h.0, h.1, word_is_as_wide of (types s) h.1, h.2), tt)
  counter_used (Some (symbol.Function n of count)) e f h t = absurd (cc)
  counter_used (Some (symbol.Task n)) e f h t = absurd (cc)

  -- a call that is no wrong use is of a function of so many parameters
  call_used : (count : ℕ) (x : Option Symbol) → is_no_call count x ≡ false → AreSound shared functions locals x
      → AreUsed shared functions types (called count ∷ []) [] (call_by (role.Call count) x)
  call_used count None f h = absurd (cc)
  call_used count (Some (symbol.Scalar n of)) f h = absurd (cc)
  call_used count (Some (symbol.Array n of)) f h = absurd (cc)
  call_used count (Some (symbol.Local n of)) f h = absurd (cc)
  call_used count (Some (symbol.Function n of parameters)) f h =
      let same : parameters ≡ count = eqb-true parameters count (not-false (parameters == count) f) in
      (subst (IsFunctionAt functions n of) same h, tt)
  call_used count (Some (symbol.Task n)) f h = absurd (cc)

  one_used : (o : Occurrence) (r : Role) (found : Option Symbol) → is_unknown r (symbol_by r locals found) ≡ false
      → use_fault_by source o r (symbol_by r locals found) ≡ None → AreSound shared functions (locals_after locals r) (symbol_by r locals found)
      → Typed first (symbol_by r locals found)
      → AreUsed shared functions types (use_of s r locals) (variable_by r (symbol_by r locals found)) (call_by r (symbol_by r locals found))
  one_used o role.Scalar x e f h t = word_used x e (no_fault (is_no_word x) (fault.WrongUse (line_at source o) (kept.Name o.span)) f) h t
  one_used o role.Element x e f h t = array_used x (no_fault (is_no_array x) (fault.WrongUse (line_at source o) (kept.Name o.span)) f) h t
  one_used o role.Counter x e f h t = counter_used x e (no_fault (is_no_word x) (fault.WrongUse (line_at source o) (kept.Name o.span)) f) h t
  one_used o (role.Local of begin end extra) x e f h t = ((h.0, h.1, word_is_as_wide of (types s) h.1, h.2), tt)
  one_used o role.Target x e f h t = tt
  one_used o (role.Function of count) x e f h t = tt
  one_used o (role.Call count) x e f h t =
      call_used count x (no_fault (is_no_call count x) (fault.WrongUse (line_at source o) (kept.Name o.span)) f) h
  one_used o role.Task x e f h t = tt
  one_used o (role.Shared of y) x e f h t = tt
  one_used o (role.Operand refused what) x e f h t = (no_fault refused (fault.WrongUse (line_at source o) what) f, tt)

-- names without a fault
pub record AreClean (source : List ℕ) (all front : List Occurrence) : Type 0 where
  pub names : first_fault (name_fault source all) front ≡ None
  pub uses : first_fault (use_fault source all) front ≡ None
  pub limits : Few source front

locals_same : (front : List Occurrence) → locals_from 0 front ≡ locals_in front
locals_same [] = refl
locals_same (o ∷ front) = ap (λ n. locals_after n o.role) (locals_same front)

-- each of the names in front, behind which so many stand
pub names_used : (source : List ℕ) (shared : List SharedDeclaration) (functions : Functions) (all front : List Occurrence) (b : ℕ)
    → Declared shared functions all → Declared shared functions front → AreClean source all front → ScopesClose b front → b + length front ≡ length all
    → AreUsed shared functions (shared_type source shared) (uses_from 0 front) (variables_in source all front) (calls_in source all front)
unfolding symbol_at name_fault use_fault
names_used source shared functions all [] b d h c closes at = tt
names_used source shared functions all (o ∷ front) b d h c closes at =
    let more : AreClean source all front = record {
      names = front_clean (name_fault source all) o front c.names;
      uses = front_clean (use_fault source all) o front c.uses;
      limits = front_clean (limit_fault source) o front c.limits;
    } in
    let s = symbol_at source all o front in
    let types = shared_type source shared in
    let place : suc b ≡ suc (behind all front) = omega (arith, at) in
    let placed : IsPlacedName shared functions source all o front =
    record { declared = h; few = c.limits; closes = subst (λ n. ScopesClose n front) place closes.1 } in
    let here = one_used source shared functions o.span (locals_in front) o o.role _
    (no_name_fault source o
    (is_repeated o.role (stands_in_front _ (global_in source (text_of source o.span) all)) (functions_in front) (tasks_in front)
    (local_in source (text_of source o.span) front))
    (is_unknown o.role s) (here_clean (name_fault source all) o front c.names))
    (here_clean (use_fault source all) o front c.uses) (symbol_sound source shared functions all o front d placed)
    (symbol_typed source shared functions all o front d) in
    both_used shared functions types (uses_from 0 front) (use_of o.span o.role (locals_from 0 front)) (variables_in source all front)
    (variable_by o.role s) (calls_in source all front) (call_by o.role s)
    (names_used source shared functions all front (suc b) d h.1 more closes.1 (omega (arith, at)))
    (subst (λ n. AreUsed shared functions types (use_of o.span o.role n) (variable_by o.role s) (call_by o.role s)) (sym (locals_same front)) here)
