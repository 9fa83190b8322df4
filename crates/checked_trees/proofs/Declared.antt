-- Which variables and functions the names of a source declare.
use Rattle.std.proofs.Common.{◌≡◌, ℕ, ◌+◌, List, [], ◌∷◌, ◌++◌, length, Bool, true, Some, slice_get, refl, sym, ap, ◌∙◌, subst, arith}
use Rattle.std.proofs.Common.{append_assoc}
use Rattle.std.specs.Prelude.{All, IsSomeAnd}
use Rattle.std.proofs.lemmas.List.{append-nil, length_push}
use Rattle.std.proofs.lemmas.List.Elements.{All-head, All-tail}
use Rattle.alp_text.specs.declared.lines.Span.{Span}
use Rattle.task_ast.specs.declared.Extent.{Extent}
use Rattle.task_ast.specs.declared.SharedDeclaration.{SharedDeclaration}
use Rattle.task_ast.specs.Tree.{Block, Function, Task, Program}
use Rattle.task_ast.specs.declared.WordType.{WordType}
use Rattle.task_ast.specs.Types.{IsOneWord}
use Rattle.task_check.specs.SharedTypes.{shared_type}
use Rattle.task_check.specs.declared.occurrence.Role.{Role}
use Rattle.task_check.specs.declared.occurrence.Role.TheVariants as role
use Rattle.task_check.specs.declared.occurrence.Occurrence.{Occurrence}
use Rattle.task_check.specs.Occurrences.{and_front, names_up_to, task_names, inner_names, function_names, shared_names, program_names}
use Rattle.task_check.specs.Scope.{one_shared, one_function, shared_in, functions_in}
use Rattle.checked_trees.specs.WellFormed.{IsExtentOf, HasItsExtent}
use Rattle.checked_trees.proofs.Fits.{BlockFits, FunctionFits}
use Rattle.checked_trees.proofs.Grammar.{ProgramFits}
use Rattle.checked_trees.proofs.Names.{Quiet, block_kept, inner_kept}

-- a name with a type and an extent is that of the declaration of its number
pub record IsDeclaration (shared : List SharedDeclaration) (n : ℕ) (name : Span) (of : WordType) (e : Extent) : Type 0 where
  pub declaration : SharedDeclaration
  pub at : slice_get shared n ≡ Some declaration
  pub name_is : declaration.name ≡ name
  pub type_is : declaration.word_type ≡ of
  pub extent_is : declaration.extent ≡ e
  pub typed : IsExtentOf of e

-- the functions of a source before their names are looked up
abbrev pub Functions : Type 0
Functions = List (Function Span Span Span)

-- the function of a number has a type of one word and so many parameters
pub record IsFunctionAt (functions : Functions) (n : ℕ) (of : WordType) (count : ℕ) : Type 0 where
  pub word : IsOneWord of
  pub counts : IsSomeAnd (slice_get functions n) (λ f. length f.parameters ≡ count)

-- a name that declares a shared variable is that of the declaration of its number, one that declares a function has its type and its parameters; a
-- local has one word. So many of both are declared in front
abbrev pub DeclaresOf : List SharedDeclaration → Functions → ℕ → ℕ → Span → Role → Type 0
DeclaresOf shared functions n k s (role.Shared of e) = IsDeclaration shared n s of e
DeclaresOf shared functions n k s (role.Function of count) = IsFunctionAt functions k of count
DeclaresOf shared functions n k s role.Task = Unit {0}
DeclaresOf shared functions n k s (role.Local of begin end extra) = IsOneWord of
DeclaresOf shared functions n k s role.Scalar = Unit {0}
DeclaresOf shared functions n k s role.Element = Unit {0}
DeclaresOf shared functions n k s role.Counter = Unit {0}
DeclaresOf shared functions n k s (role.Call count) = Unit {0}
DeclaresOf shared functions n k s role.Target = Unit {0}
DeclaresOf shared functions n k s (role.Operand refused kept) = Unit {0}

-- so does each of these names
abbrev pub Declared : List SharedDeclaration → Functions → List Occurrence → Type 0
Declared shared functions [] = Unit {0}
Declared shared functions (o ∷ front) =
    DeclaresOf shared functions (shared_in front) (functions_in front) o.span o.role × Declared shared functions front

-- a name that declares no shared variable and no function, and no local of two words
abbrev DeclaresNone : Role → Type 0
DeclaresNone (role.Shared of e) = ⊥
DeclaresNone (role.Function of count) = ⊥
DeclaresNone role.Task = Unit {0}
DeclaresNone (role.Local of begin end extra) = IsOneWord of
DeclaresNone role.Scalar = Unit {0}
DeclaresNone role.Element = Unit {0}
DeclaresNone role.Counter = Unit {0}
DeclaresNone (role.Call count) = Unit {0}
DeclaresNone role.Target = Unit {0}
DeclaresNone (role.Operand refused kept) = Unit {0}

none_declares : (shared : List SharedDeclaration) (functions : Functions) (n k : ℕ) (s : Span) (r : Role) → DeclaresNone r
    → DeclaresOf shared functions n k s r
none_declares shared functions n k s (role.Shared of e) h = absurd h
none_declares shared functions n k s (role.Function of count) h = absurd h
none_declares shared functions n k s role.Task h = tt
none_declares shared functions n k s (role.Local of begin end extra) h = h
none_declares shared functions n k s role.Scalar h = tt
none_declares shared functions n k s role.Element h = tt
none_declares shared functions n k s role.Counter h = tt
none_declares shared functions n k s (role.Call count) h = tt
none_declares shared functions n k s role.Target h = tt
none_declares shared functions n k s (role.Operand refused kept) h = tt

none_counts : (r : Role) → DeclaresNone r → (one_shared r ≡ 0) × (one_function r ≡ 0)
none_counts (role.Shared of e) h = absurd h
none_counts (role.Function of count) h = absurd h
none_counts role.Task h = (refl, refl)
none_counts (role.Local of begin end extra) h = (refl, refl)
none_counts role.Scalar h = (refl, refl)
none_counts role.Element h = (refl, refl)
none_counts role.Counter h = (refl, refl)
none_counts (role.Call count) h = (refl, refl)
none_counts role.Target h = (refl, refl)
none_counts (role.Operand refused kept) h = (refl, refl)

get_middle : {A : Type 0} (before : List A) (d : A) (more : List A) → slice_get (before ++ d ∷ more) (length before) ≡ Some d
get_middle [] d more = refl
get_middle (x ∷ before) d more = get_middle before d more

module _ (shared : List SharedDeclaration) (functions : Functions) where
  -- these names declare what they should behind any that do so and declare so many shared variables and functions
  record Continues (n k : ℕ) (behind : List Occurrence) : Type 0 where
    on : (front : List Occurrence) → Declared shared functions front → shared_in front ≡ n → functions_in front ≡ k
        → Declared shared functions (behind ++ front)

  -- one more name in front
  one_front : (n k m j : ℕ) (behind : List Occurrence) (s : Span) (r : Role) → Continues m j behind → DeclaresOf shared functions n k s r
      → n + one_shared r ≡ m → k + one_function r ≡ j → Continues n k (and_front behind s r)
  one_front n k m j behind s r h declares more others = record { on = λ front d e f. by front d e f }
    where
      o : Occurrence
      o = record { span = s; role = r }

      by : (front : List Occurrence) → Declared shared functions front → shared_in front ≡ n → functions_in front ≡ k
          → Declared shared functions (and_front behind s r ++ front)
      by front d e f =
          let at_shared = subst (λ i. DeclaresOf shared functions n i s r) (sym f) declares in
          let here = subst (λ i. DeclaresOf shared functions i (functions_in front) s r) (sym e) at_shared in
          subst (Declared shared functions) (sym (append_assoc behind (o ∷ []) front))
          (h.on (o ∷ front) (here, d) (ap (λ i. i + one_shared r) e ∙ more) (ap (λ i. i + one_function r) f ∙ others))

  module _ (n k : ℕ) where
    abbrev Silent : List Occurrence → Type 0
    Silent behind = Continues n k behind

    in_front : (behind : List Occurrence) (s : Span) (r : Role) → Silent behind → DeclaresNone r → Silent (and_front behind s r)
    in_front behind s r h none =
        let counts = none_counts r none in
        one_front n k n k behind s r h (none_declares shared functions n k s r none)
        (let e = counts.0 in omega (arith, e)) (let e = counts.1 in omega (arith, e))

    quiet : (r : Role) → Quiet 0 r → DeclaresNone r
    quiet (role.Shared of e) h = h
    quiet (role.Function of count) h = h
    quiet role.Task h = tt
    quiet (role.Local of begin end extra) h = h.0
    quiet role.Scalar h = tt
    quiet role.Element h = tt
    quiet role.Counter h = tt
    quiet (role.Call count) h = tt
    quiet role.Target h = tt
    quiet (role.Operand refused kept) h = tt

    -- the names of a body, and those in a function
    body_none : (types : Span → WordType) (in_task : Bool) (end : ℕ) (b : Block Span Span Span) (behind : List Occurrence) → BlockFits b → Silent behind
        → Silent (names_up_to types in_task end b behind)
    body_none types in_task end b behind fits h =
        block_kept 0 Silent (λ behind h. omega arith) (λ behind s r h q. in_front behind s r h (quiet r q)) types in_task end b behind fits (omega arith) h

    inner_none : (types : Span → WordType) (f : Function Span Span Span) (behind : List Occurrence) → FunctionFits f → Silent behind
        → Silent (inner_names types f behind)
    inner_none types f behind fits h =
        inner_kept 0 Silent (λ behind h. omega arith) (λ behind s r h q. in_front behind s r h (quiet r q)) types f behind fits h

    tasks_none : (types : Span → WordType) (ts : List (Task Span Span Span)) (behind : List Occurrence) → All (λ task. BlockFits task.body) ts
        → Silent behind → Silent (task_names types ts behind)
    tasks_none types [] behind f h = h
    tasks_none types (k ∷ more) behind f h =
        let rest = task_names types more behind in
        let here = All-head (λ task. BlockFits task.body) k more f in
        let others = tasks_none types more behind (All-tail (λ task. BlockFits task.body) k more f) h in
        in_front (names_up_to types true (length rest) k.body rest) k.name role.Task (body_none types true (length rest) k.body rest here others) tt

  -- the functions, in front of which so many stand
  functions_continue : (types : Span → WordType) (n : ℕ) (before fs : Functions) (behind : List Occurrence) → functions ≡ before ++ fs → All FunctionFits fs
      → Continues n (length functions) behind → Continues n (length before) (function_names types fs behind)
  functions_continue types n before [] behind all fits h = subst (λ k. Continues n k behind) (ap length (all ∙ append-nil before)) h
  functions_continue types n before (f ∷ more) behind all fits h =
      let rest = function_names types more behind in
      let k = length before in
      let next : length (before ++ f ∷ []) ≡ k + 1 = length_push before f in
      let others : Continues n (k + 1) rest =
      subst (λ j. Continues n j rest) next
      (functions_continue types n (before ++ f ∷ []) more behind (all ∙ sym (append_assoc before (f ∷ []) more)) (All-tail FunctionFits f more fits) h) in
      let fit = All-head FunctionFits f more fits in
      let at : slice_get functions k ≡ Some f = ap (λ fs. slice_get fs k) all ∙ get_middle before f more in
      let same : length f.parameters ≡ length f.parameters = refl in
      let counts = subst (λ o. IsSomeAnd o (λ g. length g.parameters ≡ length f.parameters)) (sym at) same in
      one_front n k n (k + 1) (inner_names types f rest) f.name (role.Function f.word_type (length f.parameters))
      (inner_none n (k + 1) types f rest fit others) (record { word = fit.gives; counts = counts })
      (let e : n + 0 ≡ n = omega arith in e) refl

  -- the shared variables, in front of which so many stand
  shared_continue : (k : ℕ) (before ds : List SharedDeclaration) (behind : List Occurrence) → shared ≡ before ++ ds → All HasItsExtent ds
      → Continues (length shared) k behind → Continues (length before) k (shared_names ds behind)
  shared_continue k before [] behind all typed h = subst (λ n. Continues n k behind) (ap length (all ∙ append-nil before)) h
  shared_continue k before (d ∷ more) behind all typed h =
      let n = length before in
      let next : length (before ++ d ∷ []) ≡ n + 1 = length_push before d in
      let others : Continues (n + 1) k (shared_names more behind) =
      subst (λ m. Continues m k (shared_names more behind)) next
      (shared_continue k (before ++ d ∷ []) more behind (all ∙ sym (append_assoc before (d ∷ []) more)) (All-tail HasItsExtent d more typed) h) in
      let here : IsDeclaration shared n d.name d.word_type d.extent = record {
        declaration = d;
        at = ap (λ ds. slice_get ds n) all ∙ get_middle before d more;
        name_is = refl;
        type_is = refl;
        extent_is = refl;
        typed = All-head HasItsExtent d more typed;
      } in
      one_front n k (n + 1) k (shared_names more behind) d.name (role.Shared d.word_type d.extent) others here refl
      (let e : k + 0 ≡ k = omega arith in e)

pub program_declared : (source : List ℕ) (p : Program Span Span Span) → All HasItsExtent p.shared → ProgramFits p
    → Declared p.shared p.functions (program_names source p)
unfolding program_names
program_declared source p typed fits =
    let types = shared_type source p.shared in
    let entry = and_front [] p.entry role.Target in
    let n = length p.shared in
    let k = length p.functions in
    let last = in_front p.shared p.functions n k [] p.entry role.Target (record { on = λ front d e f. d }) tt in
    let tasks = tasks_none p.shared p.functions n k types p.tasks entry fits.tasks last in
    let functions = functions_continue p.shared p.functions types n [] p.functions (task_names types p.tasks entry) refl fits.functions tasks in
    let all = shared_continue p.shared p.functions 0 [] p.shared (function_names types p.functions (task_names types p.tasks entry)) refl typed functions in
    subst (Declared p.shared p.functions) (append-nil (shared_names p.shared (function_names types p.functions (task_names types p.tasks entry))))
    (all.on [] tt refl refl)
