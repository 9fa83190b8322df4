-- The types of the names of a source: a name that stands for a shared variable has the type of the first shared variable of that name.
use Rattle.std.proofs.Common.{◌≡◌, ℕ, ◌+◌, Bool, true, false, cond, List, [], ◌∷◌, ◌++◌, take, drop, length, Option, Some, None}
use Rattle.std.proofs.Common.{refl, sym, ap, ap₂, ◌∙◌, subst, arith}
use Rattle.std.specs.Prelude.{unwrap_or, ◌&&◌, nat_le, nat_lt}
use Rattle.std.specs.Option.{option_or}
use Rattle.std.specs.Str.{bytes_eq}
use Rattle.std.proofs.lemmas.List.{take_more, take-append-drop}
use Rattle.std.proofs.lemmas.Option.{slice_get_within, get_or_from_slice_get}
use Rattle.alp_text.specs.declared.lines.Span.{Span}
use Rattle.task_ast.specs.declared.SharedDeclaration.{SharedDeclaration}
use Rattle.task_ast.specs.declared.WordType.{WordType}
use Rattle.task_ast.specs.declared.WordType.TheVariants.{Unsigned}
use Rattle.task_ast.specs.declared.Extent.{Extent}
use Rattle.task_ast.specs.declared.Extent.TheVariants as extent
use Rattle.task_ast.specs.Types.{is_long}
use Rattle.task_check.specs.declared.occurrence.Role.{Role}
use Rattle.task_check.specs.declared.occurrence.Role.TheVariants as role
use Rattle.task_check.specs.declared.occurrence.Occurrence.{Occurrence}
use Rattle.task_check.specs.declared.symbol.Symbol.{Symbol}
use Rattle.task_check.specs.declared.symbol.Symbol.TheVariants as symbol
use Rattle.task_check.specs.declared.symbol.Global.{Global}
use Rattle.task_check.specs.declared.symbol.Local.{Local}
use Rattle.task_check.specs.Scope.{text_of, one_shared, shared_in, functions_in, tasks_in, shared_symbol, global_with, if_named, global_in, local_in}
use Rattle.task_check.specs.Scope.{known_functions, known_symbol, or_global, meaning}
use Rattle.task_check.specs.LookedUp.{symbol_by, behind, symbol_at}
use Rattle.task_check.specs.SharedTypes.{type_in, shared_type}
use Rattle.checked_trees.proofs.Declared.{Functions, IsDeclaration, DeclaresOf, Declared}
use Rattle.checked_trees.proofs.Widths.{IsAsWide}

-- a symbol of a shared variable has this type
abbrev TypedBy : Option WordType → Symbol → Type 0
TypedBy o (symbol.Scalar n of) = o ≡ Some of
TypedBy o (symbol.Array n of) = o ≡ Some of
TypedBy o (symbol.Local n of) = Unit {0}
TypedBy o (symbol.Function n of count) = Unit {0}
TypedBy o (symbol.Task n) = Unit {0}

abbrev pub Typed : Option WordType → Option Symbol → Type 0
Typed o None = Unit {0}
Typed o (Some s) = TypedBy o s

-- this is the type of the first global of a name, and there is none where there is no global
abbrev GlobalTyped : Option WordType → Option Global → Type 0
GlobalTyped o None = o ≡ None
GlobalTyped o (Some g) = TypedBy o g.symbol

-- ---- the type of the first shared variable of a name, one declaration after another

or_assoc : (a b c : Option WordType) → option_or (option_or a b) c ≡ option_or a (option_or b c)
or_assoc None b c = refl
or_assoc (Some x) b c = refl

or_none : (a : Option WordType) → option_or a None ≡ a
or_none None = refl
or_none (Some x) = refl

type_append : (source name : List ℕ) (xs ys : List SharedDeclaration)
    → type_in source name (xs ++ ys) ≡ option_or (type_in source name xs) (type_in source name ys)
type_append source name [] ys = refl
type_append source name (d ∷ xs) ys =
    ap (option_or (if_named (bytes_eq (text_of source d.name) name) (Some d.word_type))) (type_append source name xs ys)
    ∙ sym (or_assoc (if_named (bytes_eq (text_of source d.name) name) (Some d.word_type)) (type_in source name xs) (type_in source name ys))

-- one declaration more
type_more : (source name : List ℕ) (shared : List SharedDeclaration) (n : ℕ) (s : Span) (of : WordType) (e : Extent) → IsDeclaration shared n s of e
    → type_in source name (take (n + 1) shared)
    ≡ option_or (type_in source name (take n shared)) (if_named (bytes_eq (text_of source s) name) (Some of))
type_more source name shared n s of e x =
    let d = x.declaration in
    let inside = slice_get_within shared n d x.at in
    let taken = take_more shared n d inside ∙ ap (λ y. take n shared ++ y ∷ []) (get_or_from_slice_get shared n d d x.at) in
    let here : type_in source name (d ∷ []) ≡ if_named (bytes_eq (text_of source s) name) (Some of) =
    or_none _ ∙ ap₂ (λ y t. if_named (bytes_eq (text_of source y) name) (Some t)) x.name_is x.type_is in
    ap (type_in source name) taken ∙ type_append source name (take n shared) (d ∷ []) ∙ ap (option_or (type_in source name (take n shared))) here

-- a shared variable comes behind those
typed_behind : (o : Option WordType) (g : Option Global) (b : Bool) (front n : ℕ) (of : WordType) (e : Extent) → GlobalTyped o g
    → GlobalTyped (option_or o (if_named b (Some of))) (option_or g (if_named b (Some (record { front = front; symbol = shared_symbol n of e }))))
typed_behind o None b front n of e h = subst (λ x. GlobalTyped (option_or x (if_named b (Some of)))
    (if_named b (Some (record { front = front; symbol = shared_symbol n of e })))) (sym h) (by b e)
  where
    by : (b : Bool) (e : Extent) → GlobalTyped (if_named b (Some of)) (if_named b (Some (record { front = front; symbol = shared_symbol n of e })))
    by false e = refl
    by true (extent.Scalar w) = refl
    by true (extent.Long w) = refl
    by true (extent.Array w) = refl
typed_behind o (Some g) b front n of e h = by g.symbol h
  where
    by : (s : Symbol) → TypedBy o s → TypedBy (option_or o (if_named b (Some of))) s
    by (symbol.Scalar m t) h = ap (λ x. option_or x (if_named b (Some of))) h
    by (symbol.Array m t) h = ap (λ x. option_or x (if_named b (Some of))) h
    by (symbol.Local m t) h = tt
    by (symbol.Function m t count) h = tt
    by (symbol.Task m) h = tt

-- a function comes behind those
function_behind : (o : Option WordType) (g : Option Global) (b : Bool) (front n : ℕ) (of : WordType) (count : ℕ) → GlobalTyped o g
    → GlobalTyped o (option_or g (if_named b (Some (record { front = front; symbol = symbol.Function n of count }))))
function_behind o None true front n of count h = tt
function_behind o None false front n of count h = h
function_behind o (Some g) b front n of count h = h

-- a task comes behind those
task_behind : (o : Option WordType) (g : Option Global) (b : Bool) (front n : ℕ) → GlobalTyped o g
    → GlobalTyped o (option_or g (if_named b (Some (record { front = front; symbol = symbol.Task n }))))
task_behind o None true front n h = tt
task_behind o None false front n h = h
task_behind o (Some g) b front n h = h

none_behind : (o : Option WordType) (g : Option Global) (b : Bool) → GlobalTyped o g → GlobalTyped o (option_or g (if_named b None))
none_behind o None true h = h
none_behind o None false h = h
none_behind o (Some g) b h = h

module _ (source name : List ℕ) (shared : List SharedDeclaration) (all_functions : Functions) where
  -- the type of the first of so many declarations
  abbrev first : ℕ → Option WordType
  first n = type_in source name (take n shared)

  same_count : (n : ℕ) (g : Option Global) → GlobalTyped (first n) g → GlobalTyped (first (n + 0)) g
  same_count n g h = let e : n ≡ n + 0 = omega arith in subst (λ m. GlobalTyped (first m) g) e h

  one_more : (s : Span) (r : Role) (front n functions tasks : ℕ) (b : Bool) (g : Option Global) → b ≡ bytes_eq (text_of source s) name
      → DeclaresOf shared all_functions n functions s r
      → GlobalTyped (first n) g → GlobalTyped (first (n + one_shared r)) (option_or g (if_named b (global_with r front n functions tasks)))
  one_more s (role.Shared of e) front n functions tasks b g is d h =
      subst (λ o. GlobalTyped o (option_or g (if_named b (Some (record { front = front; symbol = shared_symbol n of e })))))
      (ap (λ b. option_or (first n) (if_named b (Some of))) is ∙ sym (type_more source name shared n s of e d)) (typed_behind (first n) g b front n of e h)
  one_more s (role.Function of count) front n functions tasks b g is d h =
      same_count n _ (function_behind (first n) g b front functions of count h)
  one_more s role.Task front n functions tasks b g is d h = same_count n _ (task_behind (first n) g b front tasks h)
  one_more s (role.Local of begin end extra) front n functions tasks b g is d h = same_count n _ (none_behind (first n) g b h)
  one_more s role.Scalar front n functions tasks b g is d h = same_count n _ (none_behind (first n) g b h)
  one_more s role.Element front n functions tasks b g is d h = same_count n _ (none_behind (first n) g b h)
  one_more s role.Counter front n functions tasks b g is d h = same_count n _ (none_behind (first n) g b h)
  one_more s (role.Call count) front n functions tasks b g is d h = same_count n _ (none_behind (first n) g b h)
  one_more s role.Target front n functions tasks b g is d h = same_count n _ (none_behind (first n) g b h)
  one_more s (role.Operand refused kept) front n functions tasks b g is d h = same_count n _ (none_behind (first n) g b h)

  first_typed : (all : List Occurrence) → Declared shared all_functions all → GlobalTyped (first (shared_in all)) (global_in source name all)
  first_typed [] d = refl
  first_typed (o ∷ front) d =
      one_more o.span o.role (length front) (shared_in front) (functions_in front) (tasks_in front) (bytes_eq (text_of source o.span) name)
      (global_in source name front) refl d.0
      (first_typed front d.1)

  -- the type of a prefix's first is that of all
  all_typed : (n : ℕ) (of : WordType) → first n ≡ Some of → type_in source name shared ≡ Some of
  all_typed n of h =
      ap (type_in source name) (sym (take-append-drop n shared)) ∙ type_append source name (take n shared) (drop n shared)
      ∙ ap (λ o. option_or o (type_in source name (drop n shared))) h

  global_typed : (known : ℕ) (g : Option Global) (n : ℕ) → GlobalTyped (first n) g → Typed (type_in source name shared) (or_global known None g)
  global_typed known None n h = tt
  global_typed known (Some g) n h = by g.symbol h
    where
      by_known : (m : ℕ) (of : WordType) (count : ℕ) (b : Bool)
          → Typed (type_in source name shared) (cond b (Some (symbol.Function m of count)) None)
      by_known m of count true = tt
      by_known m of count false = tt

      by : (s : Symbol) → TypedBy (first n) s → Typed (type_in source name shared) (known_symbol known s)
      by (symbol.Scalar m of) h = all_typed n of h
      by (symbol.Array m of) h = all_typed n of h
      by (symbol.Local m of) h = tt
      by (symbol.Function m of count) h = by_known m of count (nat_lt m known)
      by (symbol.Task m) h = tt

  meaning_typed : (known n : ℕ) (l : Option Local) (g : Option Global) → Typed (type_in source name shared) (or_global known None g)
      → Typed (type_in source name shared) (meaning known n l g)
  meaning_typed known n None g h = h
  meaning_typed known n (Some l) g h = by (nat_le l.end n && nat_lt n l.begin)
    where
      by : (b : Bool) → Typed (type_in source name shared) (or_global known (cond b (Some (symbol.Local l.number l.word_type)) None) g)
      by true = tt
      by false = h

typed_by_role : (o : Option WordType) (r : Role) (n : ℕ) (found : Option Symbol) → Typed o found → Typed o (symbol_by r n found)
typed_by_role o (role.Local of begin end extra) n found h = tt
typed_by_role o (role.Shared of x) n found h = tt
typed_by_role o (role.Function of count) n found h = tt
typed_by_role o role.Task n found h = tt
typed_by_role o role.Scalar n found h = h
typed_by_role o role.Element n found h = h
typed_by_role o role.Counter n found h = h
typed_by_role o (role.Call count) n found h = h
typed_by_role o role.Target n found h = h
typed_by_role o (role.Operand refused kept) n found h = tt

-- a name that stands for a shared variable has the type of the first of that name
pub symbol_typed : (source : List ℕ) (shared : List SharedDeclaration) (functions : Functions) (all : List Occurrence) (o : Occurrence)
    (front : List Occurrence)
    → Declared shared functions all → Typed (type_in source (text_of source o.span) shared) (symbol_at source all o front)
unfolding symbol_at
symbol_typed source shared functions all o front d =
    let name = text_of source o.span in
    let known = known_functions (functions_in front) (tasks_in front) in
    typed_by_role (type_in source name shared) o.role _ _
    (meaning_typed source name shared functions known (behind all front) (local_in source name front) (global_in source name all)
    (global_typed source name shared functions known (global_in source name all) (shared_in all) (first_typed source name shared functions all d)))

-- so its type is as wide as the checks take it to be
pub as_wide : (source : List ℕ) (shared : List SharedDeclaration) (s : Span) (of : WordType) → type_in source (text_of source s) shared ≡ Some of
    → IsAsWide of (shared_type source shared s)
unfolding shared_type
as_wide source shared s of h =
    let is : unwrap_or (type_in source (text_of source s) shared) Unsigned ≡ of = ap (λ o. unwrap_or o Unsigned) h in
    λ e. subst (λ t. is_long t ≡ true) (sym is) e
