-- The names of a source whose checks find nothing are different, and its arrays have words.
use Rattle.std.proofs.Common.{◌≡◌, ◌∙◌, ◌⊎◌, inl, inr, ℕ, suc, ◌<◌, ◌==◌, Bool, true, false, not, ◌||◌, List, [], ◌∷◌, ◌++◌, length, refl, sym, ap, arith}
use Rattle.std.proofs.Common.{append_assoc, Option, Some, None, is_some, append-nil}
use Rattle.std.specs.Option.{option_or}
use Rattle.std.specs.Prelude.{All}
use Rattle.std.specs.Str.{bytes_eq}
use Rattle.std.proofs.lemmas.Bool.Decides.{nat_tests}
use Rattle.std.proofs.lemmas.List.Elements.{All-nil, All-cons}
use Rattle.std.proofs.lemmas.Bool.{and_parts, and_from, or_parts}
use Rattle.alp_text.specs.declared.lines.Span.{Span}
use Rattle.task_ast.specs.declared.WordType.{WordType}
use Rattle.task_ast.specs.declared.Extent.{Extent}
use Rattle.task_ast.specs.declared.SharedDeclaration.{SharedDeclaration}
use Rattle.task_ast.specs.Tree.{Program}
use Rattle.task_ast.specs.declared.Extent.TheVariants as extent
use Rattle.cost_bound.specs.task_check.declared.occurrence.Role.{Role}
use Rattle.cost_bound.specs.task_check.declared.occurrence.Occurrence.{Occurrence}
use Rattle.cost_bound.specs.task_check.declared.symbol.Global.{Global}
use Rattle.cost_bound.specs.task_check.declared.symbol.Local.{Local}
use Rattle.cost_bound.specs.task_check.declared.symbol.Symbol.{Symbol}
use Rattle.cost_bound.specs.task_check.SharedTypes.{shared_type}
use Rattle.cost_bound.specs.task_check.Occurrences.{and_front, function_names, task_names, shared_names, program_names}
use Rattle.cost_bound.specs.task_check.Scope.{text_of, shared_in, functions_in, tasks_in, global_in, local_in, global_with, if_named, stands_in_front}
use Rattle.cost_bound.specs.task_check.LookedUp.{symbol_at}
use Rattle.cost_bound.specs.task_check.Faults.{fault_if, first_fault, is_repeated, is_unknown, name_fault_if, name_fault, use_fault_by, use_fault}
use Rattle.image_map.specs.MapValue.{is_among, are_different}
use Rattle.cost_bound.specs.task_check.declared.occurrence.Role.TheVariants as role
use Rattle.cost_bound.proofs.task_check.Interface.{no_fault, both_none}
use Rattle.source_maps.specs.Names.{HasWords}
use Rattle.source_maps.proofs.Declared.{declared_by, declared}

-- ---- tests

-- ---- one more name that differs from all others

different_more : (before ns : List (List ℕ)) (n : List ℕ) → are_different before ns ≡ true → is_among n (before ++ ns) ≡ false
    → are_different before (ns ++ n ∷ []) ≡ true
different_more before [] n h k =
    let free : is_among n before ≡ false = sym (ap (is_among n) (append-nil before)) ∙ k in
    and_from (not (is_among n before)) true (ap not free) refl
different_more before (x ∷ ns) n h k =
    let p = and_parts (not (is_among x before)) (are_different (before ++ x ∷ []) ns) h in
    and_from (not (is_among x before)) (are_different (before ++ x ∷ []) (ns ++ n ∷ [])) p.0
    (different_more (before ++ x ∷ []) ns n p.1 (ap (is_among n) (append_assoc before (x ∷ []) ns) ∙ k))

among_either : (n : List ℕ) (xs ys : List (List ℕ)) → is_among n (xs ++ ys) ≡ true → (is_among n xs ≡ true) ⊎ (is_among n ys ≡ true)
among_either n [] ys h = inr h
among_either n (x ∷ xs) ys h = go (bytes_eq x n) h (among_either n xs ys)
  where
    go : (b : Bool) → (b || is_among n (xs ++ ys)) ≡ true → (is_among n (xs ++ ys) ≡ true → (is_among n xs ≡ true) ⊎ (is_among n ys ≡ true))
        → ((b || is_among n xs) ≡ true) ⊎ (is_among n ys ≡ true)
    go true h later = inl refl
    go false h later = later h

module _ (source : List ℕ) where
  -- ---- a declared name is found

  -- what is found stands in front
  abbrev StandsBefore : ℕ → Option Global → Type 0
  StandsBefore n None = Unit {0}
  StandsBefore n (Some g) = g.front < n

  either_before : (n : ℕ) (a b : Option Global) → StandsBefore n a → StandsBefore (suc n) b → StandsBefore (suc n) (option_or a b)
  either_before n None b h k = k
  either_before n (Some g) b h k = omega (arith, h)

  own_before : (named : Bool) (r : Role) (n shared functions tasks : ℕ) → StandsBefore (suc n) (if_named named (global_with r n shared functions tasks))
  own_before false r n shared functions tasks = tt
  own_before true (role.Shared of e) n shared functions tasks = omega arith
  own_before true role.Task n shared functions tasks = omega arith
  own_before true (role.Function of count) n shared functions tasks = omega arith
  own_before true (role.Local of begin end extra) n shared functions tasks = tt
  own_before true role.Scalar n shared functions tasks = tt
  own_before true role.Element n shared functions tasks = tt
  own_before true role.Counter n shared functions tasks = tt
  own_before true (role.Call count) n shared functions tasks = tt
  own_before true role.Target n shared functions tasks = tt
  own_before true (role.Operand refused kept) n shared functions tasks = tt

  found_before : (name : List ℕ) (front : List Occurrence) → StandsBefore (length front) (global_in source name front)
  found_before name [] = tt
  found_before name (o ∷ front) =
      either_before (length front) (global_in source name front) _ (found_before name front)
      (own_before (bytes_eq (text_of source o.span) name) o.role (length front) (shared_in front) (functions_in front) (tasks_in front))

  some_first : (a b : Option Global) → is_some a ≡ true → is_some (option_or a b) ≡ true
  some_first None b h = absurd (cc)
  some_first (Some g) b h = refl

  some_second : (a b : Option Global) → is_some b ≡ true → is_some (option_or a b) ≡ true
  some_second None b h = h
  some_second (Some g) b h = refl

  own_found : (r : Role) (text name : List ℕ) (n shared functions tasks : ℕ) → is_among name (declared_by r text) ≡ true
      → is_some (if_named (bytes_eq text name) (global_with r n shared functions tasks)) ≡ true
  own_found (role.Shared of e) text name n shared functions tasks h = by (bytes_eq text name) h
    where
      by : (b : Bool) → (b || false) ≡ true → is_some (if_named b (global_with (role.Shared of e) n shared functions tasks)) ≡ true
      by true h = refl
      by false h = absurd (cc)
  own_found role.Task text name n shared functions tasks h = by (bytes_eq text name) h
    where
      by : (b : Bool) → (b || false) ≡ true → is_some (if_named b (global_with role.Task n shared functions tasks)) ≡ true
      by true h = refl
      by false h = absurd (cc)
  own_found (role.Function of count) text name n shared functions tasks h = absurd (cc)
  own_found (role.Local of begin end extra) text name n shared functions tasks h = absurd (cc)
  own_found role.Scalar text name n shared functions tasks h = absurd (cc)
  own_found role.Element text name n shared functions tasks h = absurd (cc)
  own_found role.Counter text name n shared functions tasks h = absurd (cc)
  own_found (role.Call count) text name n shared functions tasks h = absurd (cc)
  own_found role.Target text name n shared functions tasks h = absurd (cc)
  own_found (role.Operand refused kept) text name n shared functions tasks h = absurd (cc)

  found : (name : List ℕ) (front : List Occurrence) → is_among name (declared source front) ≡ true → is_some (global_in source name front) ≡ true
  found name [] h = absurd (cc)
  found name (o ∷ front) h =
      go (among_either name (declared source front) (declared_by o.role (text_of source o.span)) h) (found name front)
    where
      go : (is_among name (declared source front) ≡ true) ⊎ (is_among name (declared_by o.role (text_of source o.span)) ≡ true)
          → (is_among name (declared source front) ≡ true → is_some (global_in source name front) ≡ true) → is_some (global_in source name (o ∷ front)) ≡ true
      go (inl h) later = some_first (global_in source name front) _ (later h)
      go (inr h) later =
          some_second (global_in source name front) _
          (own_found o.role (text_of source o.span) name (length front) (shared_in front) (functions_in front) (tasks_in front) h)

  -- what is found in front is found in all
  found_behind : (name : List ℕ) (behind front : List Occurrence) → is_some (global_in source name front) ≡ true
      → global_in source name (behind ++ front) ≡ global_in source name front
  found_behind name [] front h = refl
  found_behind name (o ∷ behind) front h = go (global_in source name (behind ++ front)) (global_in source name front) (found_behind name behind front h) h
    where
      go : (a b : Option Global) → a ≡ b → is_some b ≡ true
          → option_or a (if_named (bytes_eq (text_of source o.span) name)
          (global_with o.role (length (behind ++ front)) (shared_in (behind ++ front)) (functions_in (behind ++ front)) (tasks_in (behind ++ front)))) ≡ b
      go None b e h = absurd (let none : is_some b ≡ false = ap is_some (sym e) in cc)
      go (Some g) b e h = e

  stands : (n : ℕ) (o : Option Global) → StandsBefore n o → is_some o ≡ true → stands_in_front n o ≡ true
  stands n None h k = absurd (cc)
  stands n (Some g) h k = grind (arith, nat_tests, h)

  -- ---- names

  -- a declared name that isn't repeated differs from all that are declared in front of it
  fresh : (all behind front : List Occurrence) (name : List ℕ) → all ≡ behind ++ front → stands_in_front (length front) (global_in source name all) ≡ false
      → is_among name (declared source front) ≡ false
  fresh all behind front name e h = go (is_among name (declared source front)) refl
    where
      go : (b : Bool) → is_among name (declared source front) ≡ b → b ≡ false
      go false k = refl
      go true k =
          let some = found name front k in
          let there : stands_in_front (length front) (global_in source name all) ≡ true =
          ap (λ xs. stands_in_front (length front) (global_in source name xs)) e ∙ ap (stands_in_front (length front)) (found_behind name behind front some)
          ∙ stands (length front) (global_in source name front) (found_before name front) some in
          absurd (let no : true ≡ false = sym there ∙ h in cc)

  repeated : (o : Occurrence) (a b : Bool) → name_fault_if source o a b ≡ None → a ≡ false
  repeated o a b h = no_fault a _ (both_none (fault_if a _) (fault_if b _) h).0

  by_role : (r : Role) (text : List ℕ) (ns : List (List ℕ)) (global : Bool) (functions tasks : ℕ) (local : Option Local) → are_different [] ns ≡ true
      → is_repeated r global functions tasks local ≡ false → (global ≡ false → is_among text ns ≡ false) → are_different [] (ns ++ declared_by r text) ≡ true
  by_role (role.Shared of e) text ns global functions tasks local h k free = different_more [] ns text h (free (or_parts global (is_some local) k).0)
  by_role role.Task text ns global functions tasks local h k free = different_more [] ns text h (free (or_parts global (is_some local) k).0)
  by_role (role.Function of count) text ns global functions tasks local h k free = ap (are_different []) (append-nil ns) ∙ h
  by_role (role.Local of begin end extra) text ns global functions tasks local h k free = ap (are_different []) (append-nil ns) ∙ h
  by_role role.Scalar text ns global functions tasks local h k free = ap (are_different []) (append-nil ns) ∙ h
  by_role role.Element text ns global functions tasks local h k free = ap (are_different []) (append-nil ns) ∙ h
  by_role role.Counter text ns global functions tasks local h k free = ap (are_different []) (append-nil ns) ∙ h
  by_role (role.Call count) text ns global functions tasks local h k free = ap (are_different []) (append-nil ns) ∙ h
  by_role role.Target text ns global functions tasks local h k free = ap (are_different []) (append-nil ns) ∙ h
  by_role (role.Operand refused kept) text ns global functions tasks local h k free = ap (are_different []) (append-nil ns) ∙ h

  unrepeated : (all front : List Occurrence) (o : Occurrence) → name_fault source all o front ≡ None
      → is_repeated o.role (stands_in_front (length front) (global_in source (text_of source o.span) all)) (functions_in front) (tasks_in front)
      (local_in source (text_of source o.span) front) ≡ false
  unfolding name_fault
  unrepeated all front o h = repeated o _ (is_unknown o.role (symbol_at source all o front)) h

  pub different : (all behind front : List Occurrence) → all ≡ behind ++ front → first_fault (name_fault source all) front ≡ None
      → are_different [] (declared source front) ≡ true
  different all behind [] e h = refl
  different all behind (o ∷ front) e h =
      let here = unrepeated all front o (both_none (first_fault (name_fault source all) front) (name_fault source all o front) h).1 in
      let rest = (both_none (first_fault (name_fault source all) front) (name_fault source all o front) h).0 in
      let there : all ≡ (behind ++ o ∷ []) ++ front = e ∙ sym (append_assoc behind (o ∷ []) front) in
      by_role o.role (text_of source o.span) (declared source front) _ (functions_in front) (tasks_in front) (local_in source (text_of source o.span) front)
      (different all (behind ++ o ∷ []) front there rest) here
      (λ free. fresh all (behind ++ o ∷ []) front (text_of source o.span) there free)

  -- ---- arrays

  abbrev RoleHasWords : Role → Type 0
  RoleHasWords (role.Shared of e) = HasWords e
  RoleHasWords role.Task = Unit {0}
  RoleHasWords (role.Function of count) = Unit {0}
  RoleHasWords (role.Local of begin end extra) = Unit {0}
  RoleHasWords role.Scalar = Unit {0}
  RoleHasWords role.Element = Unit {0}
  RoleHasWords role.Counter = Unit {0}
  RoleHasWords (role.Call count) = Unit {0}
  RoleHasWords role.Target = Unit {0}
  RoleHasWords (role.Operand refused kept) = Unit {0}

  abbrev pub HaveWords : List Occurrence → Type 0
  HaveWords [] = Unit {0}
  HaveWords (o ∷ front) = RoleHasWords o.role × HaveWords front

  by_extent : (o : Occurrence) (of : WordType) (e : Extent) (s : Option Symbol) → use_fault_by source o (role.Shared of e) s ≡ None → HasWords e
  by_extent o of (extent.Scalar w) s h = tt
  by_extent o of (extent.Long n) s h = tt
  by_extent o of (extent.Array n) s h = λ none. let test : (n == 0) ≡ false = no_fault (n == 0) _ h in grind (arith, nat_tests, test, none)

  by_use : (o : Occurrence) (r : Role) (s : Option Symbol) → use_fault_by source o r s ≡ None → RoleHasWords r
  by_use o (role.Shared of e) s h = by_extent o of e s h
  by_use o role.Task s h = tt
  by_use o (role.Function of count) s h = tt
  by_use o (role.Local of begin end extra) s h = tt
  by_use o role.Scalar s h = tt
  by_use o role.Element s h = tt
  by_use o role.Counter s h = tt
  by_use o (role.Call count) s h = tt
  by_use o role.Target s h = tt
  by_use o (role.Operand refused kept) s h = tt

  used : (all front : List Occurrence) (o : Occurrence) → use_fault source all o front ≡ None → RoleHasWords o.role
  unfolding use_fault
  used all front o h = by_use o o.role (symbol_at source all o front) h

  pub have_words : (all front : List Occurrence) → first_fault (use_fault source all) front ≡ None → HaveWords front
  have_words all [] h = tt
  have_words all (o ∷ front) h = (
    used all front o (both_none (first_fault (use_fault source all) front) (use_fault source all o front) h).1,
    have_words all front (both_none (first_fault (use_fault source all) front) (use_fault source all o front) h).0,
  )

  front_words : (xs : List Occurrence) (o : Occurrence) → HaveWords (xs ++ o ∷ []) → HaveWords xs × RoleHasWords o.role
  front_words [] o h = (tt, h.0)
  front_words (x ∷ xs) o h = let r = front_words xs o h.1 in ((h.0, r.0), r.1)

  shared_words : (ds : List SharedDeclaration) (behind : List Occurrence) → HaveWords (shared_names ds behind) → All (λ d. HasWords d.extent) ds
  shared_words [] behind h = All-nil (λ d. HasWords d.extent)
  shared_words (d ∷ more) behind h =
      let r = front_words (shared_names more behind) (record { span = d.name; role = role.Shared d.word_type d.extent }) h in
      All-cons (λ d. HasWords d.extent) d more r.1 (shared_words more behind r.0)

  pub program_words : (p : Program Span Span Span) → HaveWords (program_names source p) → All (λ d. HasWords d.extent) p.shared
  unfolding program_names
  program_words p h = let types = shared_type source p.shared in
      shared_words p.shared (function_names types p.functions (task_names types p.tasks (and_front [] p.entry role.Target))) h
