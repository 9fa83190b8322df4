-- The statements of each task and each function are well-formed, and their calls have as many values as they should.
use Rattle.std.proofs.Common.{◌≡◌, ℕ, zero, suc, ◌+◌, ◌≤◌, ◌&&◌, not, max, Bool, true, false, List, [], ◌∷◌, ◌++◌, length, map, Some, None, All, refl}
use Rattle.std.proofs.Common.{sym, ap, ap₂, ◌∙◌, subst, append_assoc, append-nil, inl, inr, slice_get, arith}
use Rattle.std.specs.Prelude.{IsSomeAnd, nat_le}
use Rattle.std.proofs.lemmas.List.{length-map}
use Rattle.std.proofs.lemmas.List.Elements.{All-nil, All-cons, All-head, All-tail}
use Rattle.alp_text.specs.declared.lines.Span.{Span}
use Rattle.task_ast.specs.declared.SharedDeclaration.{SharedDeclaration}
use Rattle.task_ast.specs.declared.names.Variable.{Variable}
use Rattle.task_ast.specs.declared.names.Variable.TheVariants.{Shared, Local}
use Rattle.task_ast.specs.declared.names.VariableName.{VariableName}
use Rattle.task_ast.specs.Tree as t
use Rattle.task_ast.specs.Tree.{Expression}
use Rattle.task_ast.specs.Paths.{CheckedFunction, CheckedProgram, CheckedTask, CheckedExpression, CheckedValues, CheckedStatement, CheckedChoice}
use Rattle.task_ast.specs.Paths.{CheckedBlock, CheckedParameter}
use Rattle.path_checks.specs.Firsts.{SomeFunction, SomeTask}
use Rattle.path_checks.specs.Loops.{is_same_local, is_good_loop, block_assigns, BadLoopInStatement, BadLoopInChoice, BadLoopIn}
use Rattle.task_check.specs.declared.occurrence.Role.{Role}
use Rattle.task_check.specs.declared.occurrence.Role.TheVariants as role
use Rattle.task_check.specs.declared.occurrence.Occurrence.{Occurrence}
use Rattle.task_check.specs.declared.symbol.TypedVariable.{TypedVariable}
use Rattle.task_check.specs.declared.symbol.TypedFunction.{TypedFunction}
use Rattle.task_ast.specs.declared.WordType.{WordType}
use Rattle.task_ast.specs.Types.{is_long, joined_type, type_of}
use Rattle.task_check.specs.declared.fault.Kept.TheVariants as kept
use Rattle.task_check.specs.SharedTypes.{shared_type}
use Rattle.task_check.specs.Occurrences.{width_type, operator_role, count_role, keyword_role, element_front, and_front, expression_names, values_names}
use Rattle.task_check.specs.Occurrences.{values_length, statement_names, choice_names, names_up_to, parameter_names, inner_names, function_names}
use Rattle.task_check.specs.Occurrences.{task_names, shared_names, program_names}
use Rattle.task_check.specs.LookedUp.{expression_back, values_back, statement_back, choice_back, block_back, parameter_back, function_back, task_back}
use Rattle.task_check.specs.LookedUp.{expression_variables, values_variables, statement_variables, choice_variables, block_variables, parameter_variables}
use Rattle.task_check.specs.LookedUp.{function_variables, task_variables, program_variables, expression_calls, values_calls, statement_calls, choice_calls}
use Rattle.task_check.specs.LookedUp.{block_calls, function_calls, task_calls, program_calls}
use Rattle.task_check.specs.LookedUp.{calls_in}
use Rattle.task_check.specs.Scope.{locals_after}
use Rattle.cost_bound.specs.Frames.{statement_locals, choice_locals, block_locals}
use Rattle.source_meaning.specs.Acceptance.{Checks}
use Rattle.checked_trees.specs.WellFormed.{IsWordName, IsLocal, stack_words, value_words, enough, HasRoom, WellFormedExpression, WellFormedValues}
use Rattle.checked_trees.specs.WellFormed.{WellFormedStatement, WellFormedChoice, WellFormedBlock, values_in, HasParameters, ExpressionCounts, ValuesCount}
use Rattle.checked_trees.specs.WellFormed.{StatementCounts, ChoiceCounts, BlockCounts, IsBelow, ExpressionNames, ValuesName, StatementNames, ChoiceNames}
use Rattle.checked_trees.specs.WellFormed.{BlockNames}
use Rattle.checked_trees.proofs.Tokens.{are_sound}
use Rattle.checked_trees.proofs.Declared.{Functions, program_declared}
use Rattle.checked_trees.proofs.Grammar.{ProgramFits, program_fits, program_typed}
use Rattle.checked_trees.proofs.Fits.{IsOfWords, AreOfWords, StatementFits, ChoiceFits, BlockFits, FunctionFits}
use Rattle.checked_trees.proofs.Scopes.{program_closed}
use Rattle.checked_trees.proofs.Walk.{array, named, operands, use_of, locals_from, uses_from, AreUsed, AreClean, names_used}
use Rattle.checked_trees.proofs.Widths.{IsAsWide, word_is_as_wide, one_word_of, joined_as_wide, unary_as_wide, binary_as_wide, not_refused}

locals_append : (n : ℕ) (xs ys : List Occurrence) → locals_from n (xs ++ ys) ≡ locals_from (locals_from n ys) xs
locals_append n [] ys = refl
locals_append n (o ∷ xs) ys = ap (λ m. locals_after m o.role) (locals_append n xs ys)

uses_append : (n : ℕ) (xs ys : List Occurrence) → uses_from n (xs ++ ys) ≡ uses_from n ys ++ uses_from (locals_from n ys) xs
uses_append n [] ys = sym (append-nil (uses_from n ys))
uses_append n (o ∷ xs) ys =
    let later = locals_from n ys in
    ap (λ l. l ++ use_of o.span o.role (locals_from n (xs ++ ys))) (uses_append n xs ys)
    ∙ ap (λ m. (uses_from n ys ++ uses_from later xs) ++ use_of o.span o.role m) (locals_append n xs ys)
    ∙ append_assoc (uses_from n ys) (uses_from later xs) (use_of o.span o.role (locals_from later xs))

-- one more name in front
front_uses : (n : ℕ) (behind : List Occurrence) (s : Span) (r : Role)
    → uses_from n (and_front behind s r) ≡ use_of s r n ++ uses_from (locals_after n r) behind
front_uses n behind s r = uses_append n behind (record { span = s; role = r } ∷ [])

mutual
  -- the names that are looked up change nothing on the stack
  same_words : (e : CheckedExpression) → stack_words (expression_back e) ≡ stack_words e
  same_words (t.number w) = refl
  same_words (t.long_number w) = refl
  same_words (t.name x) = refl
  same_words (t.element x index) = same_words index
  same_words t.sense = refl
  same_words t.next_event = refl
  same_words (t.call f values) = ap (max 2) (same_value_words values)
  same_words (t.unary op e) = ap (λ n. n + 2) (same_words e)
  same_words (t.binary op a b) = ap₂ (λ m n. max m (n + 2)) (same_words a) (same_words b)
  same_words (t.shift op e count) = same_words e
  same_words (t.short_circuit op a b) = ap₂ max (same_words a) (same_words b)

  same_value_words : (values : CheckedValues) → value_words (values_back values) ≡ value_words values
  same_value_words t.no_value = refl
  same_value_words (t.value e more) = ap₂ (λ m n. max m (n + 1)) (same_words e) (same_value_words more)

has_room : (beneath : ℕ) (e : CheckedExpression) → HasRoom beneath (expression_back e) → HasRoom beneath e
has_room beneath e h = subst (λ n. n + beneath ≤ enough) (same_words e) h

-- nor do they change how many values a call has
same_count : (values : CheckedValues) → values_length (values_back values) ≡ values_in values
same_count t.no_value = refl
same_count (t.value e more) = ap suc (same_count more)

back_count : (values : CheckedValues) → values_in (values_back values) ≡ values_in values
back_count t.no_value = refl
back_count (t.value e more) = ap suc (back_count more)

-- a function has as many parameters as in the text
has_parameters : (fs : List CheckedFunction) (k count : ℕ) → IsSomeAnd (slice_get (map function_back fs) k) (λ f. length f.parameters ≡ count)
    → HasParameters fs k count
has_parameters [] k count h = h
has_parameters (f ∷ fs) zero count h = sym (length-map f.parameters parameter_back) ∙ h
has_parameters (f ∷ fs) (suc k) count h = has_parameters fs k count h

-- the statements, the calls and the locals of a body, which has so many
pub record IsFormed (shared : List SharedDeclaration) (fs : List CheckedFunction) (locals : ℕ) (b : CheckedBlock) : Type 0 where
  pub formed : WellFormedBlock shared b
  pub counts : BlockCounts fs b
  pub names : BlockNames locals b

-- of a task, and of a function
abbrev pub TaskFormed : List SharedDeclaration → List CheckedFunction → CheckedTask → Type 0
TaskFormed shared fs task = IsFormed shared fs (block_locals task.body) task.body

abbrev pub FunctionFormed : List SharedDeclaration → List CheckedFunction → CheckedFunction → Type 0
FunctionFormed shared fs f = IsFormed shared fs (length f.parameters + block_locals f.body) f.body

-- a local among fewer
among : (n own : ℕ) (x : Variable) → n ≤ own → IsBelow n x → IsBelow own x
among n own (Shared v) l h = tt
among n own (Local k) l h = omega (arith, l, h)

module _ (shared : List SharedDeclaration) (fs : List CheckedFunction) (types : Span → WordType) where
  abbrev functions : Functions
  functions = map function_back fs

  -- the uses of these names, in front of which so many locals are declared
  abbrev Used : ℕ → List Occurrence → List TypedVariable → List TypedFunction → Type 0
  Used n behind vs cs = AreUsed shared functions types (uses_from n behind) vs cs

  -- the first of these names and the others, by the uses of the names
  step_front : (n : ℕ) (behind : List Occurrence) (s : Span) (r : Role) (vs : List TypedVariable) (cs : List TypedFunction)
      → Used n (and_front behind s r) vs cs
      → AreUsed shared functions types (use_of s r n ++ uses_from (locals_after n r) behind) vs cs
  step_front n behind s r vs cs h = subst (λ us. AreUsed shared functions types us vs cs) (front_uses n behind s r) h

  -- an array's name, its index and the names behind it
  element_split : (n : ℕ) (s : Span) (index : Expression Span Span) (behind : List Occurrence) (vs : List TypedVariable) (cs : List TypedFunction)
      → Used n (element_front types s index behind) vs cs
      → AreUsed shared functions types (named array s n ∷ operands (is_long (width_type types index)) ∷ uses_from n behind) vs cs
  element_split n s index behind vs cs h =
      let here = role.Operand (is_long (width_type types index)) (kept.Name s) in
      subst (λ us. AreUsed shared functions types (named array s n ∷ us) vs cs) (front_uses n behind s here)
      (step_front n (and_front behind s here) s role.Element vs cs h)

  -- the type of an expression is as wide as the checks take it to be
  abbrev IsTyped : CheckedExpression → Type 0
  IsTyped e = IsAsWide (type_of e) (width_type types (expression_back e))

  -- what is known of an expression in a body of so many locals, and what is behind it
  record SplitExpression (own n : ℕ) (e : CheckedExpression) (behind : List Occurrence) (vs : List TypedVariable) (cs : List TypedFunction) : Type 0 where
    formed : WellFormedExpression shared e
    counts : ExpressionCounts fs e
    names : ExpressionNames own e
    typed : IsTyped e
    rest : Used n behind vs cs

  record SplitValues (own n : ℕ) (values : CheckedValues) (behind : List Occurrence) (vs : List TypedVariable) (cs : List TypedFunction) : Type 0 where
    formed : WellFormedValues shared values
    counts : ValuesCount fs values
    names : ValuesName own values
    rest : Used n behind vs cs

  module _ (own n : ℕ) (low : n ≤ own) where
    mutual
      -- an expression of words, by the uses of its names
      expression_split : (e : CheckedExpression) (behind : List Occurrence) (vs : List TypedVariable) (cs : List TypedFunction)
          → IsOfWords (expression_back e) → Used n (expression_names types (expression_back e) behind) (expression_variables e vs) (expression_calls e cs)
          → SplitExpression own n e behind vs cs
      expression_split (t.number w) behind vs cs is h = record { formed = is; counts = tt; names = tt; typed = λ e. e; rest = h }
      expression_split (t.long_number w) behind vs cs is h = record { formed = is; counts = tt; names = tt; typed = λ e. e; rest = h }
      expression_split (t.name v) behind vs cs is h =
          let a = step_front n behind v.span role.Scalar _ _ h in
          record { formed = (a.0.0, a.0.1); counts = tt; names = among n own v.variable low a.0.3; typed = a.0.2; rest = a.1 }
      expression_split (t.element v index) behind vs cs is h =
          let inner = expression_back index in
          let a = element_split n v.span inner (expression_names types inner behind) _ _ h in
          let b = expression_split index behind vs cs is a.1.1 in
          let word = one_word_of (type_of index) (width_type types inner) b.typed a.1.0 in
          record { formed = (a.0.0, b.formed, a.0.1, word); counts = b.counts; names = b.names; typed = a.0.2; rest = b.rest }
      expression_split t.sense behind vs cs is h = record { formed = tt; counts = tt; names = tt; typed = λ e. e; rest = h }
      expression_split t.next_event behind vs cs is h = record { formed = tt; counts = tt; names = tt; typed = λ e. e; rest = h }
      expression_split (t.call f values) behind vs cs is h =
          let given = values_back values in
          let a = step_front n (values_names types given behind) f.span (role.Call (values_length given)) _ _ h in
          let v = values_split values behind vs cs is.0 a.1 in
          let counts =
          subst (λ m. IsSomeAnd (slice_get functions f.function) (λ g. length g.parameters ≡ m)) (same_count values) a.0.counts in
          record {
            formed = (a.0.word, v.formed, subst (λ m. m ≤ 256) (back_count values) is.1);
            counts = (has_parameters fs f.function (values_in values) counts, v.counts);
            names = v.names;
            typed = word_is_as_wide f.word_type (width_type types (t.call f.span given)) a.0.word;
            rest = v.rest;
          }
      expression_split (t.unary op a) behind vs cs is h =
          let x = expression_split a behind vs cs is h in
          record {
            formed = x.formed;
            counts = x.counts;
            names = x.names;
            typed = unary_as_wide op (type_of a) (width_type types (expression_back a)) x.typed;
            rest = x.rest;
          }
      expression_split (t.binary op a b) behind vs cs is h =
          let s = width_type types (expression_back a) in
          let u = width_type types (expression_back b) in
          let here = operator_role op.operator (joined_type s u) in
          let second = expression_names types (expression_back b) behind in
          let l = expression_split a (and_front second op.span here) (expression_variables b vs) (expression_calls b cs) is.0 h in
          let m = step_front n second op.span here _ _ l.rest in
          let r = expression_split b behind vs cs is.1 m.1 in
          let wide = joined_as_wide (type_of a) (type_of b) s u l.typed r.typed in
          record {
            formed = (l.formed, r.formed, not_refused op.operator (joined_type (type_of a) (type_of b)) (joined_type s u) wide m.0);
            counts = (l.counts, r.counts);
            names = (l.names, r.names);
            typed = binary_as_wide op.operator (type_of a) (type_of b) s u l.typed r.typed;
            rest = r.rest;
          }
      expression_split (t.shift op a count) behind vs cs is h =
          let here = count_role count.value (width_type types (expression_back a)) in
          let l = expression_split a (and_front behind count.span here) vs cs is.0 h in
          let behind_count = step_front n behind count.span here vs cs l.rest in
          record { formed = (l.formed, is.1); counts = l.counts; names = l.names; typed = l.typed; rest = behind_count.1 }
      expression_split (t.short_circuit op a b) behind vs cs is h =
          let second = expression_names types (expression_back b) behind in
          let l = expression_split a second (expression_variables b vs) (expression_calls b cs) is.0 h in
          let r = expression_split b behind vs cs is.1 l.rest in
          record { formed = (l.formed, r.formed); counts = (l.counts, r.counts); names = (l.names, r.names); typed = λ e. e; rest = r.rest }

      values_split : (values : CheckedValues) (behind : List Occurrence) (vs : List TypedVariable) (cs : List TypedFunction)
          → AreOfWords (values_back values) → Used n (values_names types (values_back values) behind) (values_variables values vs) (values_calls values cs)
          → SplitValues own n values behind vs cs
      values_split t.no_value behind vs cs is h = record { formed = tt; counts = tt; names = tt; rest = h }
      values_split (t.value e more) behind vs cs is h =
          let second = values_names types (values_back more) behind in
          let x = expression_split e second (values_variables more vs) (values_calls more cs) is.0 h in
          let y = values_split more behind vs cs is.1 x.rest in
          record { formed = (x.formed, y.formed); counts = (x.counts, y.counts); names = (x.names, y.names); rest = y.rest }

  -- the variable of a loop that is no bad one is a local
  loop_local : (a b c : VariableName) (body : CheckedBlock) → (is_good_loop a b c body ≡ false → ⊥) → IsWordName shared a.variable → IsLocal a.variable
  loop_local a b c body none h = by a.variable b.variable c.variable (block_assigns a.variable body) none h
    where
      by : (x y z : Variable) (k : Bool) → (((is_same_local x y && is_same_local x z) && not k) ≡ false → ⊥) → IsWordName shared x → IsLocal x
      by (Shared n) y z k none h = absurd (none refl)
      by (Local n) y z k none h = h

  -- which its body leaves alone
  body_spares : (a b c : VariableName) (body : CheckedBlock) → (is_good_loop a b c body ≡ false → ⊥) → block_assigns a.variable body ≡ false
  body_spares a b c body none =
      by (is_same_local a.variable b.variable && is_same_local a.variable c.variable) (block_assigns a.variable body) none
    where
      by : (x k : Bool) → ((x && not k) ≡ false → ⊥) → k ≡ false
      by true true none = absurd (none refl)
      by false true none = absurd (none refl)
      by x false none = refl

  -- what is known of a statement in front of which so many locals are declared, and what is behind it and the locals that it declares
  record SplitStatement (own n : ℕ) (s : CheckedStatement) (behind : List Occurrence) (vs : List TypedVariable) (cs : List TypedFunction) : Type 0 where
    formed : WellFormedStatement shared s
    counts : StatementCounts fs s
    names : StatementNames own s
    after : ℕ
    after_is : after ≡ n + statement_locals s
    rest : Used after behind vs cs

  record SplitChoice (own n : ℕ) (c : CheckedChoice) (behind : List Occurrence) (vs : List TypedVariable) (cs : List TypedFunction) : Type 0 where
    formed : WellFormedChoice shared c
    counts : ChoiceCounts fs c
    names : ChoiceNames own c
    after : ℕ
    after_is : after ≡ n + choice_locals c
    rest : Used after behind vs cs

  record SplitBlock (own n : ℕ) (b : CheckedBlock) (behind : List Occurrence) (vs : List TypedVariable) (cs : List TypedFunction) : Type 0 where
    formed : WellFormedBlock shared b
    counts : BlockCounts fs b
    names : BlockNames own b
    after : ℕ
    after_is : after ≡ n + block_locals b
    rest : Used after behind vs cs

  module _ (in_task : Bool) (own : ℕ) where
    mutual
      statement_split : (n end : ℕ) (x : CheckedStatement) (behind : List Occurrence) (vs : List TypedVariable) (cs : List TypedFunction)
          → n + statement_locals x ≤ own → StatementFits (statement_back x) → ((s : Span) → BadLoopInStatement x s → ⊥)
          → Used n (statement_names types in_task end (statement_back x) behind) (statement_variables x vs) (statement_calls x cs)
          → SplitStatement own n x behind vs cs
      statement_split n end (t.declare of v None) behind vs cs low f none h =
          let a = step_front n behind v.span (role.Local of (length behind) end false) _ _ h in
          record { formed = a.0.0; counts = tt; names = (among (n + 1) own v.variable low a.0.3, tt); after = n + 1; after_is = refl; rest = a.1 }
      statement_split n end (t.declare of v (Some e)) behind vs cs low f none h =
          let a = step_front n (expression_names types (expression_back e) behind) v.span (role.Local of (length behind) end false) _ _ h in
          let b = expression_split own (n + 1) low e behind vs cs f.1.0 a.1 in
          record {
            formed = (a.0.0, b.formed, a.0.1, has_room 0 e f.1.1);
            counts = b.counts;
            names = (among (n + 1) own v.variable low a.0.3, b.names);
            after = n + 1;
            after_is = refl;
            rest = b.rest;
          }
      statement_split n end (t.assign v e) behind vs cs low f none h =
          let few : n ≤ own = omega (arith, low) in
          let a = step_front n (expression_names types (expression_back e) behind) v.span role.Scalar _ _ h in
          let b = expression_split own n few e behind vs cs f.0 a.1 in
          record {
            formed = (a.0.0, b.formed, a.0.1, has_room 0 e f.1);
            counts = b.counts;
            names = (among n own v.variable few a.0.3, b.names);
            after = n;
            after_is = omega arith;
            rest = b.rest;
          }
      statement_split n end (t.store v index e) behind vs cs low f none h =
          let few : n ≤ own = omega (arith, low) in
          let inner = expression_back index in
          let second = expression_names types (expression_back e) behind in
          let a = element_split n v.span inner (expression_names types inner second) _ _ h in
          let b = expression_split own n few index second (expression_variables e vs) (expression_calls e cs) f.0.0 a.1.1 in
          let d = expression_split own n few e behind vs cs f.1.0 b.rest in
          let word = one_word_of (type_of index) (width_type types inner) b.typed a.1.0 in
          record {
            formed = (a.0.0, b.formed, d.formed, word, has_room 0 index f.0.1, has_room 1 e f.1.1);
            counts = (b.counts, d.counts);
            names = (b.names, d.names);
            after = n;
            after_is = omega arith;
            rest = d.rest;
          }
      statement_split n end (t.choose choice) behind vs cs low f none h =
          let a = choice_split n choice behind vs cs low f none h in
          record { formed = a.formed; counts = a.counts; names = a.names; after = a.after; after_is = a.after_is; rest = a.rest }
      statement_split n end (t.loop v from w below u body) behind vs cs low f none h =
          let few : n ≤ own = omega (arith, low) in
          let inner = names_up_to types in_task (length behind) (block_back body) behind in
          let a = step_front n (and_front (and_front inner u.span role.Counter) w.span role.Counter) v.span role.Counter _ _ h in
          let b = step_front n (and_front inner u.span role.Counter) w.span role.Counter _ _ a.1 in
          let l = step_front n inner u.span role.Counter _ _ b.1 in
          let d = block_split n (length behind) body behind vs cs low f.0 (λ s x. none s (inr x)) l.1 in
          let good : is_good_loop v w u body ≡ false → ⊥ = λ e. none v.span (inl (refl, e)) in
          record {
            formed = (loop_local v w u body good a.0.0, d.formed, f.1, f.2, body_spares v w u body good);
            counts = d.counts;
            names = (among n own v.variable few a.0.3, d.names);
            after = d.after;
            after_is = d.after_is;
            rest = d.rest;
          }
      statement_split n end (t.emit e) behind vs cs low f none h =
          let few : n ≤ own = omega (arith, low) in
          let a = expression_split own n few e behind vs cs f.0 h in
          record { formed = (a.formed, has_room 0 e f.1); counts = a.counts; names = a.names; after = n; after_is = omega arith; rest = a.rest }
      statement_split n end (t.give at e) behind vs cs low f none h =
          let few : n ≤ own = omega (arith, low) in
          let a = step_front n (expression_names types (expression_back e) behind) at (keyword_role in_task) _ _ h in
          let b = expression_split own n few e behind vs cs f.0 a.1 in
          record { formed = (b.formed, has_room 0 e f.1); counts = b.counts; names = b.names; after = n; after_is = omega arith; rest = b.rest }
      statement_split n end (t.transition at k) behind vs cs low f none h =
          let a = step_front n (and_front behind k.span role.Target) at (keyword_role (not in_task)) vs cs h in
          let b = step_front n behind k.span role.Target vs cs a.1 in
          record { formed = tt; counts = tt; names = tt; after = n; after_is = omega arith; rest = b }

      choice_split : (n : ℕ) (choice : CheckedChoice) (behind : List Occurrence) (vs : List TypedVariable) (cs : List TypedFunction)
          → n + choice_locals choice ≤ own → ChoiceFits (choice_back choice) → ((s : Span) → BadLoopInChoice choice s → ⊥)
          → Used n (choice_names types in_task (choice_back choice) behind) (choice_variables choice vs) (choice_calls choice cs)
          → SplitChoice own n choice behind vs cs
      choice_split n t.nothing behind vs cs low f none h =
          record { formed = tt; counts = tt; names = tt; after = n; after_is = omega arith; rest = h }
      choice_split n (t.otherwise b) behind vs cs low f none h =
          let a = block_split n (length behind) b behind vs cs low f none h in
          record { formed = a.formed; counts = a.counts; names = a.names; after = a.after; after_is = a.after_is; rest = a.rest }
      choice_split n (t.test e b more) behind vs cs low f none h =
          let few : n ≤ own = omega (arith, low) in
          let rest = choice_names types in_task (choice_back more) behind in
          let other_variables = block_variables b (choice_variables more vs) in
          let other_calls = block_calls b (choice_calls more cs) in
          let x = expression_split own n few e (names_up_to types in_task (length rest) (block_back b) rest) other_variables other_calls f.0.0 h in
          let first : n + block_locals b ≤ own = omega (arith, low) in
          let y = block_split n (length rest) b rest (choice_variables more vs) (choice_calls more cs) first f.1 (λ s i. none s (inl i)) x.rest in
          let at = y.after_is in
          let second : y.after + choice_locals more ≤ own = omega (arith, low, at) in
          let z = choice_split y.after more behind vs cs second f.2 (λ s i. none s (inr i)) y.rest in
          let end = z.after_is in
          record {
            formed = (x.formed, y.formed, z.formed, has_room 0 e f.0.1);
            counts = (x.counts, y.counts, z.counts);
            names = (x.names, y.names, z.names);
            after = z.after;
            after_is = omega (arith, at, end);
            rest = z.rest;
          }

      block_split : (n end : ℕ) (b : CheckedBlock) (behind : List Occurrence) (vs : List TypedVariable) (cs : List TypedFunction)
          → n + block_locals b ≤ own → BlockFits (block_back b) → ((s : Span) → BadLoopIn b s → ⊥)
          → Used n (names_up_to types in_task end (block_back b) behind) (block_variables b vs) (block_calls b cs)
          → SplitBlock own n b behind vs cs
      block_split n end t.end behind vs cs low f none h =
          record { formed = tt; counts = tt; names = tt; after = n; after_is = omega arith; rest = h }
      block_split n end (t.step x more) behind vs cs low f none h =
          let rest = names_up_to types in_task end (block_back more) behind in
          let first : n + statement_locals x ≤ own = omega (arith, low) in
          let a = statement_split n end x rest (block_variables more vs) (block_calls more cs) first f.0 (λ s i. none s (inl i)) h in
          let at = a.after_is in
          let second : a.after + block_locals more ≤ own = omega (arith, low, at) in
          let b = block_split a.after end more behind vs cs second f.1 (λ s i. none s (inr i)) a.rest in
          let last = b.after_is in
          record {
            formed = (a.formed, b.formed);
            counts = (a.counts, b.counts);
            names = (a.names, b.names);
            after = b.after;
            after_is = omega (arith, at, last);
            rest = b.rest;
          }

  tasks_split : (n : ℕ) (ks : List CheckedTask) (behind : List Occurrence) (vs : List TypedVariable) (cs : List TypedFunction)
      → All (λ task. BlockFits task.body) (map task_back ks) → ((s : Span) → SomeTask ks (λ task. BadLoopIn task.body s) → ⊥)
      → Used n (task_names types (map task_back ks) behind) (task_variables ks vs) (task_calls ks cs)
      → All (TaskFormed shared fs) ks
  tasks_split n [] behind vs cs f none h = All-nil (TaskFormed shared fs)
  tasks_split n (k ∷ more) behind vs cs f none h =
      let own = block_locals k.body in
      let rest = task_names types (map task_back more) behind in
      let here = All-head (λ task. BlockFits task.body) (task_back k) (map task_back more) f in
      let others = All-tail (λ task. BlockFits task.body) (task_back k) (map task_back more) f in
      let a = step_front n (names_up_to types true (length rest) (block_back k.body) rest) k.name role.Task _ _ h in
      let b =
      block_split true own 0 (length rest) k.body rest (task_variables more vs) (task_calls more cs) (omega arith) here (λ s i. none s (inl i)) a in
      All-cons (TaskFormed shared fs) k more (record { formed = b.formed; counts = b.counts; names = b.names })
      (tasks_split b.after more behind vs cs others (λ s i. none s (inr i)) b.rest)

  -- parameters declare locals
  record SplitParameters (n : ℕ) (ps : List CheckedParameter) (behind : List Occurrence) (vs : List TypedVariable) (cs : List TypedFunction) : Type 0 where
    after : ℕ
    after_is : after ≡ n + length ps
    rest : Used after behind vs cs

  parameters_split : (n end at : ℕ) (ps : List CheckedParameter) (behind : List Occurrence) (vs : List TypedVariable) (cs : List TypedFunction)
      → Used n (parameter_names end at (map parameter_back ps) behind) (parameter_variables ps vs) cs → SplitParameters n ps behind vs cs
  parameters_split n end at [] behind vs cs h = record { after = n; after_is = omega arith; rest = h }
  parameters_split n end at (p ∷ more) behind vs cs h =
      let rest = parameter_names end (suc at) (map parameter_back more) behind in
      let a = step_front n rest p.name.span (role.Local p.word_type (length rest) end (nat_le 8 at)) _ _ h in
      let b = parameters_split (n + 1) end (suc at) more behind vs cs a.1 in
      let last = b.after_is in
      record { after = b.after; after_is = omega (arith, last); rest = b.rest }

  record SplitFunctions (gs : List CheckedFunction) (behind : List Occurrence) (vs : List TypedVariable) (cs : List TypedFunction) : Type 0 where
    formed : All (FunctionFormed shared fs) gs
    after : ℕ
    rest : Used after behind vs cs

  functions_split : (n : ℕ) (gs : List CheckedFunction) (behind : List Occurrence) (vs : List TypedVariable) (cs : List TypedFunction)
      → All FunctionFits (map function_back gs) → ((s : Span) → SomeFunction gs (λ f. BadLoopIn f.body s) → ⊥)
      → Used n (function_names types (map function_back gs) behind) (function_variables gs vs) (function_calls gs cs)
      → SplitFunctions gs behind vs cs
  functions_split n [] behind vs cs f none h = record { formed = All-nil (FunctionFormed shared fs); after = n; rest = h }
  functions_split n (g ∷ more) behind vs cs f none h =
      let own = length g.parameters + block_locals g.body in
      let rest = function_names types (map function_back more) behind in
      let body = names_up_to types false (length rest) (block_back g.body) rest in
      let here = All-head FunctionFits (function_back g) (map function_back more) f in
      let others = All-tail FunctionFits (function_back g) (map function_back more) f in
      let vars = function_variables more vs in
      let calls = function_calls more cs in
      let a =
      step_front n (inner_names types (function_back g) rest) g.name (role.Function g.word_type (length (map parameter_back g.parameters))) _ _ h in
      let p = parameters_split 0 (length rest) 0 g.parameters body (block_variables g.body vars) (block_calls g.body calls) a in
      let at = p.after_is in
      let low : p.after + block_locals g.body ≤ own = omega (arith, at) in
      let b = block_split false own p.after (length rest) g.body rest vars calls low here.body (λ s i. none s (inl i)) p.rest in
      let z = functions_split b.after more behind vs cs others (λ s i. none s (inr i)) b.rest in
      record {
        formed = All-cons (FunctionFormed shared fs) g more (record { formed = b.formed; counts = b.counts; names = b.names }) z.formed;
        after = z.after;
        rest = z.rest;
      }

-- shared variables declare no locals
shared_uses : (ds : List SharedDeclaration) (behind : List Occurrence) → uses_from 0 (shared_names ds behind) ≡ uses_from 0 behind
shared_uses [] behind = refl
shared_uses (d ∷ more) behind = front_uses 0 (shared_names more behind) d.name (role.Shared d.word_type d.extent) ∙ shared_uses more behind

-- the bodies of each task and each function
pub record BodiesFormed (p : CheckedProgram) : Type 0 where
  pub tasks : All (TaskFormed p.shared p.functions) p.tasks
  pub functions : All (FunctionFormed p.shared p.functions) p.functions

-- those of a source that no check refuses are well-formed
pub bodies_are_formed : (text : List ℕ) (program : CheckedProgram) → Checks text program → BodiesFormed program
unfolding program_names
bodies_are_formed text p checks =
    let tree = checks.tree in
    let h = checks.checks in
    let e = h.named.looked_up.places in
    let names = program_names text tree in
    let clean : AreClean text names names = record { names = h.named.names; uses = h.named.uses; limits = h.limits } in
    let words = checks.parses.words in
    let fits = program_fits words tree checks.parses.grammar (are_sound text words checks.parses.lexes) in
    let declared = program_declared text tree (program_typed words tree checks.parses.grammar) fits in
    let closes = program_closed text tree fits in
    let used = names_used text tree.shared tree.functions names names 0 declared declared clean closes (omega arith) in
    let tree_types = shared_type text tree.shared in
    let tree_calls = calls_in text names names in
    let by_variables =
    subst (λ vs. AreUsed tree.shared tree.functions tree_types (uses_from 0 names) vs tree_calls) (sym h.named.looked_up.variables) used in
    let by_calls =
    subst (λ cs. AreUsed tree.shared tree.functions tree_types (uses_from 0 names) (program_variables p) cs) (sym h.named.looked_up.calls) by_variables in
    let back = subst (λ q. AreUsed q.shared q.functions (shared_type text q.shared) (uses_from 0 (program_names text q)) (program_variables p)
    (program_calls p)) (sym e) by_calls in
    let types = shared_type text p.shared in
    let entry = and_front [] p.entry.span role.Target in
    let task_part = task_names types (map task_back p.tasks) entry in
    let function_part = function_names types (map function_back p.functions) task_part in
    let inner = subst (λ us. AreUsed p.shared (map function_back p.functions) types us (program_variables p) (program_calls p))
    (shared_uses p.shared function_part) back in
    let own_fits = subst (λ q. ProgramFits q) (sym e) fits in
    let functions = functions_split p.shared p.functions types 0 p.functions task_part (task_variables p.tasks []) (task_calls p.tasks [])
    own_fits.functions (λ s x. h.paths.loops s (inl x)) inner in
    record {
      tasks =
          tasks_split p.shared p.functions types functions.after p.tasks entry [] [] own_fits.tasks (λ s x. h.paths.loops s (inr x)) functions.rest;
      functions = functions.formed;
    }
