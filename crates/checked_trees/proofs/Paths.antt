-- Paths: each part of a task or a function has one, where the functions that it calls are taken as ones that return at once; and what a path leaves
-- unassigned.
use Rattle.std.proofs.Common.{◌≡◌, ◌≤◌, ℕ, zero, suc, ◌-◌, Bool, true, false, not, nat_lt, List, [], ◌∷◌, ◌++◌, length, map, Some, None, refl, sym, ap}
use Rattle.std.proofs.Common.{subst, ◌∙◌, if◌then◌else◌}
use Rattle.std.proofs.lemmas.List.{append-nil}
use Rattle.alp_text.specs.declared.lines.Span.{Span}
use Rattle.task_ast.specs.Tree as t
use Rattle.task_ast.specs.Paths.{CheckedFunction, CheckedExpression, CheckedValues, CheckedStatement, CheckedChoice, CheckedBlock, Access, read, write, unset}
use Rattle.task_ast.specs.Paths.{End, goes_on, goes_to, returns}
use Rattle.task_ast.specs.Paths.{ExpressionPath, ValuesPath, StatementPath, ChoicePath, TurnsPath, BlockPath}
use Rattle.task_ast.specs.Paths as path
use Rattle.task_ast.specs.Calls.{CallsAreBelow, ValuesCallBelow, StatementCallsBelow, ChoiceCallsBelow, BlockCallsBelow}
use Rattle.task_ast.specs.declared.names.Variable.{Variable}
use Rattle.task_ast.specs.declared.names.Variable.TheVariants.{Shared, Local}
use Rattle.task_ast.specs.declared.names.VariableName.{VariableName}
use Rattle.cost_bound.specs.path_sums.Reaches.{at_once}
use Rattle.path_checks.specs.Loops.{is_local}
use Rattle.path_checks.specs.Unassigned.{is_unassigned, ReadsUnassigned}
use Rattle.war_analysis.proofs.Interface.{returns_at_once}

-- ---- each part has a path

abbrev mutual
  -- the names of an expression, on the path that evaluates both sides of each `&&` and `||`; what a call reads are its values
  pub names_read : CheckedExpression → List Access
  names_read (t.number w) = []
  names_read (t.long_number w) = []
  names_read (t.name x) = read x ∷ []
  names_read (t.element x index) = names_read index ++ read x ∷ []
  names_read t.sense = []
  names_read t.next_event = []
  names_read (t.call f values) = values_read values
  names_read (t.unary op e) = names_read e
  names_read (t.binary op a b) = names_read a ++ names_read b
  names_read (t.shift op e count) = names_read e
  names_read (t.short_circuit op a b) = names_read a ++ names_read b

  pub values_read : CheckedValues → List Access
  values_read t.no_value = []
  values_read (t.value e more) = names_read e ++ values_read more

-- some path, with its end
pub record HasPath (Path : List Access → End → Type 0) : Type 0 where
  pub accesses : List Access
  pub end : End
  pub is : Path accesses end

some : (Path : List Access → End → Type 0) (xs : List Access) (end : End) → Path xs end → HasPath Path
some Path xs end p = record { accesses = xs; end = end; is = p }

-- of functions, and calls of the first n of them alone
module _ (functions : List CheckedFunction) (n : ℕ) (few : n ≤ length functions) where
  -- the functions as ones that return at once
  abbrev direct : List CheckedFunction
  direct = map at_once functions

  mutual
    pub is_path : (e : CheckedExpression) → CallsAreBelow n e → ExpressionPath direct e (names_read e)
    is_path (t.number w) calls = path.number w
    is_path (t.long_number w) calls = path.long_number w
    is_path (t.name x) calls = path.name x
    is_path (t.element x index) calls = path.element x index (names_read index) (is_path index calls)
    is_path t.sense calls = path.sense
    is_path t.next_event calls = path.next_event
    is_path (t.call f values) calls =
        let c = returns_at_once functions n few f calls.0 in
        subst (ExpressionPath direct (t.call f values)) (append-nil (values_read values))
        (path.call f c.0 values (values_read values) [] c.1 (are_paths values calls.1) c.2)
    is_path (t.unary op e) calls = path.unary op e (names_read e) (is_path e calls)
    is_path (t.binary op a b) calls = path.binary op a b (names_read a) (names_read b) (is_path a calls.0) (is_path b calls.1)
    is_path (t.shift op e count) calls = path.shift op e count (names_read e) (is_path e calls)
    is_path (t.short_circuit op a b) calls = path.both_sides op a b (names_read a) (names_read b) (is_path a calls.0) (is_path b calls.1)

    are_paths : (values : CheckedValues) → ValuesCallBelow n values → ValuesPath direct values (values_read values)
    are_paths t.no_value calls = path.no_value
    are_paths (t.value e more) calls = path.value e more (names_read e) (values_read more) (is_path e calls.0) (are_paths more calls.1)

  a_turn : (x : VariableName) (m : ℕ) (body : CheckedBlock) (xs : List Access) (end : End) → BlockPath direct body xs end
      → HasPath (TurnsPath direct x m body) → HasPath (TurnsPath direct x (suc m) body)
  a_turn x m body xs goes_on p more =
      some (TurnsPath direct x (suc m) body) (xs ++ write x ∷ more.accesses) more.end (path.turn x m body xs more.accesses more.end p more.is)
  a_turn x m body xs (goes_to k) p more = some (TurnsPath direct x (suc m) body) xs (goes_to k) (path.cut x m body xs (goes_to k) tt p)
  a_turn x m body xs returns p more = some (TurnsPath direct x (suc m) body) xs returns (path.cut x m body xs returns tt p)

  pub some_turns : (x : VariableName) (m : ℕ) (body : CheckedBlock) → HasPath (BlockPath direct body) → HasPath (TurnsPath direct x m body)
  some_turns x zero body b = some (TurnsPath direct x zero body) [] goes_on (path.over x body)
  some_turns x (suc m) body b = a_turn x m body b.accesses b.end b.is (some_turns x m body b)

  a_step : (s : CheckedStatement) (more : CheckedBlock) (xs : List Access) (end : End) → StatementPath direct s xs end → HasPath (BlockPath direct more)
      → HasPath (BlockPath direct (t.step s more))
  a_step s more xs goes_on p q = some (BlockPath direct (t.step s more)) (xs ++ q.accesses) q.end (path.step s more xs q.accesses q.end p q.is)
  a_step s more xs (goes_to k) p q = some (BlockPath direct (t.step s more)) xs (goes_to k) (path.stopped s more xs (goes_to k) tt p)
  a_step s more xs returns p q = some (BlockPath direct (t.step s more)) xs returns (path.stopped s more xs returns tt p)

  mutual
    some_statement : (s : CheckedStatement) → StatementCallsBelow n s → HasPath (StatementPath direct s)
    some_statement (t.declare of x None) calls = some (StatementPath direct (t.declare of x None)) (unset x ∷ []) goes_on (path.declare_unset of x)
    some_statement (t.declare of x (Some e)) calls =
        some (StatementPath direct (t.declare of x (Some e))) (names_read e ++ write x ∷ []) goes_on
        (path.declare_set of x e (names_read e) (is_path e calls))
    some_statement (t.assign x e) calls =
        some (StatementPath direct (t.assign x e)) (names_read e ++ write x ∷ []) goes_on (path.assign x e (names_read e) (is_path e calls))
    some_statement (t.store x index e) calls =
        some (StatementPath direct (t.store x index e)) (names_read index ++ (names_read e ++ write x ∷ [])) goes_on
        (path.store x index e (names_read index) (names_read e) (is_path index calls.0) (is_path e calls.1))
    some_statement (t.choose c) calls =
        let p = some_choice c calls in some (StatementPath direct (t.choose c)) p.accesses p.end (path.choose c p.accesses p.end p.is)
    some_statement (t.loop x from tested below stepped body) calls =
        let p = some_turns x (below - from) body (some_block body calls) in
        some (StatementPath direct (t.loop x from tested below stepped body)) (write x ∷ p.accesses) p.end
        (path.loop x from tested below stepped body p.accesses p.end p.is)
    some_statement (t.emit e) calls = some (StatementPath direct (t.emit e)) (names_read e) goes_on (path.emit e (names_read e) (is_path e calls))
    some_statement (t.give at e) calls = some (StatementPath direct (t.give at e)) (names_read e) returns (path.give at e (names_read e) (is_path e calls))
    some_statement (t.transition at k) calls = some (StatementPath direct (t.transition at k)) [] (goes_to k) (path.transition at k)

    some_choice : (c : CheckedChoice) → ChoiceCallsBelow n c → HasPath (ChoicePath direct c)
    some_choice t.nothing calls = some (ChoicePath direct t.nothing) [] goes_on path.nothing
    some_choice (t.otherwise b) calls =
        let p = some_block b calls in some (ChoicePath direct (t.otherwise b)) p.accesses p.end (path.otherwise b p.accesses p.end p.is)
    some_choice (t.test e b more) calls =
        let p = some_block b calls.1.0 in
        some (ChoicePath direct (t.test e b more)) (names_read e ++ p.accesses) p.end
        (path.taken e b more (names_read e) p.accesses p.end (is_path e calls.0) p.is)

    pub some_block : (b : CheckedBlock) → BlockCallsBelow n b → HasPath (BlockPath direct b)
    some_block t.end calls = some (BlockPath direct t.end) [] goes_on path.finished
    some_block (t.step s more) calls = let p = some_statement s calls.0 in a_step s more p.accesses p.end p.is (some_block more calls.1)

-- ---- which locals are unassigned

-- behind a write, and behind a declaration without a value
abbrev pub written : (ℕ → Bool) → VariableName → ℕ → Bool
written u n x = if is_local x n.variable then false else u x

abbrev pub forgotten : (ℕ → Bool) → VariableName → ℕ → Bool
forgotten u n x = if is_local x n.variable then true else u x

-- behind accesses
abbrev pub behind : (ℕ → Bool) → List Access → ℕ → Bool
behind u [] = u
behind u (read n ∷ more) = behind u more
behind u (write n ∷ more) = behind (written u n) more
behind u (unset n ∷ more) = behind (forgotten u n) more

pub behind_both : (u : ℕ → Bool) (xs ys : List Access) → behind u (xs ++ ys) ≡ behind (behind u xs) ys
behind_both u [] ys = refl
behind_both u (read n ∷ xs) ys = behind_both u xs ys
behind_both u (write n ∷ xs) ys = behind_both (written u n) xs ys
behind_both u (unset n ∷ xs) ys = behind_both (forgotten u n) xs ys

mutual
  -- an expression leaves them
  pub behind_names : (u : ℕ → Bool) (e : CheckedExpression) → behind u (names_read e) ≡ u
  behind_names u (t.number w) = refl
  behind_names u (t.long_number w) = refl
  behind_names u (t.name x) = refl
  behind_names u (t.element x index) = behind_both u (names_read index) (read x ∷ []) ∙ behind_names u index
  behind_names u t.sense = refl
  behind_names u t.next_event = refl
  behind_names u (t.call f values) = behind_values u values
  behind_names u (t.unary op e) = behind_names u e
  behind_names u (t.binary op a b) =
      behind_both u (names_read a) (names_read b) ∙ (ap (λ v. behind v (names_read b)) (behind_names u a) ∙ behind_names u b)
  behind_names u (t.shift op e count) = behind_names u e
  behind_names u (t.short_circuit op a b) =
      behind_both u (names_read a) (names_read b) ∙ (ap (λ v. behind v (names_read b)) (behind_names u a) ∙ behind_names u b)

  behind_values : (u : ℕ → Bool) (values : CheckedValues) → behind u (values_read values) ≡ u
  behind_values u t.no_value = refl
  behind_values u (t.value e more) =
      behind_both u (names_read e) (values_read more) ∙ (ap (λ v. behind v (values_read more)) (behind_names u e) ∙ behind_values u more)

-- behind an expression's names
pub behind_expression : (u : ℕ → Bool) (e : CheckedExpression) (ys : List Access) → behind u (names_read e ++ ys) ≡ behind u ys
behind_expression u e ys = behind_both u (names_read e) ys ∙ ap (λ v. behind v ys) (behind_names u e)

-- the same as the checks see it
behind_is : (u : ℕ → Bool) (xs : List Access) (x : ℕ) → behind u xs x ≡ is_unassigned (u x) x xs
behind_is u [] x = refl
behind_is u (read n ∷ xs) x = behind_is u xs x
behind_is u (write n ∷ xs) x = behind_is (written u n) xs x
behind_is u (unset n ∷ xs) x = behind_is (forgotten u n) xs x

-- ---- no unassigned local is read

abbrev pub IsAssigned : (ℕ → Bool) → Variable → Type 0
IsAssigned u (Shared v) = Unit {0}
IsAssigned u (Local x) = u x ≡ false

-- along accesses
abbrev pub Safe : (ℕ → Bool) → List Access → Type 0
Safe u [] = Unit {0}
Safe u (read n ∷ more) = IsAssigned u n.variable × Safe u more
Safe u (write n ∷ more) = Safe (written u n) more
Safe u (unset n ∷ more) = Safe (forgotten u n) more

pub safe_both : (u : ℕ → Bool) (xs ys : List Access) → Safe u (xs ++ ys) → Safe u xs × Safe (behind u xs) ys
safe_both u [] ys h = (tt, h)
safe_both u (read n ∷ xs) ys h = let r = safe_both u xs ys h.1 in ((h.0, r.0), r.1)
safe_both u (write n ∷ xs) ys h = safe_both (written u n) xs ys h
safe_both u (unset n ∷ xs) ys h = safe_both (forgotten u n) xs ys h

-- behind an expression's names
pub safe_expression : (u : ℕ → Bool) (e : CheckedExpression) (ys : List Access) → Safe u (names_read e ++ ys) → Safe u (names_read e) × Safe u ys
safe_expression u e ys h = let r = safe_both u (names_read e) ys h in (r.0, subst (λ v. Safe v ys) (behind_names u e) r.1)

-- no local is read in these accesses while it is unassigned
abbrev ReadsNone : (ℕ → Bool) → List Access → Type 0
ReadsNone u xs =
    (before : List Access) (n : VariableName) (more : List Access)
    (x : ℕ) → xs ≡ before ++ read n ∷ more → n.variable ≡ Local x → behind u before x ≡ true → ⊥

safe_of : (u : ℕ → Bool) (xs : List Access) → ReadsNone u xs → Safe u xs
safe_of u [] none = tt
safe_of u (read n ∷ xs) none = (here n.variable refl, safe_of u xs (λ before m more x e. none (read n ∷ before) m more x (ap (λ ys. read n ∷ ys) e)))
  where
    assigned : (x : ℕ) (b : Bool) → n.variable ≡ Local x → u x ≡ b → b ≡ false
    assigned x true is e = absurd (none [] n xs x refl is e)
    assigned x false is e = refl

    here : (v : Variable) → n.variable ≡ v → IsAssigned u v
    here (Shared v) is = tt
    here (Local x) is = assigned x (u x) is refl
safe_of u (write n ∷ xs) none = safe_of (written u n) xs (λ before m more x e. none (write n ∷ before) m more x (ap (λ ys. write n ∷ ys) e))
safe_of u (unset n ∷ xs) none = safe_of (forgotten u n) xs (λ before m more x e. none (unset n ∷ before) m more x (ap (λ ys. unset n ∷ ys) e))

-- the locals that are given no value, which are those from a number on
abbrev pub not_given : ℕ → ℕ → Bool
not_given given x = not (nat_lt x given)

-- no path of a body reads an unassigned local, where the first locals are given values
pub safe_paths : (functions : List CheckedFunction) (given : ℕ) (b : CheckedBlock) → ((s : Span) → ReadsUnassigned functions given b s → ⊥)
    → (xs : List Access) (end : End) → BlockPath (map at_once functions) b xs end → Safe (not_given given) xs
safe_paths functions given b none xs end q =
    safe_of (not_given given) xs (λ before n more x cut is unassigned. none n.span (record {
      x = x;
      name = n;
      is_x = is;
      place = refl;
      before = before;
      after = more;
      end = end;
      path = subst (λ ys. BlockPath (map at_once functions) b ys end) cut q;
      unassigned = sym (behind_is (not_given given) before x) ∙ unassigned;
    }))
