-- A source is known by its tree and by what its names were looked up as.
use Rattle.std.proofs.Common.{◌≡◌, ℕ, List, [], ◌∷◌, map, Option, Some, None, refl, sym, ap, ◌∙◌}
use Rattle.std.specs.Option.{option_map}
use Rattle.alp_text.specs.declared.lines.Span.{Span}
use Rattle.task_ast.specs.Paths.{CheckedExpression, CheckedValues, CheckedStatement, CheckedChoice, CheckedBlock, CheckedFunction, CheckedTask, CheckedProgram}
use Rattle.task_ast.specs.declared.WordType.TheVariants as word_type
use Rattle.task_ast.specs.declared.names.Variable.TheVariants as variable
use Rattle.task_ast.specs.declared.names.VariableName.{VariableName}
use Rattle.task_ast.specs.declared.names.TaskName.{TaskName}
use Rattle.task_ast.specs.declared.names.FunctionName.{FunctionName}
use Rattle.task_ast.specs.declared.Parameter.{Parameter}
use Rattle.task_ast.specs.Tree.{Expression, Values, Statement, Choice, Block, Function, Task, Program}
use Rattle.task_ast.specs.Tree as t
use Rattle.task_check.specs.declared.symbol.TypedVariable.{TypedVariable}
use Rattle.task_check.specs.declared.symbol.TypedFunction.{TypedFunction}
use Rattle.task_check.specs.LookedUp.{expression_back, statement_back, choice_back, block_back, task_back, program_back, expression_variables}
use Rattle.task_check.specs.LookedUp.{value_variables, statement_variables, choice_variables, block_variables, task_variables, statement_targets}
use Rattle.task_check.specs.LookedUp.{choice_targets, block_targets, task_targets}
use Rattle.task_check.specs.LookedUp.{values_back, parameter_back, function_back, values_variables, parameter_variables, inner_variables}
use Rattle.task_check.specs.LookedUp.{function_variables, expression_calls, values_calls, value_calls, statement_calls, choice_calls, block_calls}
use Rattle.task_check.specs.LookedUp.{function_calls, task_calls, function_targets, program_variables, program_calls, program_targets}

-- a part of a source, and the names that are left
record Filled (A : Type 0) : Type 0 where
  part : A
  vs : List TypedVariable
  cs : List TypedFunction
  ts : List ℕ

abbrev name_from : {A : Type 0} → Span → List TypedVariable → List TypedFunction → List ℕ
    → (VariableName → List TypedVariable → List TypedFunction → List ℕ → A) → A
name_from s [] cs ts go = go (record { span = s; variable = variable.Shared 0; word_type = word_type.Unsigned }) [] cs ts
name_from s (v ∷ vs) cs ts go = go (record { span = s; variable = v.variable; word_type = v.word_type }) vs cs ts

abbrev call_from : {A : Type 0} → Span → List TypedVariable → List TypedFunction → List ℕ
    → (FunctionName → List TypedVariable → List TypedFunction → List ℕ → A) → A
call_from s vs [] ts go = go (record { span = s; function = 0; word_type = word_type.Unsigned }) vs [] ts
call_from s vs (c ∷ cs) ts go = go (record { span = s; function = c.function; word_type = c.word_type }) vs cs ts

abbrev mutual
  fill_expression : Expression Span Span → List TypedVariable → List TypedFunction → List ℕ → Filled CheckedExpression
  fill_expression (t.number n) vs cs ts = record { part = t.number n; vs = vs; cs = cs; ts = ts }
  fill_expression (t.long_number n) vs cs ts = record { part = t.long_number n; vs = vs; cs = cs; ts = ts }
  fill_expression (t.name s) vs cs ts = name_from s vs cs ts (λ v vs cs ts. record { part = t.name v; vs = vs; cs = cs; ts = ts })
  fill_expression (t.element s index) vs cs ts = name_from s vs cs ts (λ v vs cs ts. let r = fill_expression index vs cs ts in
      record { part = t.element v r.part; vs = r.vs; cs = r.cs; ts = r.ts })
  fill_expression t.sense vs cs ts = record { part = t.sense; vs = vs; cs = cs; ts = ts }
  fill_expression t.next_event vs cs ts = record { part = t.next_event; vs = vs; cs = cs; ts = ts }
  fill_expression (t.call s values) vs cs ts = call_from s vs cs ts (λ f vs cs ts. let r = fill_values values vs cs ts in
      record { part = t.call f r.part; vs = r.vs; cs = r.cs; ts = r.ts })
  fill_expression (t.unary op a) vs cs ts = let r = fill_expression a vs cs ts in record { part = t.unary op r.part; vs = r.vs; cs = r.cs; ts = r.ts }
  fill_expression (t.binary op a b) vs cs ts = let r = fill_expression a vs cs ts in let q = fill_expression b r.vs r.cs r.ts in
      record { part = t.binary op r.part q.part; vs = q.vs; cs = q.cs; ts = q.ts }
  fill_expression (t.shift op a count) vs cs ts = let r = fill_expression a vs cs ts in
      record { part = t.shift op r.part count; vs = r.vs; cs = r.cs; ts = r.ts }
  fill_expression (t.short_circuit op a b) vs cs ts = let r = fill_expression a vs cs ts in let q = fill_expression b r.vs r.cs r.ts in
      record { part = t.short_circuit op r.part q.part; vs = q.vs; cs = q.cs; ts = q.ts }

  fill_values : Values Span Span → List TypedVariable → List TypedFunction → List ℕ → Filled CheckedValues
  fill_values t.no_value vs cs ts = record { part = t.no_value; vs = vs; cs = cs; ts = ts }
  fill_values (t.value e more) vs cs ts = let r = fill_expression e vs cs ts in let q = fill_values more r.vs r.cs r.ts in
      record { part = t.value r.part q.part; vs = q.vs; cs = q.cs; ts = q.ts }

mutual
  filled_expression : (e : CheckedExpression) (vs : List TypedVariable) (cs : List TypedFunction) (ts : List ℕ)
      → fill_expression (expression_back e) (expression_variables e vs) (expression_calls e cs) ts ≡ record { part = e; vs = vs; cs = cs; ts = ts }
  filled_expression (t.number n) vs cs ts = refl
  filled_expression (t.long_number n) vs cs ts = refl
  filled_expression (t.name v) vs cs ts = refl
  filled_expression (t.element v index) vs cs ts = ap (λ r. record { part = t.element v r.part; vs = r.vs; cs = r.cs; ts = r.ts })
      (filled_expression index vs cs ts)
  filled_expression t.sense vs cs ts = refl
  filled_expression t.next_event vs cs ts = refl
  filled_expression (t.call f values) vs cs ts =
      ap (λ r. record { part = t.call f r.part; vs = r.vs; cs = r.cs; ts = r.ts }) (filled_values values vs cs ts)
  filled_expression (t.unary op a) vs cs ts = ap (λ r. record { part = t.unary op r.part; vs = r.vs; cs = r.cs; ts = r.ts }) (filled_expression a vs cs ts)
  filled_expression (t.binary op a b) vs cs ts =
      ap (λ r. let q = fill_expression (expression_back b) r.vs r.cs r.ts in record { part = t.binary op r.part q.part; vs = q.vs; cs = q.cs; ts = q.ts })
      (filled_expression a (expression_variables b vs) (expression_calls b cs) ts)
      ∙ ap (λ q. record { part = t.binary op a q.part; vs = q.vs; cs = q.cs; ts = q.ts }) (filled_expression b vs cs ts)
  filled_expression (t.shift op a count) vs cs ts =
      ap (λ r. record { part = t.shift op r.part count; vs = r.vs; cs = r.cs; ts = r.ts }) (filled_expression a vs cs ts)
  filled_expression (t.short_circuit op a b) vs cs ts =
      ap (λ r. let q = fill_expression (expression_back b) r.vs r.cs r.ts in
      record { part = t.short_circuit op r.part q.part; vs = q.vs; cs = q.cs; ts = q.ts })
      (filled_expression a (expression_variables b vs) (expression_calls b cs) ts)
      ∙ ap (λ q. record { part = t.short_circuit op a q.part; vs = q.vs; cs = q.cs; ts = q.ts }) (filled_expression b vs cs ts)

  filled_values : (values : CheckedValues) (vs : List TypedVariable) (cs : List TypedFunction) (ts : List ℕ)
      → fill_values (values_back values) (values_variables values vs) (values_calls values cs) ts ≡ record { part = values; vs = vs; cs = cs; ts = ts }
  filled_values t.no_value vs cs ts = refl
  filled_values (t.value e more) vs cs ts =
      ap (λ r. let q = fill_values (values_back more) r.vs r.cs r.ts in record { part = t.value r.part q.part; vs = q.vs; cs = q.cs; ts = q.ts })
      (filled_expression e (values_variables more vs) (values_calls more cs) ts)
      ∙ ap (λ q. record { part = t.value e q.part; vs = q.vs; cs = q.cs; ts = q.ts }) (filled_values more vs cs ts)

abbrev fill_value : Option (Expression Span Span) → List TypedVariable → List TypedFunction → List ℕ → Filled (Option CheckedExpression)
fill_value None vs cs ts = record { part = None; vs = vs; cs = cs; ts = ts }
fill_value (Some e) vs cs ts = let r = fill_expression e vs cs ts in record { part = Some r.part; vs = r.vs; cs = r.cs; ts = r.ts }

filled_value : (e : Option CheckedExpression) (vs : List TypedVariable) (cs : List TypedFunction) (ts : List ℕ)
    → fill_value (option_map expression_back e) (value_variables e vs) (value_calls e cs) ts ≡ record { part = e; vs = vs; cs = cs; ts = ts }
filled_value None vs cs ts = refl
filled_value (Some e) vs cs ts = ap (λ r. record { part = Some r.part; vs = r.vs; cs = r.cs; ts = r.ts }) (filled_expression e vs cs ts)

abbrev task_from : {A : Type 0} → Span → List TypedVariable → List TypedFunction → List ℕ → (TaskName → List TypedVariable → List TypedFunction → List ℕ → A)
    → A
task_from s vs cs [] go = go (record { span = s; task = 0 }) vs cs []
task_from s vs cs (n ∷ ts) go = go (record { span = s; task = n }) vs cs ts

abbrev mutual
  fill_statement : Statement Span Span Span → List TypedVariable → List TypedFunction → List ℕ → Filled CheckedStatement
  fill_statement (t.declare of s e) vs cs ts = name_from s vs cs ts (λ v vs cs ts. let r = fill_value e vs cs ts in
      record { part = t.declare of v r.part; vs = r.vs; cs = r.cs; ts = r.ts })
  fill_statement (t.assign s e) vs cs ts = name_from s vs cs ts (λ v vs cs ts. let r = fill_expression e vs cs ts in
      record { part = t.assign v r.part; vs = r.vs; cs = r.cs; ts = r.ts })
  fill_statement (t.store s index e) vs cs ts = name_from s vs cs ts (λ v vs cs ts.
      let r = fill_expression index vs cs ts in let q = fill_expression e r.vs r.cs r.ts in
      record { part = t.store v r.part q.part; vs = q.vs; cs = q.cs; ts = q.ts })
  fill_statement (t.choose c) vs cs ts = let r = fill_choice c vs cs ts in record { part = t.choose r.part; vs = r.vs; cs = r.cs; ts = r.ts }
  fill_statement (t.loop a from b below c body) vs cs ts =
      name_from a vs cs ts (λ x vs cs ts. name_from b vs cs ts (λ y vs cs ts. name_from c vs cs ts (λ z vs cs ts.
      let r = fill_block body vs cs ts in record { part = t.loop x from y below z r.part; vs = r.vs; cs = r.cs; ts = r.ts })))
  fill_statement (t.emit e) vs cs ts = let r = fill_expression e vs cs ts in record { part = t.emit r.part; vs = r.vs; cs = r.cs; ts = r.ts }
  fill_statement (t.give at e) vs cs ts = let r = fill_expression e vs cs ts in record { part = t.give at r.part; vs = r.vs; cs = r.cs; ts = r.ts }
  fill_statement (t.transition at s) vs cs ts = task_from s vs cs ts (λ n vs cs ts. record { part = t.transition at n; vs = vs; cs = cs; ts = ts })

  fill_choice : Choice Span Span Span → List TypedVariable → List TypedFunction → List ℕ → Filled CheckedChoice
  fill_choice t.nothing vs cs ts = record { part = t.nothing; vs = vs; cs = cs; ts = ts }
  fill_choice (t.otherwise b) vs cs ts = let r = fill_block b vs cs ts in record { part = t.otherwise r.part; vs = r.vs; cs = r.cs; ts = r.ts }
  fill_choice (t.test e b more) vs cs ts = let r = fill_expression e vs cs ts in let q = fill_block b r.vs r.cs r.ts in let p =
      fill_choice more q.vs q.cs q.ts in
      record { part = t.test r.part q.part p.part; vs = p.vs; cs = p.cs; ts = p.ts }

  fill_block : Block Span Span Span → List TypedVariable → List TypedFunction → List ℕ → Filled CheckedBlock
  fill_block t.end vs cs ts = record { part = t.end; vs = vs; cs = cs; ts = ts }
  fill_block (t.step s more) vs cs ts = let r = fill_statement s vs cs ts in let q = fill_block more r.vs r.cs r.ts in
      record { part = t.step r.part q.part; vs = q.vs; cs = q.cs; ts = q.ts }

mutual
  filled_statement : (s : CheckedStatement) (vs : List TypedVariable) (cs : List TypedFunction) (ts : List ℕ)
      → fill_statement (statement_back s) (statement_variables s vs) (statement_calls s cs) (statement_targets s ts)
      ≡ record { part = s; vs = vs; cs = cs; ts = ts }
  filled_statement (t.declare of v e) vs cs ts = ap (λ r. record { part = t.declare of v r.part; vs = r.vs; cs = r.cs; ts = r.ts }) (filled_value e vs cs ts)
  filled_statement (t.assign v e) vs cs ts = ap (λ r. record { part = t.assign v r.part; vs = r.vs; cs = r.cs; ts = r.ts }) (filled_expression e vs cs ts)
  filled_statement (t.store v index e) vs cs ts =
      ap (λ r. let q = fill_expression (expression_back e) r.vs r.cs r.ts in record { part = t.store v r.part q.part; vs = q.vs; cs = q.cs; ts = q.ts })
      (filled_expression index (expression_variables e vs) (expression_calls e cs) ts)
      ∙ ap (λ q. record { part = t.store v index q.part; vs = q.vs; cs = q.cs; ts = q.ts }) (filled_expression e vs cs ts)
  filled_statement (t.choose c) vs cs ts = ap (λ r. record { part = t.choose r.part; vs = r.vs; cs = r.cs; ts = r.ts }) (filled_choice c vs cs ts)
  filled_statement (t.loop a from b below c body) vs cs ts =
      ap (λ r. record { part = t.loop a from b below c r.part; vs = r.vs; cs = r.cs; ts = r.ts }) (filled_block body vs cs ts)
  filled_statement (t.emit e) vs cs ts = ap (λ r. record { part = t.emit r.part; vs = r.vs; cs = r.cs; ts = r.ts }) (filled_expression e vs cs ts)
  filled_statement (t.give at e) vs cs ts = ap (λ r. record { part = t.give at r.part; vs = r.vs; cs = r.cs; ts = r.ts }) (filled_expression e vs cs ts)
  filled_statement (t.transition at n) vs cs ts = refl

  filled_choice : (c : CheckedChoice) (vs : List TypedVariable) (cs : List TypedFunction) (ts : List ℕ)
      → fill_choice (choice_back c) (choice_variables c vs) (choice_calls c cs) (choice_targets c ts) ≡ record { part = c; vs = vs; cs = cs; ts = ts }
  filled_choice t.nothing vs cs ts = refl
  filled_choice (t.otherwise b) vs cs ts = ap (λ r. record { part = t.otherwise r.part; vs = r.vs; cs = r.cs; ts = r.ts }) (filled_block b vs cs ts)
  filled_choice (t.test e b more) vs cs ts =
      ap (λ r. let q = fill_block (block_back b) r.vs r.cs r.ts in let p = fill_choice (choice_back more) q.vs q.cs q.ts in
      record { part = t.test r.part q.part p.part; vs = p.vs; cs = p.cs; ts = p.ts })
      (filled_expression e (block_variables b (choice_variables more vs)) (block_calls b (choice_calls more cs)) (block_targets b (choice_targets more ts)))
      ∙ (ap (λ q. let p = fill_choice (choice_back more) q.vs q.cs q.ts in record { part = t.test e q.part p.part; vs = p.vs; cs = p.cs; ts = p.ts })
      (filled_block b (choice_variables more vs) (choice_calls more cs) (choice_targets more ts))
      ∙ ap (λ p. record { part = t.test e b p.part; vs = p.vs; cs = p.cs; ts = p.ts }) (filled_choice more vs cs ts))

  filled_block : (b : CheckedBlock) (vs : List TypedVariable) (cs : List TypedFunction) (ts : List ℕ)
      → fill_block (block_back b) (block_variables b vs) (block_calls b cs) (block_targets b ts) ≡ record { part = b; vs = vs; cs = cs; ts = ts }
  filled_block t.end vs cs ts = refl
  filled_block (t.step s more) vs cs ts =
      ap (λ r. let q = fill_block (block_back more) r.vs r.cs r.ts in record { part = t.step r.part q.part; vs = q.vs; cs = q.cs; ts = q.ts })
      (filled_statement s (block_variables more vs) (block_calls more cs) (block_targets more ts))
      ∙ ap (λ q. record { part = t.step s q.part; vs = q.vs; cs = q.cs; ts = q.ts }) (filled_block more vs cs ts)

abbrev fill_tasks : List (Task Span Span Span) → List TypedVariable → List TypedFunction → List ℕ → Filled (List CheckedTask)
fill_tasks [] vs cs ts = record { part = []; vs = vs; cs = cs; ts = ts }
fill_tasks (k ∷ more) vs cs ts = let r = fill_block k.body vs cs ts in let q = fill_tasks more r.vs r.cs r.ts in
    record { part = record { name = k.name; body = r.part } ∷ q.part; vs = q.vs; cs = q.cs; ts = q.ts }

filled_tasks : (ks : List CheckedTask) (vs : List TypedVariable) (cs : List TypedFunction) (ts : List ℕ)
    → fill_tasks (map task_back ks) (task_variables ks vs) (task_calls ks cs) (task_targets ks ts) ≡ record { part = ks; vs = vs; cs = cs; ts = ts }
filled_tasks [] vs cs ts = refl
filled_tasks (k ∷ more) vs cs ts =
    ap (λ r. let q = fill_tasks (map task_back more) r.vs r.cs r.ts in
    record { part = record { name = k.name; body = r.part } ∷ q.part; vs = q.vs; cs = q.cs; ts = q.ts })
    (filled_block k.body (task_variables more vs) (task_calls more cs) (task_targets more ts))
    ∙ ap (λ q. record { part = k ∷ q.part; vs = q.vs; cs = q.cs; ts = q.ts }) (filled_tasks more vs cs ts)

abbrev fill_parameters : List (Parameter Span) → List TypedVariable → List TypedFunction → List ℕ → Filled (List (Parameter VariableName))
fill_parameters [] vs cs ts = record { part = []; vs = vs; cs = cs; ts = ts }
fill_parameters (p ∷ more) vs cs ts = name_from p.name vs cs ts (λ v vs cs ts. let q = fill_parameters more vs cs ts in
    record { part = record { word_type = p.word_type; name = v } ∷ q.part; vs = q.vs; cs = q.cs; ts = q.ts })

filled_parameters : (ps : List (Parameter VariableName)) (vs : List TypedVariable) (cs : List TypedFunction) (ts : List ℕ)
    → fill_parameters (map parameter_back ps) (parameter_variables ps vs) cs ts ≡ record { part = ps; vs = vs; cs = cs; ts = ts }
filled_parameters [] vs cs ts = refl
filled_parameters (p ∷ more) vs cs ts =
    ap (λ q. record { part = p ∷ q.part; vs = q.vs; cs = q.cs; ts = q.ts }) (filled_parameters more vs cs ts)

abbrev fill_function : Function Span Span Span → List TypedVariable → List TypedFunction → List ℕ → Filled CheckedFunction
fill_function f vs cs ts = let r = fill_parameters f.parameters vs cs ts in let q = fill_block f.body r.vs r.cs r.ts in
    record { part = record { word_type = f.word_type; name = f.name; parameters = r.part; body = q.part }; vs = q.vs; cs = q.cs; ts = q.ts }

filled_function : (f : CheckedFunction) (vs : List TypedVariable) (cs : List TypedFunction) (ts : List ℕ)
    → fill_function (function_back f) (inner_variables f vs) (block_calls f.body cs) (block_targets f.body ts) ≡ record { part = f; vs = vs; cs = cs; ts = ts }
filled_function f vs cs ts =
    ap (λ r. let q = fill_block (block_back f.body) r.vs r.cs r.ts in
    record { part = record { word_type = f.word_type; name = f.name; parameters = r.part; body = q.part }; vs = q.vs; cs = q.cs; ts = q.ts })
    (filled_parameters f.parameters (block_variables f.body vs) (block_calls f.body cs) (block_targets f.body ts))
    ∙ ap (λ q. record {
      part = record { word_type = f.word_type; name = f.name; parameters = f.parameters; body = q.part };
      vs = q.vs;
      cs = q.cs;
      ts = q.ts;
    }) (filled_block f.body vs cs ts)

abbrev fill_functions : List (Function Span Span Span) → List TypedVariable → List TypedFunction → List ℕ → Filled (List CheckedFunction)
fill_functions [] vs cs ts = record { part = []; vs = vs; cs = cs; ts = ts }
fill_functions (f ∷ more) vs cs ts = let r = fill_function f vs cs ts in let q = fill_functions more r.vs r.cs r.ts in
    record { part = r.part ∷ q.part; vs = q.vs; cs = q.cs; ts = q.ts }

filled_functions : (fs : List CheckedFunction) (vs : List TypedVariable) (cs : List TypedFunction) (ts : List ℕ)
    → fill_functions (map function_back fs) (function_variables fs vs) (function_calls fs cs) (function_targets fs ts)
    ≡ record { part = fs; vs = vs; cs = cs; ts = ts }
filled_functions [] vs cs ts = refl
filled_functions (f ∷ more) vs cs ts =
    ap (λ r. let q = fill_functions (map function_back more) r.vs r.cs r.ts in record { part = r.part ∷ q.part; vs = q.vs; cs = q.cs; ts = q.ts })
    (filled_function f (function_variables more vs) (function_calls more cs) (function_targets more ts))
    ∙ ap (λ q. record { part = f ∷ q.part; vs = q.vs; cs = q.cs; ts = q.ts }) (filled_functions more vs cs ts)

abbrev fill_program : Program Span Span Span → List TypedVariable → List TypedFunction → List ℕ → CheckedProgram
fill_program p vs cs ts = let g = fill_functions p.functions vs cs ts in let r = fill_tasks p.tasks g.vs g.cs g.ts in
    task_from p.entry r.vs r.cs r.ts (λ n vs cs ts. record { shared = p.shared; functions = g.part; tasks = r.part; entry = n })

filled_program : (c : CheckedProgram) → fill_program (program_back c) (program_variables c) (program_calls c) (program_targets c) ≡ c
filled_program c =
    ap (λ g. let r = fill_tasks (map task_back c.tasks) g.vs g.cs g.ts in
    task_from c.entry.span r.vs r.cs r.ts (λ n vs cs ts. record { shared = c.shared; functions = g.part; tasks = r.part; entry = n }))
    (filled_functions c.functions (task_variables c.tasks []) (task_calls c.tasks []) (task_targets c.tasks (c.entry.task ∷ [])))
    ∙ ap (λ r. task_from c.entry.span r.vs r.cs r.ts (λ n vs cs ts. record { shared = c.shared; functions = c.functions; tasks = r.part; entry = n }))
    (filled_tasks c.tasks [] [] (c.entry.task ∷ []))

-- sources with the same places and the same names are one
pub one_program : (c d : CheckedProgram) → program_back c ≡ program_back d → program_variables c ≡ program_variables d
    → program_calls c ≡ program_calls d → program_targets c ≡ program_targets d → c ≡ d
one_program c d p v f n =
    sym (filled_program c) ∙ ap (λ x. fill_program x (program_variables c) (program_calls c) (program_targets c)) p
    ∙ ap (λ x. fill_program (program_back d) x (program_calls c) (program_targets c)) v
    ∙ ap (λ x. fill_program (program_back d) (program_variables d) x (program_targets c)) f
    ∙ ap (λ x. fill_program (program_back d) (program_variables d) (program_calls d) x) n ∙ filled_program d
