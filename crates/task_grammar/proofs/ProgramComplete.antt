-- Programs: laws, and what the grammar relates is read.
use Rattle.std.proofs.Common.{◌≡◌, ℕ, ◌<◌, true, false, List, [], ◌∷◌, ◌++◌, length, Option, Some, refl, ap, sym, ◌∙◌, subst, arith, append_assoc}
use Rattle.std.proofs.lemmas.List.{append_cancel_right}
use Rattle.task_lex.specs.declared.token.Token.{Token}
use Rattle.task_lex.specs.declared.token.Kind.{Kind}
use Rattle.task_lex.specs.declared.token.Kind.TheVariants as k
use Rattle.task_ast.specs.declared.WordType.{WordType}
use Rattle.task_ast.specs.declared.WordType.TheVariants as word
use Rattle.task_ast.specs.declared.Extent.{Extent}
use Rattle.task_ast.specs.declared.Extent.TheVariants as extent
use Rattle.task_ast.specs.declared.SharedDeclaration.{SharedDeclaration}
use Rattle.task_grammar.specs.Parsed.{Parameter, Function, Task, Program}
use Rattle.task_grammar.specs.Grammar as grammar
use Rattle.task_grammar.specs.Grammar.{type_of, shared_from, parameter_from, function_from, task_from, program_from, negated, long_negated, long_worth, Row}
use Rattle.task_grammar.specs.Grammar.{IsBlock, IsExtent, IsWorth}
use Rattle.task_grammar.specs.Grammar.{IsLongExtent, IsShared, IsParameter, IsFurther, IsParameters, IsFunction, IsTask, IsProgram}
use Rattle.task_grammar.specs.Reading.{done, fault, and_then, pure, kind_of, turned}
use Rattle.task_grammar.specs.Statements.{block}
use Rattle.task_grammar.specs.Programs.{many, many_turn, valued_by, extent_by, extents, worth_by, worth, long_valued_by, long_extent_by, long_extents, named_of}
use Rattle.task_grammar.specs.Programs.{long_behind, shared_by, shared, parameter, further, some_parameters, parameters_by, parameters, function, task, tasks}
use Rattle.task_grammar.specs.Programs.{is_shared, is_comma, is_function, is_task, ending, program}
use Rattle.task_grammar.proofs.ParserLaws.{Law, Good, Sentence, rest_of, with_rest, law_pure, law_refuse, law_bind, law_by, law_take, law_map, law_weaken}
use Rattle.task_grammar.proofs.ExpressionComplete.{takes}
use Rattle.task_grammar.proofs.StatementLaws.{law_type}
use Rattle.task_grammar.proofs.StatementComplete.{goes, takes_type, law_block, reads_block}
use Rattle.task_grammar.proofs.Many.{After, law_many, many_is, reads_many}

law_valued_by : (q : Token) → q.kind ≡ k.Assign → (kind : Option Kind) → Law (valued_by kind) (λ ys a. IsExtent (q ∷ ys) a)
law_valued_by q is (Some k.Minus) = law_take k.Minus _ _
    (λ m is_m. law_take k.Number _ _ (λ n is_n. law_pure (extent.Scalar (negated n.value)) _ (grammar.negative q m n is is_m is_n)))
law_valued_by q is _ = law_take k.Number _ _ (λ n is_n. law_pure (extent.Scalar n.value) _ (grammar.value q n is is_n))

law_extent_by : (kind : Option Kind) → Law (extent_by kind) IsExtent
law_extent_by (Some k.OpenSquare) = law_take k.OpenSquare _ _
    (λ o is_o. law_take k.Number _ _ (λ n is_n. law_take k.CloseSquare _ _ (λ c is_c. law_pure (extent.Array n.value) _ (grammar.array o n c is_o is_n is_c))))
law_extent_by (Some k.Assign) = law_take k.Assign _ _ (λ q is_q. law_by valued_by _ (law_valued_by q is_q))
law_extent_by _ = law_pure (extent.Scalar 0) IsExtent grammar.nothing_written

law_extents : Law extents IsExtent
unfolding extents
law_extents = law_by extent_by IsExtent law_extent_by

-- one number or long number
abbrev pub IsOneWorth : List Token → ℕ → Type 0
IsOneWorth ts w = (n : Token) × (ts ≡ n ∷ []) × IsWorth n w

law_worth_by : (kind : Option Kind) → Law (worth_by kind) IsOneWorth
law_worth_by (Some k.LongNumber) = law_take k.LongNumber _ _ (λ n is. law_pure (long_worth n) _ (n, refl, grammar.long_number n is))
law_worth_by _ = law_take k.Number _ _ (λ n is. law_pure n.value _ (n, refl, grammar.number n is))

law_worth : Law worth IsOneWorth
unfolding worth
law_worth = law_by worth_by IsOneWorth law_worth_by

law_long_valued_by : (q : Token) → q.kind ≡ k.Assign → (kind : Option Kind) → Law (long_valued_by kind) (λ ys a. IsLongExtent (q ∷ ys) a)
law_long_valued_by q is (Some k.Minus) = law_take k.Minus _ _ (λ m is_m. law_map worth (λ w. extent.Long (long_negated w)) IsOneWorth _ law_worth
    (λ xs w one. subst (λ ys. IsLongExtent (q ∷ m ∷ ys) (extent.Long (long_negated w))) (sym one.1) (grammar.long_negative q m one.0 w is is_m one.2)))
law_long_valued_by q is _ = law_map worth extent.Long IsOneWorth _ law_worth
    (λ xs w one. subst (λ ys. IsLongExtent (q ∷ ys) (extent.Long w)) (sym one.1) (grammar.long_value q one.0 w is one.2))

law_long_extent_by : (kind : Option Kind) → Law (long_extent_by kind) IsLongExtent
law_long_extent_by (Some k.Assign) = law_take k.Assign _ _ (λ q is_q. law_by long_valued_by _ (law_long_valued_by q is_q))
law_long_extent_by _ = law_pure (extent.Long 0) IsLongExtent grammar.no_value

law_long_extents : Law long_extents IsLongExtent
unfolding long_extents
law_long_extents = law_by long_extent_by IsLongExtent law_long_extent_by

unsigned_is : (kind : Kind) → grammar.type_of kind ≡ Some word.Unsigned → kind ≡ k.Unsigned
unsigned_is k.Unsigned h = refl
unsigned_is k.Int h = absurd (cc)
unsigned_is _ h = absurd (cc)

module _ (h t : Token) (is_h : h.kind ≡ k.Shared) where
  -- a declaration behind `shared type`
  abbrev pub IsBehind : List Token → SharedDeclaration → Type 0
  IsBehind ys x = IsShared (h ∷ t ∷ ys) x

  law_plain : (of : WordType) → type_of t.kind ≡ Some of → Law (named_of of extents) IsBehind
  law_plain of is = law_take k.Name _ _ (λ n is_n. law_bind _ IsExtent _ (λ xs init is_init. law_take k.Semicolon _ _ (λ z is_z.
      law_pure (shared_from of n init) _ (grammar.shared h t n z of xs init is_h is is_n is_init is_z))) extents law_extents)

  some_behind : (of : WordType) → type_of t.kind ≡ Some of → Sentence IsBehind
  some_behind of is =
      let n : Token = record { kind = k.Name; span = record { from = 0; to = 0 }; value = 0; high = 0 } in
      let z : Token = record { kind = k.Semicolon; span = record { from = 0; to = 0 }; value = 0; high = 0 } in
      (n ∷ z ∷ [], shared_from of n (extent.Scalar 0), grammar.shared h t n z of [] (extent.Scalar 0) is_h is refl grammar.nothing_written refl)

  law_long_behind : (of : WordType) → type_of t.kind ≡ Some of → Law (long_behind of) IsBehind
  law_long_behind word.Unsigned is = law_take k.Long _ _ (λ l is_l. law_take k.Name _ _ (λ n is_n. law_bind _ IsLongExtent _
      (λ xs init is_init. law_take k.Semicolon _ _ (λ z is_z.
      law_pure (shared_from word.Long n init) _ (grammar.long h t l n z xs init is_h (unsigned_is t.kind is) is_l is_n is_init is_z)))
      long_extents law_long_extents))
  law_long_behind word.Int is = law_refuse IsBehind (some_behind word.Int is)
  law_long_behind word.Long is = law_refuse IsBehind (some_behind word.Long is)

  law_shared_by : (of : WordType) → type_of t.kind ≡ Some of → (kind : Option Kind) → Law (shared_by kind of) IsBehind
  law_shared_by of is (Some k.Long) = law_long_behind of is
  law_shared_by of is _ = law_plain of is

law_shared : Law shared IsShared
unfolding shared
law_shared = law_take k.Shared _ _ (λ h is_h. law_type _ _
    (λ t of is. law_by (λ kind. shared_by kind of) _ (law_shared_by h t is_h of is)))

law_parameter : Law parameter IsParameter
unfolding parameter
law_parameter = law_type _ _ (λ t of is. law_take k.Name _ _ (λ n is_n. law_pure (parameter_from of n) _ (grammar.parameter t n of is is_n)))

law_further : Law further IsFurther
unfolding further
law_further = law_take k.Comma _ _ (λ c is_c. law_weaken parameter IsParameter _
    (λ ys found is_found. grammar.further c ys found is_c is_found) law_parameter)

further_some : (xs : List Token) (x : Parameter) → IsFurther xs x → 0 < length xs
further_some xs x (grammar.further c ts found is_c is_found) = omega arith

law_some_parameters : Law some_parameters IsParameters
unfolding some_parameters
law_some_parameters = law_bind _ IsParameter IsParameters (λ xs first is_first. law_weaken (many is_comma further (first ∷ []))
    (After IsFurther is_comma further law_further further_some (first ∷ [])) (λ ys all. IsParameters (xs ++ ys) all)
    (λ ys all rest. subst (IsParameters (xs ++ ys)) (sym rest.1) (grammar.parameters xs ys first rest.0 is_first rest.2))
    (law_many IsFurther is_comma further law_further further_some (first ∷ []))) parameter law_parameter

law_parameters_by : (kind : Option Kind) → Law (parameters_by kind) IsParameters
law_parameters_by (Some k.Close) = law_pure [] IsParameters grammar.no_parameter
law_parameters_by _ = law_some_parameters

law_parameters : Law parameters IsParameters
unfolding parameters
law_parameters = law_by parameters_by IsParameters law_parameters_by

law_function : Law function IsFunction
unfolding function
law_function = law_type _ _ (λ t of is. law_take k.Name _ _ (λ n is_n. law_take k.Open _ _ (λ o is_o. law_bind _ IsParameters _
    (λ ps found is_found. law_take k.Close _ _ (λ c is_c. law_map block (function_from of n found) IsBlock _ law_block
    (λ ts body is_body. grammar.function t n o c of ps ts found body is is_n is_o is_found is_c is_body))) parameters law_parameters)))

law_task : Law task IsTask
unfolding task
law_task = law_take k.Task _ _ (λ h is_h. law_take k.Name _ _
    (λ n is_n. law_map block (task_from n) IsBlock _ law_block (λ xs body is_body. grammar.task h n xs body is_h is_n is_body)))

law_ending : {A : Type 0} (a : A) (R : List Token → A → Type 0) → R [] a → Law (ending a) R
law_ending {A = A} a R r = record { good = good_ending; alike = alike_ending }
  where
    good_ending : (ts : List Token) → Good R ts (ending a ts)
    good_ending [] = ([], refl, r)
    good_ending (t ∷ ts) = ([], refl, [], a, r)

    alike_ending : (t : Token) (more more' front s : List Token) → rest_of (ending a (front ++ t ∷ more)) ≡ s ++ t ∷ more
        → ending a (front ++ t ∷ more') ≡ with_rest (ending a (front ++ t ∷ more)) (s ++ t ∷ more')
    alike_ending t more more' [] s h = ap (λ x. fault (x ++ t ∷ more')) (append_cancel_right [] s (t ∷ more) h)
    alike_ending t more more' (x ∷ xs) s h = ap (λ y. fault (y ++ t ∷ more')) (append_cancel_right (x ∷ xs) s (t ∷ more) h)

shared_some : (xs : List Token) (x : SharedDeclaration) → IsShared xs x → 0 < length xs
shared_some xs x (grammar.shared h t n z of ts init is_h is is_n is_init is_z) = omega arith
shared_some xs x (grammar.long h t l n z ts init is_h is_t is_l is_n is_init is_z) = omega arith

function_some : (xs : List Token) (x : Function) → IsFunction xs x → 0 < length xs
function_some xs x (grammar.function t n o c of ps ts found body is is_n is_o is_found is_c is_body) = omega arith

task_some : (xs : List Token) (x : Task) → IsTask xs x → 0 < length xs
task_some xs x (grammar.task h n ts body is_h is_n is_body) = omega arith

pub shareds_is : (found : List SharedDeclaration) (ts : List Token) → many is_shared shared found ts
    ≡ and_then (many_turn is_shared shared found ts) (turned (many is_shared shared))
shareds_is = many_is IsShared is_shared shared law_shared shared_some

pub further_is : (found : List Parameter) (ts : List Token) → many is_comma further found ts
    ≡ and_then (many_turn is_comma further found ts) (turned (many is_comma further))
further_is = many_is IsFurther is_comma further law_further further_some

pub functions_is : (found : List Function) (ts : List Token) → many is_function function found ts
    ≡ and_then (many_turn is_function function found ts) (turned (many is_function function))
functions_is = many_is IsFunction is_function function law_function function_some

pub tasks_is : (found : List Task) (ts : List Token) → many is_task task found ts ≡ and_then (many_turn is_task task found ts) (turned (many is_task task))
tasks_is = many_is IsTask is_task task law_task task_some

-- one task or more
abbrev pub IsTasks : List Token → List Task → Type 0
IsTasks ts all = (xs : List Token) × (ys : List Token) × (first : Task) × (others : List Task) × (ts ≡ xs ++ ys) × (all ≡ first ∷ others) × IsTask xs first
    × Row IsTask ys others

law_tasks : Law tasks IsTasks
unfolding tasks
law_tasks = law_bind _ IsTask IsTasks (λ xs first is_first. law_weaken (many is_task task (first ∷ []))
    (After IsTask is_task task law_task task_some (first ∷ [])) (λ ys all. IsTasks (xs ++ ys) all)
    (λ ys all rest. (xs, ys, first, rest.0, refl, rest.1, is_first, rest.2)) (law_many IsTask is_task task law_task task_some (first ∷ []))) task law_task

-- `entry name ;`
abbrev pub IsEnd : Token → Token → Token → Type 0
IsEnd h n z = (h.kind ≡ k.Entry) × (n.kind ≡ k.Name) × (z.kind ≡ k.Semicolon)

whole : (xs fs ys : List Token) (h n z : Token) (shareds : List SharedDeclaration) (functions : List Function) (all : List Task)
    → Row IsShared xs shareds → Row IsFunction fs functions → IsTasks ys all → IsEnd h n z
    → IsProgram (xs ++ (fs ++ (ys ++ (h ∷ n ∷ z ∷ [])))) (program_from shareds functions all n)
whole xs fs ys h n z shareds functions all is_shareds is_functions (vs, ws, first, others, cut, same, is_first, is_others) is_end =
    let end = h ∷ n ∷ z ∷ [] in
    let made : IsProgram (xs ++ (fs ++ (vs ++ (ws ++ end)))) (program_from shareds functions (first ∷ others) n) =
    grammar.program xs fs vs ws h n z shareds functions first others is_shareds is_functions is_first is_others is_end.0 is_end.1 is_end.2 in
    let tokens : xs ++ (fs ++ (vs ++ (ws ++ end))) ≡ xs ++ (fs ++ (ys ++ end)) =
    ap (λ x. xs ++ (fs ++ x)) (sym (append_assoc vs ws end) ∙ ap (λ x. x ++ end) (sym cut)) in
    subst (λ x. IsProgram x (program_from shareds functions all n)) tokens
    (subst (λ x. IsProgram (xs ++ (fs ++ (vs ++ (ws ++ end)))) (program_from shareds functions x n)) (sym same) made)

pub law_program : Law program IsProgram
unfolding program
law_program = law_bind _ (After IsShared is_shared shared law_shared shared_some []) IsProgram (λ xs shareds after.
    law_bind _ (After IsFunction is_function function law_function function_some []) _ (λ fs functions behind. law_bind _ IsTasks _ (λ ys all is_all.
    law_take k.Entry _ _ (λ h is_h. law_take k.Name _ _ (λ n is_n. law_take k.Semicolon _ _ (λ z is_z.
    law_ending (program_from shareds functions all n) _
    (whole xs fs ys h n z shareds functions all (subst (Row IsShared xs) (sym after.1) after.2) (subst (Row IsFunction fs) (sym behind.1) behind.2) is_all
    (is_h, is_n, is_z))))))
    tasks law_tasks) (many is_function function []) (law_many IsFunction is_function function law_function function_some []))
    (many is_shared shared []) (law_many IsShared is_shared shared law_shared shared_some [])

-- ---- what is related is read

reads_initial : (xs : List Token) (init : Extent) (z : Token) (rest : List Token) → IsExtent xs init → z.kind ≡ k.Semicolon
    → extents (xs ++ z ∷ rest) ≡ done init (z ∷ rest)
unfolding extents
reads_initial xs init z rest grammar.nothing_written is_z = ap (λ kd. extent_by (Some kd) (z ∷ rest)) is_z
reads_initial xs init z rest (grammar.array o n c is_o is_n is_c) is_z = ap (λ kd. extent_by (Some kd) (o ∷ n ∷ c ∷ z ∷ rest)) is_o
    ∙ takes k.OpenSquare o _ _ is_o ∙ takes k.Number n _ _ is_n ∙ takes k.CloseSquare c (z ∷ rest) _ is_c
reads_initial xs init z rest (grammar.value q n is_q is_n) is_z = ap (λ kd. extent_by (Some kd) (q ∷ n ∷ z ∷ rest)) is_q ∙ takes k.Assign q _ _ is_q
    ∙ ap (λ kd. valued_by (Some kd) (n ∷ z ∷ rest)) is_n ∙ takes k.Number n (z ∷ rest) _ is_n
reads_initial xs init z rest (grammar.negative q m n is_q is_m is_n) is_z = ap (λ kd. extent_by (Some kd) (q ∷ m ∷ n ∷ z ∷ rest)) is_q
    ∙ takes k.Assign q _ _ is_q ∙ ap (λ kd. valued_by (Some kd) (m ∷ n ∷ z ∷ rest)) is_m ∙ takes k.Minus m _ _ is_m ∙ takes k.Number n (z ∷ rest) _ is_n

reads_worth : (n : Token) (w : ℕ) (rest : List Token) → IsWorth n w → worth (n ∷ rest) ≡ done w rest
unfolding worth
reads_worth t w rest (grammar.number n is) = ap (λ kd. worth_by (Some kd) (n ∷ rest)) is ∙ takes k.Number n rest _ is
reads_worth t w rest (grammar.long_number n is) = ap (λ kd. worth_by (Some kd) (n ∷ rest)) is ∙ takes k.LongNumber n rest _ is

-- a number is no minus
worth_behind : (n : Token) (w : ℕ) (rest : List Token) → IsWorth n w
    → long_valued_by (Some n.kind) (n ∷ rest) ≡ and_then (worth (n ∷ rest)) (λ w. pure (extent.Long w))
worth_behind t w rest (grammar.number n is) = subst (λ kd. long_valued_by (Some kd) (n ∷ rest) ≡ and_then (worth (n ∷ rest)) (λ w. pure (extent.Long w)))
    (sym is) refl
worth_behind t w rest (grammar.long_number n is) = subst (λ kd. long_valued_by (Some kd) (n ∷ rest) ≡ and_then (worth (n ∷ rest)) (λ w. pure (extent.Long w)))
    (sym is) refl

reads_long : (xs : List Token) (init : Extent) (z : Token) (rest : List Token) → IsLongExtent xs init → z.kind ≡ k.Semicolon
    → long_extents (xs ++ z ∷ rest) ≡ done init (z ∷ rest)
unfolding long_extents
reads_long xs init z rest grammar.no_value is_z = ap (λ kd. long_extent_by (Some kd) (z ∷ rest)) is_z
reads_long xs init z rest (grammar.long_value q n w is_q is_w) is_z = ap (λ kd. long_extent_by (Some kd) (q ∷ n ∷ z ∷ rest)) is_q
    ∙ takes k.Assign q (n ∷ z ∷ rest) _ is_q ∙ worth_behind n w (z ∷ rest) is_w
    ∙ goes (worth (n ∷ z ∷ rest)) w (z ∷ rest) _ (reads_worth n w (z ∷ rest) is_w)
reads_long xs init z rest (grammar.long_negative q m n w is_q is_m is_w) is_z = ap (λ kd. long_extent_by (Some kd) (q ∷ m ∷ n ∷ z ∷ rest)) is_q
    ∙ takes k.Assign q (m ∷ n ∷ z ∷ rest) _ is_q ∙ ap (λ kd. long_valued_by (Some kd) (m ∷ n ∷ z ∷ rest)) is_m
    ∙ takes k.Minus m (n ∷ z ∷ rest) _ is_m ∙ goes (worth (n ∷ z ∷ rest)) w (z ∷ rest) _ (reads_worth n w (z ∷ rest) is_w)

reads_shared : (xs : List Token) (x : SharedDeclaration) → IsShared xs x → (rest : List Token) → shared (xs ++ rest) ≡ done x rest
unfolding shared
reads_shared xs x (grammar.shared h t n z of ts init is_h is is_n is_init is_z) rest =
    ap (λ y. shared (h ∷ t ∷ n ∷ y)) (append_assoc ts (z ∷ []) rest) ∙ takes k.Shared h (t ∷ n ∷ ts ++ z ∷ rest) _ is_h
    ∙ takes_type t of (n ∷ ts ++ z ∷ rest) _ is ∙ ap (λ kd. shared_by (Some kd) of (n ∷ ts ++ z ∷ rest)) is_n ∙ takes k.Name n (ts ++ z ∷ rest) _ is_n
    ∙ goes (extents (ts ++ z ∷ rest)) init (z ∷ rest) _ (reads_initial ts init z rest is_init is_z) ∙ takes k.Semicolon z rest _ is_z
reads_shared xs x (grammar.long h t l n z ts init is_h is_t is_l is_n is_init is_z) rest =
    ap (λ y. shared (h ∷ t ∷ l ∷ n ∷ y)) (append_assoc ts (z ∷ []) rest) ∙ takes k.Shared h (t ∷ l ∷ n ∷ ts ++ z ∷ rest) _ is_h
    ∙ takes_type t word.Unsigned (l ∷ n ∷ ts ++ z ∷ rest) _ (ap type_of is_t)
    ∙ ap (λ kd. shared_by (Some kd) word.Unsigned (l ∷ n ∷ ts ++ z ∷ rest)) is_l
    ∙ takes k.Long l (n ∷ ts ++ z ∷ rest) _ is_l ∙ takes k.Name n (ts ++ z ∷ rest) _ is_n
    ∙ goes (long_extents (ts ++ z ∷ rest)) init (z ∷ rest) _ (reads_long ts init z rest is_init is_z) ∙ takes k.Semicolon z rest _ is_z

reads_parameter : (xs : List Token) (x : Parameter) → IsParameter xs x → (rest : List Token) → parameter (xs ++ rest) ≡ done x rest
unfolding parameter
reads_parameter xs x (grammar.parameter t n of is is_n) rest = takes_type t of (n ∷ rest) _ is ∙ takes k.Name n rest _ is_n

reads_further : (xs : List Token) (x : Parameter) → IsFurther xs x → (rest : List Token) → further (xs ++ rest) ≡ done x rest
unfolding further
reads_further xs x (grammar.further c ts found is_c is_found) rest = takes k.Comma c (ts ++ rest) _ is_c ∙ reads_parameter ts found is_found rest

further_begun : (xs : List Token) (x : Parameter) → IsFurther xs x → (rest : List Token) → is_comma (kind_of (xs ++ rest)) ≡ true
further_begun xs x (grammar.further c ts found is_c is_found) rest = ap (λ kd. is_comma (Some kd)) is_c

-- no type is a closing bracket
type_open : (kind : Kind) (of : WordType) (ts : List Token) → type_of kind ≡ Some of → parameters_by (Some kind) ts ≡ some_parameters ts
type_open k.Close of ts h = absurd (cc)
type_open _ of ts h = refl

parameter_open : (xs : List Token) (x : Parameter) → IsParameter xs x → (rest : List Token)
    → parameters_by (kind_of (xs ++ rest)) (xs ++ rest) ≡ some_parameters (xs ++ rest)
parameter_open xs x (grammar.parameter t n of is is_n) rest = type_open t.kind of (t ∷ n ∷ rest) is

reads_parameters : (ps : List Token) (found : List Parameter) → IsParameters ps found → (c : Token) (rest : List Token) → c.kind ≡ k.Close
    → parameters (ps ++ c ∷ rest) ≡ done found (c ∷ rest)
unfolding parameters some_parameters
reads_parameters ps found grammar.no_parameter c rest is_c = ap (λ kd. parameters_by (Some kd) (c ∷ rest)) is_c
reads_parameters ps found (grammar.parameters xs ys first more is_first are_more) c rest is_c =
    let behind = ys ++ c ∷ rest in
    ap parameters (append_assoc xs ys (c ∷ rest)) ∙ parameter_open xs first is_first behind
    ∙ goes (parameter (xs ++ behind)) first behind _ (reads_parameter xs first is_first behind)
    ∙ reads_many IsFurther is_comma further law_further further_some further_begun reads_further more ys are_more (first ∷ []) (c ∷ rest)
    (ap (λ kd. is_comma (Some kd)) is_c)

reads_function : (xs : List Token) (x : Function) → IsFunction xs x → (rest : List Token) → function (xs ++ rest) ≡ done x rest
unfolding function
reads_function xs x (grammar.function t n o c of ps ts found body is is_n is_o is_found is_c is_body) rest =
    ap (λ y. function (t ∷ n ∷ o ∷ y)) (append_assoc ps (c ∷ ts) rest) ∙ takes_type t of (n ∷ o ∷ ps ++ (c ∷ ts ++ rest)) _ is
    ∙ takes k.Name n (o ∷ ps ++ (c ∷ ts ++ rest)) _ is_n ∙ takes k.Open o (ps ++ (c ∷ ts ++ rest)) _ is_o
    ∙ goes (parameters (ps ++ (c ∷ ts ++ rest))) found (c ∷ ts ++ rest) _ (reads_parameters ps found is_found c (ts ++ rest) is_c)
    ∙ takes k.Close c (ts ++ rest) _ is_c ∙ goes (block (ts ++ rest)) body rest _ (reads_block is_body rest)

type_begins_function : (kind : Kind) (of : WordType) → type_of kind ≡ Some of → is_function (Some kind) ≡ true
type_begins_function k.Unsigned of h = refl
type_begins_function k.Int of h = refl
type_begins_function _ of h = absurd (cc)

function_begun : (xs : List Token) (x : Function) → IsFunction xs x → (rest : List Token) → is_function (kind_of (xs ++ rest)) ≡ true
function_begun xs x (grammar.function t n o c of ps ts found body is is_n is_o is_found is_c is_body) rest = type_begins_function t.kind of is

type_not_shared : (kind : Kind) (of : WordType) → type_of kind ≡ Some of → is_shared (Some kind) ≡ false
type_not_shared k.Shared of h = absurd (cc)
type_not_shared _ of h = refl

function_not_shared : (xs : List Token) (x : Function) → IsFunction xs x → (rest : List Token) → is_shared (kind_of (xs ++ rest)) ≡ false
function_not_shared xs x (grammar.function t n o c of ps ts found body is is_n is_o is_found is_c is_body) rest = type_not_shared t.kind of is

reads_task : (xs : List Token) (x : Task) → IsTask xs x → (rest : List Token) → task (xs ++ rest) ≡ done x rest
unfolding task
reads_task xs x (grammar.task h n ts body is_h is_n is_body) rest = takes k.Task h _ _ is_h ∙ takes k.Name n (ts ++ rest) _ is_n
    ∙ goes (block (ts ++ rest)) body rest _ (reads_block is_body rest)

shared_begun : (xs : List Token) (x : SharedDeclaration) → IsShared xs x → (rest : List Token) → is_shared (kind_of (xs ++ rest)) ≡ true
shared_begun xs x (grammar.shared h t n z of ts init is_h is is_n is_init is_z) rest = ap (λ kd. is_shared (Some kd)) is_h
shared_begun xs x (grammar.long h t l n z ts init is_h is_t is_l is_n is_init is_z) rest = ap (λ kd. is_shared (Some kd)) is_h

task_begun : (xs : List Token) (x : Task) → IsTask xs x → (rest : List Token) → is_task (kind_of (xs ++ rest)) ≡ true
task_begun xs x (grammar.task h n ts body is_h is_n is_body) rest = ap (λ kd. is_task (Some kd)) is_h

task_no_function : (xs : List Token) (x : Task) → IsTask xs x → (rest : List Token) → is_function (kind_of (xs ++ rest)) ≡ false
task_no_function xs x (grammar.task h n ts body is_h is_n is_body) rest = ap (λ kd. is_function (Some kd)) is_h

task_not_shared : (xs : List Token) (x : Task) → IsTask xs x → (rest : List Token) → is_shared (kind_of (xs ++ rest)) ≡ false
task_not_shared xs x (grammar.task h n ts body is_h is_n is_body) rest = ap (λ kd. is_shared (Some kd)) is_h

functions_not_shared : (functions : List Function) (fs : List Token) → Row IsFunction fs functions → (rest : List Token)
    → is_shared (kind_of rest) ≡ false → is_shared (kind_of (fs ++ rest)) ≡ false
functions_not_shared [] fs row rest h = ap (λ ts. is_shared (kind_of (ts ++ rest))) row ∙ h
functions_not_shared (x ∷ more) fs row rest h =
    ap (λ ts. is_shared (kind_of (ts ++ rest))) row.2 ∙ ap (λ ts. is_shared (kind_of ts)) (append_assoc row.0 row.1 rest)
    ∙ function_not_shared row.0 x row.3 (row.1 ++ rest)

reads_tasks : (xs ys rest : List Token) (first : Task) (others : List Task) → IsTask xs first → Row IsTask ys others → is_task (kind_of rest) ≡ false
    → tasks (xs ++ (ys ++ rest)) ≡ done (first ∷ others) rest
unfolding tasks
reads_tasks xs ys rest first others is_first is_others ends =
    goes (task (xs ++ (ys ++ rest))) first (ys ++ rest) _ (reads_task xs first is_first (ys ++ rest))
    ∙ reads_many IsTask is_task task law_task task_some task_begun reads_task others ys is_others (first ∷ []) rest ends

pub reads_program : (ts : List Token) (tree : Program) → IsProgram ts tree → program ts ≡ done tree []
unfolding program
reads_program ts tree (grammar.program xs fs ys zs h n z shareds functions first others is_shareds is_functions is_first is_others is_h is_n is_z) =
    let end = h ∷ n ∷ z ∷ [] in
    let behind = ys ++ (zs ++ end) in
    goes (many is_shared shared [] (xs ++ (fs ++ behind))) shareds (fs ++ behind) _
    (reads_many IsShared is_shared shared law_shared shared_some shared_begun reads_shared shareds xs is_shareds [] (fs ++ behind)
    (functions_not_shared functions fs is_functions behind (task_not_shared ys first is_first (zs ++ end))))
    ∙ goes (many is_function function [] (fs ++ behind)) functions behind _
    (reads_many IsFunction is_function function law_function function_some function_begun reads_function functions fs is_functions [] behind
    (task_no_function ys first is_first (zs ++ end)))
    ∙ goes (tasks (ys ++ (zs ++ end))) (first ∷ others) end _ (reads_tasks ys zs end first others is_first is_others (ap (λ kd. is_task (Some kd)) is_h))
    ∙ takes k.Entry h _ _ is_h ∙ takes k.Name n (z ∷ []) _ is_n ∙ takes k.Semicolon z [] _ is_z
