-- The functions of a source do as their meanings say, where they stand in a task: each by those in front of it.
use Rattle.lower.proofs.Names.{◌≡◌, ℕ, zero, suc, ◌+◌, ◌<◌, ◌≤◌, ◌==◌, List, [], ◌∷◌, ◌++◌, length, Option, Some, None, Bool, refl, sym, ap, ◌∙◌, subst, arith}
use Rattle.lower.proofs.Names.{if◌then◌else◌, ⊎_elim, inl, inr, ◌⊎◌, cases_eq, cases_lt, eq-eqb, ne_eqb, map, map-append, length-append, length-map, append-nil}
use Rattle.lower.proofs.Names.{All-head, All-tail, append_assoc, eqb-true, no_functions, get_or_append_left, get_or_past, get_or-append_seam, fram_after}
use Rattle.lower.proofs.Names.{Effect, Shared, summary, CheckedFunction, CheckedBlock, Evaluated}
use Rattle.lower.proofs.Names.{Outcome, returns, short, run_block, block_emits, EmitsUpTo, block_up_to, Variables, Functions, functions_of, Scene, Places}
use Rattle.lower.proofs.Names.{code_places, locals_from, seen_from, StandsFor, HoldVariables, Returned, AreFunctions, WellFormedBlock, AdmitsBlock}
use Rattle.lower.proofs.Names.{lowered_block, routine_of, routine_among, routine_places, routine_body, body_at, RoutinePlace, Program, nothing, WordState}
use Rattle.lower.proofs.Names.{End, GoesOn}
use Rattle.lower.proofs.Names.{Jumps, Gives, Short, Strays, Broken, Behaviour, behaviour, called, called_behind, behind_call, parameter_words, with_stack}
use Rattle.lower.proofs.Names.{behaves_by_effects, EndsByEffects, answered_by, answers_told, by_answers, word_place, Version, listed_of, Element, is_store_to}
use Rattle.lower.proofs.Names.{true, false, block_sum, block_writes, called_stores, block_count, AccessSummary}
use Rattle.std.proofs.Common.{get_or, slice_get, All, replicate, take}
use Rattle.std.proofs.lemmas.List.{get_or-take, length-take-le, length-replicate}
use Rattle.std.proofs.lemmas.Option.{slice_get-get_or, slice_get_within}
use Rattle.path_sums.specs.Sums.{call_sum, call_sums, function_sum}
use Rattle.path_sums.specs.Access.{summary_unit}
use Rattle.cost_bound.specs.Counts.{stores_of}
use Rattle.cost_bound.specs.Summary.{Summary}
use Rattle.cost_bound.specs.Summaries.{function_summary}
use Rattle.task_ast.specs.Answers.{answers_from}
use Rattle.source_values.specs.Values.{Attempt, Meaning, evaluated, new_locals}
use Rattle.source_values.specs.Statements.{goes_on, to_task, entered, left_with, meaning_of, function_emits}
use Rattle.source_values.proofs.Interface.{FunctionUpTo, KnownUpTo, pushed}
use Rattle.lower.proofs.Ends.{DidFrom, Does, Ends, keeps_version, stores_keep}
use Rattle.lower.proofs.Sequence.{Spare, Keeping, sparing, Keeps, Leaves, LeavesWords}
use Rattle.lower.proofs.Values.{LeavesWord, single}
use Rattle.lower.proofs.Writes.{CallsGoOn}
use Rattle.lower.proofs.Calls.{turned, turned_length, before_call, RoutineLeaves, KnownAgree, call_emits, call_lists, CallWritesWithin}
use Rattle.lower.proofs.Elements.{Start}
use Rattle.lower.proofs.Blocks.{block_does}
use Rattle.lower.proofs.Pushed.{pushed_at, in_front, at_end, none_past, one_longer}

-- ---- parameters

-- words on the stack stand for these parameters, in the text's order
record Named (first : ℕ) (vs words : List ℕ) : Type 0 where
  count : length vs ≡ length words
  each : (j u : ℕ) → parameter_words first vs (first + j) ≡ Some u → (j < length words) × (get_or words j 0 ≡ u)

none_named : (first : ℕ) → Named first [] []
none_named first = record { count = refl; each = λ j u h. absurd (let never : None ≡ Some u = h in cc) }

one_named : (first : ℕ) (vs words : List ℕ) (w : ℕ) → Named first vs words → Named first (w ∷ vs) (words ++ w ∷ [])
one_named first vs words w h = record { count = count; each = each }
  where
    long : length (words ++ w ∷ []) ≡ length words + 1
    long = length-append words (w ∷ [])

    count : length (w ∷ vs) ≡ length (words ++ w ∷ [])
    count = let c = h.count in omega (arith, c, long)

    by : (same : Bool) (j u : ℕ) → (first + j == first + length vs) ≡ same → (if same then Some w else parameter_words first vs (first + j)) ≡ Some u
        → (j < length (words ++ w ∷ [])) × (get_or (words ++ w ∷ []) j 0 ≡ u)
    by true j u is e =
        let at : first + j ≡ first + length vs = eqb-true (first + j) (first + length vs) is in
        let c = h.count in
        let j_is : j ≡ length words = omega (arith, at, c) in
        let word : w ≡ u = cc in
        (omega (arith, j_is, long), at_end words w 0 j j_is ∙ word)
    by false j u is e =
        let old = h.each j u e in
        let below = old.0 in
        (omega (arith, below, long), in_front words w 0 j old.0 ∙ old.1)

    each : (j u : ℕ) → parameter_words first (w ∷ vs) (first + j) ≡ Some u → (j < length (words ++ w ∷ [])) × (get_or (words ++ w ∷ []) j 0 ≡ u)
    each j u e = by (first + j == first + length vs) j u refl e

all_named : (first : ℕ) (words vs before : List ℕ) → Named first vs before → Named first (turned words vs) (before ++ words)
all_named first [] vs before h = subst (Named first vs) (sym (append-nil before)) h
all_named first (w ∷ words) vs before h =
    subst (Named first (turned words (w ∷ vs))) (append_assoc before (w ∷ []) words)
    (all_named first words (w ∷ vs) (before ++ w ∷ []) (one_named first vs before w h))

-- the words that a function is called with are the first of its locals
entered_locals : (first : ℕ) (words : List ℕ) (j u : ℕ) → length words ≤ 256 → parameter_words first (turned words []) (first + j) ≡ Some u
    → get_or (take 256 (words ++ new_locals)) j 0 ≡ u
entered_locals first words j u few e =
    let named = (all_named first words [] [] (none_named first)).each j u e in
    let below = named.0 in
    get_or-take 256 (words ++ new_locals) j 0 (omega (arith, below, few)) ∙ get_or_append_left words new_locals 0 j below ∙ named.1

entered_count : (words : List ℕ) → length (take 256 (words ++ new_locals)) ≡ 256
entered_count words =
    let new : length new_locals ≡ 256 = length-replicate {A = ℕ} 256 0 in
    let long = length-append words new_locals in
    length-take-le 256 (words ++ new_locals) (omega (arith, new, long))

-- ---- one function

-- the code of a function in a task, by the functions in front of it
abbrev inside : (z : Scene) (r : RoutinePlace) → r.first + 256 ≤ 65536 → Functions → Scene
inside z r low fs = record z { own = r.first; own_low = low; fs = fs }

-- where a call of a function stands: the code of a task, with words for its parameters, what is to spare, and a state that keeps an attempt
record Caller (z : Scene) (emits : ℕ) (lists : ℕ → ℕ) : Type 0 where
  own : ℕ
  own_low : own + 256 ≤ 65536
  fs : Functions
  most : ℕ → ℕ
  within : (v : ℕ) → most v ≤ z.stores v
  free : Spare
  words : List ℕ
  stack : List ℕ
  m : Attempt
  w : WordState
  few : length words ≤ 256
  kept : Keeps (record { z = record z { own = own; own_low = own_low; fs = fs }; most = most; within = within; free = before_call emits lists free }) m w

-- what is kept behind it
abbrev keeping : {z : Scene} {emits : ℕ} {lists : ℕ → ℕ} → Caller z emits lists → Keeping
keeping {z} c = record { z = record z { own = c.own; own_low = c.own_low; fs = c.fs }; most = c.most; within = c.within; free = c.free }

module _ (z : Scene) (r : RoutinePlace) (low : r.first + 256 ≤ 65536) (fs : Functions) (f : CheckedFunction) (known : KnownAgree (inside z r low fs))
    (fits : WellFormedBlock z.shared f.body) (admits : AdmitsBlock z.p.map.runtime.events f.body)
    (writes : (v : ℕ) → block_writes fs f.body v ≡ true → z.written v ≡ true) where
  abbrev body : Program
  body = lowered_block (routine_places z.p r) fs.bodies f.body

  abbrev emits : ℕ
  emits = block_emits fs.emits f.body

  abbrev lists : ℕ → ℕ
  lists v = block_count (called_stores fs.summaries v) (is_store_to v) f.body

  module _ (c : Caller z emits lists) where
    abbrev caller : WordState
    caller = with_stack c.stack c.w

    abbrev there : WordState
    there = called r.first (turned c.words []) caller

    abbrev once : ℕ → ℕ
    once v = listed_of v c.kept.listed + lists v

    -- what the body runs to, by the answers that it is given
    abbrev run : List ℕ → Outcome
    run answers = run_block fs.meanings f.body (answered_by answers (entered c.words c.m))

    here : Start (inside z r low fs) emits lists
    here =
        let room = c.kept.emits in
        record {
          m = entered c.words c.m;
          listed = c.kept.listed;
          w = there;
          most = once;
          stands = record {
            variables = record {
              words = c.kept.stands.variables.words;
              elements = c.kept.stands.variables.elements;
              rows = c.kept.stands.variables.rows;
              lengths = c.kept.stands.variables.lengths;
              locals = λ j u e. entered_locals r.first c.words j u c.few e;
              local_count = entered_count c.words;
            };
            emitted = c.kept.stands.emitted;
            list = c.kept.stands.list;
            readings = c.kept.stands.readings;
          };
          number = c.kept.number;
          emits = omega (arith, room);
          lists = λ v. omega arith;
          within = λ v. let a = c.kept.lists v in let b = c.within v in omega (arith, a, b);
        }

    -- the end of the body, and that of the call
    abbrev BodyEnds : List ℕ → List Effect → End → Outcome → Type 0
    BodyEnds left es e o = Ends (inside z r low fs) c.w.fram once [] left es e o

    abbrev CallEnds : List ℕ → List Effect → End → Outcome → Type 0
    CallEnds left es e o = Leaves (keeping c) single c.w.fram c.stack left es e (left_with c.m.variables.locals o)

    abbrev left_state : ℕ → WordState → WordState
    left_state v t = record t { stack = v ∷ c.stack; locals = c.w.locals }

    given : (left : List ℕ) (es : List Effect) (v : ℕ) (t : WordState) (o : Outcome) → t.fram ≡ fram_after es c.w.fram
        → EmitsUpTo (length c.m.emitted + emits) o → BodyEnds left es (Gives v t) o → CallEnds left es (GoesOn (left_state v t)) o
    given left es v t (returns word n) at up d =
        let number = ap (λ g. g (word_place z.p.map Version)) at
        ∙ stores_keep z.p z.written z.room z.ver (word_place z.p.map Version) es c.w.fram z.apart (keeps_version z.p z.room z.apart) d.did.stores
        ∙ c.kept.number in
        let room = c.kept.emits in
        record {
          did = d.did;
          arrived = at;
          words_pushed = ap (λ u. u ∷ c.stack) d.is;
          kept = record {
            listed = d.listed;
            stands = record {
              variables = record {
                words = d.stands.variables.words;
                elements = d.stands.variables.elements;
                rows = d.stands.variables.rows;
                lengths = d.stands.variables.lengths;
                locals = c.kept.stands.variables.locals;
                local_count = c.kept.stands.variables.local_count;
              };
              emitted = d.stands.emitted;
              list = d.stands.list;
              readings = d.stands.readings;
            };
            number = number;
            emits = omega (arith, up, room);
            lists = λ v. let a = c.kept.lists v in let b = d.few v in omega (arith, a, b);
          };
          answers = d.answers;
        }
    given left es v t o at up d = absurd d

    lacks : (left : List ℕ) (es : List Effect) (o : Outcome) → BodyEnds left es Short o → CallEnds left es Short o
    lacks left es short d = d
    lacks left es o d = absurd d

    by_end : (es : List Effect) (e : End) → EndsByEffects there es e
        → ((left : List ℕ) → BodyEnds left es e (run (answers_told es ++ left)))
        → LeavesWord (keeping c) caller (called_behind caller (record { effects = es; end = e })) (by_answers c.m (meaning_of fs.meanings f c.words))
    by_end es (Gives v t) by h left =
        let up = block_up_to fs.meanings fs.emits known.up_to f.body (answered_by (answers_told es ++ left) (entered c.words c.m))
        (length c.m.emitted + emits) (omega arith) in
        subst (λ l. CallEnds left l (GoesOn (left_state v t)) (run (answers_told l ++ left))) (sym (append-nil es))
        (given left es v t (run (answers_told es ++ left)) by.0 up (h left))
    by_end es Short by h left =
        subst (λ l. CallEnds left l Short (run (answers_told l ++ left))) (sym (append-nil es)) (lacks left es (run (answers_told es ++ left)) (h left))
    by_end es Strays by h left = absurd (h left)
    by_end es e by h left = tt

    called_leaves : LeavesWord (keeping c) caller (called_behind caller (behaviour body there)) (by_answers c.m (meaning_of fs.meanings f c.words))
    unfolding here
    called_leaves =
        by_end (behaviour body there).effects (behaviour body there).end (behaves_by_effects body there)
        (block_does (inside z r low fs) known f.body here fits admits writes)

  -- so the body does, wherever it is called
  pub routine_leaves : RoutineLeaves z r (meaning_of fs.meanings f) body emits lists
  routine_leaves own own_low others most within free words stack m w few kept = called_leaves (record {
    own = own;
    own_low = own_low;
    fs = others;
    most = most;
    within = within;
    free = free;
    words = words;
    stack = stack;
    m = m;
    w = w;
    few = few;
    kept = kept;
  })

-- ---- all functions

-- the functions with one more behind them
abbrev one_more : Places → Functions → CheckedFunction → Functions
one_more p fs f = record {
  meanings = fs.meanings ++ meaning_of fs.meanings f ∷ [];
  bodies = fs.bodies ++ routine_body p fs.bodies f ∷ [];
  emits = fs.emits ++ function_emits fs.emits f ∷ [];
  summaries = fs.summaries ++ function_summary fs.summaries f ∷ [];
  sums = λ v. fs.sums v ++ function_sum (summary (Shared v)) (fs.sums v) f ∷ [];
}

-- with all of these
abbrev all_more : Places → Functions → List CheckedFunction → Functions
all_more p fs [] = fs
all_more p fs (f ∷ rest) = all_more p (one_more p fs f) rest

all_are : (p : Places) (fs : Functions) (rest : List CheckedFunction) → all_more p fs rest ≡ record {
  meanings = answers_from meaning_of fs.meanings rest;
  bodies = answers_from (routine_body p) fs.bodies rest;
  emits = answers_from function_emits fs.emits rest;
  summaries = answers_from function_summary fs.summaries rest;
  sums = λ v. answers_from (function_sum (summary (Shared v))) (fs.sums v) rest;
}
all_are p fs [] = refl
all_are p fs (f ∷ rest) = all_are p (one_more p fs f) rest

-- as many of each kind
record AreAlike (fs : Functions) (n : ℕ) : Type 0 where
  meanings : length fs.meanings ≡ n
  bodies : length fs.bodies ≡ n
  emits : length fs.emits ≡ n
  summaries : length fs.summaries ≡ n
  sums : (v : ℕ) → length (fs.sums v) ≡ n

one_more_alike : (p : Places) (fs : Functions) (f : CheckedFunction) (n : ℕ) → AreAlike fs n → AreAlike (one_more p fs f) (n + 1)
one_more_alike p fs f n h = record {
  meanings = one_longer fs.meanings (meaning_of fs.meanings f) n h.meanings;
  bodies = one_longer fs.bodies (routine_body p fs.bodies f) n h.bodies;
  emits = one_longer fs.emits (function_emits fs.emits f) n h.emits;
  summaries = one_longer fs.summaries (function_summary fs.summaries f) n h.summaries;
  sums = λ v. one_longer (fs.sums v) (function_sum (summary (Shared v)) (fs.sums v) f) n (h.sums v);
}

-- a function among these places has its first local where locals may stand
routine_low : (routines : List RoutinePlace) (i : ℕ) (r : RoutinePlace) → All (λ r. r.first + 256 ≤ 65536) routines → routine_among routines i ≡ Some r
    → r.first + 256 ≤ 65536
routine_low [] i r h is = let never : None ≡ Some r = is in absurd (cc)
routine_low (q ∷ more) i r h is = by (q.function == i) (λ e. routine_low more i r (All-tail (λ r. r.first + 256 ≤ 65536) q more h) e) is
  where
    by : (b : Bool) → (routine_among more i ≡ Some r → r.first + 256 ≤ 65536) → (if b then Some q else routine_among more i) ≡ Some r
        → r.first + 256 ≤ 65536
    by true others e =
        let same : q ≡ r = cc in subst (λ (x : RoutinePlace). x.first + 256 ≤ 65536) same (All-head (λ r. r.first + 256 ≤ 65536) q more h)
    by false others e = others e

-- what a function gives emits no more than its block counts
abbrev ValueUpTo : ℕ → Option Evaluated → Type 0
ValueUpTo n None = Unit {0}
ValueUpTo n (Some x) = length x.behind.emitted ≤ n

given_up_to : (n : ℕ) (locals : List ℕ) (o : Outcome) → EmitsUpTo n o → ValueUpTo n (left_with locals o)
given_up_to n locals (goes_on s) h = tt
given_up_to n locals (to_task task s) h = tt
given_up_to n locals (returns w s) h = h
given_up_to n locals short h = tt

function_up_to : (known : List Meaning) (counts : List ℕ) → KnownUpTo known counts → (f : CheckedFunction)
    → FunctionUpTo (meaning_of known f) (function_emits counts f)
function_up_to known counts h f words s n l =
    given_up_to n s.variables.locals (run_block known f.body (entered words s)) (block_up_to known counts h f.body (entered words s) n l)

stores_are : (known : List Summary) (v : ℕ) (b : CheckedBlock) → stores_of known v b ≡ block_count (called_stores known v) (is_store_to v) b
unfolding stores_of
stores_are known v b = refl

-- each of these functions goes on where it is called
sum_goes_on : (v : ℕ) (known : List AccessSummary) (f : CheckedFunction) → (function_sum (summary (Shared v)) known f).falls_through ≡ true
unfolding summary
sum_goes_on v known f = refl

unit_goes_on : (v : ℕ) → ((summary (Shared v)).unit).falls_through ≡ true
unfolding summary
unit_goes_on v = refl

call_writes : (v : ℕ) (known : List AccessSummary) (f : CheckedFunction) → (function_sum (summary (Shared v)) known f).writes
    ≡ (block_sum known (summary (Shared v)) f.body).writes
unfolding summary
call_writes v known f = refl

more_go_on : (v : ℕ) (known : List AccessSummary) (f : CheckedFunction) → CallsGoOn v known
    → CallsGoOn v (known ++ function_sum (summary (Shared v)) known f ∷ [])
more_go_on v known f on i =
    ⊎_elim
    (λ below. ap (λ (s : AccessSummary). s.falls_through) (in_front known new unit i below) ∙ on i)
    (λ past. ⊎_elim
    (λ same. ap (λ (s : AccessSummary). s.falls_through) (at_end known new unit i same) ∙ sum_goes_on v known f)
    (λ differ. ap (λ (s : AccessSummary). s.falls_through)
    (get_or_past (known ++ new ∷ []) i unit (let long = length-append known (new ∷ []) in omega (arith, long, past, differ))) ∙ unit_goes_on v)
    (cases_eq i (length known)))
    (cases_lt i (length known))
  where
    new : AccessSummary
    new = function_sum (summary (Shared v)) known f

    unit : AccessSummary
    unit = (summary (Shared v)).unit

module _ (z : Scene) (low : All (λ r. r.first + 256 ≤ 65536) z.p.routines) where
  -- these functions agree, whatever the code is that calls them
  abbrev Agree : Functions → Type 0
  Agree fs = (own : ℕ) (own_low : own + 256 ≤ 65536) → KnownAgree (record z { own = own; own_low = own_low; fs = fs })

  -- and a further one by them
  module _ (fs : Functions) (f : CheckedFunction) (alike : AreAlike fs (length fs.meanings)) (known : Agree fs)
      (fits : WellFormedBlock z.shared f.body) (admits : AdmitsBlock z.p.map.runtime.events f.body) where
    abbrev n : ℕ
    n = length fs.meanings

    abbrev more : Functions
    more = one_more z.p fs f

    -- an array's stores that a call of it counts
    abbrev new_lists : ℕ → ℕ
    new_lists v = stores_of fs.summaries v f.body

    emits_old : (i : ℕ) → i < n → call_emits more i ≡ call_emits fs i
    emits_old i l = let same = alike.emits in in_front fs.emits (function_emits fs.emits f) 0 i (omega (arith, l, same))

    emits_new : call_emits more n ≡ function_emits fs.emits f
    emits_new = at_end fs.emits (function_emits fs.emits f) 0 n (sym alike.emits)

    stores_pushed : (v : ℕ) → called_stores more.summaries v ≡ called_stores fs.summaries v ++ new_lists v ∷ []
    stores_pushed v = map-append (λ (s : Summary). s.stores v) fs.summaries (function_summary fs.summaries f ∷ [])

    lists_old : (i v : ℕ) → i < n → call_lists more i v ≡ call_lists fs i v
    lists_old i v l =
        let count = length-map fs.summaries (λ (s : Summary). s.stores v) in
        let same = alike.summaries in
        ap (λ l. get_or l i 0) (stores_pushed v) ∙ in_front (called_stores fs.summaries v) (new_lists v) 0 i (omega (arith, l, same, count))

    lists_new : (v : ℕ) → call_lists more n v ≡ new_lists v
    lists_new v =
        let count = length-map fs.summaries (λ (s : Summary). s.stores v) in
        let same = alike.summaries in
        ap (λ l. get_or l n 0) (stores_pushed v) ∙ at_end (called_stores fs.summaries v) (new_lists v) 0 n (omega (arith, same, count))

    -- one in front
    old_call : (own : ℕ) (own_low : own + 256 ≤ 65536) (i : ℕ) (g : Meaning) (r : RoutinePlace) → i < n → slice_get fs.meanings i ≡ Some g
        → routine_of z.p i ≡ Some r → CallWritesWithin (record z { own = own; own_low = own_low; fs = more }) i
        → RoutineLeaves z r g (get_or more.bodies i nothing) (call_emits more i) (call_lists more i)
    old_call own own_low i g r l is at writes =
        let count = alike.bodies in
        let within : CallWritesWithin (record z { own = own; own_low = own_low; fs = fs }) i = λ v h.
        let sums = alike.sums v in
        writes v (ap (λ (s : AccessSummary). s.writes)
        (in_front (fs.sums v) (function_sum (summary (Shared v)) (fs.sums v) f) ((summary (Shared v)).unit) i (omega (arith, l, sums))) ∙ h) in
        let leaves = (known own own_low).calls i g r is at within in
        subst (λ e. RoutineLeaves z r g (get_or more.bodies i nothing) e (call_lists more i)) (sym (emits_old i l))
        (subst (λ ls. RoutineLeaves z r g (get_or more.bodies i nothing) (call_emits fs i) ls) (λ j. λ v. sym (lists_old i v l) j)
        (subst (λ q. RoutineLeaves z r g q (call_emits fs i) (call_lists fs i))
        (sym (in_front fs.bodies (routine_body z.p fs.bodies f) nothing i (omega (arith, l, count)))) leaves))

    -- the further one
    new_call : (own : ℕ) (own_low : own + 256 ≤ 65536) (r : RoutinePlace) → routine_of z.p n ≡ Some r
        → CallWritesWithin (record z { own = own; own_low = own_low; fs = more }) n
        → RoutineLeaves z r (meaning_of fs.meanings f) (get_or more.bodies n nothing) (call_emits more n) (call_lists more n)
    new_call own own_low r at writes =
        let count = alike.bodies in
        let first_low = routine_low z.p.routines n r low at in
        let within : (v : ℕ) → block_writes fs f.body v ≡ true → z.written v ≡ true = λ v h.
        writes v (ap (λ (s : AccessSummary). s.writes)
        (at_end (fs.sums v) (function_sum (summary (Shared v)) (fs.sums v) f) ((summary (Shared v)).unit) n (sym (alike.sums v)))
        ∙ call_writes v (fs.sums v) f ∙ h) in
        let leaves = routine_leaves z r first_low fs f (known r.first first_low) fits admits within in
        let body : get_or more.bodies n nothing ≡ lowered_block (routine_places z.p r) fs.bodies f.body =
        at_end fs.bodies (routine_body z.p fs.bodies f) nothing n (sym count)
        ∙ ap (λ k. body_at z.p (routine_of z.p k) fs.bodies f.body) count ∙ ap (λ o. body_at z.p o fs.bodies f.body) at in
        subst (λ e. RoutineLeaves z r (meaning_of fs.meanings f) (get_or more.bodies n nothing) e (call_lists more n)) (sym emits_new)
        (subst (λ ls. RoutineLeaves z r (meaning_of fs.meanings f) (get_or more.bodies n nothing) (function_emits fs.emits f) ls)
        (λ j. λ v. (sym (stores_are fs.summaries v f.body) ∙ sym (lists_new v)) j)
        (subst (λ q. RoutineLeaves z r (meaning_of fs.meanings f) q (function_emits fs.emits f)
        (λ v. block_count (called_stores fs.summaries v) (is_store_to v) f.body)) (sym body) leaves))

    one_more_agrees : Agree more
    one_more_agrees own own_low = record {
      calls = λ i g r is at writes. ⊎_elim
          (λ old. old_call own own_low i g r (slice_get_within fs.meanings i g old) old at writes)
          (λ new. subst (λ h. RoutineLeaves z r h (get_or more.bodies i nothing) (call_emits more i) (call_lists more i)) new.1
          (subst (λ j. RoutineLeaves z r (meaning_of fs.meanings f) (get_or more.bodies j nothing) (call_emits more j) (call_lists more j)) (sym new.0)
          (new_call own own_low r (ap (routine_of z.p) (sym new.0) ∙ at)
          (subst (λ j. CallWritesWithin (record z { own = own; own_low = own_low; fs = more }) j) new.0 writes))))
          (pushed_at fs.meanings (meaning_of fs.meanings f) i g is);
      none = λ i is.
          let count = alike.bodies in
          let long = one_longer fs.meanings (meaning_of fs.meanings f) n refl in
          let long_bodies = one_longer fs.bodies (routine_body z.p fs.bodies f) n count in
          let past = none_past more.meanings i is in
          get_or_past more.bodies i nothing (omega (arith, long, long_bodies, past));
      go_on = λ v. more_go_on v (fs.sums v) f ((known own own_low).go_on v);
      up_to = pushed FunctionUpTo fs.meanings fs.emits (meaning_of fs.meanings f) (function_emits fs.emits f) (known own own_low).up_to
          (function_up_to fs.meanings fs.emits (known own own_low).up_to f);
    }

  all_agree : (fs : Functions) (rest : List CheckedFunction) → AreAlike fs (length fs.meanings) → Agree fs → All (λ f. WellFormedBlock z.shared f.body) rest
      → All (λ f. AdmitsBlock z.p.map.runtime.events f.body) rest → Agree (all_more z.p fs rest)
  all_agree fs [] alike known fits admits = known
  all_agree fs (f ∷ rest) alike known fits admits =
      let long = one_longer fs.meanings (meaning_of fs.meanings f) (length fs.meanings) refl in
      all_agree (one_more z.p fs f) rest
      (subst (AreAlike (one_more z.p fs f)) (sym long) (one_more_alike z.p fs f (length fs.meanings) alike))
      (one_more_agrees fs f alike known (All-head (λ f. WellFormedBlock z.shared f.body) f rest fits)
      (All-head (λ f. AdmitsBlock z.p.map.runtime.events f.body) f rest admits))
      (All-tail (λ f. WellFormedBlock z.shared f.body) f rest fits) (All-tail (λ f. AdmitsBlock z.p.map.runtime.events f.body) f rest admits)

-- no function
none_alike : AreAlike no_functions 0
none_alike = record { meanings = refl; bodies = refl; emits = refl; summaries = refl; sums = λ v. refl }

none_agree : (z : Scene) → KnownAgree (record z { fs = no_functions })
none_agree z = record {
  calls = λ i f r is at writes. absurd (let never : None ≡ Some f = is in cc);
  none = λ i is. refl;
  go_on = λ v i. unit_goes_on v;
  up_to = tt;
}

-- the functions of a source do as they mean
pub functions_agree : (z : Scene) (fs : List CheckedFunction) → AreFunctions z fs → KnownAgree z
functions_agree z fs h =
    let all = all_agree z h.low no_functions fs none_alike
    (λ own own_low. none_agree (record z { own = own; own_low = own_low })) h.fits h.admits z.own z.own_low in
    let are : all_more z.p no_functions fs ≡ z.fs = all_are z.p no_functions fs ∙ sym h.are in
    subst (λ g. KnownAgree (record z { fs = g })) are all
