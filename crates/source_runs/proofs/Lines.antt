-- The lines of a done and of the transition that it stands for.
use Rattle.std.proofs.Common.{◌≡◌, ℕ, zero, suc, ◌+◌, ◌-◌, ◌^◌, ◌<◌, ◌==◌, min, refl, sym, ap, ap₂, ◌∙◌, subst, arith, if◌then◌else◌, List, [], ◌∷◌, ◌++◌}
use Rattle.std.proofs.Common.{length, drop, append_assoc, append-nil, false, Option, Some}
use Rattle.std.proofs.Math.Seq.{drop-append_seam}
use Rattle.std.proofs.lemmas.Bool.Decides.{nat_tests}
use Rattle.std.proofs.lemmas.Option.{slice_get-map}
use Rattle.std.specs.Prelude.{slice_get}
use Rattle.alp_io.specs.Report.{step_line, value_line}
use Rattle.task_ast.specs.declared.SharedDeclaration.{SharedDeclaration}
use Rattle.task_ast.specs.declared.Extent.{Extent}
use Rattle.task_ast.specs.declared.Extent.TheVariants.{Scalar, Long, Array}
use Rattle.image_map.specs.declared.parts.ValueType.{ValueType}
use Rattle.image_map.specs.declared.parts.ValueType.TheVariants as value_type
use Rattle.image_map.specs.declared.parts.Variable.{Variable}
use Rattle.image_map.specs.MapValue.{MapValue, is_long, word_count}
use Rattle.board_run.specs.History.{SharedNumber, array_words, scalar_number, number_of, variable_numbers, shared_numbers}
use Rattle.board_run.specs.History.{changed_line}
use Rattle.board_run.specs.History as board
use Rattle.source_values.specs.Runs.{CheckedProgram, is_long_extent, State, Transition, state_after}
use Rattle.source_report.specs.SourceReport.{spelled, Committed, change_line, element_lines, variable_lines, transition_lines, source_report}
use Rattle.source_report.specs.SourceReport as source
use Rattle.machine_effects.specs.World.{World}
use Rattle.crash_rules.specs.History.{Done}
use Rattle.model_runs.specs.Events.{counted, words_between, word_lines, change_lines, done_lines, dones_lines}
use Rattle.model_runs.proofs.Interface.{few_words_have_lines}
use Rattle.source_runs.specs.Naming.{length_of, AreVariablesOf, IsMapOf}
use Rattle.source_runs.specs.Transitions.{words_at, rows_in, HasWordsOf, StandsForTransition, StandForTransitions, committed_by}
use Rattle.source_runs.specs.Tells.{spans_in}
use Rattle.source_runs.specs.EventLaws.{DonesAreTransitions}

-- counts
one_higher : (c n top : ℕ) → c ≡ n → n < top → min (c + 1) top ≡ suc n
one_higher c n top e h = omega arith

below : (k top : ℕ) → suc k < top + 1 → k < top
below k top h = omega arith

-- a count below 2^64 is the number
pub counted_below : (k top : ℕ) → top ≡ 2 ^ 64 - 1 → k < top + 1 → counted k ≡ k
counted_below zero top e h = refl
counted_below (suc k) top e h =
    let less = below k top h in
    let ih = counted_below k top e (omega arith) in
    ap (min (counted k + 1)) (sym e) ∙ one_higher (counted k) k top ih less

-- one shared number
same_test : (a b : ℕ) → (a == b) ≡ (b == a)
same_test a b = grind (arith, nat_tests)

one_line : (p : SharedNumber) (before now : ℕ) → changed_line p before now ≡ change_line p.name p.index before now
one_line p before now = ap (λ b. if b then [] else value_line p.name p.index now) (same_test now before)

lone_line : (p : SharedNumber) (x y : World) → change_lines (p ∷ []) x y ≡ change_line p.name p.index (number_of x.fram p) (number_of y.fram p)
lone_line p x y =
    append-nil (changed_line p (number_of x.fram p) (number_of y.fram p))
    ∙ one_line p (number_of x.fram p) (number_of y.fram p)

-- the lines of an array's words
array_lines : (name : List ℕ) (a i n : ℕ) (x y : World) → change_lines (array_words name a i n) x y
    ≡ element_lines name i (words_at x a n) (words_at y a n)
array_lines name a i zero x y = refl
array_lines name a i (suc n) x y =
    ap₂ (λ p q. p ++ q) (one_line (record { name = name; index = Some i; address = a; is_long = false }) (x.fram a) (y.fram a))
    (array_lines name (a + 2) (i + 1) n x y)

-- the lines of a variable's words
words_lines : (name : List ℕ) (a : ℕ) (t : ValueType) (e : Extent) (x y : World) → is_long t ≡ is_long_extent e
    → change_lines (variable_numbers name a t (length_of e)) x y
    ≡ variable_lines name e (words_at x a (word_count t (length_of e))) (words_at y a (word_count t (length_of e)))
words_lines name a t (Array n) x y is = array_lines name a 0 n x y
words_lines name a value_type.Unsigned (Scalar w) x y is = lone_line (scalar_number name a value_type.Unsigned) x y
words_lines name a value_type.Int (Scalar w) x y is = lone_line (scalar_number name a value_type.Int) x y
words_lines name a value_type.Long (Scalar w) x y is = cc
words_lines name a value_type.Unsigned (Long w) x y is = cc
words_lines name a value_type.Int (Long w) x y is = cc
words_lines name a value_type.Long (Long w) x y is = lone_line (scalar_number name a value_type.Long) x y

lines_both : (ps qs : List SharedNumber) (x y : World) → change_lines (ps ++ qs) x y ≡ change_lines ps x y ++ change_lines qs x y
lines_both [] qs x y = refl
lines_both (p ∷ ps) qs x y =
    let one = changed_line p (number_of x.fram p) (number_of y.fram p) in
    ap (λ l. one ++ l) (lines_both ps qs x y) ∙ sym (append_assoc one (change_lines ps x y) (change_lines qs x y))

module _ (text : List ℕ) (v : Variable) (d : SharedDeclaration) (x y : World) where
  -- the lines of a variable with this name and this length
  abbrev AreLinesOf : List ℕ → Option ℕ → Type 0
  AreLinesOf name o = change_lines (variable_numbers v.name v.address v.value_type o) x y
      ≡ variable_lines name d.extent (words_at x v.address (word_count v.value_type o)) (words_at y v.address (word_count v.value_type o))

  variable_same : v.name ≡ spelled text d.name → v.length ≡ length_of d.extent → is_long v.value_type ≡ is_long_extent d.extent
      → AreLinesOf (spelled text d.name) v.length
  variable_same e l long =
      subst (AreLinesOf (spelled text d.name)) (sym l)
      (subst (λ name. AreLinesOf name (length_of d.extent)) e (words_lines v.name v.address v.value_type d.extent x y long))

all_changes : (text : List ℕ) (vs : List Variable) (ds : List SharedDeclaration) (x y : World) → AreVariablesOf text vs ds
    → change_lines (shared_numbers vs) x y ≡ source.change_lines text ds (rows_in x vs) (rows_in y vs)
all_changes text [] [] x y h = refl
all_changes text [] (d ∷ ds) x y h = absurd h
all_changes text (v ∷ vs) [] x y h = absurd h
all_changes text (v ∷ vs) (d ∷ ds) x y h =
    lines_both (variable_numbers v.name v.address v.value_type v.length) (shared_numbers vs) x y
    ∙ ap₂ (λ p q. p ++ q) (variable_same text v d x y h.0 h.1 h.2) (all_changes text vs ds x y h.3)

module _ (text : List ℕ) (program : CheckedProgram) (m : MapValue) (of_source : IsMapOf text program m) where
  name_same : (i : ℕ) → board.task_name m.tasks i ≡ source.task_name text program i
  name_same i = ap (λ l. slice_get l i) of_source.tasks ∙ slice_get-map (λ t. spelled text t.name) program.tasks i

  module _ (k : ℕ) (x : World) (s : State) (d : Done) (t : Transition) (here : HasWordsOf m x s) (h : StandsForTransition m s d t)
      (few : counted (suc k) ≡ suc k) where
    abbrev span : Committed
    span = record { from = d.span_from; to = d.span_to }

    from_same : board.task_name m.tasks (x.fram m.words.current_task) ≡ source.task_name text program t.from
    from_same = name_same (x.fram m.words.current_task) ∙ ap (source.task_name text program) (here.task ∙ sym h.from)

    next_same : board.task_name m.tasks (d.world.fram m.words.current_task) ≡ source.task_name text program t.next
    next_same = name_same (d.world.fram m.words.current_task) ∙ ap (source.task_name text program) h.behind.task

    number : counted (suc k) ≡ k + 1
    number = few ∙ omega arith

    words_same : words_between x d.world ≡ t.emitted
    words_same =
        ap₂ (λ p q. drop (length p) q) here.accepted h.behind.accepted
        ∙ drop-append_seam s.emitted t.emitted

    changes_same : change_lines (shared_numbers m.variables) x d.world ≡ source.change_lines text program.shared t.before t.after
    changes_same =
        all_changes text m.variables program.shared x d.world of_source.variables
        ∙ ap₂ (source.change_lines text program.shared) (here.shared ∙ sym h.before) h.behind.shared

    one_same : done_lines m (counted (suc k)) x d ≡ transition_lines text program (k + 1) span t
    unfolding transition_lines
    one_same =
        ap₂ (λ p q. p ++ q)
        (ap (λ n. step_line n (board.task_name m.tasks (x.fram m.words.current_task)) (board.task_name m.tasks (d.world.fram m.words.current_task))
        d.span_from d.span_to) number
        ∙ ap₂ (λ p q. step_line (k + 1) p q d.span_from d.span_to) from_same next_same)
        (ap₂ (λ p q. p ++ q) (ap word_lines words_same ∙ few_words_have_lines t.emitted h.few) changes_same)

  dones_same : (k : ℕ) (x : World) (s : State) (ds : List Done) (ts : List Transition) → HasWordsOf m x s → StandForTransitions m s ds ts
      → k + length ds < 2 ^ 64 → dones_lines m (counted k) x ds ≡ source_report text program (k + 1) (spans_in (committed_by ds)) ts
  unfolding source_report
  dones_same k x s [] [] here h few = refl
  dones_same k x s [] (t ∷ ts) here h few = absurd h
  dones_same k x s (d ∷ ds) [] here h few = absurd h
  dones_same k x s (d ∷ ds) (t ∷ ts) here h few =
      let this : counted (suc k) ≡ suc k = counted_below (suc k) (2 ^ 64 - 1) refl (omega arith) in
      let next : suc k + 1 ≡ k + 1 + 1 = omega arith in
      ap₂ (λ p q. p ++ q) (one_same k x s d t here h.0 this)
      (dones_same (suc k) d.world (state_after s t) ds ts h.0.behind h.1 (omega arith)
      ∙ ap (λ n. source_report text program n (spans_in (committed_by ds)) ts) next)

pub dones_are_transitions : DonesAreTransitions
dones_are_transitions text program m of_source k x s ds ts here h few = dones_same text program m of_source k x s ds ts here h few
