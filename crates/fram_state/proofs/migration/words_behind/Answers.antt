use Rattle.std.proofs.Common.{◌≡◌, ℕ, ◌<◌, ◌≤◌, ◌∙◌, length, map, Some, None, refl, sym, ap, subst, arith}
use Rattle.std.specs.Prelude.{slice_get, IfNone, IfSome}
use Rattle.std.proofs.lemmas.List.{length-map}
use Rattle.std.proofs.lemmas.Option.{slice_get_read}
use Rattle.task_ast.specs.View.{task_of}
use Rattle.source_report.specs.SourceReport.{spelled}
use Rattle.fram_state.specs.Migrated.{AreMigrated, IsUnsettled, current, next_edition_of, GoesOnAt, CanMigrate}
use Rattle.fram_state.specs.Editions.{edition_of}
use Rattle.fram_state.proofs.Answered.{excluded, task_at, same_at, looked_up}
use Rattle.fram_state.proofs.Places.{are_migrated, migrated_long}
use Rattle.fram_state.proofs.migration.words_behind.Goals as goal

pub returns-in_default-clause-fault : goal.returns-in_default-clause-fault
returns-in_default-clause-fault c =
    let items = c.args.old.now.source.now.tasks.items in
    let at : slice_get items (current (edition_of c.args.old.now)) ≡ Some c.index.result.now =
    ap (slice_get items) (sym c.current.ensures.number)
    ∙ slice_get_read items (length items) c.current.result c.index.result.now refl (omega (arith, c.requires.current, c.current.ensures.number))
    c.index.ensures in
    record {
      at_rest = excluded c.is_pending.result _ c.is_pending.ensures c.if-is_pending.false;
      task = task_of c.index.result.now;
      is = task_at items (current (edition_of c.args.old.now)) c.index.result.now at;
      none = looked_up c.args.new.now.text.now c.as_slice-tasks.result.now c.args.new.now.source.now.tasks.items c.spelled.result.now _ None
          c.as_slice-tasks.ensures.value c.spelled.ensures c.in_default.ensures.value;
      stands = refl;
    }

pub first_unsettled-requires-clause-task : goal.first_unsettled-requires-clause-task
first_unsettled-requires-clause-task c =
    subst (λ xs. c.in-Some.task < length xs) c.as_slice-tasks.ensures.value c.in-Some.ensures.inside

pub migrated_words-requires-clause-task : goal.migrated_words-requires-clause-task
migrated_words-requires-clause-task c =
    let items = c.args.new.now.source.now.tasks.items in
    let inside : c.in-Some.task < length items = subst (λ xs. c.in-Some.task < length xs) c.as_slice-tasks.ensures.value c.in-Some.ensures.inside in
    let tasks : length (map task_of items) ≡ length items = length-map items task_of in
    omega (arith, inside, tasks, c.requires.new.few_tasks)

pub returns-in-Some-2-clause-fault : goal.returns-in-Some-2-clause-fault
returns-in-Some-2-clause-fault c =
    let items = c.args.old.now.source.now.tasks.items in
    let shared = c.args.new.now.source.now.shared.items in
    let at : slice_get items (current (edition_of c.args.old.now)) ≡ Some c.index.result.now =
    ap (slice_get items) (sym c.current.ensures.number)
    ∙ slice_get_read items (length items) c.current.result c.index.result.now refl (omega (arith, c.requires.current, c.current.ensures.number))
    c.index.ensures in
    let number = c.in-Some-2.number in
    let unsettled = subst (λ o. IfSome o (IsUnsettled (edition_of c.args.old.now) (edition_of c.args.new.now) c.in-Some.task)) c.in-Some-2.is
    c.in_ok-number.ensures.some in
    let inside = subst (λ o. IfSome o (λ n. n < length shared)) c.in-Some-2.is c.in_ok-number.ensures.inside in
    let scalar : slice_get shared number ≡ Some c.index-in-Some-2.result.now =
    slice_get_read shared (length shared) number c.index-in-Some-2.result.now refl inside c.index-in-Some-2.ensures in
    record {
      at_rest = excluded c.is_pending.result _ c.is_pending.ensures c.if-is_pending.false;
      task = task_of c.index.result.now;
      number = c.in-Some.task;
      goes_on = record {
        is = task_at items (current (edition_of c.args.old.now)) c.index.result.now at;
        named = looked_up c.args.new.now.text.now c.as_slice-tasks.result.now c.args.new.now.source.now.tasks.items c.spelled.result.now _ (Some c.in-Some.task)
            c.as_slice-tasks.ensures.value c.spelled.ensures c.in-Some.ensures.value;
      };
      scalar = number;
      unsettled = unsettled;
      first = subst (λ o. IfSome o (λ n. (i : ℕ) → i < n → IsUnsettled (edition_of c.args.old.now) (edition_of c.args.new.now) c.in-Some.task i → ⊥))
          c.in-Some-2.is c.in_ok-number.ensures.first;
      stands = ap (λ d. d.name) (same_at shared number c.index-in-Some-2.result.now unsettled.scalar scalar unsettled.is);
    }

pub returns-clause-words : goal.returns-clause-words
returns-clause-words c =
    let items = c.args.old.now.source.now.tasks.items in
    let at : slice_get items (current (edition_of c.args.old.now)) ≡ Some c.index.result.now =
    ap (slice_get items) (sym c.current.ensures.number)
    ∙ slice_get_read items (length items) c.current.result c.index.result.now refl (omega (arith, c.requires.current, c.current.ensures.number))
    c.index.ensures in
    record {
      can = record {
        at_rest = excluded c.is_pending.result _ c.is_pending.ensures c.if-is_pending.false;
        task = task_of c.index.result.now;
        number = c.in-Some.task;
        goes_on = record {
          is = task_at items (current (edition_of c.args.old.now)) c.index.result.now at;
          named = looked_up c.args.new.now.text.now c.as_slice-tasks.result.now c.args.new.now.source.now.tasks.items c.spelled.result.now _
              (Some c.in-Some.task) c.as_slice-tasks.ensures.value c.spelled.ensures c.in-Some.ensures.value;
        };
        settled = subst (λ o. IfNone o ((i : ℕ) → IsUnsettled (edition_of c.args.old.now) (edition_of c.args.new.now) c.in-Some.task i → ⊥))
            c.in_default-2.is c.in_ok-number.ensures.none;
      };
      each = subst (AreMigrated (edition_of c.args.old.now) (edition_of c.args.new.now) c.in-Some.task) (sym c.in_ok-migrated_words.ensures)
          (are_migrated (edition_of c.args.old.now) (edition_of c.args.new.now) c.requires.old c.requires.new c.in-Some.task);
    }

pub returns-clause-len : goal.returns-clause-len
returns-clause-len c =
    ap length c.in_ok-migrated_words.ensures
    ∙ migrated_long (edition_of c.args.old.now) (edition_of c.args.new.now) c.requires.old c.requires.new c.in-Some.task
