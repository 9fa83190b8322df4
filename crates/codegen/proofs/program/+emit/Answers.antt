use Rattle.codegen.proofs.Names.{◌+◌, ◌∷◌, ◌++◌, [], drop, not, sym, ap, ◌∙◌, subst, arith, rules, append_assoc, lt-ltb, le-ltb, step_of, steps_of, test_of}
use Rattle.codegen.proofs.Names.{StepLocalsBelow, TestLocalsBelow, LocalsBelow, OfWords, words_of, step_words, test_words, forms_bytes-append, size}
use Rattle.codegen.proofs.Names.{flushed, false, pass_over, jump_back, number_code, truth_code, turn_end, waiting_after, steps_code, test_code, block_code}
use Rattle.word_code.specs.msp_isa.declared.instructions.Condition.TheVariants as condition
use Rattle.word_code.specs.array_versions.declared.program.WordStep as word_step
use Rattle.codegen.proofs.Emitted.{behind, on_ok_items, test_size, step_of-choose, step_of-read, step_of-write, step_of-update}
use Rattle.codegen.proofs.Emitted.{step_of-logged_write, step_of-logged_update, test_of-holds}
use Rattle.codegen.proofs.Emitted.{test_of-compares, test_of-both, test_of-either, words_at_most, step_owed, left_front}
use Rattle.word_code.proofs.Interface.{pass_takes, turn_end_takes, inner_takes}
use Rattle.codegen.proofs.program.+emit.Goals as goal

pub emit_steps-loop-step-preserved : goal.emit_steps-loop-step-preserved
emit_steps-loop-step-preserved t c =
    let bs = c.args.bounds.now in
    let x = c.step-item.result in
    let code = c.loop-step.code.items in
    let os = c.loop-step.waiting.items in
    let more = steps_of (drop (c.loop-step.step-index + 1) c.args.steps.now) in
    let e = left_front c.args.steps.now c.loop-step.step-index x c.loop-step-test.true c.step-item.is in
    let known = c.loop-step.invariant in
    let waits = c.in_ok-emit_step.ensures.waiting in
    record {
      owed = step_owed bs (step_of x) more os c.emit_step.new.waiting.items code c.emit_step.new.code.items _ c.in_ok-emit_step.ensures.code waits
          (ap (λ p. code ++ steps_code bs os p) (sym e) ∙ known.owed);
      after = ap (λ ws. waiting_after ws more) waits ∙ ap (λ p. waiting_after os p) (sym e) ∙ known.after;
      room = omega (arith, ap words_of e, known.room);
      locals = (subst (LocalsBelow 1016) e known.locals).1;
      in_words = λ h. known.in_words (subst OfWords (sym e) (c.in_ok-emit_step.ensures.of_words, h));
    }

pub emit_block-returns-clause-code : goal.emit_block-returns-clause-code
emit_block-returns-clause-code t c =
    let first = rw c.new-waiting.ensures.items at c.in_ok-emit_steps.ensures.code in
    let after = c.deref.ensures.value ∙ (rw c.new-waiting.ensures.items at c.in_ok-emit_steps.ensures.waiting) in
    behind c.emit_flushed.result _ _ _ _ _ first (rw after at c.emit_flushed.ensures)

pub emit_test-returns-in_ok-emit_steps-in-Holds-clause-code : goal.emit_test-returns-in_ok-emit_steps-in-Holds-clause-code
emit_test-returns-in_ok-emit_steps-in-Holds-clause-code t c =
    let none = c.new-waiting.ensures.items in
    let same = c.deref.ensures.value in
    let first = rw (none, same) at c.in_ok-emit_steps-in-Holds.ensures.code in
    let after = rw (none, same) at c.in_ok-emit_steps-in-Holds.ensures.waiting in
    rw (ap test_of c.in-Holds.is ∙ test_of-holds c.in-Holds.steps) (behind c.emit_holds.result _ _ _ _ _ first (rw after at c.emit_holds.ensures))

pub emit_test-returns-in_ok-emit_steps-in-Compares-clause-code : goal.emit_test-returns-in_ok-emit_steps-in-Compares-clause-code
emit_test-returns-in_ok-emit_steps-in-Compares-clause-code t c =
    let none = c.new-waiting-in-Compares.ensures.items in
    let same = c.deref-in-Compares.ensures.value in
    let first = rw (none, same) at c.in_ok-emit_steps-in-Compares.ensures.code in
    let after = rw (none, same) at c.in_ok-emit_steps-in-Compares.ensures.waiting in
    rw (ap test_of c.in-Compares.is ∙ test_of-compares c.in-Compares.comparison c.in-Compares.steps)
    (behind c.emit_compares.result _ _ _ _ _ first (rw after at c.emit_compares.ensures))

pub emit_truth-returns-clause-code : goal.emit_truth-returns-clause-code
emit_truth-returns-clause-code t c =
    let r = c.emit_truth_code.result in
    let pushes = flushed c.args.waiting.now.items in
    let test = test_code c.args.bounds.now (test_of c.args.test.now) false 2 in
    behind r c.args.code.now.items _ _ pushes (test ++ truth_code) c.in_ok-emit_all.ensures.code
    (behind r c.emit_all.new.code.items _ _ test truth_code c.in_ok-emit_test.ensures.code c.emit_truth_code.ensures)

pub emit_step-returns-in-VersionedRead-clause-code : goal.emit_step-returns-in-VersionedRead-clause-code
emit_step-returns-in-VersionedRead-clause-code t c =
    rw (ap step_of c.in-VersionedRead.is ∙ step_of-read c.in-VersionedRead.place c.in-VersionedRead.list) c.emit_versioned_read.ensures.code

pub emit_step-returns-in-VersionedRead-clause-waiting : goal.emit_step-returns-in-VersionedRead-clause-waiting
emit_step-returns-in-VersionedRead-clause-waiting t c =
    rw (ap step_of c.in-VersionedRead.is ∙ step_of-read c.in-VersionedRead.place c.in-VersionedRead.list) c.emit_versioned_read.ensures.waiting

pub emit_step-returns-in-VersionedRead-clause-of_words : goal.emit_step-returns-in-VersionedRead-clause-of_words
emit_step-returns-in-VersionedRead-clause-of_words t c =
    rw (ap step_of c.in-VersionedRead.is ∙ step_of-read c.in-VersionedRead.place c.in-VersionedRead.list) c.emit_versioned_read.ensures.of_words

pub emit_step-returns-in-VersionedWrite-clause-code : goal.emit_step-returns-in-VersionedWrite-clause-code
emit_step-returns-in-VersionedWrite-clause-code t c =
    rw (ap step_of c.in-VersionedWrite.is ∙ step_of-write c.in-VersionedWrite.place c.in-VersionedWrite.list) c.emit_versioned_write.ensures.code

pub emit_step-returns-in-VersionedWrite-clause-waiting : goal.emit_step-returns-in-VersionedWrite-clause-waiting
emit_step-returns-in-VersionedWrite-clause-waiting t c =
    rw (ap step_of c.in-VersionedWrite.is ∙ step_of-write c.in-VersionedWrite.place c.in-VersionedWrite.list) c.emit_versioned_write.ensures.waiting

pub emit_step-returns-in-VersionedWrite-clause-of_words : goal.emit_step-returns-in-VersionedWrite-clause-of_words
emit_step-returns-in-VersionedWrite-clause-of_words t c =
    rw (ap step_of c.in-VersionedWrite.is ∙ step_of-write c.in-VersionedWrite.place c.in-VersionedWrite.list) c.emit_versioned_write.ensures.of_words

pub emit_step-returns-in-VersionedUpdate-clause-code : goal.emit_step-returns-in-VersionedUpdate-clause-code
emit_step-returns-in-VersionedUpdate-clause-code t c =
    let of = c.in-VersionedUpdate in
    rw (ap step_of of.is ∙ step_of-update of.operation of.place of.list) c.emit_versioned_update.ensures.code

pub emit_step-returns-in-VersionedUpdate-clause-waiting : goal.emit_step-returns-in-VersionedUpdate-clause-waiting
emit_step-returns-in-VersionedUpdate-clause-waiting t c =
    let of = c.in-VersionedUpdate in
    rw (ap step_of of.is ∙ step_of-update of.operation of.place of.list) c.emit_versioned_update.ensures.waiting

pub emit_step-returns-in-VersionedUpdate-clause-of_words : goal.emit_step-returns-in-VersionedUpdate-clause-of_words
emit_step-returns-in-VersionedUpdate-clause-of_words t c =
    let of = c.in-VersionedUpdate in
    rw (ap step_of of.is ∙ step_of-update of.operation of.place of.list) c.emit_versioned_update.ensures.of_words

pub emit_step-returns-in-LoggedWrite-clause-code : goal.emit_step-returns-in-LoggedWrite-clause-code
emit_step-returns-in-LoggedWrite-clause-code t c =
    let of = c.in-LoggedWrite in
    rw (ap step_of of.is ∙ step_of-logged_write of.place of.list) c.emit_logged_write.ensures.code

pub emit_step-returns-in-LoggedWrite-clause-waiting : goal.emit_step-returns-in-LoggedWrite-clause-waiting
emit_step-returns-in-LoggedWrite-clause-waiting t c =
    let of = c.in-LoggedWrite in
    rw (ap step_of of.is ∙ step_of-logged_write of.place of.list) c.emit_logged_write.ensures.waiting

pub emit_step-returns-in-LoggedWrite-clause-of_words : goal.emit_step-returns-in-LoggedWrite-clause-of_words
emit_step-returns-in-LoggedWrite-clause-of_words t c =
    let of = c.in-LoggedWrite in
    rw (ap step_of of.is ∙ step_of-logged_write of.place of.list) c.emit_logged_write.ensures.of_words

pub emit_step-returns-in-LoggedUpdate-clause-code : goal.emit_step-returns-in-LoggedUpdate-clause-code
emit_step-returns-in-LoggedUpdate-clause-code t c =
    let of = c.in-LoggedUpdate in
    rw (ap step_of of.is ∙ step_of-logged_update of.operation of.place of.list) c.emit_logged_update.ensures.code

pub emit_step-returns-in-LoggedUpdate-clause-waiting : goal.emit_step-returns-in-LoggedUpdate-clause-waiting
emit_step-returns-in-LoggedUpdate-clause-waiting t c =
    let of = c.in-LoggedUpdate in
    rw (ap step_of of.is ∙ step_of-logged_update of.operation of.place of.list) c.emit_logged_update.ensures.waiting

pub emit_step-returns-in-LoggedUpdate-clause-of_words : goal.emit_step-returns-in-LoggedUpdate-clause-of_words
emit_step-returns-in-LoggedUpdate-clause-of_words t c =
    let of = c.in-LoggedUpdate in
    rw (ap step_of of.is ∙ step_of-logged_update of.operation of.place of.list) c.emit_logged_update.ensures.of_words

pub emit_test-code_words-requires : goal.emit_test-code_words-requires
emit_test-code_words-requires t c =
    let of = c.in-Both in
    let is = ap test_of of.is ∙ test_of-both of.first of.second in
    let own = rw (c.new-behind.ensures.items, c.deref-in-Both.ensures) at c.in_ok-emit_test-in-Both.ensures.code in
    let few = test_size c.args.bounds.now (test_of of.second.value) c.args.when c.args.over _ (c.deref-in-Both-2.ensures.value ∙ own) in
    omega (arith, few, ap test_words is, c.requires.room)

pub emit_test-overflow_add-further : goal.emit_test-overflow_add-further
emit_test-overflow_add-further t c =
    let of = c.in-Both in
    let is = ap test_of of.is ∙ test_of-both of.first of.second in
    let own = rw (c.new-behind.ensures.items, c.deref-in-Both.ensures) at c.in_ok-emit_test-in-Both.ensures.code in
    let few = test_size c.args.bounds.now (test_of of.second.value) c.args.when c.args.over _ (c.deref-in-Both-2.ensures.value ∙ own) in
    omega (arith, few, ap test_words is, c.requires.room, c.code_words.ensures, c.words_if.ensures, words_at_most (not c.args.when) c.args.over)

pub emit_test-emit_test-requires-in-Both : goal.emit_test-emit_test-requires-in-Both
emit_test-emit_test-requires-in-Both t c =
    let of = c.in-Both in
    let is = ap test_of of.is ∙ test_of-both of.first of.second in
    let own = rw (c.new-behind.ensures.items, c.deref-in-Both.ensures) at c.in_ok-emit_test-in-Both.ensures.code in
    let few = test_size c.args.bounds.now (test_of of.second.value) c.args.when c.args.over _ (c.deref-in-Both-2.ensures.value ∙ own) in
    let first = ap (λ x. test_words (test_of x)) c.deref-in-Both-3.ensures in (
      search (rules, word_step.the_lemmas),
      (
        omega (arith, few, first, ap test_words is, c.requires.room, c.code_words.ensures, c.words_if.ensures, words_at_most (not c.args.when) c.args.over),
        subst (λ x. TestLocalsBelow 1016 (test_of x)) (sym c.deref-in-Both-3.ensures) (subst (TestLocalsBelow 1016) is c.requires.locals).0,
      ),
    )

pub emit_test-returns-in_ok-emit_test-in-Both-2-clause-code : goal.emit_test-returns-in_ok-emit_test-in-Both-2-clause-code
emit_test-returns-in_ok-emit_test-in-Both-2-clause-code t c =
    let of = c.in-Both in
    let is = ap test_of of.is ∙ test_of-both of.first of.second in
    let own = rw (c.new-behind.ensures.items, c.deref-in-Both.ensures) at c.in_ok-emit_test-in-Both.ensures.code in
    let further = c.code_words.ensures ∙ ap size (c.deref-in-Both-2.ensures.value ∙ own) in
    let tested = rw (c.deref-in-Both-3.ensures, further, c.words_if.ensures) at c.in_ok-emit_test-in-Both-2.ensures.code in
    let added = on_ok_items c.extend_from_slice.result _ _ _ c.extend_from_slice.ensures.items in
    rw is (behind c.extend_from_slice.result _ _ _ _ _ tested (rw (c.deref-in-Both-4.ensures.value ∙ own) at added))

pub emit_test-code_words-requires-in-Either : goal.emit_test-code_words-requires-in-Either
emit_test-code_words-requires-in-Either t c =
    let of = c.in-Either in
    let is = ap test_of of.is ∙ test_of-either of.first of.second in
    let own = rw (c.new-behind-in-Either.ensures.items, c.deref-in-Either.ensures) at c.in_ok-emit_test-in-Either.ensures.code in
    let few = test_size c.args.bounds.now (test_of of.second.value) c.args.when c.args.over _ (c.deref-in-Either-2.ensures.value ∙ own) in
    omega (arith, few, ap test_words is, c.requires.room)

pub emit_test-overflow_add-further-in-Either : goal.emit_test-overflow_add-further-in-Either
emit_test-overflow_add-further-in-Either t c =
    let of = c.in-Either in
    let is = ap test_of of.is ∙ test_of-either of.first of.second in
    let own = rw (c.new-behind-in-Either.ensures.items, c.deref-in-Either.ensures) at c.in_ok-emit_test-in-Either.ensures.code in
    let few = test_size c.args.bounds.now (test_of of.second.value) c.args.when c.args.over _ (c.deref-in-Either-2.ensures.value ∙ own) in
    omega (arith, few, ap test_words is, c.requires.room, c.code_words-in-Either.ensures, c.words_if-in-Either.ensures, words_at_most c.args.when c.args.over)

pub emit_test-emit_test-requires-in-Either-2 : goal.emit_test-emit_test-requires-in-Either-2
emit_test-emit_test-requires-in-Either-2 t c =
    let of = c.in-Either in
    let is = ap test_of of.is ∙ test_of-either of.first of.second in
    let own = rw (c.new-behind-in-Either.ensures.items, c.deref-in-Either.ensures) at c.in_ok-emit_test-in-Either.ensures.code in
    let few = test_size c.args.bounds.now (test_of of.second.value) c.args.when c.args.over _ (c.deref-in-Either-2.ensures.value ∙ own) in
    let first = ap (λ x. test_words (test_of x)) c.deref-in-Either-3.ensures in (
      search (rules, word_step.the_lemmas),
      (
        omega (
          arith,
          few,
          first,
          ap test_words is,
          c.requires.room,
          c.code_words-in-Either.ensures,
          c.words_if-in-Either.ensures,
          words_at_most c.args.when c.args.over,
        ),
        subst (λ x. TestLocalsBelow 1016 (test_of x)) (sym c.deref-in-Either-3.ensures) (subst (TestLocalsBelow 1016) is c.requires.locals).0,
      ),
    )

pub emit_test-returns-in_ok-emit_test-in-Either-2-clause-code : goal.emit_test-returns-in_ok-emit_test-in-Either-2-clause-code
emit_test-returns-in_ok-emit_test-in-Either-2-clause-code t c =
    let of = c.in-Either in
    let is = ap test_of of.is ∙ test_of-either of.first of.second in
    let own = rw (c.new-behind-in-Either.ensures.items, c.deref-in-Either.ensures) at c.in_ok-emit_test-in-Either.ensures.code in
    let further = c.code_words-in-Either.ensures ∙ ap size (c.deref-in-Either-2.ensures.value ∙ own) in
    let tested = rw (c.deref-in-Either-3.ensures, further, c.words_if-in-Either.ensures) at c.in_ok-emit_test-in-Either-2.ensures.code in
    let added = on_ok_items c.extend_from_slice-in-Either.result _ _ _ c.extend_from_slice-in-Either.ensures.items in
    rw is (behind c.extend_from_slice-in-Either.result _ _ _ _ _ tested (rw (c.deref-in-Either-4.ensures.value ∙ own) at added))

pub emit_loop-code_words-over-requires : goal.emit_loop-code_words-over-requires
emit_loop-code_words-over-requires t c =
    let body = steps_of c.args.body.now in
    let inner = c.args.own ∷ c.args.bounds.now in
    let end = turn_end c.args.own.local c.args.own.below in
    let block = rw (c.new-turn.ensures.items, c.deref.ensures.value ∙ c.in_ok-inner.ensures) at c.in_ok-emit_block.ensures.code in
    let turn = c.deref-then-from-own-2.ensures.value ∙ (rw block at c.in_ok-emit_turn_end.ensures) in
    omega (
      arith,
      ap size turn,
      forms_bytes-append (block_code inner body) end,
      (inner_takes inner body).bytes,
      (turn_end_takes c.args.own.local c.args.own.below).bytes,
      c.requires.room,
    )

pub emit_loop-emit_jump_back-requires : goal.emit_loop-emit_jump_back-requires
emit_loop-emit_jump_back-requires t c =
    let body = steps_of c.args.body.now in
    let inner = c.args.own ∷ c.args.bounds.now in
    let end = turn_end c.args.own.local c.args.own.below in
    let block = rw (c.new-turn.ensures.items, c.deref.ensures.value ∙ c.in_ok-inner.ensures) at c.in_ok-emit_block.ensures.code in
    let turn = c.deref-then-from-own-2.ensures.value ∙ (rw block at c.in_ok-emit_turn_end.ensures) in
    omega (
      arith,
      ap size turn,
      forms_bytes-append (block_code inner body) end,
      (inner_takes inner body).bytes,
      (turn_end_takes c.args.own.local c.args.own.below).bytes,
      c.requires.room,
      c.code_words-over.ensures,
    )

pub emit_loop-returns-then-from-own-clause-code : goal.emit_loop-returns-then-from-own-clause-code
emit_loop-returns-then-from-own-clause-code t c =
    let block = rw (c.new-turn.ensures.items, c.deref.ensures.value ∙ c.in_ok-inner.ensures) at c.in_ok-emit_block.ensures.code in
    let own = rw block at c.in_ok-emit_turn_end.ensures in
    let turned = rw (c.deref-then-from-own.ensures.value ∙ own) at c.in_ok-extend_from_slice.ensures.items in
    let over = c.code_words-over.ensures ∙ ap size (c.deref-then-from-own-2.ensures.value ∙ own) in
    let r = c.emit_jump_back.result in
    let pushes = flushed c.args.waiting.now.items in
    let start = number_code c.args.own.local c.args.from in
    let turn = block_code (c.args.own ∷ c.args.bounds.now) (steps_of c.args.body.now) ++ turn_end c.args.own.local c.args.own.below in
    let back = jump_back condition.NotEqual condition.Equal (size turn) in
    rw (lt-ltb c.args.from c.args.own.below c.if-from-own.true)
    (behind r c.args.code.now.items _ _ pushes (start ++ (turn ++ back)) c.in_ok-emit_all.ensures.code
    (behind r c.emit_all.new.code.items _ _ start (turn ++ back) c.in_ok-emit_number.ensures
    (behind r c.emit_number.new.code.items _ _ turn back turned (rw over at c.emit_jump_back.ensures))))

pub emit_step-code_words-requires : goal.emit_step-code_words-requires
emit_step-code_words-requires t c =
    let bs = c.args.bounds.now in
    let of = c.in-Choose in
    let is = ap step_of of.is ∙ step_of-choose of.test of.taken of.otherwise in
    let other = rw (c.new-other.ensures.items, c.deref.ensures.value) at c.in_ok-emit_block-in-Choose.ensures.code in
    let words = ap size (c.deref-in-Choose-2.ensures.value ∙ other) in
    omega (arith, words, (inner_takes bs (steps_of of.otherwise.items)).bytes, ap step_words is, c.requires.room)

pub emit_step-emit_pass_over-requires : goal.emit_step-emit_pass_over-requires
emit_step-emit_pass_over-requires t c =
    let bs = c.args.bounds.now in
    let of = c.in-Choose in
    let is = ap step_of of.is ∙ step_of-choose of.test of.taken of.otherwise in
    let other = rw (c.new-other.ensures.items, c.deref.ensures.value) at c.in_ok-emit_block-in-Choose.ensures.code in
    let over = c.code_words.ensures ∙ ap size (c.deref-in-Choose-2.ensures.value ∙ other) in
    omega (arith, over, (inner_takes bs (steps_of of.otherwise.items)).bytes, ap step_words is, c.requires.room)

pub emit_step-code_words-requires-in-Choose : goal.emit_step-code_words-requires-in-Choose
emit_step-code_words-requires-in-Choose t c =
    let bs = c.args.bounds.now in
    let of = c.in-Choose in
    let is = ap step_of of.is ∙ step_of-choose of.test of.taken of.otherwise in
    let other = rw (c.new-other.ensures.items, c.deref.ensures.value) at c.in_ok-emit_block-in-Choose.ensures.code in
    let over = c.code_words.ensures ∙ ap size (c.deref-in-Choose-2.ensures.value ∙ other) in
    let taken = rw (c.new-first.ensures.items, c.deref-in-Choose.ensures.value) at c.in_ok-emit_block-in-Choose-2.ensures.code in
    let first = rw (taken, over) at c.in_ok-emit_pass_over-in-Choose.ensures in
    let passed = size (block_code bs (steps_of of.otherwise.items)) in
    let block = block_code bs (steps_of of.taken.items) in
    let words = ap size (c.deref-in-Choose-3.ensures.value ∙ first) in
    let short = (inner_takes bs (steps_of of.taken.items)).bytes in
    omega (arith, words, forms_bytes-append block (pass_over passed), short, (pass_takes passed).bytes, ap step_words is, c.requires.room)

pub emit_step-emit_test-requires : goal.emit_step-emit_test-requires
emit_step-emit_test-requires t c =
    let bs = c.args.bounds.now in
    let of = c.in-Choose in
    let is = ap step_of of.is ∙ step_of-choose of.test of.taken of.otherwise in
    let other = rw (c.new-other.ensures.items, c.deref.ensures.value) at c.in_ok-emit_block-in-Choose.ensures.code in
    let over = c.code_words.ensures ∙ ap size (c.deref-in-Choose-2.ensures.value ∙ other) in
    let taken = rw (c.new-first.ensures.items, c.deref-in-Choose.ensures.value) at c.in_ok-emit_block-in-Choose-2.ensures.code in
    let first = rw (taken, over) at c.in_ok-emit_pass_over-in-Choose.ensures in
    let passed = size (block_code bs (steps_of of.otherwise.items)) in
    let block = block_code bs (steps_of of.taken.items) in
    let words = ap size (c.deref-in-Choose-3.ensures.value ∙ first) in
    let short = (inner_takes bs (steps_of of.taken.items)).bytes in
    let all = c.code_words-in-Choose.ensures in (
      search (rules, word_step.the_lemmas),
      (
        omega (arith, words, all, forms_bytes-append block (pass_over passed), short, (pass_takes passed).bytes, ap step_words is, c.requires.room),
        (subst (StepLocalsBelow 1016) is c.requires.locals).0,
      ),
    )

pub emit_step-returns-in_ok-extend_from_slice-in-Choose-clause-code : goal.emit_step-returns-in_ok-extend_from_slice-in-Choose-clause-code
emit_step-returns-in_ok-extend_from_slice-in-Choose-clause-code t c =
    let bs = c.args.bounds.now in
    let of = c.in-Choose in
    let is = ap step_of of.is ∙ step_of-choose of.test of.taken of.otherwise in
    let other = rw (c.new-other.ensures.items, c.deref.ensures.value) at c.in_ok-emit_block-in-Choose.ensures.code in
    let over = c.code_words.ensures ∙ ap size (c.deref-in-Choose-2.ensures.value ∙ other) in
    let taken = rw (c.new-first.ensures.items, c.deref-in-Choose.ensures.value) at c.in_ok-emit_block-in-Choose-2.ensures.code in
    let first = rw (taken, over) at c.in_ok-emit_pass_over-in-Choose.ensures in
    let r = c.extend_from_slice-in-Choose.result in
    let further = c.code_words-in-Choose.ensures ∙ ap size (c.deref-in-Choose-3.ensures.value ∙ first) in
    let tested = rw further at c.in_ok-emit_test-in-Choose.ensures.code in
    let added = rw (c.deref-in-Choose-4.ensures.value ∙ first) at c.in_ok-extend_from_slice-in-Choose.ensures.items in
    let ended = rw (c.deref-in-Choose-5.ensures.value ∙ other) at (on_ok_items r _ _ _ c.extend_from_slice-in-Choose.ensures.items) in
    let pushes = flushed c.args.waiting.now.items in
    let last = block_code bs (steps_of of.otherwise.items) in
    let passed = block_code bs (steps_of of.taken.items) ++ pass_over (size last) in
    let test = test_code bs (test_of of.test) false (size passed) in
    rw is (behind r c.args.code.now.items _ _ pushes (test ++ (passed ++ last)) c.in_ok-emit_all-in-Choose.ensures.code
    (behind r c.emit_all.new.code.items _ _ test (passed ++ last) tested (behind r c.emit_test.new.code.items _ _ passed last added ended)))

pub emit_loop-returns-clause-code : goal.emit_loop-returns-clause-code
emit_loop-returns-clause-code t c =
    rw (le-ltb c.args.from c.args.own.below c.if-from-own.false) (rw (c.in_ok-emit_all.ensures.code, append_assoc) at c.in_ok-emit_number.ensures)
