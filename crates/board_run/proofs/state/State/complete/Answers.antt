use Rattle.std.proofs.Common.{◌∙◌, ap, Some}
use Rattle.image_text.specs.image_map.declared.parts.RuntimeWords.{RuntimeWords}
use Rattle.board_run.specs.History.{task_name, word_in}
use Rattle.board_run.specs.State.{history_of}
use Rattle.board_run.proofs.Transitions.{parts_are, cut_second, cut_third, cut_fourth}
use Rattle.board_run.proofs.state.State.complete.Goals as goal

pub returns-in_err-write_words-clause-bytes : goal.returns-in_err-write_words-clause-bytes
returns-in_err-write_words-clause-bytes g c = cut_second _ _ _ _ _ _ _ _ c.from_residual-in_err-write_words.ensures.0
    (parts_are c.args.map.now (history_of (Some c.args.map.now) c.args.self.now) c.args.board.now c.saturating_add-self.result _ _ c.as_slice.result.now
    (record {
      number = c.saturating_add-self.ensures;
      task = c.task_name.ensures;
      next = c.task_name-2.ensures ∙ ap (task_name c.args.map.now.tasks) (c.word-next.ensures
          ∙ ap (λ (w : RuntimeWords). word_in c.args.board.now.fram w.current_task) c.words.ensures);
      words = c.as_slice.ensures.value;
    }))
    c.in_ok-step.ensures.bytes.whole c.in_err-write_words.ensures.bytes.part

pub returns-in_err-write_more-clause-bytes : goal.returns-in_err-write_more-clause-bytes
returns-in_err-write_more-clause-bytes g c = cut_third _ _ _ _ _ _ _ _ _ _ c.from_residual-in_err-write_more.ensures.0
    (parts_are c.args.map.now (history_of (Some c.args.map.now) c.args.self.now) c.args.board.now c.saturating_add-self.result _ _ c.as_slice.result.now
    (record {
      number = c.saturating_add-self.ensures;
      task = c.task_name.ensures;
      next = c.task_name-2.ensures ∙ ap (task_name c.args.map.now.tasks) (c.word-next.ensures
          ∙ ap (λ (w : RuntimeWords). word_in c.args.board.now.fram w.current_task) c.words.ensures);
      words = c.as_slice.ensures.value;
    }))
    c.in_ok-step.ensures.bytes.whole c.in_ok-write_words.ensures.bytes.whole c.in_err-write_more.ensures.bytes.part

pub returns-in_err-write_changes-clause-bytes : goal.returns-in_err-write_changes-clause-bytes
returns-in_err-write_changes-clause-bytes g c = cut_fourth _ _ _ _ _ _ _ _ _ _ _ c.from_residual-in_err-write_changes.ensures.0
    (parts_are c.args.map.now (history_of (Some c.args.map.now) c.args.self.now) c.args.board.now c.saturating_add-self.result _ _ c.as_slice.result.now
    (record {
      number = c.saturating_add-self.ensures;
      task = c.task_name.ensures;
      next = c.task_name-2.ensures ∙ ap (task_name c.args.map.now.tasks) (c.word-next.ensures
          ∙ ap (λ (w : RuntimeWords). word_in c.args.board.now.fram w.current_task) c.words.ensures);
      words = c.as_slice.ensures.value;
    }))
    c.in_ok-step.ensures.bytes.whole c.in_ok-write_words.ensures.bytes.whole c.in_ok-write_more.ensures.bytes.whole c.in_err-write_changes.ensures.bytes.part
