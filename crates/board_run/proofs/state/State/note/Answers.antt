use Rattle.std.proofs.Common.{◌≡◌, ◌∙◌, ap, sym, subst, ℕ, Some, OnOk, [], if◌then◌else◌}
use Rattle.alp_io.specs.Sink.{Writes}
use Rattle.image_text.specs.address_space.Limits.{place_of}
use Rattle.image_text.specs.image_map.declared.parts.RuntimeWords.{RuntimeWords}
use Rattle.fram_board.specs.Run.{word_list}
use Rattle.board_run.specs.History.{History, word_in, with_words, gated, is_done, transition_lines}
use Rattle.board_run.specs.State.{history_of, shared_in}
use Rattle.board_run.proofs.Transitions.{still_gated}
use Rattle.board_run.proofs.Written.{gate_noted}
use Rattle.board_run.proofs.state.State.note.Goals as goal

pub returns-then-not-in_fram-clause-history : goal.returns-then-not-in_fram-clause-history
returns-then-not-in_fram-clause-history g c =
    let m = c.args.map.now in
    let before = history_of (Some m) c.args.self.now in
    let ws = word_list c.args.done.now.accepted in
    let elsewhere = c.note_writes-in_fram.ensures.elsewhere c.if-not-in_fram.true (place_of m.words.gate) in
    let known = sym c.keep_accepted.ensures.known ∙ c.if-self.true in
    still_gated m (history_of (Some m) c.keep_accepted.new.self) (with_words before ws) c.args.board.now (word_in c.args.board.now.fram m.words.gate)
    (c.keep_accepted.ensures.gate ∙ c.requires.gate elsewhere known)
    (c.keep_accepted.ensures.history (Some m) ∙ ap (λ x. with_words (record before { shared = shared_in (Some m) x }) ws) c.note_writes-in_fram.ensures.words)

pub returns-clause-history : goal.returns-clause-history
returns-clause-history g c =
    let m = c.args.map.now in
    let P : History → Type 0 = λ h. OnOk c.note_gate.result (history_of (Some m) c.note_gate.new.self ≡ gated m h c.args.board.now c.word-now.result) in
    let Q : ℕ → Type 0 = λ n. OnOk c.note_gate.result (history_of (Some m) c.note_gate.new.self
    ≡ gated m (with_words (history_of (Some m) c.args.self.now) (word_list c.args.done.now.accepted)) c.args.board.now n) in
    subst Q (c.word-now.ensures ∙ ap (λ (w : RuntimeWords). word_in c.args.board.now.fram w.gate) c.words.ensures)
    (subst P (c.keep_accepted.ensures.history (Some m)
    ∙ ap (λ ws. with_words (record (history_of (Some m) c.args.self.now) { shared = shared_in (Some m) ws }) (word_list c.args.done.now.accepted))
    c.note_writes-in_fram.ensures.words) c.note_gate.ensures.history)

pub returns-clause-bytes : goal.returns-clause-bytes
returns-clause-bytes g c =
    let m = c.args.map.now in
    let old = g.S.Sink.contents c.args.report.now.sink.now in
    let new = g.S.Sink.contents c.note_gate.new.report.sink.now in
    let P : History → Type 0 = λ h. Writes old new c.note_gate.result
    (if is_done c.keep_accepted.new.self.gate c.word-now.result then transition_lines m h c.args.board.now else []) in
    let Q : ℕ → ℕ → Type 0 = λ gate n. Writes old new c.note_gate.result
    (if is_done gate n then transition_lines m (with_words (history_of (Some m) c.args.self.now) (word_list c.args.done.now.accepted)) c.args.board.now
    else []) in
    subst (Q c.args.self.now.gate) (c.word-now.ensures ∙ ap (λ (w : RuntimeWords). word_in c.args.board.now.fram w.gate) c.words.ensures)
    (subst (λ gate. Q gate c.word-now.result) c.keep_accepted.ensures.gate
    (subst P (c.keep_accepted.ensures.history (Some m)
    ∙ ap (λ ws. with_words (record (history_of (Some m) c.args.self.now) { shared = shared_in (Some m) ws }) (word_list c.args.done.now.accepted))
    c.note_writes-in_fram.ensures.words) c.note_gate.ensures.bytes))

pub returns-clause-gate : goal.returns-clause-gate
returns-clause-gate g c =
    let m = c.args.map.now in
    gate_noted c.note_gate.result (history_of (Some m) c.note_gate.new.self)
    (gated m (history_of (Some m) c.keep_accepted.new.self) c.args.board.now c.word-now.result) (word_in c.args.board.now.fram m.words.gate)
    (c.word-now.ensures ∙ ap (λ (w : RuntimeWords). word_in c.args.board.now.fram w.gate) c.words.ensures) c.note_gate.ensures.history
