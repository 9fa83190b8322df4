use Rattle.std.proofs.Common.{◌∙◌, ◌+◌, arith, sym, ap, Ok}
use Rattle.std.proofs.lemmas.Result.{err_from_is_err_and}
use Rattle.text_parts.specs.Lines.{lines}
use Rattle.radio_link.specs.Reading.{Gives, ◌>>=◌, read, schedule_of}
use Rattle.radio_link.proofs.Steps.{read_end, read_more, fails_bind}
use Rattle.radio_link.proofs.Meanings.{meaning_is}
use Rattle.radio_link.proofs.parse.parse_schedule.Goals as goal

pub returns-in_err-add_line : goal.returns-in_err-add_line
returns-in_err-add_line c =
    let p = err_from_is_err_and c.from_residual.result c.from_residual.ensures.1 in
    let value : Gives (λ s. s) c.from_residual.result (schedule_of c.args.text.now) =
    rw (p.1, p.2, ← c.loop-line.invariant.rest, read_more c.loop-line.n c.loop-line.into.items _ _ _ c.in-Some.ensures.cut.0)
    (fails_bind _ _ (λ es. read (c.loop-line.n + 1) es (lines c.in-Some.behind.now)) c.in_err-add_line.ensures.value) in
    record { value = value; meaning = meaning_is c.from_residual.result (lines c.args.text.now) value }

pub loop-line-preserved : goal.loop-line-preserved
loop-line-preserved c = record {
  limit = c.in_ok-add_line.ensures.limit;
  number = omega (arith, c.in-Some.ensures.cut.1);
  rest =
      sym (ap (λ x. x >>= λ es. read (c.loop-line.n + 1) es (lines c.in-Some.behind.now)) c.in_ok-add_line.ensures.value)
      ∙ sym (read_more c.loop-line.n c.loop-line.into.items _ _ _ c.in-Some.ensures.cut.0) ∙ c.loop-line.invariant.rest;
}

pub returns : goal.returns
returns c =
    let value = sym c.loop-line.invariant.rest ∙ read_end _ _ _ c.in_default.ensures.cut ∙ ap Ok (sym c.of.ensures) in
    record { value = value; meaning = meaning_is (Ok c.of.result) (lines c.args.text.now) value }
