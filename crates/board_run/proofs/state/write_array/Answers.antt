use Rattle.std.proofs.Common.{arith, ◌∙◌, ap, sym, refl}
use Rattle.alp_io.proofs.Interface.{progress_start, progress_step, progress_err}
use Rattle.board_run.specs.State.{told_lines}
use Rattle.board_run.proofs.Placed.{in_array, fits_so}
use Rattle.board_run.proofs.Changes.{next_lines, all_words_left, no_words_left, word_named, skip_unmarked, stands_at, lines_end}
use Rattle.board_run.proofs.state.write_array.Goals as goal

pub next_index-i-requires-clause-low : goal.next_index-i-requires-clause-low
next_index-i-requires-clause-low g c = (stands_at _ _ c.requires.variable c.requires.length).low

pub next_index-i-requires-clause-high : goal.next_index-i-requires-clause-high
next_index-i-requires-clause-high g c = (stands_at _ _ c.requires.variable c.requires.length).high

pub loop-i-init : goal.loop-i-init
loop-i-init g c = record {
  same = refl;
  count = omega arith;
  end = c.next_index-i.ensures.end;
  lines = next_lines _ _ _ _ _ (ap (told_lines c.args.shadow.now.words c.args.board.now.fram) (sym (all_words_left _ _ _))
      ∙ skip_unmarked _ _ _ _ _ _ _ (stands_at _ _ c.requires.variable c.requires.length) c.requires.covers c.next_index-i.ensures.later
      c.next_index-i.ensures.end c.next_index-i.ensures.none) (progress_start _ _);
}

pub overflow_add-place : goal.overflow_add-place
overflow_add-place g c = let high = (stands_at _ _ c.requires.variable c.requires.length).high in omega (arith, high, c.loop-i-test.true)

pub overflow_mul-place : goal.overflow_mul-place
overflow_mul-place g c = let high = (stands_at _ _ c.requires.variable c.requires.length).high in omega (arith, high, c.loop-i-test.true)

pub write_place-requires : goal.write_place-requires
write_place-requires g c = (in_array _ _ _ c.requires.variable.address (fits_so _ _ c.requires.length c.requires.variable) c.loop-i-test.true, λ l. cc)

pub returns-in_err-write_place-clause-bytes : goal.returns-in_err-write_place-clause-bytes
returns-in_err-write_place-clause-bytes g c = progress_err _ _ _ _ _ _ _ c.from_residual.ensures.0
    (next_lines _ _ _ _ _ (word_named _ _ _ _ _ _ _ c.as_bytes.ensures.value c.loop-i-test.true) c.loop-i.invariant.lines)
    c.in_err-write_place.ensures.bytes.part

pub next_index-i-requires-in-loop-i-clause-low : goal.next_index-i-requires-in-loop-i-clause-low
next_index-i-requires-in-loop-i-clause-low g c = (stands_at _ _ c.requires.variable c.requires.length).low

pub next_index-i-requires-in-loop-i-clause-high : goal.next_index-i-requires-in-loop-i-clause-high
next_index-i-requires-in-loop-i-clause-high g c = (stands_at _ _ c.requires.variable c.requires.length).high

pub loop-i-preserved : goal.loop-i-preserved
loop-i-preserved g c = record {
  same = c.in_ok-write_place.ensures.same_sink ∙ c.loop-i.invariant.same;
  count = omega (arith, c.in_ok-write_place.ensures.cause.later, c.loop-i.invariant.count);
  end = c.next_index-i-in-loop-i.ensures.end;
  lines = next_lines _ _ _ _ _ (skip_unmarked _ _ _ _ _ _ _ (stands_at _ _ c.requires.variable c.requires.length) c.requires.covers
      c.next_index-i-in-loop-i.ensures.later c.next_index-i-in-loop-i.ensures.end c.next_index-i-in-loop-i.ensures.none)
      (progress_step _ _ _ _ _ _ (next_lines _ _ _ _ _ (word_named _ _ _ _ _ _ _ c.as_bytes.ensures.value c.loop-i-test.true) c.loop-i.invariant.lines)
      c.in_ok-write_place.ensures.bytes.whole);
}

pub returns-clause-bytes : goal.returns-clause-bytes
returns-clause-bytes g c = lines_end tt _ _ _ _ (ap (told_lines c.args.shadow.now.words c.args.board.now.fram)
    (no_words_left c.args.v.now.name c.args.v.now.address c.args.length c.loop-i.i (omega (arith, c.loop-i-test.false)))) c.loop-i.invariant.lines
