use Rattle.std.proofs.Common.{arith, rules, ◌+◌, ℕ, List, [], get_or, subst}
use Rattle.alp_io.proofs.Interface.{Progress, progress_start, progress_step, progress_err}
use Rattle.source_report.specs.SourceReport.{element_lines}
use Rattle.source_report.proofs.ReportLines.{rest_of_elements, elements_passed}
use Rattle.source_report.proofs.changes.write_elements.Goals as goal

pub loop-i-init : goal.loop-i-init
loop-i-init g c =
    let before : List ℕ = get_or c.args.run.now.before c.args.v [] in
    let now : List ℕ = get_or c.args.run.now.shared c.args.v [] in
    let whole : List ℕ = element_lines c.args.name.now 0 before now in
    let P : List ℕ → Type 0 =
    λ rest. Progress (g.S.Sink.contents c.args.report.now.sink.now) (g.S.Sink.contents c.args.report.now.sink.now) rest whole in
    let passed = elements_passed c.args.name.now before now 0 c.next_written-i.result (omega arith)
    (omega (arith, c.requires.before, c.next_written-i.ensures.inside)) (omega (arith, c.requires.now, c.next_written-i.ensures.inside))
    c.next_written-i.ensures.same in
    record {
      same_sink = search rules;
      bytes = subst P passed (progress_start _ whole);
      bound = c.next_written-i.ensures.inside;
      count = omega arith;
    }

pub returns-in_err-write_change-clause-bytes : goal.returns-in_err-write_change-clause-bytes
returns-in_err-write_change-clause-bytes g c =
    let split = rest_of_elements c.args.name.now (get_or c.args.run.now.before c.args.v []) (get_or c.args.run.now.shared c.args.v []) c.loop-i.i
    (omega (arith, c.requires.before)) (omega (arith, c.requires.now)) in
    progress_err _ _ _ _ _ _ _ c.from_residual.ensures.0 (rw split at c.loop-i.invariant.bytes)
    (rw (c.before-in-loop-i.ensures, c.word.ensures) at c.in_err-write_change.ensures.bytes.part)

pub loop-i-preserved : goal.loop-i-preserved
loop-i-preserved g c =
    let before : List ℕ = get_or c.args.run.now.before c.args.v [] in
    let now : List ℕ = get_or c.args.run.now.shared c.args.v [] in
    let split = rest_of_elements c.args.name.now before now c.loop-i.i (omega (arith, c.requires.before)) (omega (arith, c.requires.now)) in
    let whole : List ℕ = element_lines c.args.name.now 0 before now in
    let P : List ℕ → Type 0 =
    λ rest. Progress (g.S.Sink.contents c.args.report.now.sink.now) (g.S.Sink.contents c.write_change.new.report.sink.now) rest whole in
    let next = c.next_written-i-in-loop-i in
    let passed = elements_passed c.args.name.now before now (c.loop-i.i + 1) next.result (omega (arith, next.ensures.later))
    (omega (arith, c.requires.before, next.ensures.inside)) (omega (arith, c.requires.now, next.ensures.inside)) next.ensures.same in
    record {
      same_sink = search rules;
      bytes = subst P passed (progress_step _ _ _ _ _ _ (rw split at c.loop-i.invariant.bytes)
          (rw (c.before-in-loop-i.ensures, c.word.ensures) at c.in_ok-write_change.ensures.bytes.whole));
      bound = next.ensures.inside;
      count = omega arith;
    }
