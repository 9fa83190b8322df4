use Rattle.std.proofs.Common.{rules, IsOk, IsErr}
use Rattle.buffered_sink.proofs.Handing.{settles_broken, settles_part}
use Rattle.buffered_sink.proofs.buffered.BufferedSink.settle.Goals as goal

pub returns-in_err-value-clause-text : goal.returns-in_err-value-clause-text
returns-in_err-value-clause-text g c =
    let failed : IsErr c.args.written = search rules in
    settles_broken _ _ c.args.self.now.waiting.items _ _ c.args.self.now.begun failed c.from_residual.ensures.0

pub returns-in_err-hand_on-clause-text : goal.returns-in_err-hand_on-clause-text
returns-in_err-hand_on-clause-text g c =
    let whole : IsOk c.args.written = search rules in
    settles_part _ _ _ _ _ _ _ c.hand_on.new.self.begun whole c.from_residual-in_err-hand_on.ensures.0 c.in_err-hand_on.ensures.rest c.hand_on.ensures.bytes
