-- A power-up with GATE 0 raises VER.
use Rattle.std.proofs.Common.{◌≡◌, ◌<◌, ◌+◌, sym, ap, ◌∙◌, arith}
use Rattle.machine_effects.specs.Going.{At, going}
use Rattle.machine_effects.proofs.Interface.{put_same}
use Rattle.code_forms.specs.Forms.{board_of}
use Rattle.memory_map.specs.declared.words.RuntimeWord.TheVariants.{Gate, Version}
use Rattle.memory_map.specs.MemoryMap.{word_place, with_events}
use Rattle.lower.specs.Lowered.{lowered}
use Rattle.linked_code.specs.Linked.{ProgramsAreWhole}
use Rattle.linked_code.proofs.Interface.{under_watch, to_raised}
use Rattle.compiled_runs.specs.Program.{stack_lows, compiled_program}
use Rattle.compiled_runs.specs.Laws.{PowerUpsRaiseVersion}
use Rattle.compiled_runs.proofs.Costs.{are_whole}

pub power_ups_raise_version : PowerUpsRaiseVersion
power_ups_raise_version p l logs r b boots gate below t leads =
    let step = (compiled_program p l).step in
    let whole : ProgramsAreWhole (lowered l p) = are_whole p l r in
    let u = boots.core in
    let a = word_place l Version in
    let zero : u.fram (word_place l Gate) ≡ 0 = ap (λ s. s.fram (word_place l Gate)) (sym boots.is) ∙ gate in
    let version : u.fram a ≡ b.fram a = ap (λ s. s.fram a) (sym boots.is) in
    let low : u.fram a < 0xFFFF = omega (arith, version, below) in
    let raised = under_watch l (lowered l p) r.fits whole (stack_lows p l) (to_raised l (lowered l p) r.fits whole logs u boots.pc boots.named zero low) in
    let steps = with_events l.runtime.events 2 + 5 in
    let all : steps ≡ steps + 0 = omega arith in
    let made : (going step steps (board_of u)).status ≡ At (board_of raised.end) =
    ap (λ n. (going step n (board_of u)).status) all ∙ ap (λ q. q.status) (raised.leads.by 0) in
    let there : At t ≡ At (board_of raised.end) = sym leads ∙ ap (λ s. (going step steps s).status) boots.is ∙ made in
    let same : t ≡ board_of raised.end = cc there in
    let stored : raised.end.fram a ≡ u.fram a + 1 = ap (λ f. f a) raised.holds.fram ∙ put_same u.fram a (u.fram a + 1) in
    ap (λ s. s.fram a) same ∙ stored ∙ ap (λ n. n + 1) version
