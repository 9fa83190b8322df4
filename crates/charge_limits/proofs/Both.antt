-- The laws of what a charge takes and sends, under the runtime of the memory map.
use Rattle.std.proofs.Common.{◌≤◌, ⊎_elim, length, sym, subst}
use Rattle.machine_effects.specs.World.{readings_taken}
use Rattle.source_values.specs.Runs.{State}
use Rattle.crash_rules.specs.Model.{Model, ModelLaws}
use Rattle.crash_rules.specs.Laws.{StandsFor, FollowsScript}
use Rattle.compiled_model.specs.Parts.{compiled_model}
use Rattle.compiled_model.proofs.Interface.{either_logging, is_redo, is_logged}
use Rattle.charge_limits.specs.Laws.{readings_from, ReadingsAreFew, WordsAreFew}
use Rattle.charge_limits.proofs.Scripts.{follows_few, WordsFollow, words_under_redo}
use Rattle.charge_limits.proofs.InPlace.{logged_follows_few, words_under_undo}

pub readings_are_few : ReadingsAreFew
readings_are_few p l readings h follows stands =
    ⊎_elim {C = length (readings_taken h.effects) ≤ readings_from p l h.start.fram}
    (λ logs. follows_few p l readings h (subst (λ m. FollowsScript m readings h) (is_redo p l logs) follows))
    (λ logs.
    let at = stands logs in
    let Laws : Model State → Type 0 = λ m. ModelLaws m in
    logged_follows_few p l at.apart (subst Laws (is_logged p l logs) at.laws) readings at.origin h
    (subst (λ m. FollowsScript m readings h) (is_logged p l logs) follows) (subst (λ m. StandsFor m readings at.origin h) (is_logged p l logs) at.stands))
    (either_logging l.runtime.logging)

pub words_are_few : WordsAreFew
words_are_few p l room =
    ⊎_elim {C = WordsFollow p l (compiled_model p l)} (λ logs. subst (WordsFollow p l) (sym (is_redo p l logs)) (words_under_redo p l))
    (λ logs. subst (WordsFollow p l) (sym (is_logged p l logs)) (words_under_undo p l (room logs))) (either_logging l.runtime.logging)
