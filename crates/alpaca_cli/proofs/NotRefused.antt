-- Texts are accepted or refused, not both.
use Rattle.std.proofs.Common.{ℕ, List, [], ◌∷◌}
use Rattle.alpaca_cli.specs.Calls.{Call, mean, try_, build, run, asm, dis, gen, save, resume, migrate, undo, audit, promise_of}
use Rattle.plain_commands.specs.command_answers.Refusals.{Refusal}
use Rattle.state_commands.specs.Migrated.{editions}
use Rattle.alpaca_cli.specs.Products.{AreAccepted}
use Rattle.plain_commands.proofs.command_texts.Interface.{no_image, no_assembly}
use Rattle.plain_commands.proofs.Interface.{no_mean, no_run, no_audit}
use Rattle.compiler_commands.proofs.Interface.{no_try}
use Rattle.state_commands.proofs.Interface.{no_save, no_resume, no_migrate, TextsExclude}

pub not_refused : TextsExclude → (call : Call) (texts : List (List ℕ)) (place : ℕ) (r : Refusal)
    → AreAccepted call texts → (promise_of call).refuses texts place r → ⊥
not_refused law (mean c d) [] place r a b = a
not_refused law (mean c d) (x ∷ []) place r a b = a
not_refused law (mean c d) (x ∷ y ∷ []) place r a b = no_mean law.sources x y place r a b
not_refused law (mean c d) (x ∷ y ∷ z ∷ more) place r a b = a
not_refused law (try_ c d i) [] place r a b = a
not_refused law (try_ c d i) (x ∷ []) place r a b = a
not_refused law (try_ c d i) (x ∷ y ∷ []) place r a b = no_try law.sources x y place r a b
not_refused law (try_ c d i) (x ∷ y ∷ z ∷ more) place r a b = a
not_refused law (undo c d i) [] place r a b = a
not_refused law (undo c d i) (x ∷ []) place r a b = a
not_refused law (undo c d i) (x ∷ y ∷ []) place r a b = no_try law.sources x y place r a b
not_refused law (undo c d i) (x ∷ y ∷ z ∷ more) place r a b = a
not_refused law (build c i) [] place r a b = a
not_refused law (build c i) (x ∷ []) place r a b = law.sources x a.0 r a.1 b.0
not_refused law (build c i) (x ∷ y ∷ more) place r a b = a
not_refused law (run c d) [] place r a b = a
not_refused law (run c d) (x ∷ []) place r a b = a
not_refused law (run c d) (x ∷ y ∷ []) place r a b = no_run x y place r a b
not_refused law (run c d) (x ∷ y ∷ z ∷ more) place r a b = a
not_refused law (asm c d) [] place r a b = a
not_refused law (asm c d) (x ∷ []) place r a b = no_assembly x r a b.0
not_refused law (asm c d) (x ∷ y ∷ more) place r a b = a
not_refused law (dis c) [] place r a b = a
not_refused law (dis c) (x ∷ []) place r a b = no_image x r a b.0
not_refused law (dis c) (x ∷ y ∷ more) place r a b = a
not_refused law (gen n i) [] place r a b = law.sources _ a.0 r a.1 b.0
not_refused law (gen n i) (x ∷ more) place r a b = a
not_refused law (save c d i) [] place r a b = a
not_refused law (save c d i) (x ∷ []) place r a b = a
not_refused law (save c d i) (x ∷ y ∷ []) place r a b = no_save x y place r a b
not_refused law (save c d i) (x ∷ y ∷ z ∷ more) place r a b = a
not_refused law (resume c d e) [] place r a b = a
not_refused law (resume c d e) (x ∷ []) place r a b = a
not_refused law (resume c d e) (x ∷ y ∷ []) place r a b = a
not_refused law (resume c d e) (x ∷ y ∷ z ∷ []) place r a b = no_resume law.states x y z place r a b
not_refused law (resume c d e) (x ∷ y ∷ z ∷ u ∷ more) place r a b = a
not_refused law (migrate c d e f g h) [] place r a b = a
not_refused law (migrate c d e f g h) (x ∷ []) place r a b = a
not_refused law (migrate c d e f g h) (x ∷ y ∷ []) place r a b = a
not_refused law (migrate c d e f g h) (x ∷ y ∷ z ∷ []) place r a b = a
not_refused law (migrate c d e f g h) (x ∷ y ∷ z ∷ u ∷ []) place r a b = a
not_refused law (migrate c d e f g h) (x ∷ y ∷ z ∷ u ∷ v ∷ []) place r a b = no_migrate law (editions x y z u v) place r a b
not_refused law (migrate c d e f g h) (x ∷ y ∷ z ∷ u ∷ v ∷ w ∷ more) place r a b = a
not_refused law (audit c d e) [] place r a b = a
not_refused law (audit c d e) (x ∷ []) place r a b = a
not_refused law (audit c d e) (x ∷ y ∷ []) place r a b = a
not_refused law (audit c d e) (x ∷ y ∷ z ∷ []) place r a b = no_audit law.sources x z place r a b
not_refused law (audit c d e) (x ∷ y ∷ z ∷ u ∷ more) place r a b = a
