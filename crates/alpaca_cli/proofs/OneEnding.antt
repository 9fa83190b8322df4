-- Whatever a command makes of its texts has one ending.
use Rattle.std.proofs.Common.{◌≡◌, ◌∙◌, ℕ, List, [], ◌∷◌, sym}
use Rattle.plain_commands.specs.fram_board.Laws.{HasOneRun}
use Rattle.alpaca_cli.specs.Calls.{Call, mean, try_, build, run, asm, dis, gen, save, resume, migrate, undo, audit}
use Rattle.plain_commands.specs.command_answers.Promises.{Product}
use Rattle.alpaca_cli.specs.Products.{IsProduct}
use Rattle.plain_commands.proofs.Interface.{run_ending, audit_ending}
use Rattle.state_commands.proofs.Interface.{resume_ending, save_ending}
use Rattle.alpaca_cli.specs.OfSources.{SavedStatesStay, IsOfItsSource}

pub one_ending : HasOneRun → (call : Call) (texts : List (List ℕ)) (p q : Product) → IsProduct call texts p → IsProduct call texts q → p.ending ≡ q.ending
one_ending law (mean c d) [] p q a b = absurd a
one_ending law (mean c d) (x ∷ []) p q a b = absurd a
one_ending law (mean c d) (x ∷ y ∷ []) p q a b = a.2 ∙ sym b.2
one_ending law (mean c d) (x ∷ y ∷ z ∷ more) p q a b = absurd a
one_ending law (try_ c d i) [] p q a b = absurd a
one_ending law (try_ c d i) (x ∷ []) p q a b = absurd a
one_ending law (try_ c d i) (x ∷ y ∷ []) p q a b = a.1 ∙ sym b.1
one_ending law (try_ c d i) (x ∷ y ∷ z ∷ more) p q a b = absurd a
one_ending law (undo c d i) [] p q a b = absurd a
one_ending law (undo c d i) (x ∷ []) p q a b = absurd a
one_ending law (undo c d i) (x ∷ y ∷ []) p q a b = a.1 ∙ sym b.1
one_ending law (undo c d i) (x ∷ y ∷ z ∷ more) p q a b = absurd a
one_ending law (build c i) [] p q a b = absurd a
one_ending law (build c i) (x ∷ []) p q a b = a.1 ∙ sym b.1
one_ending law (build c i) (x ∷ y ∷ more) p q a b = absurd a
one_ending law (run c d) [] p q a b = absurd a
one_ending law (run c d) (x ∷ []) p q a b = absurd a
one_ending law (run c d) (x ∷ y ∷ []) p q a b = run_ending law x y p.ending q.ending p.output q.output a.0 b.0
one_ending law (run c d) (x ∷ y ∷ z ∷ more) p q a b = absurd a
one_ending law (asm c d) [] p q a b = absurd a
one_ending law (asm c d) (x ∷ []) p q a b = a.2 ∙ sym b.2
one_ending law (asm c d) (x ∷ y ∷ more) p q a b = absurd a
one_ending law (dis c) [] p q a b = absurd a
one_ending law (dis c) (x ∷ []) p q a b = a.2 ∙ sym b.2
one_ending law (dis c) (x ∷ y ∷ more) p q a b = absurd a
one_ending law (gen n i) [] p q a b = a.1 ∙ sym b.1
one_ending law (gen n i) (x ∷ more) p q a b = absurd a
one_ending law (save c d i) [] p q a b = absurd a
one_ending law (save c d i) (x ∷ []) p q a b = absurd a
one_ending law (save c d i) (x ∷ y ∷ []) p q a b = save_ending SavedStatesStay law x y p.file q.file p.ending q.ending p.output q.output a b
one_ending law (save c d i) (x ∷ y ∷ z ∷ more) p q a b = absurd a
one_ending law (resume c d e) [] p q a b = absurd a
one_ending law (resume c d e) (x ∷ []) p q a b = absurd a
one_ending law (resume c d e) (x ∷ y ∷ []) p q a b = absurd a
one_ending law (resume c d e) (x ∷ y ∷ z ∷ []) p q a b = resume_ending IsOfItsSource law x y z p.ending q.ending p.output q.output a.0 b.0
one_ending law (resume c d e) (x ∷ y ∷ z ∷ u ∷ more) p q a b = absurd a
one_ending law (migrate c d e f g h) [] p q a b = absurd a
one_ending law (migrate c d e f g h) (x ∷ []) p q a b = absurd a
one_ending law (migrate c d e f g h) (x ∷ y ∷ []) p q a b = absurd a
one_ending law (migrate c d e f g h) (x ∷ y ∷ z ∷ []) p q a b = absurd a
one_ending law (migrate c d e f g h) (x ∷ y ∷ z ∷ u ∷ []) p q a b = absurd a
one_ending law (migrate c d e f g h) (x ∷ y ∷ z ∷ u ∷ v ∷ []) p q a b = a.2 ∙ sym b.2
one_ending law (migrate c d e f g h) (x ∷ y ∷ z ∷ u ∷ v ∷ w ∷ more) p q a b = absurd a
one_ending law (audit c d e) [] p q a b = absurd a
one_ending law (audit c d e) (x ∷ []) p q a b = absurd a
one_ending law (audit c d e) (x ∷ y ∷ []) p q a b = absurd a
one_ending law (audit c d e) (x ∷ y ∷ z ∷ []) p q a b = audit_ending x y z p.ending q.ending p.output q.output a.0 b.0
one_ending law (audit c d e) (x ∷ y ∷ z ∷ u ∷ more) p q a b = absurd a
