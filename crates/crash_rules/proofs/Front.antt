-- Effects in front of an attempt.
use Rattle.std.proofs.Common.{◌≡◌, List, [], ◌∷◌, ◌++◌, sym, ap, ◌∙◌, subst, true, append_assoc}
use Rattle.machine_effects.specs.fram_board.Effects.{Effect, Store}
use Rattle.machine_effects.specs.World.{World, world_after_one, world_after, readings_taken}
use Rattle.machine_effects.proofs.Interface.{taken_behind_none, readings_taken-append, world_after-append, each_store-append}
use Rattle.crash_rules.specs.Model.{Model, Marks, given_by, answers_in, ProgramEffects, program_effects, behind_effects, Inputs, inputs_taken, no_inputs}
use Rattle.crash_rules.specs.Model.{IsElsewhere, Decides, RunsShort, AttemptContract, Comes, Lacks, StaysUndecided}
use Rattle.crash_rules.proofs.Lists.{holds-append}
use Rattle.crash_rules.proofs.Observed.{answers-append}

-- what is given behind effects that take nothing and store no answer
given_behind : (marks : Marks) (es fs : List Effect) → inputs_taken es ≡ no_inputs → answers_in marks es ≡ [] → given_by marks (es ++ fs) ≡ given_by marks fs
given_behind marks es fs none quiet =
    let readings : readings_taken (es ++ fs) ≡ readings_taken fs = readings_taken-append es fs ∙ ap (λ i. i.readings ++ readings_taken fs) none in
    let answers : answers_in marks (es ++ fs) ≡ answers_in marks fs = answers-append marks es fs ∙ ap (λ ws. ws ++ answers_in marks fs) quiet in
    λ i. record { readings = readings i; answers = answers i }

module _ {St : Type 0} (m : Model St) (s : St) (x : World) (inputs : Inputs) (es : List Effect) (r : ProgramEffects) (k : StaysUndecided m s x es) where
  -- behind effects that stay undecided an attempt that keeps its contract is one from in front of them
  decides_in_front : (next : St) → Decides m s next inputs (world_after es x) r → Decides m s next inputs x (behind_effects es r)
  decides_in_front next c =
      let to_gate : List Effect = Store m.marks.gate 1 ∷ [] in
      let same : inputs_taken (es ++ c.before) ≡ inputs_taken c.before = taken_behind_none es c.before k.takes_none in
      let given : given_by m.marks ((es ++ c.before) ++ to_gate) ≡ given_by m.marks (c.before ++ to_gate) =
      ap (given_by m.marks) (append_assoc es c.before to_gate) ∙ given_behind m.marks es (c.before ++ to_gate) k.takes_none k.answers_none in
      record {
        before = es ++ c.before;
        left = c.left;
        is = ap (behind_effects es) c.is ∙ ap (λ z. program_effects z true) (sym (append_assoc es c.before to_gate));
        elsewhere = each_store-append (IsElsewhere m.marks.gate) es c.before k.elsewhere c.elsewhere;
        reads = record {
          readings = ap (λ z. z.readings ++ c.left.readings) same ∙ c.reads.readings;
          looks = ap (λ z. z.looks ++ c.left.looks) same ∙ c.reads.looks;
        };
        undecided = holds-append (m.Undecided s) es c.before x k.undecided c.undecided;
        decided = subst (λ z. m.Decided s next (world_after_one (Store m.marks.gate 1) z)) (sym (world_after-append es c.before x)) c.decided;
        exact = ap (m.task s) given ∙ c.exact;
      }

  short_in_front : RunsShort m s inputs (world_after es x) r → RunsShort m s inputs x (behind_effects es r)
  short_in_front c =
      let answers : answers_in m.marks (es ++ r.effects) ≡ answers_in m.marks r.effects =
      answers-append m.marks es r.effects ∙ ap (λ ws. ws ++ answers_in m.marks r.effects) k.answers_none in
      record {
        is = c.is;
        elsewhere = each_store-append (IsElsewhere m.marks.gate) es r.effects k.elsewhere c.elsewhere;
        undecided = holds-append (m.Undecided s) es r.effects x k.undecided c.undecided;
        short = ap (λ ws. m.task s (record { readings = inputs.readings; answers = ws })) answers ∙ c.short;
      }

  pub in_front : AttemptContract m s inputs (world_after es x) r → AttemptContract m s inputs x (behind_effects es r)
  in_front (Comes next c) = Comes next (decides_in_front next c)
  in_front (Lacks c) = Lacks (short_in_front c)
