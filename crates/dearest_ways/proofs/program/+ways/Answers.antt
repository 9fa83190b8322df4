use Rattle.std.proofs.Common.{◌≡◌, ◌∙◌, suc, ◌+◌, ◌-◌, ◌++◌, ◌∷◌, List, false, true, sym, ap, subst, rules, arith}
use Rattle.std.proofs.lemmas.Result.{IfOk-weaker}
use Rattle.word_code.specs.declared.bounds.Bound.{Bound}
use Rattle.word_code.specs.array_versions.Program.{Program, repeat}
use Rattle.word_code.specs.array_versions.View.{steps_of, step_of, test_of}
use Rattle.word_code.specs.array_versions.Form.{LocalsBelow, StepLocalsBelow}
use Rattle.word_code.specs.array_versions.Cost.{step_words, words_of}
use Rattle.word_code.specs.array_versions.declared.program.WordStep as word_step
use Rattle.word_code.specs.Code.{size, pass_over, number_code, turn_end, block_code}
use Rattle.code_paths.specs.Paths.{forward_most}
use Rattle.code_costs.specs.Dearest.{flush_most, turn_most}
use Rattle.code_ways.specs.Ways.{forks_of, ways_of, all_turns, choice_ways, chosen_ways, ways_behind}
use Rattle.dearest_ways.specs.Ways.{program_choices, step_choices, test_choices, straight_cost, step_ways, test_forks, block_ways}
use Rattle.dearest_ways.proofs.Levels.{step_of-choose}
use Rattle.dearest_ways.proofs.program.+ways.Goals as goal

pub step_ways-test_forks-requires : goal.step_ways-test_forks-requires
step_ways-test_forks-requires t c =
    let of = c.in-Choose in
    let is = ap step_of of.is ∙ step_of-choose of.test of.taken of.otherwise in
    let block = ap (λ ws. words_of (steps_of ws)) c.deref.ensures.value in (
      search (rules, word_step.the_lemmas),
      (
        (omega (arith, c.in_ok-jumps-in-Choose.ensures.long, block, ap step_words is, c.requires.room)),
        ((subst (StepLocalsBelow 1016) is c.requires.locals).0, (omega (arith, ap step_choices is, c.requires.few))),
      ),
    )

pub step_ways-held_ways-requires : goal.step_ways-held_ways-requires
step_ways-held_ways-requires t c =
    let of = c.in-Choose in
    let is = ap step_of of.is ∙ step_of-choose of.test of.taken of.otherwise in
    let block = c.deref-in-Choose-2.ensures.value in
    let other = ap (λ ws. words_of (steps_of ws)) c.deref-in-Choose.ensures.value in (
      (let h = rw of.is at c.decreases in rw block (search (rules, word_step.the_lemmas, h))),
      (
        (omega (arith, ap (λ ws. words_of (steps_of ws)) block, ap step_words is, c.requires.room)),
        (
          subst (λ ws. LocalsBelow 1016 (steps_of ws)) (sym block) (subst (StepLocalsBelow 1016) is c.requires.locals).1,
          (
            (omega (arith, ap (λ ws. program_choices (steps_of ws)) block, c.in_ok-asked-in-Choose.ensures.choices, ap step_choices is, c.requires.few)),
            (omega (arith, c.in_ok-jumps-in-Choose.ensures.short, other, ap step_words is, c.requires.room)),
          ),
        ),
      ),
    )

pub step_ways-failed_ways-requires : goal.step_ways-failed_ways-requires
step_ways-failed_ways-requires t c =
    let of = c.in-Choose in
    let is = ap step_of of.is ∙ step_of-choose of.test of.taken of.otherwise in
    let first = ap (λ ws. program_choices (steps_of ws)) c.deref-in-Choose-2.ensures.value in
    let block = c.deref-in-Choose-3.ensures.value in
    let own = ap (λ ws. program_choices (steps_of ws)) block in
    let before = c.in_ok-held-in-Choose.ensures.choices in
    let asked = c.in_ok-asked-in-Choose.ensures.choices in (
      (let h = rw of.is at c.decreases in rw block (search (rules, word_step.the_lemmas, h))),
      (
        (omega (arith, ap (λ ws. words_of (steps_of ws)) block, ap step_words is, c.requires.room)),
        (
          subst (λ ws. LocalsBelow 1016 (steps_of ws)) (sym block) (subst (StepLocalsBelow 1016) is c.requires.locals).2,
          (omega (arith, own, first, before, asked, ap step_choices is, c.requires.few)),
        ),
      ),
    )

pub step_ways-returns-in_ok-chosen-in-Choose-clause-ways : goal.step_ways-returns-in_ok-chosen-in-Choose-clause-ways
step_ways-returns-in_ok-chosen-in-Choose-clause-ways t c =
    let calls = c.args.calls.now in
    let bs = c.args.bounds.now in
    let os = c.args.waiting.now.items in
    let k = c.args.choices.now in
    let of = c.in-Choose in
    let is = ap step_of of.is ∙ step_of-choose of.test of.taken of.otherwise in
    let test = test_of of.test in
    let p : Program = steps_of of.taken.items in
    let q : Program = steps_of of.otherwise.items in
    let first_block = c.deref.ensures.value in
    let second_block = c.deref-in-Choose.ensures.value in
    let jumps = c.in_ok-jumps-in-Choose.ensures in
    let over : c.in_ok-jumps-in-Choose.jumps.second ≡ size (block_code bs q) =
    jumps.second ∙ ap (λ ws. size (block_code bs (steps_of ws))) second_block in
    let passed = size (block_code bs p ++ pass_over (size (block_code bs q))) in
    let further : c.in_ok-jumps-in-Choose.jumps.first ≡ passed =
    jumps.first ∙ ap (λ ws. size (block_code bs (steps_of ws) ++ pass_over (size (block_code bs (steps_of c.deref-in-Choose.result.now))))) first_block
    ∙ ap (λ ws. size (block_code bs p ++ pass_over (size (block_code bs (steps_of ws))))) second_block in
    let on = straight_cost (forward_most (pass_over (size (block_code bs q))) 3) in
    let block = c.deref-in-Choose-2.ensures.value in
    let number : k + 1 ≡ suc k = omega arith in
    let within : c.test_forks.new.choices ≡ suc k + test_choices test = omega (arith, c.in_ok-asked-in-Choose.ensures.choices) in
    let later : c.held_ways.new.choices ≡ suc k + test_choices test + program_choices p =
    omega (arith, c.in_ok-held-in-Choose.ensures.choices, within, ap (λ ws. program_choices (steps_of ws)) block) in
    let forks = test_forks calls bs (suc k) test false passed in
    let asked : forks_of c.in_ok-asked-in-Choose.asked ≡ forks =
    c.in_ok-asked-in-Choose.ensures.forks ∙ ap (λ j. test_forks calls bs j test false c.in_ok-jumps-in-Choose.jumps.first) number
    ∙ ap (test_forks calls bs (suc k) test false) further in
    let one = ways_behind (choice_ways k true) (ways_behind (block_ways calls bs (suc k + test_choices test) p) on) in
    let held : ways_of c.in_ok-held-in-Choose.held ≡ one =
    c.in_ok-held-in-Choose.ensures.ways
    ∙ ap (λ ws. ways_behind (choice_ways k true) (ways_behind (block_ways calls bs c.test_forks.new.choices (steps_of ws))
    (straight_cost (forward_most (pass_over c.in_ok-jumps-in-Choose.jumps.second) 3)))) block
    ∙ ap (λ j. ways_behind (choice_ways k true) (ways_behind (block_ways calls bs j p)
    (straight_cost (forward_most (pass_over c.in_ok-jumps-in-Choose.jumps.second) 3)))) within
    ∙ ap (λ o. ways_behind (choice_ways k true) (ways_behind (block_ways calls bs (suc k + test_choices test) p)
    (straight_cost (forward_most (pass_over o) 3)))) over in
    let two = ways_behind (choice_ways k false) (block_ways calls bs (suc k + test_choices test + program_choices p) q) in
    let failed : ways_of c.in_ok-failed-in-Choose.failed ≡ two =
    c.in_ok-failed-in-Choose.ensures.ways
    ∙ ap (λ ws. ways_behind (choice_ways k false) (block_ways calls bs c.held_ways.new.choices (steps_of ws))) c.deref-in-Choose-3.ensures.value
    ∙ ap (λ j. ways_behind (choice_ways k false) (block_ways calls bs j q)) later in
    let choice : ways_of c.in_ok-chosen-in-Choose.field-0 ≡ chosen_ways forks one two =
    c.in_ok-chosen-in-Choose.ensures
    ∙ ap (λ a. chosen_ways a (ways_of c.in_ok-held-in-Choose.held) (ways_of c.in_ok-failed-in-Choose.failed)) asked
    ∙ ap (λ v. chosen_ways forks v (ways_of c.in_ok-failed-in-Choose.failed)) held ∙ ap (chosen_ways forks one) failed in
    let front = ways_of c.in_ok-front-in-Choose.front in
    let all = ap (λ v. ways_behind v (ways_of c.in_ok-chosen-in-Choose.field-0)) c.in_ok-front-in-Choose.ensures.ways
    ∙ ap (ways_behind (straight_cost (flush_most os))) choice ∙ sym (ap (step_ways calls bs os k) is) in
    IfOk-weaker c.behind.result (λ w. ways_of w ≡ ways_behind front (ways_of c.in_ok-chosen-in-Choose.field-0))
    (λ w. ways_of w ≡ step_ways calls bs os k (step_of c.args.step.now)) (λ w e. e ∙ all) c.behind.ensures

pub loop_ways-returns-clause-ways : goal.loop_ways-returns-clause-ways
loop_ways-returns-clause-ways t c =
    let calls = c.args.calls.now in
    let bs = c.args.bounds.now in
    let os = c.args.waiting.now.items in
    let k = c.args.choices.now in
    let own = c.args.own in
    let inner = own ∷ bs in
    let body = steps_of c.args.body.now in
    let size_of = λ (b : List Bound). straight_cost (turn_most own.local own.below (size (block_code b body ++ turn_end own.local own.below))) in
    let around = c.deref.ensures.value ∙ c.in_ok-inner.ensures in
    let around_end = c.deref-2.ensures.value ∙ c.in_ok-inner.ensures in
    let block : ways_of c.in_ok-turn.turn ≡ block_ways calls inner k body = c.in_ok-turn.ensures.ways ∙ ap (λ b. block_ways calls b k body) around in
    let end : ways_of c.in_ok-end.end ≡ size_of inner = c.in_ok-end.ensures ∙ ap size_of around_end in
    let one = ways_behind (block_ways calls inner k body) (size_of inner) in
    let turn : ways_of c.in_ok-turn-2.turn ≡ one =
    c.in_ok-turn-2.ensures ∙ ap (λ v. ways_behind v (ways_of c.in_ok-end.end)) block ∙ ap (ways_behind (block_ways calls inner k body)) end in
    let count = own.below - c.args.from in
    let turns : ways_of c.in_ok-turns.turns ≡ all_turns count one =
    c.in_ok-turns.ensures ∙ ap (λ m. all_turns m (ways_of c.in_ok-turn-2.turn)) c.saturating_sub.ensures ∙ ap (all_turns count) turn in
    let set = straight_cost (forward_most (number_code own.local c.args.from) 5) in
    let rest : ways_of c.in_ok-behind.field-0 ≡ ways_behind set (all_turns count one) =
    c.in_ok-behind.ensures ∙ ap (λ v. ways_behind v (ways_of c.in_ok-turns.turns)) c.in_ok-set.ensures ∙ ap (ways_behind set) turns in
    let front = ways_of c.in_ok-front.front in
    let all = ap (λ v. ways_behind v (ways_of c.in_ok-behind.field-0)) c.in_ok-front.ensures.ways ∙ ap (ways_behind (straight_cost (flush_most os))) rest in
    IfOk-weaker c.behind-3.result (λ w. ways_of w ≡ ways_behind front (ways_of c.in_ok-behind.field-0))
    (λ w. ways_of w ≡ step_ways calls bs os k (repeat own.local c.args.from own.below body)) (λ w e. e ∙ all) c.behind-3.ensures
