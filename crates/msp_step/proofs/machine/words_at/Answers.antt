use Rattle.std.proofs.Common.{rules, arith}
use Rattle.std.proofs.lemmas.Bool.{ltb-true, lt-ltb}
use Rattle.msp_step.proofs.Fetched.{have_words, longer_by, first_missing, second_missing, third_missing, words_stand}
use Rattle.msp_step.proofs.machine.words_at.Goals as goal

pub returns-in_err-first-clause-none : goal.returns-in_err-first-clause-none
returns-in_err-first-clause-none g c =
    let t = first_missing g.B.Bus.model c.args.bus.now c.args.pc _ c.in_err-first.ensures.none in search rules

pub returns-in_err-second-clause-none : goal.returns-in_err-second-clause-none
returns-in_err-second-clause-none g c =
    let w = c.in-Ok.ensures in
    let h = c.in_err-second.ensures.none in
    let longer = longer_by 1 c.in_ok-first.first c.in-Ok.count w.found (have_words c.in_ok-first.first c.in-Ok.count w.only) (ltb-true 1 c.in-Ok.count h.0) in
    let t = second_missing g.B.Bus.model c.args.bus.now c.args.pc c.in_ok-first.first _ longer c.in_ok-first.ensures.found (h.1, h.2) in search rules

pub returns-in_err-third-clause-none : goal.returns-in_err-third-clause-none
returns-in_err-third-clause-none g c =
    let w = c.in-Ok.ensures in
    let h = c.in_err-third.ensures.none in
    let long = ltb-true 2 c.in-Ok.count h.0 in
    let longer = longer_by 2 c.in_ok-first.first c.in-Ok.count w.found (have_words c.in_ok-first.first c.in-Ok.count w.only) long in
    let second = c.in_ok-second.ensures.found (lt-ltb 1 c.in-Ok.count (omega arith)) in
    let t = third_missing g.B.Bus.model c.args.bus.now c.args.pc c.in_ok-first.first c.in_ok-second.second _ longer c.in_ok-first.ensures.found second
    (h.1, h.2) in search rules

pub returns-clause-found : goal.returns-clause-found
returns-clause-found g c =
    let w = c.in-Ok.ensures in
    words_stand g.B.Bus.model c.args.bus.now c.args.pc c.in_ok-first.first c.in_ok-second.second c.in_ok-third.third c.in-Ok.count w.found
    (have_words c.in_ok-first.first c.in-Ok.count w.only) c.in_ok-first.ensures.found
    (λ l. c.in_ok-second.ensures.found (lt-ltb 1 c.in-Ok.count l)) (λ l. c.in_ok-third.ensures.found (lt-ltb 2 c.in-Ok.count l))
