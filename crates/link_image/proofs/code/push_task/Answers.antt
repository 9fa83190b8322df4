use Rattle.link_image.proofs.Names.{◌≡◌, ◌∙◌, ◌+◌, ◌-◌, ◌*◌, ◌/◌, ◌++◌, ℕ, List, ap, sym, subst, length, map, arith, reset_vector, repeated, filler, program_of}
use Rattle.link_image.proofs.Names.{All, IsShort, chained, PartsInOrder, length-map}
use Rattle.std.proofs.lemmas.Result.{on_ok_weaker}
use Rattle.memory_map.specs.declared.place.Region.{Region}
use Rattle.array_versions.specs.View.{programs_of}
use Rattle.word_code.specs.Code.{code_of}
use Rattle.linked_code.specs.Linked.{routine_parts}
use Rattle.link_image.specs.Needs.{HasFewLocals}
use Rattle.link_image.proofs.Written.{words_in, after_own}
use Rattle.link_image.proofs.code.push_task.Goals as goal

pub emit-requires-clause-room : goal.emit-requires-clause-room
emit-requires-clause-room c = c.requires.emitted.short

pub emit-requires-clause-locals : goal.emit-requires-clause-locals
emit-requires-clause-locals c = c.requires.emitted.locals.own

pub push_part-requires : goal.push_part-requires
push_part-requires c =
    let at : c.code-at.result.address ≡ c.args.task.now.code.address = ap (λ r. r.address) c.code-at.ensures in
    let from = c.requires.order.0.from in
    record { behind = omega (arith, at, from) }

pub push_routines-requires-clause-count : goal.push_routines-requires-clause-count
push_routines-requires-clause-count c =
    let many = ap length c.routines.ensures in
    let count = c.requires.emitted.count in
    let programs = ap length c.as_slice-2.ensures.value in
    let all = length-map c.args.programs.now.routines.items program_of in
    omega (arith, many, count, programs, all)

pub push_routines-requires-clause-order : goal.push_routines-requires-clause-order
push_routines-requires-clause-order c =
    let t = c.args.task.now in
    let old = c.args.words.now.items in
    let new = c.push_part.new.words.items in
    let filling : ℕ → List ℕ = λ a. words_in (repeated ((a - (c.args.start + 2 * length old)) / 2) filler) in
    let own = c.as_slice.ensures.value ∙ c.in_ok-emit.ensures.code
    ∙ ap (λ ms. ms ++ code_of (program_of c.args.programs.now.own)) c.new-code.ensures.items in
    let is = c.in_ok-push_part.ensures ∙ ap (λ (r : Region). old ++ (filling r.address ++ words_in c.as_slice.result.now)) c.code-at.ensures in
    let behind = after_own c.args.start old new c.as_slice.result.now t (programs_of c.args.programs.now) c.requires.even c.requires.order own
    is in
    let at = c.args.start + 2 * length new in
    subst (λ rs. PartsInOrder at (routine_parts rs (map program_of c.as_slice-2.result.now)) reset_vector) (sym c.routines.ensures)
    (subst (λ ps. PartsInOrder at (routine_parts t.routines (map program_of ps)) reset_vector) (sym c.as_slice-2.ensures.value) behind.0)

pub push_routines-requires-clause-short : goal.push_routines-requires-clause-short
push_routines-requires-clause-short c =
    subst (λ ps. All IsShort (map program_of ps)) (sym c.as_slice-2.ensures.value) c.requires.emitted.shorts

pub push_routines-requires-clause-locals : goal.push_routines-requires-clause-locals
push_routines-requires-clause-locals c =
    subst (λ ps. All HasFewLocals (map program_of ps)) (sym c.as_slice-2.ensures.value) c.requires.emitted.locals.routines

pub returns : goal.returns
returns c =
    let t = c.args.task.now in
    let old = c.args.words.now.items in
    let new = c.push_part.new.words.items in
    let filling : ℕ → List ℕ = λ a. words_in (repeated ((a - (c.args.start + 2 * length old)) / 2) filler) in
    let own = c.as_slice.ensures.value ∙ c.in_ok-emit.ensures.code
    ∙ ap (λ ms. ms ++ code_of (program_of c.args.programs.now.own)) c.new-code.ensures.items in
    let is = c.in_ok-push_part.ensures ∙ ap (λ (r : Region). old ++ (filling r.address ++ words_in c.as_slice.result.now)) c.code-at.ensures in
    let behind = after_own c.args.start old new c.as_slice.result.now t (programs_of c.args.programs.now) c.requires.even c.requires.order own
    is in
    let at = c.args.start + 2 * length new in
    on_ok_weaker c.push_routines.result (λ made. made
    ∙ ap (λ rs. new ++ words_in (chained at (routine_parts rs (map program_of c.as_slice-2.result.now)))) c.routines.ensures
    ∙ ap (λ ps. new ++ words_in (chained at (routine_parts t.routines (map program_of ps)))) c.as_slice-2.ensures.value
    ∙ behind.1) c.push_routines.ensures
