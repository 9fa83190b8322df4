use Rattle.std.proofs.Common.{◌≡◌, ◌∙◌, ◌<◌, ◌≤◌, Some, length, map, get_or, refl, sym, ap, subst, arith}
use Rattle.std.specs.Prelude.{slice_get}
use Rattle.std.specs.Option.{option_map}
use Rattle.std.proofs.lemmas.List.{length-map}
use Rattle.std.proofs.lemmas.Option.{get_or_from_slice_get, slice_get-get_or, slice_get-map, slice_get_read}
use Rattle.std.proofs.Math.ListN.{get_or-map}
use Rattle.array_versions.specs.Program.{Program, nothing}
use Rattle.array_versions.specs.Cost.{words_of}
use Rattle.array_versions.specs.Form.{LocalsBelow}
use Rattle.array_versions.specs.View.{program_of}
use Rattle.dearest_ways.specs.Calls.{CallsCost}
use Rattle.dearest_ways.specs.Ways.{bare}
use Rattle.source_needs.proofs.Bodies.{costs_step, costs_end}
use Rattle.source_needs.proofs.calls.call_costs.Goals as goal

pub body_cycles-requires-clause-room : goal.body_cycles-requires-clause-room
body_cycles-requires-clause-room c =
    let body = c.index-bodies-i.result in
    let many = length-map c.args.bodies.now program_of in
    let short = c.requires.short c.loop-i.i (program_of body) (omega (arith, many, c.loop-i-test.true, c.requires.count)) in
    subst (λ (q : Program). words_of q ≤ 0x7FFF) (get_or-map program_of c.args.bodies.now c.loop-i.i body ∙ ap program_of (sym c.index-bodies-i.is)) short.0

pub body_cycles-requires-clause-locals : goal.body_cycles-requires-clause-locals
body_cycles-requires-clause-locals c =
    let body = c.index-bodies-i.result in
    let many = length-map c.args.bodies.now program_of in
    let short = c.requires.short c.loop-i.i (program_of body) (omega (arith, many, c.loop-i-test.true, c.requires.count)) in
    subst (LocalsBelow 1016) (get_or-map program_of c.args.bodies.now c.loop-i.i body ∙ ap program_of (sym c.index-bodies-i.is)) short.1

pub loop-i-preserved : goal.loop-i-preserved
loop-i-preserved c = λ whole are.
    let rs = c.args.routines.now in
    let given = c.args.bodies.now in
    let i = c.loop-i.i in
    let body = c.index-bodies-i.result in
    let all = ap length are.made_of in
    let many = length-map given program_of in
    let mine = length-map whole bare in
    let low = c.loop-i-test.true in
    let inside : i < length whole = omega (arith, low, all, many, mine, c.requires.count) in
    let q = get_or whole i nothing in
    let own : slice_get whole i ≡ Some q = slice_get-get_or whole i nothing inside in
    let there : slice_get given i ≡ Some body = slice_get_read given (length given) i body refl (omega (arith, low, c.requires.count)) c.index-bodies-i.is in
    let is : bare q ≡ program_of body =
    sym (get_or-map bare whole i nothing) ∙ ap (λ ps. get_or ps i (bare nothing)) are.made_of
    ∙ get_or_from_slice_get (map program_of given) i (program_of body) (bare nothing) (slice_get-map program_of given i ∙ ap (option_map program_of) there) in
    let known = c.loop-i.invariant whole are in
    let front = subst (λ costs. CallsCost costs q) (sym (c.deref.ensures.value ∙ known)) (are.in_front i q own) in
    costs_step rs whole i _ q c.loop-i.costs.items c.push.new.self.items c.in_ok-cycles.cycles low own known (c.in_ok-cycles.ensures q is front)
    c.in_ok-push.ensures.items

pub returns : goal.returns
returns c = λ whole are.
    c.loop-i.invariant whole are ∙ costs_end c.args.routines.now whole c.loop-i.i (let past = c.loop-i-test.false in omega (arith, past))
