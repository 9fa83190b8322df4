use Rattle.std.proofs.Common.{◌≡◌, ◌<◌, ℕ, ◌+◌, ◌*◌, length, drop, sym, ap, ◌∙◌, arith}
use Rattle.fram_state.specs.OtherImage.{first_other}
use Rattle.fram_state.proofs.Others.{same_passed, named_passed}
use Rattle.fram_state.proofs.other.first_other.Goals as goal
use Rattle.fram_state.proofs.other.first_other.Goals.{then-address-named+then-image-i+in-Some, else-address-named}
use Rattle.fram_state.proofs.other.first_other.Goals.{else-address-named-via-then-address-named+else-image-i, else-address-named-via-else-address-named}

pub loop-i-preserved : goal.loop-i-preserved
loop-i-preserved c =
    let i : ℕ = c.loop-i.i in
    let here : ℕ = 17408 + 2 * i in
    let next : here + 2 ≡ 17408 + 2 * (i + 1) = omega arith in
    let in_image : i < length c.args.image.now = omega arith in
    let in_state : i < length c.args.state.now = omega arith in
    let rest : first_other c.args.map.now (drop i c.args.image.now) (drop i c.args.state.now) here
    ≡ first_other c.args.map.now (drop (i + 1) c.args.image.now) (drop (i + 1) c.args.state.now) (here + 2)
    → first_other c.args.map.now (drop (i + 1) c.args.image.now) (drop (i + 1) c.args.state.now) (17408 + 2 * (i + 1))
    ≡ first_other c.args.map.now c.args.image.now c.args.state.now 17408
    = λ passed. ap (first_other c.args.map.now (drop (i + 1) c.args.image.now) (drop (i + 1) c.args.state.now)) (sym next)
    ∙ sym passed ∙ c.loop-i.invariant.rest in
    elim c.if-address-named.branch [
      | then-address-named+then-image-i+in-Some w ↦ record {
        rest = rest (named_passed c.args.map.now c.args.image.now c.args.state.now i here in_image in_state
            (w.in-Some.ensures.some.each here (omega arith) w.in-Some.ensures.some.below));
        named = λ a from to. w.in-Some.ensures.some.each a (omega arith) (omega (arith, w.named-is));
      }
      | else-address-named w ↦ elim w.else-address-named.branch [
        | else-address-named-via-then-address-named+else-image-i v ↦ record {
          rest = rest (same_passed c.args.map.now c.args.image.now c.args.state.now i here in_image in_state v.if-image-i.false);
          named = λ a from to. c.loop-i.invariant.named a (omega arith) (omega (arith, w.named-is));
        }
        | else-address-named-via-else-address-named v ↦ record {
          rest = rest (named_passed c.args.map.now c.args.image.now c.args.state.now i here in_image in_state
              (c.loop-i.invariant.named here (omega arith) v.if-address-named.false));
          named = λ a from to. c.loop-i.invariant.named a (omega arith) (omega (arith, w.named-is));
        }
      ]
    ]
