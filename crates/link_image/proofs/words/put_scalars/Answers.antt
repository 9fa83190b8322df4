use Rattle.link_image.proofs.Names.{◌≡◌, ◌∙◌, ◌+◌, ◌-◌, ◌<◌, ap, sym, refl, length, drop, arith, get_or, at_drop_all, get_or_default, fram_of, shared_word}
use Rattle.link_image.proofs.Names.{fram_first, reset_vector, OneWord, Scalar}
use Rattle.link_image.proofs.words.put_scalars.Goals as goal
use Rattle.link_image.proofs.Placing.{rows_of, blank_at, same_length, region_at, next_of, next_put}

pub loop-i-init : goal.loop-i-init
loop-i-init c =
    let ds = c.args.shared.now in
    let vs = c.args.variables.now in
    let n = length ds in
    let count = same_length ds vs c.requires.places in
    record {
      each = λ a is. blank_at c.args.image.now.words a c.requires.blank
          ∙ sym (at_drop_all (λ xs. shared_word xs (rows_of (drop n ds)) a) vs n (omega (arith, count)));
      are_words = λ h. h;
      same_map = refl;
    }

pub bounds-variables-i : goal.bounds-variables-i
bounds-variables-i c = let count = same_length c.args.shared.now c.args.variables.now c.requires.places in
    omega (arith, count, c.loop-i-test.true, c.loop-i.auto.i)

pub put_initial-requires-clause-even : goal.put_initial-requires-clause-even
put_initial-requires-clause-even c =
    let count = same_length c.args.shared.now c.args.variables.now c.requires.places in
    (region_at c.args.variables.now fram_first reset_vector (c.loop-i.i - 1) (Scalar 0 0 OneWord) c.requires.order
    (omega (arith, count, c.loop-i-test.true, c.loop-i.auto.i))).even

pub put_initial-requires-clause-low : goal.put_initial-requires-clause-low
put_initial-requires-clause-low c =
    let count = same_length c.args.shared.now c.args.variables.now c.requires.places in
    (region_at c.args.variables.now fram_first reset_vector (c.loop-i.i - 1) (Scalar 0 0 OneWord) c.requires.order
    (omega (arith, count, c.loop-i-test.true, c.loop-i.auto.i))).above

pub put_initial-requires-clause-high : goal.put_initial-requires-clause-high
put_initial-requires-clause-high c =
    let count = same_length c.args.shared.now c.args.variables.now c.requires.places in
    (region_at c.args.variables.now fram_first reset_vector (c.loop-i.i - 1) (Scalar 0 0 OneWord) c.requires.order
    (omega (arith, count, c.loop-i-test.true, c.loop-i.auto.i))).below

pub put_initial-requires-clause-kind : goal.put_initial-requires-clause-kind
put_initial-requires-clause-kind c =
    let ds = c.args.shared.now in
    let vs = c.args.variables.now in
    let count = same_length ds vs c.requires.places in
    let k = c.loop-i.i - 1 in
    let inside : k < length ds = omega (arith, c.loop-i-test.true, c.loop-i.auto.i) in
    let there : k < length vs = omega (arith, count, c.loop-i-test.true, c.loop-i.auto.i) in
    (next_of ds vs fram_first reset_vector k (get_or ds k _) (get_or vs k (Scalar 0 0 OneWord)) c.requires.places c.requires.order inside there
    (get_or_default ds k _ _ inside) (get_or_default vs k (Scalar 0 0 OneWord) _ there)).here.places.0

pub loop-i-preserved : goal.loop-i-preserved
loop-i-preserved c =
    let ds = c.args.shared.now in
    let vs = c.args.variables.now in
    let count = same_length ds vs c.requires.places in
    let k = c.loop-i.i - 1 in
    let inside : k < length ds = omega (arith, c.loop-i-test.true, c.loop-i.auto.i) in
    let there : k < length vs = omega (arith, count, c.loop-i-test.true, c.loop-i.auto.i) in
    let index : k + 1 ≡ c.loop-i.i = omega (arith, c.loop-i-test.true) in
    record {
      each = λ a is.
          next_put ds vs fram_first reset_vector k (get_or ds k _) (get_or vs k (Scalar 0 0 OneWord)) c.requires.places c.requires.order inside there
          (get_or_default ds k _ _ inside) (get_or_default vs k (Scalar 0 0 OneWord) _ there)
          a (fram_of c.loop-i.image.words a) (fram_of c.put_initial.new.image.words a) is.even
          (c.loop-i.invariant.each a is ∙ ap (λ n. shared_word (drop n vs) (rows_of (drop n ds)) a) (sym index)) (c.put_initial.ensures.each a is);
      are_words = λ h. c.put_initial.ensures.are_words (c.loop-i.invariant.are_words h);
      same_map = c.put_initial.ensures.same_map ∙ c.loop-i.invariant.same_map;
    }
