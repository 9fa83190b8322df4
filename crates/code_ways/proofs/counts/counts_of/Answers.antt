use Rattle.std.proofs.Common.{◌∙◌}
use Rattle.code_ways.specs.Choices.{taken_of}
use Rattle.code_ways.proofs.Grown.{begun_with_none, written_whole}
use Rattle.code_ways.proofs.counts.counts_of.Goals as goal

pub returns : goal.returns
returns c =
    let items = c.deref_mut.ensures.value ∙ c.in_ok-counts.ensures.items_if_clones_equal (λ y e. e) in
    let made = begun_with_none c.args.choices c.args.holds (taken_of c.args.taken.now) c.deref_mut.result.now c.add_taken.new.counts items
    c.add_taken.ensures.length c.add_taken.ensures.grown c.add_taken.ensures.low in
    let count = c.add_taken.ensures.length ∙ c.deref_mut.ensures.len in
    written_whole _ _ _ count ∙ made
