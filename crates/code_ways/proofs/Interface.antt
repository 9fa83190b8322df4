-- What other crates' proofs cite.
pub use Rattle.code_ways.proofs.Joined.{behind_are, straight_are, choice_are, leaving_are, forked_are, both_are, turned_are, one_are, chosen_are, turns_are}
pub use Rattle.code_ways.proofs.Joined.{most_is}
