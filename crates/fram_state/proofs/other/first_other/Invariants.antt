use Rattle.std.proofs.Common.{◌≡◌, ℕ, ◌+◌, ◌*◌, ◌<◌, ◌≤◌, drop, true}
use Rattle.fram_state.specs.Named.{is_named}
use Rattle.fram_state.specs.OtherImage.{first_other}
use Rattle.fram_state.proofs.other.first_other.Given as goal

abbrev pub invariant-loop-i : goal.invariant-loop-i
invariant-loop-i l = record {
  rest : first_other l.map (drop l.i l.image) (drop l.i l.state) (0x4400 + 2 * l.i) ≡ first_other l.map l.image l.state 0x4400;
  named : (a : ℕ) → 0x4400 + 2 * l.i ≤ a → a < l.named → is_named l.map a ≡ true;
}
