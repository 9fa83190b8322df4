use Rattle.std.proofs.Common.{◌≡◌, ◌<◌, ◌++◌, ℕ, drop, map, get_or}
use Rattle.text_parts.specs.Printed.{printed}
use Rattle.radio_link.specs.declared.entry.Entry.{Entry}
use Rattle.radio_link.specs.Text.{entry_words, IsEntry}
use Rattle.radio_link.proofs.print.push_entries.Given as goal

abbrev pub invariant-loop-entry : goal.invariant-loop-entry
invariant-loop-entry l = record {
  text : l.out.items ++ printed (map entry_words (drop l.entry-index l.entries)) ≡ l.fn.out.items ++ printed (map entry_words l.entries);
  ranges : (k : ℕ) (d : Entry) → k < l.entry-index → IsEntry (get_or l.entries k d);
}
