-- When a state is sound: rule by rule, what a board that goes on from it has to find in the FRAM.
use Rattle.std.specs.Prelude.{◌≡◌, ℕ, zero, suc, ◌+◌, ◌-◌, ◌*◌, ◌%◌, ◌==◌, ◌&&◌, ◌||◌, Bool, true, not, nat_le, nat_lt, if◌then◌else◌, List, [], ◌∷◌, length}
use Rattle.std.specs.Prelude.{Option, Some, None, sum_by, find}
use Rattle.std.specs.List.{list_all}
use Rattle.image_text.specs.image_map.MapValue.{MapValue, ring_words}
use Rattle.image_text.specs.image_map.declared.parts.RingPlaces.{RingPlaces}
use Rattle.image_text.specs.image_map.declared.parts.Variable.{Variable}
use Rattle.fram_state.specs.declared.entry.Entry.{Entry}
use Rattle.fram_state.specs.declared.fault.Rule.{Rule}
use Rattle.fram_state.specs.declared.fault.Rule.TheVariants as rule
use Rattle.fram_state.specs.declared.runtime.Runtime.{Runtime}
use Rattle.fram_state.specs.declared.runtime.Ring.{Ring}
use Rattle.fram_state.specs.Stretch.{words_at, lies_in, fits_fram}
use Rattle.fram_state.specs.Named.{place_words, list_words, copies_words, is_shared}
use Rattle.fram_state.specs.Runtime.{words_from, runtime_of, ring_of}

-- ---- the commit list

-- the entries that words are, three words for each: so many words from a home on become those from a copy on
abbrev pub entries_of : List ℕ → List Entry
entries_of [] = []
entries_of (home ∷ []) = []
entries_of (home ∷ copy ∷ []) = []
entries_of (home ∷ copy ∷ words ∷ more) = record { home = home; copy = copy; words = words } ∷ entries_of more

-- whether so many words from an address on are all shared ones
abbrev pub are_shared : List Variable → ℕ → ℕ → Bool
are_shared vs zero a = true
are_shared vs (suc n) a = is_shared vs a && are_shared vs n (a + 2)

-- whether a word stands at an address
abbrev pub is_even : ℕ → Bool
is_even a = a % 2 == 0

-- whether an entry has a word at least, and goes from copies to shared words
abbrev pub is_entry : MapValue → Entry → Bool
is_entry m e = nat_le 1 e.words && (is_even e.copy && (lies_in (words_at e.copy e.words) (copies_words m.copies)
    && (is_even e.home && are_shared m.variables e.words e.home)))

-- the words of entries together
abbrev pub words_of : List Entry → ℕ
words_of es = sum_by (λ e. e.words) es

-- whether all entries are so, and have no more words together than there is room for entries
abbrev pub are_entries : MapValue → List Entry → ℕ → Bool
are_entries m es room = list_all (is_entry m) es && nat_le (words_of es) room

-- ---- the ring of events

-- whether no more words wait than there are slots, and a pending commit takes none but these
abbrev pub is_ring : Ring → (pending : Bool) → Bool
is_ring r pending = nat_le r.waiting ring_words && (not pending || nat_le r.taken r.waiting)

-- the same of a map that may have no ring: then nothing is asked
abbrev pub is_ring_at : Option RingPlaces → List ℕ → (pending : Bool) → Bool
is_ring_at None words pending = true
is_ring_at (Some places) words pending = is_ring (ring_of places words) pending

-- ---- the rules

-- a commit is pending
abbrev pub is_pending : Runtime → Bool
is_pending r = r.gate == 1

-- BASE is the number that the receiver takes next; in a pending commit it is as the transition found it, or as the commit leaves it
abbrev pub is_base : Runtime → ℕ → Bool
is_base r number = if is_pending r then r.base == r.sent_base || r.base == (r.sent_base + r.emit_count) % 65536 else r.base == number

-- whether no word is above a number
abbrev pub are_at_most : List ℕ → ℕ → Bool
are_at_most ws top = list_all (λ w. nat_le w top) ws

-- the version words are in the FRAM, and none is above VER
abbrev pub are_versions : MapValue → List ℕ → ℕ → Bool
are_versions m words version =
    fits_fram (place_words m.versions) && are_at_most (words_from words m.versions.address m.versions.capacity) version

-- the copies are in the FRAM, and the entries of the commit list go from them to shared words
abbrev pub is_list : MapValue → List ℕ → ℕ → Bool
is_list m words list_length =
    fits_fram (copies_words m.copies) && are_entries m (entries_of (words_from words m.list.address (3 * list_length))) m.list.capacity

-- whether a state keeps a rule: one with this map, these words of the FRAM, of which the runtime's hold this, and this number
unfoldable pub keeps : MapValue → List ℕ → Runtime → ℕ → Rule → Bool
keeps m words r number rule.Gate = nat_le r.gate 1
keeps m words r number rule.CurrentTask = nat_lt r.current_task (length m.tasks)
keeps m words r number rule.Versions = are_versions m words r.version
keeps m words r number rule.Base = is_base r number
keeps m words r number rule.ListLength = fits_fram (list_words m.list) && nat_le r.list_length m.list.capacity
keeps m words r number rule.EmitCount = fits_fram (place_words m.emits) && nat_le r.emit_count m.emits.capacity
keeps m words r number rule.NextTask = not (is_pending r) || nat_lt r.next_task (length m.tasks)
keeps m words r number rule.SentBase = not (is_pending r) || nat_le ((number + 65536 - r.sent_base) % 65536) r.emit_count
keeps m words r number rule.List = not (is_pending r) || is_list m words r.list_length
keeps m words r number rule.Ring = is_ring_at m.ring words (is_pending r)

-- the rules, in the order in which they are looked at
abbrev pub rules : List Rule
rules = rule.Gate ∷ rule.CurrentTask ∷ rule.Versions ∷ rule.Base ∷ rule.ListLength ∷ rule.EmitCount ∷ rule.NextTask ∷ rule.SentBase ∷ rule.List ∷
    rule.Ring ∷ []

-- the first rule that a state breaks
abbrev pub first_broken : MapValue → List ℕ → ℕ → Option Rule
first_broken m words number = find (λ r. not (keeps m words (runtime_of m.words words) number r)) rules

-- a state keeps each rule
pub record IsSound (m : MapValue) (words : List ℕ) (number : ℕ) : Type 0 where
  pub each : (r : Rule) → keeps m words (runtime_of m.words words) number r ≡ true
