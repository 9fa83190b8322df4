-- Files in memory as contracts see them: a map from names to bytes, the calls that fail, and counts.
use Rattle.std.specs.Prelude.{◌≢◌, ℕ, List, AllPairs, map, string_bytes, Result, Ok, Err}
use Rattle.std.specs.Str.{bytes_eq}
use Rattle.std.specs.Map.{lookup, keys_of}
use Rattle.alp_io.specs.Shelf.{Files, Counts}
use Rattle.alp_io.specs.Count.{risen}
use Rattle.alp_io.specs.declared.mem_shelf.File.{File}
use Rattle.alp_io.specs.declared.shelf.ReadFault.{ReadFault}
use Rattle.alp_io.specs.declared.shelf.ReadFault.TheVariants.{Failed, Missing, TooLong, NoMemory}

-- each file's name and bytes
abbrev pub entries_of : List File → List (List ℕ × List ℕ)
entries_of = map (λ file. (string_bytes file.name, file.bytes.items))

-- the map that entries stand for
abbrev pub files_of : List (List ℕ × List ℕ) → Files
files_of entries name = lookup (bytes_eq name) entries

-- no two entries have one name
abbrev pub HasDifferentNames : List (List ℕ × List ℕ) → Type 0
HasDifferentNames entries = AllPairs (λ name other. name ≢ other) (keys_of entries)

-- the entries in some order, the reads and the puts that fail, how many of each there were, and the counts of faults
pub record MemShelfState : Type 0 where
  pub entries : List (List ℕ × List ℕ)
  pub failing_reads : List ℕ
  pub failing_puts : List ℕ
  pub reads : ℕ
  pub puts : ℕ
  pub counts : Counts

-- a shelf at which no read and no put was tried
abbrev pub new_mem_shelf : List (List ℕ × List ℕ) → List ℕ → List ℕ → MemShelfState
new_mem_shelf entries failing_reads failing_puts = record {
  entries = entries;
  failing_reads = failing_reads;
  failing_puts = failing_puts;
  reads = 0;
  puts = 0;
  counts = record { failed_reads = 0; missing_reads = 0; overlong_reads = 0; failed_puts = 0 };
}

-- the counts after a read with this answer
abbrev pub counts_after_read : {T : Type 0} → Result T ReadFault → Counts → Counts
counts_after_read (Ok _) old = old
counts_after_read (Err Failed) old = record old { failed_reads = risen old.failed_reads }
counts_after_read (Err Missing) old = record old { missing_reads = risen old.missing_reads }
counts_after_read (Err TooLong) old = record old { overlong_reads = risen old.overlong_reads }
counts_after_read (Err NoMemory) old = old
