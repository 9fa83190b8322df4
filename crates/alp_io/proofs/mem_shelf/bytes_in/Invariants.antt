use Rattle.std.proofs.Common.{◌≡◌, drop}
use Rattle.alp_io.specs.MemShelf.{entries_of, files_of}
use Rattle.alp_io.proofs.mem_shelf.bytes_in.Given as goal

abbrev pub invariant-loop-file : goal.invariant-loop-file
invariant-loop-file l = files_of (entries_of (drop l.file-index l.files)) l.name ≡ files_of (entries_of l.files) l.name
