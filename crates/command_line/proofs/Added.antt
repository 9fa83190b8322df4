-- The rows of the table of commands, added one by one.
use Rattle.std.proofs.Common.{◌≡◌, ◌<◌, ◌+◌, ℕ, List, [], ◌∷◌, length, drop, get_or, map}
use Rattle.std.proofs.lemmas.List.{at_drop_more}
use Rattle.std.specs.Borrow.{Bor}
use Rattle.clap.specs.Words.{App, Text, with_subcommand}
use Rattle.command_line.specs.CommandLine.{Subcommand, subcommand_shape}

-- a row of the table: a name, and the names of what has to follow it
abbrev pub Row : Type 0
Row = Bor Text × Bor (List (Bor Text))

-- the command of a row
abbrev pub command_of_row : Row → Subcommand
command_of_row row = record { name = row.0.now; files = map (λ (f : Bor Text). f.now) row.1.now }

-- a command line with one row more
abbrev pub with_row : App → Row → App
with_row a row = with_subcommand a (subcommand_shape (command_of_row row))

-- a command line with these rows more
abbrev pub with_rows : App → List Row → App
with_rows a [] = a
with_rows a (row ∷ rows) = with_rows (with_row a row) rows

-- the next row is added first
pub next_row : (a : App) (rows : List Row) (i : ℕ) (d : Row) → i < length rows
    → with_rows a (drop i rows) ≡ with_rows (with_row a (get_or rows i d)) (drop (i + 1) rows)
next_row a rows i d h = at_drop_more (with_rows a) rows i d h
