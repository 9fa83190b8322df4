-- Lines as commands: what stands in a line is what the command holds.
use Rattle.std.proofs.Common.{◌≡◌, ◌∙◌, ◌+◌, ◌++◌, ◌∷◌, ◌||◌, ℕ, Bool, cond, codes, true, false, refl, sym, ap, ap₂, arith, List, [], length}
use Rattle.std.proofs.Common.{Option, Some, None, option_map, true≢false, append_assoc}
use Rattle.std.proofs.lemmas.Slice.Eq.{bytes_eq-Decides}
use Rattle.std.specs.Prelude.{slice_get, find, unwrap_or}
use Rattle.std.specs.Borrow.{Bor}
use Rattle.std.specs.Option.{option_and_then}
use Rattle.std.specs.Str.{bytes_eq}
use Rattle.clap.specs.Words.{Row, Rule, Text, first_of, subcommand_of}
use Rattle.clap.specs.Walk.{has_row}
use Rattle.command_line.specs.CommandLine.{AreTexts, Subcommand, all_said, files_of}
use Rattle.command_line.specs.Commands.{values_of}
use Rattle.command_line.proofs.Interface.{built_subcommand, files_said, has_name, lent, rows_for, some_more, values_after}
use Rattle.scope_line.specs.ScopeLine.{IsScopeLine, NamesScopeCommand, bounds_line, line_found, plain_line, scope_app, scope_line_of}
use Rattle.scope_line.specs.ScopeLine.{subcommand_named, scope_subcommands}
use Rattle.scope_line.specs.declared.Command.{Command}
use Rattle.scope_line.specs.declared.Command.TheVariants.{Bounds}
use Rattle.scope_line.proofs.Lines.{Line, in_order, is_bounds, line_reads, line_says, line_there}

-- what the parse found of a line is the line
pub line_found_is : (words : List Text) (name : Text) (rows : List Row) → Line words → subcommand_of scope_app words ≡ Some (name, rows)
    → line_found name rows ≡ scope_line_of words
line_found_is words name rows l is =
    let same = sym l.rows ∙ is in
    let called : l.command.name ≡ name = ap (λ (o : Option (Text × List Row)). (unwrap_or o (name, rows)).0) same in
    let kept : rows_for l.command.files l.files ≡ rows = ap (λ (o : Option (Text × List Row)). (unwrap_or o (name, rows)).1) same in
    let word : l.command.name ≡ l.name = has_name scope_subcommands l.name l.command l.named in
    let values : values_of l.command.files rows ≡ Some l.files = ap (values_of l.command.files) (sym kept)
    ∙ values_after l.command.files (built_subcommand l.command).rules [] 1 [] l.files (in_order l.name l.command l.named) tt l.count in
    let found : line_found l.name rows ≡ Some (l.name ∷ l.files) =
    ap (λ o. option_and_then (λ (s : Subcommand). option_map (λ files. l.name ∷ files) (values_of s.files rows)) o) l.named
    ∙ ap (option_map (λ files. l.name ∷ files)) values in
    ap (λ n. line_found n rows) (sym called ∙ word) ∙ found ∙ sym (line_says words l)

-- ---- each command has a line, and each line a command

-- the command of a line, by its name and files: it has as many files, and none is a number
record OfLine (name : Text) (files : List Text) : Type 0 where
  pub command : Subcommand
  pub named : subcommand_named name ≡ Some command
  pub count : length files ≡ length command.files
  pub says : all_said command.files files ≡ Some files

of_line : (c : Command) (name : Text) (files : List Text) → plain_line c ≡ name ∷ files → OfLine name files
of_line (Bounds source) name files e =
    let named : name ≡ codes "bounds" = ap (λ l. unwrap_or (slice_get l 0) []) (sym e) in
    record {
      command = bounds_line;
      named = ap subcommand_named named;
      count = let all = ap length (sym e) in omega arith;
      says = files_said bounds_line.files files refl;
    }

pub command_is_line : (words : List Text) → AreTexts words → NamesScopeCommand words → IsScopeLine words
command_is_line [] texts n = cc
command_is_line (name ∷ rest) texts n =
    let m = some_more name (files_of rest) (plain_line n.0) n.1 in
    let s = of_line n.0 name m.0 m.2 in
    line_there name rest m.0 m.0 s.command texts s.named m.1 s.count s.says

-- the files of `bounds` make its line
bounds_has_lines : (files : List Text) → length files ≡ 1 → (c : Command) × (plain_line c ≡ codes "bounds" ∷ files)
bounds_has_lines [] count = absurd (omega arith)
bounds_has_lines (a ∷ []) count = (Bounds (lent a), refl)
bounds_has_lines (a ∷ other ∷ more) count = absurd (omega arith)

-- and so do those of each command
has_command : (name : Text) (files : List Text) (s : Subcommand) → subcommand_named name ≡ Some s → length files ≡ length s.files
    → (c : Command) × (plain_line c ≡ name ∷ files)
has_command name files s is count =
    let same = is_bounds name s is in
    let c = bounds_has_lines files (count ∙ ap (λ (x : Subcommand). length x.files) (sym same)) in
    (c.0, c.1 ∙ ap (λ (x : Subcommand). x.name ∷ files) same ∙ ap (λ n. n ∷ files) (has_name scope_subcommands name s is))

pub line_is_command : (words : List Text) → AreTexts words → IsScopeLine words → NamesScopeCommand words
line_is_command words texts line =
    let l = line_reads words texts line in
    let c = has_command l.name l.files l.command l.named l.count in
    (c.0, line_says words l ∙ ap Some (sym c.1))

-- no command has another name
pub none_found : (name : Text) (rows : List Row) → (name ≡ codes "bounds" → ⊥) → None ≡ line_found name rows
none_found name rows other = go (bytes_eq bounds_line.name name) refl
  where
    go : (b : Bool) → bytes_eq bounds_line.name name ≡ b → None ≡ line_found name rows
    go true e = absurd (other (sym ((bytes_eq-Decides bounds_line.name name).0 e)))
    go false e =
        ap (λ b. option_and_then (λ (s : Subcommand). option_map (λ files. name ∷ files) (values_of s.files rows)) (cond b (Some bounds_line) None)) (sym e)
