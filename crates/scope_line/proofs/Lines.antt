-- Which words are a line of `alpaca-scope`, by `clap`'s rules.
use Rattle.std.proofs.Common.{◌≡◌, ◌∙◌, ◌∷◌, inl, inr, Bool, cond, codes, true, false, refl, sym, ap, subst, List, [], length, Option, Some, None, option_map}
use Rattle.std.specs.Prelude.{unwrap_or}
use Rattle.std.specs.Str.{bytes_eq}
use Rattle.clap.specs.Walk.{Text, nothing_held, walk}
use Rattle.clap.specs.Simple.{entered, subcommand_of}
use Rattle.clap.specs.Faults.{built_fault, fault_of}
use Rattle.command_line.specs.CommandLine.{AreTexts, Subcommand, all_said, files_of}
use Rattle.command_line.proofs.Interface.{IsInOrder, IsJudged, built_subcommand, command_judged, kind_of_word, rows_for}
use Rattle.command_line.proofs.Interface.{built_app, fault_behind, names_in, no_words_fail, rows_behind, unnamed_fails}
use Rattle.scope_line.specs.ScopeLine.{IsScopeLine, bounds_line, scope_app, scope_line_of, subcommand_named, scope_subcommands}

-- ---- the program

abbrev called : Text
called = codes "alpaca-scope"

fault_is : (words : List Text) → fault_of scope_app words ≡ built_fault (built_app called scope_subcommands) nothing_held words
unfolding scope_app
fault_is words = refl

rows_are : (words : List Text)
    → subcommand_of scope_app words ≡ entered (built_app called scope_subcommands) (walk [] (names_in scope_subcommands) nothing_held words).stopped
unfolding scope_app
rows_are words = refl

-- the command of a name is this one
pub is_bounds : (word : Text) (s : Subcommand) → subcommand_named word ≡ Some s → bounds_line ≡ s
is_bounds word s is = go (bytes_eq bounds_line.name word) is
  where
    go : (b : Bool) → cond b (Some bounds_line) None ≡ Some s → bounds_line ≡ s
    go true e = ap (λ o. unwrap_or o bounds_line) e
    go false e = cc

-- its file has a name of its own
pub in_order : (word : Text) (s : Subcommand) → subcommand_named word ≡ Some s → IsInOrder (built_subcommand s).rules [] 1 s.files
in_order word s is =
    subst (λ (y : Subcommand). IsInOrder (built_subcommand y).rules [] 1 y.files) (is_bounds word s is) (refl, refl, refl, refl, refl, (refl, refl))

-- ---- lines

-- a command's name, and the files that it wants
pub record Line (words : List Text) : Type 0 where
  pub name : Text
  pub rest : List Text
  pub command : Subcommand
  pub files : List Text
  pub is : words ≡ name ∷ rest
  pub named : subcommand_named name ≡ Some command
  pub from : files_of rest ≡ Some files
  pub count : length files ≡ length command.files
  pub rows : subcommand_of scope_app words ≡ Some (command.name, rows_for command.files files)

pub line_reads : (words : List Text) → AreTexts words → IsScopeLine words → Line words
line_reads [] texts line = absurd (no_words_fail called scope_subcommands (sym (fault_is []) ∙ line))
line_reads (word ∷ words) texts line = go (subcommand_named word) refl
  where
    read : (s : Subcommand) → subcommand_named word ≡ Some s → IsJudged s.name s.files false 1 s.files [] nothing_held words → Line (word ∷ words)
    read s is (inl r) = record {
      name = word;
      rest = words;
      command = s;
      files = r.files;
      is = refl;
      named = is;
      from = r.from;
      count = r.count;
      rows = rows_are (word ∷ words) ∙ rows_behind called scope_subcommands word s is words ∙ ap (λ rows. Some (s.name, rows)) r.rows;
    }
    read s is (inr r) = absurd (r.fault (sym (fault_is (word ∷ words) ∙ fault_behind called scope_subcommands word s is words) ∙ line))

    go : (o : Option Subcommand) → subcommand_named word ≡ o → Line (word ∷ words)
    go None is = absurd (unnamed_fails called scope_subcommands word is words texts.0 (kind_of_word word) (sym (fault_is (word ∷ words)) ∙ line))
    go (Some s) is = read s is (command_judged s.name s.files words (in_order word s is) texts.1)

-- what a line says
pub line_says : (words : List Text) (l : Line words) → scope_line_of words ≡ Some (l.name ∷ l.files)
line_says words l = ap scope_line_of l.is ∙ ap (λ o. option_map (λ files. l.name ∷ files) o) l.from

pub line_there : (name : Text) (rest files said : List Text) (s : Subcommand) → AreTexts (name ∷ rest) → subcommand_named name ≡ Some s
    → files_of rest ≡ Some files
    → length files ≡ length s.files → all_said s.files files ≡ Some said → IsScopeLine (name ∷ rest)
line_there name rest files said s texts is from count all = go (command_judged s.name s.files rest (in_order name s is) texts.1)
  where
    go : IsJudged s.name s.files false 1 s.files [] nothing_held rest → IsScopeLine (name ∷ rest)
    go (inl r) = fault_is (name ∷ rest) ∙ fault_behind called scope_subcommands name s is rest ∙ r.fault
    go (inr r) = absurd (r.none files said from count all)
