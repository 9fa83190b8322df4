-- Which words are a line of the program, by `clap`'s rules.
use Rattle.std.proofs.Common.{◌≡◌, ◌∙◌, ◌∷◌, inl, inr, Bool, cond, codes, true, false, refl, sym, ap, subst, List, [], length, Option, Some, None, option_map}
use Rattle.std.specs.Prelude.{unwrap_or, option_and_then}
use Rattle.std.specs.Option.{option_map_or}
use Rattle.std.specs.Str.{bytes_eq}
use Rattle.clap.specs.Walk.{Text, nothing_held, walk}
use Rattle.clap.specs.Simple.{entered, subcommand_of}
use Rattle.clap.specs.Faults.{built_fault, fault_of}
use Rattle.command_line.specs.CommandLine.{AreTexts, IsLine, Subcommand, all_said, alpaca_app, files_of, line_of, said_behind, subcommand_named, subcommands}
use Rattle.command_line.proofs.Files.{IsInOrder, IsJudged, built_subcommand, command_judged, kind_of_word, rows_for}
use Rattle.command_line.proofs.FirstWord.{named, names_in, built_app, fault_behind, rows_behind, unnamed_fails, no_words_fail}

-- ---- the program

abbrev called : Text
called = codes "alpaca"

fault_is : (words : List Text) → fault_of alpaca_app words ≡ built_fault (built_app called subcommands) nothing_held words
unfolding alpaca_app
fault_is words = refl

rows_are : (words : List Text)
    → subcommand_of alpaca_app words ≡ entered (built_app called subcommands) (walk [] (names_in subcommands) nothing_held words).stopped
unfolding alpaca_app
rows_are words = refl

pub AreInOrder : List Subcommand → Type 0
AreInOrder [] = Unit {0}
AreInOrder (s ∷ rest) = IsInOrder (built_subcommand s).rules [] 1 s.files × AreInOrder rest

-- each command's files have names of their own
pub all_in_order : AreInOrder subcommands
unfolding AreInOrder
all_in_order = (
  (refl, refl, refl, refl, refl, (refl, refl, refl, refl, refl, (refl, refl))),
  (
    (refl, refl, refl, refl, refl, (refl, refl, refl, refl, refl, (refl, refl, refl, refl, refl, (refl, refl)))),
    (
      (refl, refl, refl, refl, refl, (refl, refl, refl, refl, refl, (refl, refl))),
      (
        (refl, refl, refl, refl, refl, (refl, refl, refl, refl, refl, (refl, refl))),
        (
          (refl, refl, refl, refl, refl, (refl, refl, refl, refl, refl, (refl, refl))),
          (
            (refl, refl, refl, refl, refl, (refl, refl)),
            (
              (refl, refl, refl, refl, refl, (refl, refl, refl, refl, refl, (refl, refl))),
              (
                (refl, refl, refl, refl, refl, (refl, refl, refl, refl, refl, (refl, refl, refl, refl, refl, (refl, refl)))),
                (
                  (refl, refl, refl, refl, refl, (refl, refl, refl, refl, refl, (refl, refl, refl, refl, refl, (refl, refl)))),
                  (
                    (
                      refl,
                      refl,
                      refl,
                      refl,
                      refl,
                      (
                        refl,
                        refl,
                        refl,
                        refl,
                        refl,
                        (
                          refl,
                          refl,
                          refl,
                          refl,
                          refl,
                          (refl, refl, refl, refl, refl, (refl, refl, refl, refl, refl, (refl, refl, refl, refl, refl, (refl, refl)))),
                        ),
                      ),
                    ),
                    (
                      (refl, refl, refl, refl, refl, (refl, refl, refl, refl, refl, (refl, refl, refl, refl, refl, (refl, refl)))),
                      ((refl, refl, refl, refl, refl, (refl, refl, refl, refl, refl, (refl, refl, refl, refl, refl, (refl, refl)))), tt),
                    ),
                  ),
                ),
              ),
            ),
          ),
        ),
      ),
    ),
  ),
)

pub in_order : (xs : List Subcommand) (word : Text) (s : Subcommand) → AreInOrder xs → named xs word ≡ Some s
    → IsInOrder (built_subcommand s).rules [] 1 s.files
unfolding AreInOrder
in_order [] word s all e = cc
in_order (x ∷ xs) word s all e = go (bytes_eq x.name word) (in_order xs word s all.1) e
  where
    go : (b : Bool) → (named xs word ≡ Some s → IsInOrder (built_subcommand s).rules [] 1 s.files) → cond b (Some x) (named xs word) ≡ Some s
        → IsInOrder (built_subcommand s).rules [] 1 s.files
    go true rest e = subst (λ (y : Subcommand). IsInOrder (built_subcommand y).rules [] 1 y.files) (ap (λ o. unwrap_or o x) e) all.0
    go false rest e = rest e

-- ---- lines

-- a command's name, and the files that it wants
pub record Line (words : List Text) : Type 0 where
  pub name : Text
  pub rest : List Text
  pub command : Subcommand
  pub files : List Text
  pub texts : List Text
  pub is : words ≡ name ∷ rest
  pub named : subcommand_named name ≡ Some command
  pub from : files_of rest ≡ Some files
  pub count : length files ≡ length command.files
  pub said : all_said command.files files ≡ Some texts
  pub rows : subcommand_of alpaca_app words ≡ Some (command.name, rows_for command.files files)

pub line_reads : (words : List Text) → AreTexts words → IsLine words → Line words
line_reads [] texts line = absurd (no_words_fail called subcommands (sym (fault_is []) ∙ line))
line_reads (word ∷ words) texts line = go (subcommand_named word) refl
  where
    read : (s : Subcommand) → subcommand_named word ≡ Some s → IsJudged s.name s.files false 1 s.files [] nothing_held words → Line (word ∷ words)
    read s is (inl r) = record {
      name = word;
      rest = words;
      command = s;
      files = r.files;
      texts = r.texts;
      is = refl;
      named = is;
      from = r.from;
      count = r.count;
      said = r.said;
      rows = rows_are (word ∷ words) ∙ rows_behind called subcommands word s is words ∙ ap (λ rows. Some (s.name, rows)) r.rows;
    }
    read s is (inr r) = absurd (r.fault (sym (fault_is (word ∷ words) ∙ fault_behind called subcommands word s is words) ∙ line))

    go : (o : Option Subcommand) → subcommand_named word ≡ o → Line (word ∷ words)
    go None is = absurd (unnamed_fails called subcommands word is words texts.0 (kind_of_word word) (sym (fault_is (word ∷ words)) ∙ line))
    go (Some s) is = read s is (command_judged s.name s.files words (in_order subcommands word s all_in_order is) texts.1)

-- what a line says
pub line_says : (words : List Text) (l : Line words) → line_of words ≡ Some (l.name ∷ l.texts)
line_says words l =
    ap line_of l.is ∙ ap (λ o. option_map (λ texts. l.name ∷ texts) (option_and_then (said_behind l.name) o)) l.from
    ∙ ap (λ o. option_map (λ texts. l.name ∷ texts) (all_said (option_map_or (λ (s : Subcommand). s.files) o []) l.files)) l.named
    ∙ ap (option_map (λ texts. l.name ∷ texts)) l.said

pub line_there : (name : Text) (rest files said : List Text) (s : Subcommand) → AreTexts (name ∷ rest) → subcommand_named name ≡ Some s
    → files_of rest ≡ Some files
    → length files ≡ length s.files → all_said s.files files ≡ Some said → IsLine (name ∷ rest)
line_there name rest files said s texts is from count all = go (command_judged s.name s.files rest (in_order subcommands name s all_in_order is) texts.1)
  where
    go : IsJudged s.name s.files false 1 s.files [] nothing_held rest → IsLine (name ∷ rest)
    go (inl r) = fault_is (name ∷ rest) ∙ fault_behind called subcommands name s is rest ∙ r.fault
    go (inr r) = absurd (r.none files said from count all)
