-- Lines as commands: what stands in a line is what the command holds.
use Rattle.std.proofs.Common.{◌≡◌, ◌∙◌, ◌+◌, ◌++◌, ◌∷◌, ◌||◌, ℕ, Bool, cond, codes, true, false, refl, sym, ap, ap₂, subst, arith, List, [], map, length}
use Rattle.std.proofs.Common.{Option, Some, None, is_some, option_map, true≢false, append_assoc, string_bytes, String}
use Rattle.std.proofs.lemmas.Slice.Eq.{bytes_eq-Decides}
use Rattle.std.proofs.lemmas.Str.{IsUtf8-string_bytes}
use Rattle.std.specs.Prelude.{slice_get, find, unwrap_or}
use Rattle.std.specs.Borrow.{Bor}
use Rattle.std.specs.List.{list_any}
use Rattle.std.specs.Box.{box_value}
use Rattle.std.specs.Option.{IsSome, option_and_then}
use Rattle.std.specs.Str.{bytes_eq}
use Rattle.clap.specs.Words.{Row, Rule, Text, first_of, found_of, has_subcommand, rows_of, subcommand_name_of, subcommand_of, subcommand_rows_of}
use Rattle.clap.specs.Walk.{has_row}
use Rattle.clap.specs.ValueTests.{is_signed_in}
use Rattle.std.specs.Prelude.{decimal, pos}
use Rattle.std.specs.Option.{option_map_or}
use Rattle.std.proofs.lemmas.Bool.{or_parts}
use Rattle.clap.specs.declared.parser.matches.ArgMatches.{ArgMatches}
use Rattle.clap.specs.declared.parser.matches.ArgMatches.TheViews.{out-ArgMatches, out-SubCommand}
use Rattle.command_line.specs.CommandLine.{AreTexts, IsLine, Subcommand, all_said, alpaca_app, begins_with_hyphen, files_of, is_number_name, line_of, number_in}
use Rattle.command_line.specs.CommandLine.{plain_line_of, said_behind, subcommand_named, subcommands}
use Rattle.command_line.specs.Commands.{IsPlainLine, NamesCommand, line_found, plain_line, values_of}
use Rattle.command_line.specs.declared.Command.{Command}
use Rattle.command_line.specs.declared.Command.TheVariants.{Mean, Try, Build, Run, Asm, Dis, Gen, Save, Resume, Migrate, Undo, Audit}
use Rattle.command_line.proofs.Files.{files_said, said_length, IsGiven, IsInOrder, built_subcommand, file_row, given_row, more_given, rows_for}
use Rattle.command_line.proofs.FirstWord.{has_name, named}
use Rattle.command_line.proofs.Lines.{Line, all_in_order, in_order, line_reads, line_says, line_there}

-- ---- the program's words are texts

pub are_texts : {Z : Type 0} (words : List (String Z)) → AreTexts (map string_bytes words)
are_texts [] = tt
are_texts (word ∷ words) = (IsUtf8-string_bytes word, are_texts words)

-- ---- a line's files have their values

first_after : (front rest : List Row) (id file : Text) → has_row id front ≡ false → first_of id (front ++ file_row id file ∷ rest) ≡ Some file
first_after [] rest id file e = rw ((bytes_eq-Decides id id).1 refl) refl
first_after (r ∷ front) rest id file e = go (bytes_eq r.id id) refl (first_after front rest id file)
  where
    go : (b : Bool) → bytes_eq r.id id ≡ b → (has_row id front ≡ false → first_of id (front ++ file_row id file ∷ rest) ≡ Some file)
        → option_and_then (λ (x : Row). slice_get x.values 0)
        (cond b (Some r) (find (λ (x : Row). bytes_eq x.id id) (front ++ file_row id file ∷ rest))) ≡ Some file
    go true is more = absurd (true≢false (sym (ap (λ b. b || has_row id front) is) ∙ e))
    go false is more = more (ap (λ b. b || has_row id front) (sym is) ∙ e)

pub values_after : (ids : List Text) (rules : List Rule) (keys : List Text) (k : ℕ) (front : List Row) (files : List Text) → IsInOrder rules keys k ids
    → IsGiven keys front
    → length files ≡ length ids → values_of ids (front ++ rows_for ids files) ≡ Some files
values_after [] rules keys k front [] order given count = refl
values_after [] rules keys k front (file ∷ files) order given count = absurd (omega arith)
values_after (id ∷ ids) rules keys k front [] order given count = absurd (omega arith)
values_after (id ∷ ids) rules keys k front (file ∷ files) order given count =
    let rest : values_of ids (front ++ file_row id file ∷ rows_for ids files) ≡ Some files =
    ap (values_of ids) (sym (append_assoc front (file_row id file ∷ []) (rows_for ids files)))
    ∙ values_after ids rules (keys ++ id ∷ []) (k + 1) (front ++ file_row id file ∷ []) files order.5 (more_given keys front id file given) (omega arith) in
    ap₂ (λ (first : Option Text) (more : Option (List Text)). option_and_then (λ f. option_map (λ fs. f ∷ fs) more) first)
    (first_after front (rows_for ids files) id file (given_row keys front id given ∙ order.3)) rest

-- what the parse found of a line is the line
pub line_found_is : (words : List Text) (name : Text) (rows : List Row) → Line words → subcommand_of alpaca_app words ≡ Some (name, rows)
    → line_found name rows ≡ line_of words
line_found_is words name rows l is =
    let same = sym l.rows ∙ is in
    let called : l.command.name ≡ name = ap (λ (o : Option (Text × List Row)). (unwrap_or o (name, rows)).0) same in
    let kept : rows_for l.command.files l.files ≡ rows = ap (λ (o : Option (Text × List Row)). (unwrap_or o (name, rows)).1) same in
    let word : l.command.name ≡ l.name = has_name subcommands l.name l.command l.named in
    let values : values_of l.command.files rows ≡ Some l.files = ap (values_of l.command.files) (sym kept)
    ∙ values_after l.command.files (built_subcommand l.command).rules [] 1 [] l.files (in_order subcommands l.name l.command all_in_order l.named) tt l.count in
    let found : line_found l.name rows ≡ Some (l.name ∷ l.texts) =
    ap (λ o. option_and_then (λ (s : Subcommand). option_map (λ texts. l.name ∷ texts) (option_and_then (all_said s.files) (values_of s.files rows))) o) l.named
    ∙ ap (λ o. option_map (λ texts. l.name ∷ texts) (option_and_then (all_said l.command.files) o)) values
    ∙ ap (option_map (λ texts. l.name ∷ texts)) l.said in
    ap (λ n. line_found n rows) (sym called ∙ word) ∙ found ∙ sym (line_says words l)

-- the values of one file
pub one_value : (name : Text) (rows : List Row) (file : Option (Bor Text)) → first_of name rows ≡ option_map (λ (f : Bor Text). f.now) file
    → option_map (λ (f : Bor Text). f.now ∷ []) file ≡ values_of (name ∷ []) rows
one_value name rows None is = rw is refl
one_value name rows (Some f) is = rw is refl

-- ---- each command has a line, and each line a command

pub some_more : (word : Text) (o : Option (List Text)) (line : List Text) → option_map (λ fs. word ∷ fs) o ≡ Some line
    → (files : List Text) × (o ≡ Some files) × (line ≡ word ∷ files)
some_more word None line e = cc
some_more word (Some files) line e = (files, refl, ap (λ o. unwrap_or o []) (sym e))

-- a command of files alone
abbrev of_names : Text → List Text → Subcommand
of_names called files = record { name = called; files = files }

-- the files of `migrate`
abbrev migrated_files : List Text
migrated_files = codes "SRC" ∷ codes "IMAGE" ∷ codes "STATE" ∷ codes "NEWSRC" ∷ codes "NEWIMAGE" ∷ codes "NEWSTATE" ∷ []

-- the command of a line, by its name and files
subcommand_of_line : (c : Command) (name : Text) (files : List Text) → plain_line c ≡ name ∷ files
    → (s : Subcommand) × (subcommand_named name ≡ Some s) × (length files ≡ length s.files)
subcommand_of_line (Mean source trace) name files e =
    let named : name ≡ codes "mean" = ap (λ l. unwrap_or (slice_get l 0) []) (sym e) in
    (record { name = codes "mean"; files = codes "SRC" ∷ codes "TRACE" ∷ [] }, ap subcommand_named named, let all = ap length (sym e) in omega arith)
subcommand_of_line (Try source trace image) name files e =
    let named : name ≡ codes "try" = ap (λ l. unwrap_or (slice_get l 0) []) (sym e) in (
      record { name = codes "try"; files = codes "SRC" ∷ codes "TRACE" ∷ codes "IMAGE" ∷ [] },
      ap subcommand_named named,
      let all = ap length (sym e) in
          omega arith,
    )
subcommand_of_line (Build source image) name files e =
    let named : name ≡ codes "build" = ap (λ l. unwrap_or (slice_get l 0) []) (sym e) in
    (record { name = codes "build"; files = codes "SRC" ∷ codes "IMAGE" ∷ [] }, ap subcommand_named named, let all = ap length (sym e) in omega arith)
subcommand_of_line (Run image trace) name files e =
    let named : name ≡ codes "run" = ap (λ l. unwrap_or (slice_get l 0) []) (sym e) in
    (record { name = codes "run"; files = codes "IMAGE" ∷ codes "TRACE" ∷ [] }, ap subcommand_named named, let all = ap length (sym e) in omega arith)
subcommand_of_line (Asm assembly image) name files e =
    let named : name ≡ codes "asm" = ap (λ l. unwrap_or (slice_get l 0) []) (sym e) in
    (record { name = codes "asm"; files = codes "ASM" ∷ codes "IMAGE" ∷ [] }, ap subcommand_named named, let all = ap length (sym e) in omega arith)
subcommand_of_line (Dis image) name files e =
    let named : name ≡ codes "dis" = ap (λ l. unwrap_or (slice_get l 0) []) (sym e) in
    (record { name = codes "dis"; files = codes "IMAGE" ∷ [] }, ap subcommand_named named, let all = ap length (sym e) in omega arith)
subcommand_of_line (Gen number image) name files e =
    let named : name ≡ codes "gen" = ap (λ l. unwrap_or (slice_get l 0) []) (sym e) in
    (record { name = codes "gen"; files = codes "N" ∷ codes "IMAGE" ∷ [] }, ap subcommand_named named, let all = ap length (sym e) in omega arith)
subcommand_of_line (Save image trace state) name files e =
    let named : name ≡ codes "save" = ap (λ l. unwrap_or (slice_get l 0) []) (sym e) in (
      record { name = codes "save"; files = codes "IMAGE" ∷ codes "TRACE" ∷ codes "STATE" ∷ [] },
      ap subcommand_named named,
      let all = ap length (sym e) in
          omega arith,
    )
subcommand_of_line (Resume image state trace) name files e =
    let named : name ≡ codes "resume" = ap (λ l. unwrap_or (slice_get l 0) []) (sym e) in (
      record { name = codes "resume"; files = codes "IMAGE" ∷ codes "STATE" ∷ codes "TRACE" ∷ [] },
      ap subcommand_named named,
      let all = ap length (sym e) in
          omega arith,
    )
subcommand_of_line (Migrate source image state new_source new_image new_state) name files e =
    let named : name ≡ codes "migrate" = ap (λ l. unwrap_or (slice_get l 0) []) (sym e) in
    (of_names (codes "migrate") migrated_files, ap subcommand_named named, let all = ap length (sym e) in omega arith)
subcommand_of_line (Undo source trace image) name files e =
    let named : name ≡ codes "undo" = ap (λ l. unwrap_or (slice_get l 0) []) (sym e) in (
      record { name = codes "undo"; files = codes "SRC" ∷ codes "TRACE" ∷ codes "IMAGE" ∷ [] },
      ap subcommand_named named,
      let all = ap length (sym e) in
          omega arith,
    )
subcommand_of_line (Audit source report trace) name files e =
    let named : name ≡ codes "audit" = ap (λ l. unwrap_or (slice_get l 0) []) (sym e) in (
      record { name = codes "audit"; files = codes "SRC" ∷ codes "REPORT" ∷ codes "TRACE" ∷ [] },
      ap subcommand_named named,
      let all = ap length (sym e) in
          omega arith,
    )

-- the first step, where the second gives something
some_before : (f : List Text → Option (List Text)) (o : Option (List Text)) (all : List Text) → option_and_then f o ≡ Some all
    → (files : List Text) × (o ≡ Some files) × (f files ≡ Some all)
some_before f None all e = cc
some_before f (Some files) all e = (files, refl, e)

pub command_is_line : (words : List Text) → AreTexts words → NamesCommand words → IsLine words
command_is_line [] texts n = cc
command_is_line (name ∷ rest) texts n =
    let m = some_more name (option_and_then (said_behind name) (files_of rest)) (plain_line n.0) n.1 in
    let s = subcommand_of_line n.0 name m.0 m.2 in
    let b = some_before (said_behind name) (files_of rest) m.0 m.1 in
    let all : all_said s.0.files b.0 ≡ Some m.0 = ap (λ o. all_said (option_map_or (λ (x : Subcommand). x.files) o []) b.0) (sym s.1) ∙ b.2 in
    line_there name rest b.0 m.0 s.0 texts s.1 b.1 (sym (said_length s.0.files b.0 m.0 all) ∙ s.2) all

abbrev pub lent : Text → Bor Text
lent text = record { ref_ptr = (0, 0); now = text }

-- what files say, as many as the subcommand has, is that of a command's line
abbrev HasLines : Subcommand → Type 0
HasLines s = (files texts : List Text) → length files ≡ length s.files → all_said s.files files ≡ Some texts → (c : Command) × (plain_line c ≡ s.name ∷ texts)

abbrev the_texts : Option (List Text) → List Text
the_texts o = unwrap_or o []

-- the same where no name is that of a number
of_files : (s : Subcommand) → list_any is_number_name s.files ≡ false
    → ((files : List Text) → length files ≡ length s.files → (c : Command) × (plain_line c ≡ s.name ∷ files)) → HasLines s
of_files s none has files texts count all =
    let same : files ≡ texts = ap the_texts (sym (files_said s.files files none) ∙ all) in
    let c = has files count in
    (c.0, c.1 ∙ ap (λ fs. s.name ∷ fs) same)

-- a number, and then a file
number_and_file : HasLines (record { name = codes "gen"; files = codes "N" ∷ codes "IMAGE" ∷ [] })
number_and_file [] texts count all = absurd (omega arith)
number_and_file (n ∷ []) texts count all = absurd (omega arith)
number_and_file (n ∷ image ∷ []) texts count all = go (is_signed_in (pos 0) (pos 4294967295) n) all
  where
    go : (b : Bool) → option_and_then (λ t. Some (t ∷ image ∷ [])) (cond b (Some (decimal (number_in n))) None) ≡ Some texts
        → (c : Command) × (plain_line c ≡ codes "gen" ∷ texts)
    go true e = (Gen (number_in n) (lent image), ap (λ ts. codes "gen" ∷ ts) (ap the_texts e))
    go false e = cc
number_and_file (n ∷ image ∷ other ∷ more) texts count all = absurd (omega arith)

-- the same of each of these
AllHaveLines : List Subcommand → Type 0
AllHaveLines [] = Unit {0}
AllHaveLines (s ∷ rest) = HasLines s × AllHaveLines rest

-- a command of one file, whose line begins with its name
one : (called : Text) (make : Bor Text → Command) → ((a : Text) → plain_line (make (lent a)) ≡ called ∷ a ∷ [])
    → (files : List Text) → length files ≡ 1 → (c : Command) × (plain_line c ≡ called ∷ files)
one called make line [] count = absurd (omega arith)
one called make line (a ∷ []) count = (make (lent a), line a)
one called make line (a ∷ other ∷ more) count = absurd (omega arith)

-- the same of two files
two : (called : Text) (make : Bor Text → Bor Text → Command)
    → ((a b : Text) → plain_line (make (lent a) (lent b)) ≡ called ∷ a ∷ b ∷ [])
    → (files : List Text) → length files ≡ 2 → (c : Command) × (plain_line c ≡ called ∷ files)
two called make line [] count = absurd (omega arith)
two called make line (a ∷ []) count = absurd (omega arith)
two called make line (a ∷ b ∷ []) count = (make (lent a) (lent b), line a b)
two called make line (a ∷ b ∷ other ∷ more) count = absurd (omega arith)

-- the same of three files
three : (called : Text) (make : Bor Text → Bor Text → Bor Text → Command)
    → ((a b d : Text) → plain_line (make (lent a) (lent b) (lent d)) ≡ called ∷ a ∷ b ∷ d ∷ [])
    → (files : List Text) → length files ≡ 3 → (c : Command) × (plain_line c ≡ called ∷ files)
three called make line [] count = absurd (omega arith)
three called make line (a ∷ []) count = absurd (omega arith)
three called make line (a ∷ b ∷ []) count = absurd (omega arith)
three called make line (a ∷ b ∷ d ∷ []) count = (make (lent a) (lent b) (lent d), line a b d)
three called make line (a ∷ b ∷ d ∷ other ∷ more) count = absurd (omega arith)

-- the same of six files
six : (called : Text) (make : Bor Text → Bor Text → Bor Text → Bor Text → Bor Text → Bor Text → Command)
    → ((a b d e f g : Text) → plain_line (make (lent a) (lent b) (lent d) (lent e) (lent f) (lent g)) ≡ called ∷ a ∷ b ∷ d ∷ e ∷ f ∷ g ∷ [])
    → (files : List Text) → length files ≡ 6 → (c : Command) × (plain_line c ≡ called ∷ files)
six called make line [] count = absurd (omega arith)
six called make line (a ∷ []) count = absurd (omega arith)
six called make line (a ∷ b ∷ []) count = absurd (omega arith)
six called make line (a ∷ b ∷ d ∷ []) count = absurd (omega arith)
six called make line (a ∷ b ∷ d ∷ e ∷ []) count = absurd (omega arith)
six called make line (a ∷ b ∷ d ∷ e ∷ f ∷ []) count = absurd (omega arith)
six called make line (a ∷ b ∷ d ∷ e ∷ f ∷ g ∷ []) count = (make (lent a) (lent b) (lent d) (lent e) (lent f) (lent g), line a b d e f g)
six called make line (a ∷ b ∷ d ∷ e ∷ f ∷ g ∷ other ∷ more) count = absurd (omega arith)

all_have_lines : AllHaveLines subcommands
unfolding AllHaveLines
all_have_lines = (
  of_files (of_names (codes "mean") (codes "SRC" ∷ codes "TRACE" ∷ [])) refl (two (codes "mean") Mean (λ a b. refl)),
  (
    of_files (of_names (codes "try") (codes "SRC" ∷ codes "TRACE" ∷ codes "IMAGE" ∷ [])) refl (three (codes "try") Try (λ a b d. refl)),
    (
      of_files (of_names (codes "build") (codes "SRC" ∷ codes "IMAGE" ∷ [])) refl (two (codes "build") Build (λ a b. refl)),
      (
        of_files (of_names (codes "run") (codes "IMAGE" ∷ codes "TRACE" ∷ [])) refl (two (codes "run") Run (λ a b. refl)),
        (
          of_files (of_names (codes "asm") (codes "ASM" ∷ codes "IMAGE" ∷ [])) refl (two (codes "asm") Asm (λ a b. refl)),
          (
            of_files (of_names (codes "dis") (codes "IMAGE" ∷ [])) refl (one (codes "dis") Dis (λ a. refl)),
            (
              number_and_file,
              (
                of_files (of_names (codes "save") (codes "IMAGE" ∷ codes "TRACE" ∷ codes "STATE" ∷ [])) refl (three (codes "save") Save (λ a b d. refl)),
                (
                  of_files (of_names (codes "resume") (codes "IMAGE" ∷ codes "STATE" ∷ codes "TRACE" ∷ [])) refl
                      (three (codes "resume") Resume (λ a b d. refl)),
                  (
                    of_files (of_names (codes "migrate") migrated_files) refl (six (codes "migrate") Migrate (λ a b d e f g. refl)),
                    (
                      of_files (of_names (codes "undo") (codes "SRC" ∷ codes "TRACE" ∷ codes "IMAGE" ∷ [])) refl
                          (three (codes "undo") Undo (λ a b d. refl)),
                      (
                        of_files (of_names (codes "audit") (codes "SRC" ∷ codes "REPORT" ∷ codes "TRACE" ∷ [])) refl
                            (three (codes "audit") Audit (λ a b d. refl)),
                        tt,
                      ),
                    ),
                  ),
                ),
              ),
            ),
          ),
        ),
      ),
    ),
  ),
)

have_lines : (xs : List Subcommand) (word : Text) (s : Subcommand) → AllHaveLines xs → named xs word ≡ Some s → HasLines s
unfolding AllHaveLines
have_lines [] word s all e = cc
have_lines (x ∷ xs) word s all e = go (bytes_eq x.name word) (have_lines xs word s all.1) e
  where
    go : (b : Bool) → (named xs word ≡ Some s → HasLines s) → cond b (Some x) (named xs word) ≡ Some s → HasLines s
    go true rest e = subst HasLines (ap (λ o. unwrap_or o x) e) all.0
    go false rest e = rest e

has_command : (name : Text) (files texts : List Text) (s : Subcommand) → subcommand_named name ≡ Some s → length files ≡ length s.files
    → all_said s.files files ≡ Some texts
    → (c : Command) × (plain_line c ≡ name ∷ texts)
has_command name files texts s is count all =
    let c = have_lines subcommands name s all_have_lines is files texts count all in
    (c.0, c.1 ∙ ap (λ n. n ∷ texts) (has_name subcommands name s is))

-- a name that is none of these
abbrev pub AreOthers : List Subcommand → Text → Type 0
AreOthers [] name = Unit {0}
AreOthers (s ∷ rest) name = (name ≡ s.name → ⊥) × AreOthers rest name

none_named : (xs : List Subcommand) (name : Text) → AreOthers xs name → named xs name ≡ None
none_named [] name others = refl
none_named (x ∷ xs) name others = go (bytes_eq x.name name) refl (none_named xs name others.1)
  where
    go : (b : Bool) → bytes_eq x.name name ≡ b → named xs name ≡ None → cond b (Some x) (named xs name) ≡ None
    go true is rest = absurd (others.0 (sym ((bytes_eq-Decides x.name name).0 is)))
    go false is rest = rest

-- no command has it
pub none_found : (name : Text) (rows : List Row) → AreOthers subcommands name → None ≡ line_found name rows
none_found name rows others =
    let P : Option Subcommand → Option (List Text) =
    option_and_then (λ s. option_map (λ texts. name ∷ texts) (option_and_then (all_said s.files) (values_of s.files rows))) in
    ap P (sym (none_named subcommands name others))

pub line_is_command : (words : List Text) → AreTexts words → IsLine words → NamesCommand words
line_is_command words texts line =
    let l = line_reads words texts line in
    let c = has_command l.name l.files l.texts l.command l.named l.count l.said in
    (c.0, line_says words l ∙ ap Some (sym c.1))

-- ---- words without hyphens in front

not_end : (word : Text) → begins_with_hyphen word ≡ false → bytes_eq word (codes "--") ≡ false
not_end [] e = refl
not_end (b ∷ rest) e = rw e refl

files_plain : (words : List Text) → list_any begins_with_hyphen words ≡ false → files_of words ≡ Some words
files_plain [] e = refl
files_plain (word ∷ words) e =
    let p = or_parts (begins_with_hyphen word) (list_any begins_with_hyphen words) e in
    rw (not_end word p.0, p.0, files_plain words p.1) refl

-- such words are files, all of them
pub plain_is : (words : List Text) → list_any begins_with_hyphen words ≡ false → plain_line_of words ≡ line_of words
plain_is [] e = refl
plain_is (word ∷ words) e =
    let p = or_parts (begins_with_hyphen word) (list_any begins_with_hyphen words) e in
    ap (λ o. option_map (λ texts. word ∷ texts) (option_and_then (said_behind word) o)) (sym (files_plain words p.1))

pub plain_names : (words : List Text) → list_any begins_with_hyphen words ≡ false → IsPlainLine words → NamesCommand words
plain_names words e p = (p.0, sym (plain_is words e) ∙ p.1)

-- ---- the subcommand that a parse has met

abbrev both_of : {B : Type 0} → (B → Text) → (B → List Row) → B → Text × List Row
both_of f g b = (f b, g b)

pair_up : {B : Type 0} (x : Option B) (f : B → Text) (g : B → List Row) (n : Text) (rs : List Row) → Some n ≡ option_map f x
    → Some rs ≡ option_map (λ (p : Text × List Row). p.1) (option_map (both_of f g) x) → option_map (both_of f g) x ≡ Some (n, rs)
pair_up None f g n rs a b = cc
pair_up (Some y) f g n rs a b = λ i. Some (unwrap_or (sym a i) n, unwrap_or (sym b i) rs)

pub entered_is : (m : ArgMatches) (o : Option (Bor Text × Bor ArgMatches)) (u : Bor Text × Bor ArgMatches) → o ≡ Some u
    → option_map (λ (p : Bor Text × Bor ArgMatches). p.0.now) o ≡ subcommand_name_of m
    → option_map (λ (p : Bor Text × Bor ArgMatches). rows_of (found_of p.1.now)) o ≡ option_map (λ (p : Text × List Row). p.1) (subcommand_rows_of m)
    → subcommand_rows_of m ≡ Some (u.0.now, rows_of (found_of u.1.now))
entered_is m o u is name rows =
    pair_up (out-ArgMatches m).subcommand (λ b. (out-SubCommand (box_value b)).name.now)
    (λ b. rows_of (found_of (out-SubCommand (box_value b)).matches)) u.0.now (rows_of (found_of u.1.now))
    (ap (option_map (λ (p : Bor Text × Bor ArgMatches). p.0.now)) (sym is) ∙ name)
    (ap (option_map (λ (p : Bor Text × Bor ArgMatches). rows_of (found_of p.1.now))) (sym is) ∙ rows)

-- a parse of a line has met a subcommand
pub has_met : (m : ArgMatches) (p : Text × List Row) → subcommand_rows_of m ≡ Some p → has_subcommand m ≡ true
has_met m p is = go (out-ArgMatches m).subcommand (λ b. ((out-SubCommand (box_value b)).name.now, rows_of (found_of (out-SubCommand (box_value b)).matches))) is
  where
    go : {B : Type 0} (x : Option B) (f : B → Text × List Row) → option_map f x ≡ Some p → is_some x ≡ true
    go None f is = cc
    go (Some b) f is = refl

pub is_there_by : {X Y : Type 0} (f : X → Y) (o : Option X) (y : Y) → option_map f o ≡ Some y → IsSome o
is_there_by f None y e = cc
is_there_by f (Some x) y e = refl
