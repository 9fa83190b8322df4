-- The first word of a line, by `clap`'s rules: the name of a command; what is at fault is what is at fault behind it.
use Rattle.std.proofs.Common.{◌≡◌, ◌∙◌, ◌++◌, ◌∷◌, inl, inr, ◌||◌, Bool, cond, codes, true, false, refl, sym, ap, subst, List, [], map, length, Option, Some}
use Rattle.std.proofs.Common.{None, is_some, option_map, append_assoc, append-nil}
use Rattle.std.proofs.lemmas.Slice.Eq.{bytes_eq-Decides}
use Rattle.std.specs.Prelude.{find, fold, unwrap_or, option_and_then}
use Rattle.std.specs.Option.{option_map_or}
use Rattle.std.specs.Str.{IsUtf8, bytes_eq}
use Rattle.std.proofs.Math.Bool.{and-false}
use Rattle.clap.specs.Walk.{Names, Text, Walk, after_step, idle, answers_to, finished, nothing_held, rows_after, settled, subcommand_met, subcommand_or_other}
use Rattle.clap.specs.Walk.{walk, walk_from, walked}
use Rattle.clap.specs.Simple.{App, Shape, entered, label_of, new_shape, rows_at, subcommand_of}
use Rattle.clap.specs.Kinds.{Kinds, or_else}
use Rattle.clap.specs.Faults.{bundle_fault, built_fault, check_fault, defaults_fault, entered_fault, fault_of, flag_word_fault, flags_fault, level_fault}
use Rattle.clap.specs.Faults.{other_fault, settle_fault, step_fault, turn_fault, walk_fault}
use Rattle.clap.specs.declared.error.kind.ErrorKind.{ErrorKind}
use Rattle.clap.specs.declared.error.kind.ErrorKind.TheVariants.{UnknownArgument, MissingSubcommand, InvalidSubcommand, OutOfMemory}
use Rattle.clap.specs.declared.error.Error.{Error}
use Rattle.clap.specs.Words.{HasKind, kind_of}
use Rattle.command_line.specs.CommandLine.{Subcommand}
use Rattle.command_line.proofs.Files.{Kind, built_subcommand, ends, long, no_kind, plain, short}
use Rattle.command_line.proofs.Files.{some_char, walk_at}

pub first_none : (a b : Kinds) → or_else a b ≡ [] → a ≡ []
first_none [] b e = refl
first_none (k ∷ ks) b e = cc

pub or_nothing : (a : Kinds) → or_else a [] ≡ a
or_nothing [] = refl
or_nothing (k ∷ ks) = refl

-- an error of words with no fault is that there is no memory
pub no_fault : (kinds : Kinds) (e : Error) → kinds ≡ [] → (kind_of e ≡ OutOfMemory → ⊥) → HasKind kinds e → ⊥
no_fault [] e p not_memory (inl m) = not_memory m
no_fault [] e p not_memory (inr h) = h
no_fault (k ∷ ks) e p not_memory h = cc

-- ---- commands by their names

abbrev pub named : List Subcommand → Text → Option Subcommand
named xs word = find (λ s. bytes_eq s.name word) xs

abbrev pub names_in : List Subcommand → Names
names_in xs = map label_of (map built_subcommand xs)

pub met_by_name : (xs : List Subcommand) (word : Text) → find (answers_to word) (names_in xs) ≡ option_map (λ (s : Subcommand). (s.name, [])) (named xs word)
met_by_name [] word = refl
met_by_name (x ∷ xs) word = go (bytes_eq x.name word) (met_by_name xs word)
  where
    go : (b : Bool) → find (answers_to word) (names_in xs) ≡ option_map (λ (s : Subcommand). (s.name, [])) (named xs word)
        → cond (b || false) (Some (x.name, [])) (find (answers_to word) (names_in xs)) ≡ option_map (λ (s : Subcommand). (s.name, []))
        (cond b (Some x) (named xs word))
    go true rest = refl
    go false rest = rest

pub entered_by_name : (xs : List Subcommand) (word : Text)
    → find (λ s. answers_to word (label_of s)) (map built_subcommand xs) ≡ option_map built_subcommand (named xs word)
entered_by_name [] word = refl
entered_by_name (x ∷ xs) word = go (bytes_eq x.name word) (entered_by_name xs word)
  where
    go : (b : Bool) → find (λ s. answers_to word (label_of s)) (map built_subcommand xs) ≡ option_map built_subcommand (named xs word)
        → cond (b || false) (Some (built_subcommand x)) (find (λ s. answers_to word (label_of s)) (map built_subcommand xs)) ≡ option_map built_subcommand
        (cond b (Some x) (named xs word))
    go true rest = refl
    go false rest = rest

-- a command that is found by a name has it
pub has_name : (xs : List Subcommand) (word : Text) (s : Subcommand) → named xs word ≡ Some s → s.name ≡ word
has_name [] word s e = cc
has_name (x ∷ xs) word s e = go (bytes_eq x.name word) refl (has_name xs word s) e
  where
    go : (b : Bool) → bytes_eq x.name word ≡ b → (named xs word ≡ Some s → s.name ≡ word) → cond b (Some x) (named xs word) ≡ Some s → s.name ≡ word
    go true is rest e =
        let same : x ≡ s = ap (λ o. unwrap_or o x) e in
        ap (λ (y : Subcommand). y.name) (sym same) ∙ (bytes_eq-Decides x.name word).0 is
    go false is rest e = rest e

-- ---- the first word

abbrev pub stopped_at : Text → List Text → Walk
stopped_at name words = record (walk_from nothing_held) { stopped = Some (name, words) }

-- a program of this name, with these commands
module _ (called : Text) (commands : List Subcommand) where
  -- the program after building
  abbrev top : Shape
  top = record (new_shape called) {
    no_binary_name = true;
    disable_help_flag = true;
    disable_help_subcommand = true;
    subcommand_required = true;
    is_leaf = false;
    is_built = true;
  }

  abbrev pub built_app : App
  built_app = record { top = top; subs = map built_subcommand commands }

  -- the names of its commands
  abbrev names : Names
  names = names_in commands

  -- words with no fault
  abbrev IsRead : List Text → Type 0
  IsRead words = built_fault built_app nothing_held words ≡ []

  stopped_walk : (words : List Text) (name : Text) (before : List Text)
      → fold (walked [] names) (stopped_at name before) words ≡ stopped_at name (before ++ words)
  unfolding walked
  stopped_walk [] name before = ap (stopped_at name) (sym (append-nil before))
  stopped_walk (word ∷ words) name before = stopped_walk words name (before ++ word ∷ []) ∙ ap (stopped_at name) (append_assoc before (word ∷ []) words)

  stopped_fault : (words : List Text) (name : Text) (before : List Text) → walk_fault top names (stopped_at name before) words ≡ []
  unfolding walked walk_fault
  stopped_fault [] name before = refl
  stopped_fault (word ∷ words) name before = stopped_fault words name (before ++ word ∷ [])

  abbrev whole_fault : Kinds → Walk → Kinds
  whole_fault of_walk w = or_else of_walk (or_else (entered_fault built_app w.stopped) (or_else (settle_fault [] false w.held)
      (or_else (defaults_fault (settled [] w.held).rows []) (check_fault top (finished [] w.held) (is_some (entered built_app w.stopped))))))

  whole_is : (words : List Text) → built_fault built_app nothing_held words ≡ whole_fault (walk_fault top names (walk_from nothing_held) words)
      (walk [] names nothing_held words)
  whole_is words = refl

  module _ (word : Text) (s : Subcommand) (is : named commands word ≡ Some s) where
    met : subcommand_met names idle word ≡ Some word
    met = ap (option_map (λ (p : Text × List Text). p.0)) (met_by_name commands word)
        ∙ ap (λ o. option_map (λ (p : Text × List Text). p.0) (option_map (λ (s : Subcommand). (s.name, [])) o)) is
        ∙ ap Some (has_name commands word s is)

    first_turn : turn_fault top names (walk_from nothing_held) word ≡ []
    first_turn =
        ap (λ o. or_else (other_fault top o word nothing_held)
        (step_fault top 1 (subcommand_or_other [] o idle 1 word nothing_held).0 (subcommand_or_other [] o idle 1 word nothing_held).1)) met
        ∙ rw (and-false (bytes_eq word (codes "help"))) refl

    first_walked : walked [] names (walk_from nothing_held) word ≡ stopped_at word []
    unfolding walked
    first_walked =
        ap (λ o. after_step [] word (walk_from nothing_held) (subcommand_or_other [] o idle 1 word nothing_held).0
        (subcommand_or_other [] o idle 1 word nothing_held).1) met

    whole_walk : (words : List Text) → walk [] names nothing_held (word ∷ words) ≡ stopped_at word words
    whole_walk words = ap (λ w. fold (walked [] names) w words) first_walked ∙ stopped_walk words word []

    whole_walk_fault : (words : List Text) → walk_fault top names (walk_from nothing_held) (word ∷ words) ≡ []
    unfolding walk_fault
    whole_walk_fault words = (λ i. or_else (first_turn i) (walk_fault top names (first_walked i) words)) ∙ stopped_fault words word []

    found : find (λ (x : Shape). answers_to word (label_of x)) (map built_subcommand commands) ≡ Some (built_subcommand s)
    found = entered_by_name commands word ∙ ap (option_map built_subcommand) is

    -- what is at fault is what is at fault behind the command's name
    pub fault_behind : (words : List Text) → built_fault built_app nothing_held (word ∷ words) ≡ level_fault (built_subcommand s) [] nothing_held words false []
    unfolding defaults_fault
    fault_behind words =
        whole_is (word ∷ words)
        ∙ (λ i. whole_fault (whole_walk_fault words i) (whole_walk words i))
        ∙ (λ i. or_else (option_map_or (λ (x : Shape). level_fault x [] nothing_held words false []) (found i) [])
        (check_fault top [] (is_some (option_map (λ (x : Shape). rows_at x words) (found i)))))
        ∙ or_nothing (level_fault (built_subcommand s) [] nothing_held words false [])

    -- and the rows are those behind it
    pub rows_behind : (words : List Text) → entered built_app (walk [] names nothing_held (word ∷ words)).stopped
        ≡ Some (s.name, rows_after (built_subcommand s).rules [] words)
    rows_behind words =
        ap (λ (w : Walk). entered built_app w.stopped) (whole_walk words) ∙ ap (option_map (λ (x : Shape). rows_at x words)) found

  -- a first word that names no command
  module _ (word : Text) (none : named commands word ≡ None) where
    not_met : subcommand_met names idle word ≡ None
    not_met = ap (option_map (λ (p : Text × List Text). p.0)) (met_by_name commands word)
        ∙ ap (λ o. option_map (λ (p : Text × List Text). p.0) (option_map (λ (s : Subcommand). (s.name, [])) o)) none

    turn_of : turn_fault top names (walk_from nothing_held) word
        ≡ or_else (other_fault top None word nothing_held)
        (step_fault top 1 (subcommand_or_other [] None idle 1 word nothing_held).0 (subcommand_or_other [] None idle 1 word nothing_held).1)
    turn_of =
        ap (λ o. or_else (other_fault top o word nothing_held)
        (step_fault top 1 (subcommand_or_other [] o idle 1 word nothing_held).0 (subcommand_or_other [] o idle 1 word nothing_held).1)) not_met

    turn_fails : (words : List Text) (k : ErrorKind) (ks : Kinds) → turn_fault top names (walk_from nothing_held) word ≡ k ∷ ks → IsRead (word ∷ words) → ⊥
    unfolding walk_fault
    turn_fails words k ks is line =
        let whole =
        first_none (walk_fault top names (walk_from nothing_held) (word ∷ words)) _ (sym (whole_is (word ∷ words)) ∙ line) in
        no_kind k ks (sym is ∙ first_none (turn_fault top names (walk_from nothing_held) word) _ whole)

    other_fails : (words : List Text) (k : ErrorKind) (ks : Kinds) → other_fault top None word nothing_held ≡ k ∷ ks → IsRead (word ∷ words) → ⊥
    other_fails words k ks is line =
        turn_fails words k ks (turn_of ∙ ap (λ f. or_else f
        (step_fault top 1 (subcommand_or_other [] None idle 1 word nothing_held).0 (subcommand_or_other [] None idle 1 word nothing_held).1)) is) line

    end_walks : bytes_eq word (codes "--") ≡ true → walked [] names (walk_from nothing_held) word ≡ walk_at nothing_held 1 true
    unfolding walked
    end_walks e =
        ap (λ o. after_step [] word (walk_from nothing_held) (subcommand_or_other [] o idle 1 word nothing_held).0
        (subcommand_or_other [] o idle 1 word nothing_held).1) not_met
        ∙ rw e refl

    end_turns : bytes_eq word (codes "--") ≡ true → turn_fault top names (walk_from nothing_held) word ≡ []
    end_turns e = turn_of ∙ rw e refl

    end_fails : (words : List Text) → bytes_eq word (codes "--") ≡ true → IsRead (word ∷ words) → ⊥
    unfolding walk_fault defaults_fault
    end_fails [] e line =
        no_kind MissingSubcommand [] ((λ i. whole_fault (or_else (sym (end_turns e) i) []) (sym (end_walks e) i))
        ∙ sym (whole_is (word ∷ [])) ∙ line)
    end_fails (v ∷ words) e line =
        let whole =
        first_none (walk_fault top names (walk_from nothing_held) (word ∷ v ∷ words)) _
        (sym (whole_is (word ∷ v ∷ words)) ∙ line) in
        no_kind UnknownArgument (InvalidSubcommand ∷ [])
        (first_none (turn_fault top names (walk_at nothing_held 1 true) v) (walk_fault top names (walked [] names (walk_at nothing_held 1 true) v) words)
        ((λ i. or_else (sym (end_turns e) i) (walk_fault top names (sym (end_walks e) i) (v ∷ words))) ∙ whole))

    pub unnamed_fails : (words : List Text) → IsUtf8 word → Kind word → IsRead (word ∷ words) → ⊥
    unfolding flags_fault
    unnamed_fails words utf8 (ends e) = end_fails words e
    unnamed_fails words utf8 (long p is not_end flag) =
        other_fails words UnknownArgument [] (rw not_end (ap (λ o. flag_word_fault [] false o word nothing_held) is))
    unnamed_fails words utf8 (short x rest is not_long is_short not_end flag) =
        let c = some_char x rest (subst IsUtf8 is utf8) in
        other_fails words UnknownArgument [] (rw not_end (ap (λ o. flag_word_fault [] false o word nothing_held) not_long
        ∙ ap (λ o. option_map_or (λ (flags : Text). bundle_fault [] false flags nothing_held) o []) is_short
        ∙ rw (c.1) refl))
    unnamed_fails words utf8 (plain p flag) =
        turn_fails words UnknownArgument (InvalidSubcommand ∷ []) (turn_of ∙ rw (p.not_end, p.not_long, p.not_short) refl)

  pub no_words_fail : IsRead [] → ⊥
  unfolding walk_fault defaults_fault
  no_words_fail line = no_kind MissingSubcommand [] line
