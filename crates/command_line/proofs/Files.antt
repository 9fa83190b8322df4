-- The words after a command's name, as `clap`'s rules read them: by induction over the words.
use Rattle.std.proofs.Common.{◌≡◌, ◌∙◌, ◌+◌, ◌++◌, ◌∷◌, ◌⊎◌, inl, inr, ◌&&◌, ◌||◌, ◌==◌, ℕ, Bool, cond, codes, true, false, not, suc, refl, sym, ap, ap₂, subst}
use Rattle.std.proofs.Common.{arith, List, [], map, length, drop, min, Option, Some, None, option_map, true≢false, append_assoc, append-nil}
use Rattle.std.proofs.lemmas.Bool.{eqb-true}
use Rattle.std.proofs.lemmas.Str.{encodes-chars}
use Rattle.std.specs.Prelude.{slice_get, find, fold, unwrap_or}
use Rattle.std.specs.List.{list_any}
use Rattle.std.specs.Option.{option_map_or}
use Rattle.std.specs.Char.{encode_utf8}
use Rattle.std.specs.Str.{IsUtf8, bytes_eq, chars, encode_utf8_all}
use Rattle.clap.specs.Lexer.{long_of, name_and_value, short_of, usize_max}
use Rattle.clap.specs.Facts.{explicit_source}
use Rattle.clap.specs.Walk.{Held, Row, Rule, Step, Text, Walk, idle, value, after_step, at_row, is_pending, more_values, pushed, to_positional, used_by_id}
use Rattle.clap.specs.Walk.{arg_by_id, arg_by_index, arg_by_long, arg_by_short, finished, has_row, nothing_held, reading_by, settled, walk_from, walked}
use Rattle.clap.specs.Walk.{with_default, word_met}
use Rattle.clap.specs.Simple.{Shape, filled, filled_from, new_shape, with_index}
use Rattle.clap.specs.Takes.{is_given}
use Rattle.clap.specs.Kinds.{Kinds, or_else}
use Rattle.clap.specs.Faults.{bundle_fault, flag_word_fault, long_fault, positional_fault, short_fault, stray_fault, check_fault, defaults_fault, flags_fault}
use Rattle.clap.specs.Faults.{level_fault, settle_fault, step_fault, turn_fault, use_fault, walk_fault, word_fault}
use Rattle.clap.specs.declared.error.kind.ErrorKind.{ErrorKind}
use Rattle.clap.specs.declared.error.kind.ErrorKind.TheVariants.{UnknownArgument, MissingRequiredArgument}
use Rattle.std.proofs.Math.Bool.{or-false, and-false, or-true}
use Rattle.clap.specs.declared.parser.matches.ValueSource.TheVariants.{CommandLine}
use Rattle.std.specs.Prelude.{option_and_then, decimal, pos}
use Rattle.clap.specs.ValueTests.{accepts, is_signed_in}
use Rattle.clap.specs.Values.{refused_kind}
use Rattle.clap.specs.declared.builder.value_parser.ValueParser.{ValueParser}
use Rattle.clap.specs.declared.builder.value_parser.ValueParser.TheVariants as vp
use Rattle.clap.specs.declared.error.kind.ErrorKind.TheVariants.{ArgumentConflict}
use Rattle.command_line.specs.CommandLine.{AreTexts, Subcommand, all_said, file_rule, files_of, is_flag, is_number_name, number_in, number_parser, number_said}
use Rattle.command_line.specs.CommandLine.{parser_named, said}

-- ---- bits

pub no_kind : (k : ErrorKind) (ks : Kinds) → k ∷ ks ≡ [] → ⊥
no_kind k ks e = cc

-- ---- the command's rules

-- the k-th file of a command, after building
abbrev pub place : ℕ → Text → Rule
place k id = with_index k (filled (file_rule id))

-- a command after building
abbrev pub built_subcommand : Subcommand → Shape
built_subcommand s = record (new_shape s.name) {
  rules = filled_from 1 (map file_rule s.files);
  no_binary_name = true;
  disable_help_flag = true;
  disable_help_subcommand = true;
  is_built = true;
}

abbrev pub next_place : ℕ → ℕ
next_place k = min (k + 1) usize_max

-- no flag is known
pub no_long : (ids : List Text) (k : ℕ) (name : Text) → arg_by_long (filled_from k (map file_rule ids)) name ≡ None
no_long [] k name = refl
no_long (id ∷ ids) k name = no_long ids (next_place k) name

pub no_short : (ids : List Text) (k : ℕ) (x : ℕ) → arg_by_short (filled_from k (map file_rule ids)) x ≡ None
no_short [] k x = refl
no_short (id ∷ ids) k x = no_short ids (next_place k) x

-- no file has a default
same_rows : (rows : List Row) (id : Text) (k : ℕ) → with_default rows (place k id) ≡ rows
same_rows rows id k = go (has_row id rows)
  where
    go : (b : Bool) → cond b rows rows ≡ rows
    go true = refl
    go false = refl

no_defaults : (ids : List Text) (k : ℕ) (rows : List Row) → defaults_fault rows (filled_from k (map file_rule ids)) ≡ []
unfolding defaults_fault
no_defaults [] k rows = refl
no_defaults (id ∷ ids) k rows = rw (or-true (has_row id rows)) (no_defaults ids (next_place k) (with_default rows (place k id)))

all_rows : (ids : List Text) (k : ℕ) (rows : List Row) → fold with_default rows (filled_from k (map file_rule ids)) ≡ rows
all_rows [] k rows = refl
all_rows (id ∷ ids) k rows = ap (λ r. fold with_default r (filled_from (next_place k) (map file_rule ids))) (same_rows rows id k)
    ∙ all_rows ids (next_place k) rows

-- ---- the rows of the files read so far

-- what is kept of a file
abbrev pub file_row : Text → Text → Row
file_row id file = record {
  id = id;
  values = file ∷ [];
  count = None;
  source = Some CommandLine;
  reading = reading_by (place 1 id);
}

abbrev pub rows_for : List Text → List Text → List Row
rows_for [] files = []
rows_for (id ∷ ids) [] = []
rows_for (id ∷ ids) (file ∷ files) = file_row id file ∷ rows_for ids files

abbrev pub has_key : Text → List Text → Bool
has_key id keys = list_any (λ k. bytes_eq k id) keys

-- the rows are files that the words gave, with these ids
abbrev pub IsGiven : List Text → List Row → Type 0
IsGiven [] [] = Unit {0}
IsGiven (key ∷ keys) (r ∷ rows) = (r.id ≡ key) × (r.source ≡ Some CommandLine) × IsGiven keys rows
IsGiven _ _ = ⊥

pub given_row : (keys : List Text) (rows : List Row) (id : Text) → IsGiven keys rows → has_row id rows ≡ has_key id keys
given_row [] [] id g = refl
given_row (key ∷ keys) (r ∷ rows) id g = ap₂ (λ (k : Text) (b : Bool). bytes_eq k id || b) g.0 (given_row keys rows id g.2)
given_row [] (r ∷ rows) id g = absurd g
given_row (key ∷ keys) [] id g = absurd g

given_is : (keys : List Text) (rows : List Row) (id : Text) → IsGiven keys rows → is_given id rows ≡ has_key id keys
given_is [] [] id g = refl
given_is (key ∷ keys) (r ∷ rows) id g =
    go (bytes_eq r.id id) (bytes_eq key id) (ap (λ (k : Text). bytes_eq k id) g.0) (given_is keys rows id g.2)
  where
    go : (a b : Bool) → a ≡ b → is_given id rows ≡ has_key id keys
        → option_map_or (λ (r : Row). explicit_source r.source) (cond a (Some r) (find (λ (r : Row). bytes_eq r.id id) rows)) false ≡ (b || has_key id keys)
    go true true e rest = ap explicit_source g.1
    go false false e rest = rest
    go true false e rest = absurd (true≢false e)
    go false true e rest = absurd (true≢false (sym e))
given_is [] (r ∷ rows) id g = absurd g
given_is (key ∷ keys) [] id g = absurd g

pub more_given : (keys : List Text) (rows : List Row) (id file : Text) → IsGiven keys rows → IsGiven (keys ++ id ∷ []) (rows ++ file_row id file ∷ [])
more_given [] [] id file g = (refl, refl, tt)
more_given (key ∷ keys) (r ∷ rows) id file g = (g.0, g.1, more_given keys rows id file g.2)
more_given [] (r ∷ rows) id file g = absurd g
more_given (key ∷ keys) [] id file g = absurd g

-- a file that is wanted has not been given
abbrev pub lacks : List Text → List Rule → Bool
lacks keys rules = list_any (λ a. a.required && not (has_key a.id keys)) rules

lacks_is : (keys : List Text) (rows : List Row) (rules : List Rule) → IsGiven keys rows
    → list_any (λ (a : Rule). a.required && not (is_given a.id rows)) rules ≡ lacks keys rules
lacks_is keys rows [] g = refl
lacks_is keys rows (a ∷ rules) g = ap₂ (λ (b : Bool) (rest : Bool). (a.required && not b) || rest) (given_is keys rows a.id g) (lacks_is keys rows rules g)

-- The rules stand in order: from place k on they are those of `ids`, none of which is among `keys`,
-- the ids before. This computes for a command that is written out.
abbrev pub IsInOrder : List Rule → List Text → ℕ → List Text → Type 0
IsInOrder rules keys k [] = (arg_by_index rules k ≡ None) × (lacks keys rules ≡ false)
IsInOrder rules keys k (id ∷ ids) = (arg_by_index rules k ≡ Some (place k id)) × (arg_by_id rules id ≡ Some (place k id))
    × (next_place k ≡ k + 1) × (has_key id keys ≡ false) × (lacks keys rules ≡ true)
    × IsInOrder rules (keys ++ id ∷ []) (k + 1) ids

-- ---- what a word says in a file's place

-- what reads the value of this name
abbrev reader : Text → ValueParser
reader id = unwrap_or (parser_named id) vp.String

-- the word may stand in the place of this name
abbrev accepted : Text → Text → Bool
accepted id word = accepts false (reader id) word

-- the word says something there, or is refused
pub data Saying (id word : Text) : Type 0 where
  says_text : (text : Text) → said id word ≡ Some text → accepted id word ≡ true → Saying id word
  says_none : said id word ≡ None → accepted id word ≡ false → Saying id word

pub saying : (id word : Text) → Saying id word
saying id word = go (is_number_name id) (is_signed_in (pos 0) (pos 4294967295) word) refl refl
  where
    number : is_number_name id ≡ true → said id word ≡ number_said word
    number e = ap (λ b. cond b (number_said word) (Some word)) e

    reads : is_number_name id ≡ true → accepted id word ≡ is_signed_in (pos 0) (pos 4294967295) word
    reads e = ap (λ b. accepts false (unwrap_or (cond b (Some number_parser) None) vp.String) word) e

    go : (b c : Bool) → is_number_name id ≡ b → is_signed_in (pos 0) (pos 4294967295) word ≡ c → Saying id word
    go false c e f =
        says_text word (ap (λ b. cond b (number_said word) (Some word)) e)
        (ap (λ b. accepts false (unwrap_or (cond b (Some number_parser) None) vp.String) word) e)
    go true true e f = says_text (decimal (number_in word)) (number e ∙ ap (λ b. cond b (Some (decimal (number_in word))) None) f) (reads e ∙ f)
    go true false e f = says_none (number e ∙ ap (λ b. cond b (Some (decimal (number_in word))) None) f) (reads e ∙ f)

abbrev onto : Text → Option (List Text) → Option (List Text)
onto text texts = option_map (λ ts. text ∷ ts) texts

-- one word more that says something
more_said : (id : Text) (ids : List Text) (word : Text) (words : List Text) (text : Text) (texts : List Text) → said id word ≡ Some text
    → all_said ids words ≡ Some texts
    → all_said (id ∷ ids) (word ∷ words) ≡ Some (text ∷ texts)
more_said id ids word words text texts e f = (λ i. option_and_then (λ t. onto t (f i)) (e i))

-- where the first word says something, so do the others
record SaysMore (id : Text) (ids : List Text) (word : Text) (words all : List Text) : Type 0 where
  pub text : Text
  pub texts : List Text
  pub first : said id word ≡ Some text
  pub rest : all_said ids words ≡ Some texts
  pub is : all ≡ text ∷ texts

says_more : (id : Text) (ids : List Text) (word : Text) (words all : List Text) → all_said (id ∷ ids) (word ∷ words) ≡ Some all → SaysMore id ids word words all
says_more id ids word words all e = go (said id word) (all_said ids words) refl refl e
  where
    go : (a : Option Text) (b : Option (List Text)) → said id word ≡ a → all_said ids words ≡ b → option_and_then (λ t. onto t b) a ≡ Some all
        → SaysMore id ids word words all
    go None b p q e = cc
    go (Some text) None p q e = cc
    go (Some text) (Some texts) p q e = record { text = text; texts = texts; first = p; rest = q; is = ap (λ o. unwrap_or o []) (sym e) }

-- words say as many texts as they are
pub said_length : (ids words texts : List Text) → all_said ids words ≡ Some texts → length texts ≡ length words
said_length [] words texts e = ap (λ o. length (unwrap_or o [])) (sym e)
said_length (id ∷ ids) [] texts e = ap (λ o. length (unwrap_or o [])) (sym e)
said_length (id ∷ ids) (word ∷ words) texts e =
    let m = says_more id ids word words texts e in
    ap length m.is ∙ ap suc (said_length ids words m.texts m.rest)

-- where no name is that of a number, words say themselves
pub files_said : (ids words : List Text) → list_any is_number_name ids ≡ false → all_said ids words ≡ Some words
files_said [] words e = refl
files_said (id ∷ ids) [] e = refl
files_said (id ∷ ids) (word ∷ words) e = go (is_number_name id) refl (files_said ids words) e
  where
    go : (b : Bool) → is_number_name id ≡ b → (list_any is_number_name ids ≡ false → all_said ids words ≡ Some words)
        → (b || list_any is_number_name ids) ≡ false
        → all_said (id ∷ ids) (word ∷ words) ≡ Some (word ∷ words)
    go true is rest none = cc
    go false is rest none = more_said id ids word words word words (ap (λ b. cond b (number_said word) (Some word)) is) (rest none)

-- ---- what a word is

-- a word that goes to a file, before any `--`
pub record IsPlain (word : Text) : Type 0 where
  pub not_end : bytes_eq word (codes "--") ≡ false
  pub not_long : long_of word ≡ None
  pub not_short : short_of word ≡ None

-- the word is `--`, or a flag, long or short, or plain
pub data Kind (word : Text) : Type 0 where
  ends : bytes_eq word (codes "--") ≡ true → Kind word
  long : (p : Text × Option Text) → long_of word ≡ Some p → bytes_eq word (codes "--") ≡ false → is_flag word ≡ true → Kind word
  short : (x : ℕ) (rest : Text) → word ≡ 45 ∷ x ∷ rest → long_of word ≡ None → short_of word ≡ Some (x ∷ rest) → bytes_eq word (codes "--") ≡ false
      → is_flag word ≡ true → Kind word
  plain : IsPlain word → is_flag word ≡ false → Kind word

pub kind_of_word : (word : Text) → Kind word
kind_of_word [] = plain (record { not_end = refl; not_long = refl; not_short = refl }) refl
kind_of_word (b ∷ rest) = go (b == 45) refl
  where
    second : (x : ℕ) (xs : Text) (t : Bool) → (x == 45) ≡ t → Kind (45 ∷ x ∷ xs)
    second x xs false e = short x xs refl (rw e refl) (rw e refl) (rw e refl) refl
    second x [] true e = subst (λ (y : ℕ). Kind (45 ∷ y ∷ [])) (sym (eqb-true _ _ e)) (ends refl)
    second x (y ∷ ys) true e = subst (λ (z : ℕ). Kind (45 ∷ z ∷ y ∷ ys)) (sym (eqb-true _ _ e)) (long (name_and_value (y ∷ ys)) refl refl refl)

    hyphen : (more : Text) → Kind (45 ∷ more)
    hyphen [] = plain (record { not_end = refl; not_long = refl; not_short = refl }) refl
    hyphen (x ∷ xs) = second x xs (x == 45) refl

    go : (t : Bool) → (b == 45) ≡ t → Kind (b ∷ rest)
    go false e = plain (record { not_end = rw e refl; not_long = rw e refl; not_short = rw e refl }) (rw e refl)
    go true e = subst (λ (y : ℕ). Kind (y ∷ rest)) (sym (eqb-true _ _ e)) (hyphen rest)

-- a text that is more than its first hyphen has a character more
pub some_char : (x : ℕ) (rest : Text) → IsUtf8 (45 ∷ x ∷ rest) → (c : ℕ) × (slice_get (chars (x ∷ rest)) 0 ≡ Some c)
unfolding chars encode_utf8
some_char x rest u = go (chars (x ∷ rest)) (encodes-chars (45 ∷ x ∷ rest) u)
  where
    go : (cs : List ℕ) → encode_utf8_all (45 ∷ cs) ≡ 45 ∷ x ∷ rest → (c : ℕ) × (slice_get cs 0 ≡ Some c)
    go [] e = let bad : 1 ≡ suc (suc (length rest)) = ap length e in absurd (omega arith)
    go (c ∷ cs) e = (c, refl)

-- ---- one turn

abbrev pub walk_at : Held → ℕ → Bool → Walk
walk_at h k t = record { held = h; waiting = idle; position = k; is_trailing = t; stopped = None }

-- what is held stands for these rows, and has no fault
record Rests (c : List Rule) (given : List Row) (h : Held) : Type 0 where
  pub settle : settle_fault c false h ≡ []
  pub rows : (settled c h).rows ≡ given
  pub skip : h.skip ≡ 0

at_row_missing : (id : Text) (change : Row → List Row) (missing rows : List Row) → has_row id rows ≡ false → at_row id change missing rows ≡ rows ++ missing
at_row_missing id change missing [] e = refl
at_row_missing id change missing (r ∷ rows) e = go (bytes_eq r.id id) refl (at_row_missing id change missing rows)
  where
    go : (b : Bool) → bytes_eq r.id id ≡ b → (has_row id rows ≡ false → at_row id change missing rows ≡ rows ++ missing)
        → at_row id change missing (r ∷ rows) ≡ r ∷ rows ++ missing
    go true is more = absurd (true≢false (sym (ap (λ b. b || has_row id rows) is) ∙ e))
    go false is more = rw is (ap (λ l. r ∷ l) (more (ap (λ b. b || has_row id rows) (sym is) ∙ e)))

abbrev with_file : List Row → Text → Text → Held
with_file rows id word = record { rows = rows; pending = Some (id, word ∷ []); skip = 0 }

-- what is at fault with one value
abbrev value_fault : Bool → Text → Bool → Kinds
value_fault given id fits = or_else (cond (given && true) (ArgumentConflict ∷ []) []) (or_else (cond fits [] (refused_kind (reader id) ∷ [])) [])

settle_is : (c : List Rule) (k : ℕ) (id word : Text) (rows : List Row) (fits : Bool) → arg_by_id c id ≡ Some (place k id) → has_row id rows ≡ false
    → accepted id word ≡ fits
    → settle_fault c false (with_file rows id word) ≡ value_fault false id fits
settle_is c k id word rows fits is fresh fit =
    ap (λ o. option_map_or (λ (a : Rule). use_fault false a (word ∷ []) rows) o []) is ∙ (λ i. value_fault (fresh i) id (fit i))

-- a file that is given
new_rests : (c : List Rule) (k : ℕ) (id word : Text) (rows : List Row) → arg_by_id c id ≡ Some (place k id) → has_row id rows ≡ false → accepted id word ≡ true
    → Rests c (rows ++ file_row id word ∷ []) (with_file rows id word)
new_rests c k id word rows is fresh fit = record {
  settle = settle_is c k id word rows true is fresh fit;
  rows = ap (λ o. used_by_id o (word ∷ []) rows) is
      ∙ ap (at_row id (more_values CommandLine (word ∷ [])) (file_row id word ∷ [])) (at_row_missing id (λ _. []) [] rows fresh ∙ append-nil rows)
      ∙ at_row_missing id (more_values CommandLine (word ∷ [])) (file_row id word ∷ []) rows fresh;
  skip = refl;
}

module _ (name : Text) (all : List Text) where
  abbrev pub shape : Shape
  shape = built_subcommand (record { name = name; files = all })

  abbrev pub rules : List Rule
  rules = filled_from 1 (map file_rule all)

  -- the word goes to the next file
  abbrev Goes : Bool → Held → ℕ → Text → Type 0
  Goes t h k word = (word_met rules [] t idle k word h ≡ (h, value)) × (word_fault shape [] t idle word h ≡ [])

  plain_goes : (h : Held) (k : ℕ) (word : Text) → IsPlain word → Goes false h k word
  plain_goes h k word p = (rw (p.not_end, p.not_long, p.not_short) refl, rw (p.not_end, p.not_long, p.not_short) refl)

  trailing_goes : (h : Held) (k : ℕ) (word : Text) → Goes true h k word
  trailing_goes h k word = (refl, refl)

  turn_is : (t : Bool) (h : Held) (k : ℕ) (word : Text) → Goes t h k word
      → turn_fault shape [] (walk_at h k t) word ≡ step_fault shape k h value
  turn_is t h k word goes = λ i. or_else (goes.1 i) (step_fault shape k (goes.0 i).0 (goes.0 i).1)

  file_turn : (t : Bool) (h : Held) (k : ℕ) (id word : Text) (given : List Row) → Goes t h k word → arg_by_index rules k ≡ Some (place k id)
      → Rests rules given h
      → turn_fault shape [] (walk_at h k t) word ≡ []
  file_turn t h k id word given goes index rests =
      turn_is t h k word goes ∙ ap (λ o. option_map_or (λ (a : Rule). positional_fault rules false a h) o (stray_fault shape)) index
      ∙ ap (λ b. cond b [] (settle_fault rules false h)) (and-false (is_pending (place k id) h.pending)) ∙ rests.settle

  file_walked : (t : Bool) (h : Held) (k : ℕ) (id word : Text) (given : List Row) → Goes t h k word → arg_by_index rules k ≡ Some (place k id)
      → next_place k ≡ k + 1 → Rests rules given h
      → walked rules [] (walk_at h k t) word ≡ walk_at (with_file given id word) (k + 1) t
  unfolding walked
  file_walked t h k id word given goes index after rests =
      ap (λ (m : Held × Step). after_step rules word (walk_at h k t) m.0 m.1) goes.0
      ∙ ap (λ o. to_positional rules o word (walk_at h k t) h) index
      ∙ (λ i. record {
        held = pushed id word (cond (and-false (is_pending (place k id) h.pending) i) h (settled rules h));
        waiting = idle;
        position = after i;
        is_trailing = or-false t i;
        stopped = None;
      })
      ∙ (λ i. walk_at (record { rows = rests.rows i; pending = Some (id, word ∷ []); skip = rests.skip i }) (k + 1) t)

  -- a word that comes after the last file
  stray_turn : (t : Bool) (h : Held) (k : ℕ) (word : Text) → Goes t h k word → arg_by_index rules k ≡ None
      → turn_fault shape [] (walk_at h k t) word ≡ UnknownArgument ∷ []
  stray_turn t h k word goes index =
      turn_is t h k word goes ∙ ap (λ o. option_map_or (λ (a : Rule). positional_fault rules false a h) o (stray_fault shape)) index

  end_turn : (h : Held) (k : ℕ) (word : Text) → bytes_eq word (codes "--") ≡ true → turn_fault shape [] (walk_at h k false) word ≡ []
  end_turn h k word e = rw e refl

  end_walked : (h : Held) (k : ℕ) (word : Text) → bytes_eq word (codes "--") ≡ true → walked rules [] (walk_at h k false) word ≡ walk_at h k true
  unfolding walked
  end_walked h k word e = rw e refl

  long_turn : (h : Held) (k : ℕ) (word : Text) (p : Text × Option Text) → long_of word ≡ Some p → bytes_eq word (codes "--") ≡ false
      → turn_fault shape [] (walk_at h k false) word ≡ UnknownArgument ∷ []
  long_turn h k word p is not_end =
      let unknown : word_fault shape [] false idle word h ≡ UnknownArgument ∷ [] =
      rw not_end (ap (λ o. flag_word_fault rules false o word h) is ∙ ap (λ o. long_fault rules false o p.1 h) (no_long all 1 p.0)) in
      ap (λ f. or_else f (step_fault shape k (word_met rules [] false idle k word h).0 (word_met rules [] false idle k word h).1)) unknown

  short_turn : (h : Held) (k : ℕ) (word : Text) (x : ℕ) (rest : Text) → word ≡ 45 ∷ x ∷ rest → long_of word ≡ None → short_of word ≡ Some (x ∷ rest)
      → bytes_eq word (codes "--") ≡ false
      → IsUtf8 word → h.skip ≡ 0 → turn_fault shape [] (walk_at h k false) word ≡ UnknownArgument ∷ []
  unfolding flags_fault
  short_turn h k word x rest is not_long is_short not_end utf8 skip =
      let c = some_char x rest (subst IsUtf8 is utf8) in
      let none = no_short all 1 c.0 in
      let unknown : word_fault shape [] false idle word h ≡ UnknownArgument ∷ [] =
      rw not_end (ap (λ o. flag_word_fault rules false o word h) not_long
      ∙ ap (λ o. option_map_or (λ (flags : Text). bundle_fault rules false flags h) o []) is_short
      ∙ ap (λ n. flags_fault rules false (suc (length rest)) (x ∷ rest) n (record h { skip = 0 })) skip
      ∙ rw (c.1) (ap (λ o. short_fault rules false o (drop (length (encode_utf8 c.0)) (x ∷ rest)) (record h { skip = 0 })
      (flags_fault rules false (length rest) (drop (length (encode_utf8 c.0)) (x ∷ rest)) 0)) none)) in
      ap (λ f. or_else f (step_fault shape k (word_met rules [] false idle k word h).0 (word_met rules [] false idle k word h).1)) unknown

  -- ---- all words

  -- what is at fault at the end
  abbrev pub end_fault : Held → Kinds
  end_fault h = or_else (settle_fault rules false h) (or_else (defaults_fault (settled rules h).rows rules) (check_fault shape (finished rules h) false))

  -- what is at fault from here on
  abbrev pub rest_fault : Walk → List Text → Kinds
  rest_fault w words = or_else (walk_fault shape [] w words) (end_fault (fold (walked rules []) w words).held)

  abbrev pub end_rows : Walk → List Text → List Row
  end_rows w words = finished rules (fold (walked rules []) w words).held

  next_fault : (w after : Walk) (word : Text) (words : List Text) → turn_fault shape [] w word ≡ [] → walked rules [] w word ≡ after
      → rest_fault w (word ∷ words) ≡ rest_fault after words
  unfolding walk_fault
  next_fault w after word words none is =
      (λ i. or_else (or_else (none i) (walk_fault shape [] (is i) words)) (end_fault (fold (walked rules []) (is i) words).held))

  stuck_fault : (w : Walk) (word : Text) (words : List Text) (k : ErrorKind) (ks : Kinds) → turn_fault shape [] w word ≡ k ∷ ks
      → rest_fault w (word ∷ words) ≡ [] → ⊥
  unfolding walk_fault
  stuck_fault w word words k ks is e =
      no_kind k ks ((λ i. or_else (or_else (sym is i) (walk_fault shape [] (walked rules [] w word) words))
      (end_fault (fold (walked rules []) (walked rules [] w word) words).held)) ∙ e)

  last_fault : (keys : List Text) (given : List Row) (h : Held) → IsGiven keys given → Rests rules given h
      → end_fault h ≡ cond (lacks keys rules) (MissingRequiredArgument ∷ []) []
  last_fault keys given h g rests =
      (λ i. or_else (rests.settle i) (or_else (no_defaults all 1 (settled rules h).rows i) (check_fault shape (all_rows all 1 (settled rules h).rows i) false)))
      ∙ ap (λ rows. check_fault shape rows false) rests.rows
      ∙ ap (λ b. cond b (MissingRequiredArgument ∷ []) []) (lacks_is keys given rules g)

  last_rows : (given : List Row) (h : Held) → Rests rules given h → finished rules h ≡ given
  last_rows given h rests = all_rows all 1 (settled rules h).rows ∙ rests.rows

  -- what the words name as files, with flags or without
  abbrev pub files_in : Bool → List Text → Option (List Text)
  files_in true words = Some words
  files_in false words = files_of words

  -- the words are the files of `ids`, and none is left over
  pub record IsRead (t : Bool) (k : ℕ) (ids : List Text) (given : List Row) (h : Held) (words : List Text) : Type 0 where
    pub files : List Text
    pub texts : List Text
    pub from : files_in t words ≡ Some files
    pub count : length files ≡ length ids
    pub said : all_said ids files ≡ Some texts
    pub fault : rest_fault (walk_at h k t) words ≡ []
    pub rows : end_rows (walk_at h k t) words ≡ given ++ rows_for ids files

  -- they are not
  pub record IsRefused (t : Bool) (k : ℕ) (ids : List Text) (h : Held) (words : List Text) : Type 0 where
    pub fault : rest_fault (walk_at h k t) words ≡ [] → ⊥
    pub none : (files texts : List Text) → files_in t words ≡ Some files → length files ≡ length ids → all_said ids files ≡ Some texts → ⊥

  abbrev pub IsJudged : Bool → ℕ → List Text → List Row → Held → List Text → Type 0
  IsJudged t k ids given h words = IsRead t k ids given h words ⊎ IsRefused t k ids h words

  abbrev TakesFile : Bool → Text → Type 0
  TakesFile t word = (words : List Text) → files_in t (word ∷ words) ≡ option_map (λ files. word ∷ files) (files_in t words)

  some_more : (word : Text) (o : Option (List Text)) (files : List Text) → option_map (λ fs. word ∷ fs) o ≡ Some files
      → (more : List Text) × (o ≡ Some more) × (files ≡ word ∷ more)
  some_more word None files e = cc
  some_more word (Some more) files e = (more, refl, sym (some_inj e))
    where
      some_inj : {a b : List Text} → Some a ≡ Some b → a ≡ b
      some_inj e = ap (λ o. unwrap_or o []) e

  -- what is held is at fault: so is all that begins so
  ended : (h : Held) (k : ℕ) (t : Bool) → rest_fault (walk_at h k t) [] ≡ end_fault h
  unfolding walk_fault
  ended h k t = refl

  bad_turn : (t : Bool) (k : ℕ) (ids keys : List Text) (h : Held) (word : Text) (words : List Text) (kind : ErrorKind) (kinds : Kinds) → Goes t h k word
      → IsInOrder rules keys k ids
      → settle_fault rules false h ≡ kind ∷ kinds → rest_fault (walk_at h k t) (word ∷ words) ≡ [] → ⊥
  bad_turn t k [] keys h word words kind kinds goes order bad = stuck_fault (walk_at h k t) word words UnknownArgument [] (stray_turn t h k word goes order.0)
  bad_turn t k (id ∷ ids) keys h word words kind kinds goes order bad = stuck_fault (walk_at h k t) word words kind kinds
      (turn_is t h k word goes ∙ ap (λ o. option_map_or (λ (a : Rule). positional_fault rules false a h) o (stray_fault shape)) order.0
      ∙ ap (λ b. cond b [] (settle_fault rules false h)) (and-false (is_pending (place k id) h.pending)) ∙ bad)

  bad_word : (k : ℕ) (ids keys : List Text) (h : Held) (word : Text) (words : List Text) (kind : ErrorKind) (kinds : Kinds) → IsInOrder rules keys k ids
      → settle_fault rules false h ≡ kind ∷ kinds → h.skip ≡ 0 → IsUtf8 word → Kind word → (rest_fault (walk_at h k true) words ≡ [] → ⊥)
      → rest_fault (walk_at h k false) (word ∷ words) ≡ [] → ⊥
  bad_word k ids keys h word words kind kinds order bad skip utf8 (ends e) behind none =
      behind (sym (next_fault (walk_at h k false) _ word words (end_turn h k word e) (end_walked h k word e)) ∙ none)
  bad_word k ids keys h word words kind kinds order bad skip utf8 (long p is not_end flag) behind none =
      stuck_fault (walk_at h k false) word words UnknownArgument [] (long_turn h k word p is not_end) none
  bad_word k ids keys h word words kind kinds order bad skip utf8 (short x rest is not_long is_short not_end flag) behind none =
      stuck_fault (walk_at h k false) word words UnknownArgument [] (short_turn h k word x rest is not_long is_short not_end utf8 skip) none
  bad_word k ids keys h word words kind kinds order bad skip utf8 (plain p flag) behind none =
      bad_turn false k ids keys h word words kind kinds (plain_goes h k word p) order bad none

  held_fault : (words : List Text) (t : Bool) (k : ℕ) (ids keys : List Text) (h : Held) (kind : ErrorKind) (kinds : Kinds) → IsInOrder rules keys k ids
      → settle_fault rules false h ≡ kind ∷ kinds → h.skip ≡ 0 → AreTexts words → rest_fault (walk_at h k t) words ≡ [] → ⊥
  held_fault [] t k ids keys h kind kinds order bad skip utf8 none =
      no_kind kind kinds (ap (λ f. or_else f (or_else (defaults_fault (settled rules h).rows rules) (check_fault shape (finished rules h) false))) (sym bad)
      ∙ sym (ended h k t) ∙ none)
  held_fault (word ∷ words) true k ids keys h kind kinds order bad skip utf8 none =
      bad_turn true k ids keys h word words kind kinds (trailing_goes h k word) order bad none
  held_fault (word ∷ words) false k ids keys h kind kinds order bad skip utf8 none =
      bad_word k ids keys h word words kind kinds order bad skip utf8.0 (kind_of_word word)
      (held_fault words true k ids keys h kind kinds order bad skip utf8.1) none

  -- one more file, before words that are judged
  one_more : (t : Bool) (k : ℕ) (id : Text) (ids : List Text) (given : List Row) (h : Held) (word : Text) (words : List Text) (text : Text) → TakesFile t word
      → said id word ≡ Some text
      → turn_fault shape [] (walk_at h k t) word ≡ [] → walked rules [] (walk_at h k t) word ≡ walk_at (with_file given id word) (k + 1) t
      → IsJudged t (k + 1) ids (given ++ file_row id word ∷ []) (with_file given id word) words
      → IsJudged t k (id ∷ ids) given h (word ∷ words)
  one_more t k id ids given h word words text takes says none is (inl r) = inl (record {
    files = word ∷ r.files;
    texts = text ∷ r.texts;
    from = takes words ∙ ap (option_map (λ files. word ∷ files)) r.from;
    count = ap suc r.count;
    said = more_said id ids word r.files text r.texts says r.said;
    fault = next_fault (walk_at h k t) _ word words none is ∙ r.fault;
    rows = ap (λ w. finished rules (fold (walked rules []) w words).held) is ∙ r.rows ∙ append_assoc given (file_row id word ∷ []) (rows_for ids r.files);
  })
  one_more t k id ids given h word words text takes says none is (inr r) = inr (record {
    fault = λ e. r.fault (sym (next_fault (walk_at h k t) _ word words none is) ∙ e);
    none = λ files texts from count all.
        let m = some_more word (files_in t words) files (sym (takes words) ∙ from) in
        let more = says_more id ids word m.0 texts (ap (all_said (id ∷ ids)) (sym m.2) ∙ all) in
        r.none m.0 more.texts m.1 (let longer : length files ≡ suc (length m.0) = ap length m.2 in omega arith) more.rest;
  })

  -- one more that says nothing in its place
  refused_here : (t : Bool) (k : ℕ) (id : Text) (ids keys : List Text) (given : List Row) (h : Held) (word : Text) (words : List Text) → TakesFile t word
      → said id word ≡ None
      → turn_fault shape [] (walk_at h k t) word ≡ [] → walked rules [] (walk_at h k t) word ≡ walk_at (with_file given id word) (k + 1) t
      → IsInOrder rules (keys ++ id ∷ []) (k + 1) ids → settle_fault rules false (with_file given id word) ≡ refused_kind (reader id) ∷ [] → AreTexts words
      → IsRefused t k (id ∷ ids) h (word ∷ words)
  refused_here t k id ids keys given h word words takes silent none is order bad utf8 = record {
    fault = λ e. held_fault words t (k + 1) ids (keys ++ id ∷ []) (with_file given id word) (refused_kind (reader id)) [] order bad refl utf8
        (sym (next_fault (walk_at h k t) _ word words none is) ∙ e);
    none = λ files texts from count all.
        let m = some_more word (files_in t words) files (sym (takes words) ∙ from) in
        let more = says_more id ids word m.0 texts (ap (all_said (id ∷ ids)) (sym m.2) ∙ all) in
        let both : None ≡ Some more.text = sym silent ∙ more.first in cc;
  }

  -- one more, whatever it says
  placed : (t : Bool) (k : ℕ) (id : Text) (ids keys : List Text) (given : List Row) (h : Held) (word : Text) (words : List Text) → TakesFile t word
      → turn_fault shape [] (walk_at h k t) word ≡ [] → walked rules [] (walk_at h k t) word ≡ walk_at (with_file given id word) (k + 1) t
      → IsInOrder rules keys k (id ∷ ids) → IsGiven keys given → AreTexts words
      → (Rests rules (given ++ file_row id word ∷ []) (with_file given id word)
      → IsJudged t (k + 1) ids (given ++ file_row id word ∷ []) (with_file given id word) words)
      → Saying id word → IsJudged t k (id ∷ ids) given h (word ∷ words)
  placed t k id ids keys given h word words takes none is order g utf8 more (says_text text first fit) =
      one_more t k id ids given h word words text takes first none is (more (new_rests rules k id word given order.1 (given_row keys given id g ∙ order.3) fit))
  placed t k id ids keys given h word words takes none is order g utf8 more (says_none first fit) =
      inr (refused_here t k id ids keys given h word words takes first none is order.5
      (settle_is rules k id word given false order.1 (given_row keys given id g ∙ order.3) fit) utf8)

  -- a word too many
  too_many : (t : Bool) (k : ℕ) (h : Held) (word : Text) (words : List Text) → TakesFile t word
      → turn_fault shape [] (walk_at h k t) word ≡ UnknownArgument ∷ [] → IsRefused t k [] h (word ∷ words)
  too_many t k h word words takes is = record {
    fault = stuck_fault (walk_at h k t) word words UnknownArgument [] is;
    none = λ files texts from count all.
        let m = some_more word (files_in t words) files (sym (takes words) ∙ from) in
        let longer : length files ≡ suc (length m.0) = ap length m.2 in absurd (omega arith);
  }

  -- a `--`, before words that are judged
  end_files : (word : Text) (words : List Text) → bytes_eq word (codes "--") ≡ true → files_of (word ∷ words) ≡ Some words
  end_files word words e = rw e refl

  after_end : (k : ℕ) (ids : List Text) (given : List Row) (h : Held) (word : Text) (words : List Text) → bytes_eq word (codes "--") ≡ true
      → IsJudged true k ids given h words → IsJudged false k ids given h (word ∷ words)
  after_end k ids given h word words e (inl r) = inl (record {
    files = r.files;
    texts = r.texts;
    from = end_files word words e ∙ r.from;
    count = r.count;
    said = r.said;
    fault = next_fault (walk_at h k false) _ word words (end_turn h k word e) (end_walked h k word e) ∙ r.fault;
    rows = ap (λ w. finished rules (fold (walked rules []) w words).held) (end_walked h k word e) ∙ r.rows;
  })
  after_end k ids given h word words e (inr r) = inr (record {
    fault = λ none. r.fault (sym (next_fault (walk_at h k false) _ word words (end_turn h k word e) (end_walked h k word e)) ∙ none);
    none = λ files texts from count all. r.none files texts (sym (end_files word words e) ∙ from) count all;
  })

  -- a flag
  not_a_file : (k : ℕ) (ids : List Text) (h : Held) (word : Text) (words : List Text) → bytes_eq word (codes "--") ≡ false → is_flag word ≡ true
      → turn_fault shape [] (walk_at h k false) word ≡ UnknownArgument ∷ [] → IsRefused false k ids h (word ∷ words)
  not_a_file k ids h word words not_end flag is = record {
    fault = stuck_fault (walk_at h k false) word words UnknownArgument [] is;
    none = λ files texts from count all.
        let refused : files_of (word ∷ words) ≡ None = rw (not_end, flag) refl in cc;
  }

  takes_plain : (word : Text) → bytes_eq word (codes "--") ≡ false → is_flag word ≡ false → TakesFile false word
  takes_plain word not_end flag words = rw (not_end, flag) refl

  takes_all : (word : Text) → TakesFile true word
  takes_all word words = refl

  nothing_in : (t : Bool) → files_in t [] ≡ Some []
  nothing_in true = refl
  nothing_in false = refl

  nothing_left : (t : Bool) (k : ℕ) (keys : List Text) (given : List Row) (h : Held) → IsInOrder rules keys k [] → IsGiven keys given → Rests rules given h
      → IsRead t k [] given h []
  nothing_left t k keys given h order g rests = record {
    files = [];
    texts = [];
    from = nothing_in t;
    count = refl;
    said = refl;
    fault = ended h k t ∙ last_fault keys given h g rests ∙ ap (λ b. cond b (MissingRequiredArgument ∷ []) []) order.1;
    rows = last_rows given h rests ∙ sym (append-nil given);
  }

  too_few : (t : Bool) (k : ℕ) (keys : List Text) (id : Text) (ids : List Text) (given : List Row) (h : Held) → IsInOrder rules keys k (id ∷ ids)
      → IsGiven keys given → Rests rules given h
      → IsRefused t k (id ∷ ids) h []
  too_few t k keys id ids given h order g rests = record {
    fault = λ e. no_kind MissingRequiredArgument []
        (sym (ended h k t ∙ last_fault keys given h g rests ∙ ap (λ b. cond b (MissingRequiredArgument ∷ []) []) order.4) ∙ e);
    none = λ files texts from count all.
        let empty : [] ≡ files = ap (λ o. unwrap_or o []) (sym (nothing_in t) ∙ from) in
        let zero : 0 ≡ length files = ap length empty in absurd (omega arith);
  }

  none_left : (k : ℕ) (keys : List Text) (given : List Row) (h : Held) (word : Text) (words : List Text) → IsInOrder rules keys k [] → Rests rules given h
      → IsUtf8 word
      → Kind word → IsJudged true k [] given h words → IsJudged false k [] given h (word ∷ words)
  none_left k keys given h word words order rests utf8 (ends e) behind = after_end k [] given h word words e behind
  none_left k keys given h word words order rests utf8 (long p is not_end flag) behind =
      inr (not_a_file k [] h word words not_end flag (long_turn h k word p is not_end))
  none_left k keys given h word words order rests utf8 (short x rest is not_long is_short not_end flag) behind =
      inr (not_a_file k [] h word words not_end flag (short_turn h k word x rest is not_long is_short not_end utf8 rests.skip))
  none_left k keys given h word words order rests utf8 (plain p flag) behind =
      inr (too_many false k h word words (takes_plain word p.not_end flag) (stray_turn false h k word (plain_goes h k word p) order.0))

  -- the same words with one file less to find
  abbrev Further : Bool → ℕ → Text → List Text → List Row → Text → List Text → Type 0
  Further t k id ids given word words =
      Rests rules (given ++ file_row id word ∷ []) (with_file given id word)
      → IsJudged t (k + 1) ids (given ++ file_row id word ∷ []) (with_file given id word) words

  some_left : (k : ℕ) (keys : List Text) (id : Text) (ids : List Text) (given : List Row) (h : Held) (word : Text) (words : List Text)
      → IsInOrder rules keys k (id ∷ ids) → IsGiven keys given → Rests rules given h → IsUtf8 word → AreTexts words → Kind word
      → IsJudged true k (id ∷ ids) given h words
      → Further false k id ids given word words → IsJudged false k (id ∷ ids) given h (word ∷ words)
  some_left k keys id ids given h word words order g rests utf8 texts (ends e) behind more = after_end k (id ∷ ids) given h word words e behind
  some_left k keys id ids given h word words order g rests utf8 texts (long p is not_end flag) behind more =
      inr (not_a_file k (id ∷ ids) h word words not_end flag (long_turn h k word p is not_end))
  some_left k keys id ids given h word words order g rests utf8 texts (short x rest is not_long is_short not_end flag) behind more =
      inr (not_a_file k (id ∷ ids) h word words not_end flag (short_turn h k word x rest is not_long is_short not_end utf8 rests.skip))
  some_left k keys id ids given h word words order g rests utf8 texts (plain p flag) behind more =
      placed false k id ids keys given h word words (takes_plain word p.not_end flag)
      (file_turn false h k id word given (plain_goes h k word p) order.0 rests)
      (file_walked false h k id word given (plain_goes h k word p) order.0 order.2 rests) order g texts more (saying id word)

  judge : (words : List Text) (t : Bool) (k : ℕ) (ids keys : List Text) (given : List Row) (h : Held) → IsInOrder rules keys k ids → IsGiven keys given
      → Rests rules given h → AreTexts words
      → IsJudged t k ids given h words
  judge [] t k [] keys given h order g rests utf8 = inl (nothing_left t k keys given h order g rests)
  judge [] t k (id ∷ ids) keys given h order g rests utf8 = inr (too_few t k keys id ids given h order g rests)
  judge (word ∷ words) true k [] keys given h order g rests utf8 =
      inr (too_many true k h word words (takes_all word) (stray_turn true h k word (trailing_goes h k word) order.0))
  judge (word ∷ words) true k (id ∷ ids) keys given h order g rests utf8 =
      placed true k id ids keys given h word words (takes_all word)
      (file_turn true h k id word given (trailing_goes h k word) order.0 rests)
      (file_walked true h k id word given (trailing_goes h k word) order.0 order.2 rests) order g utf8.1
      (λ more. judge words true (k + 1) ids (keys ++ id ∷ []) (given ++ file_row id word ∷ []) (with_file given id word) order.5
      (more_given keys given id word g) more utf8.1)
      (saying id word)
  judge (word ∷ words) false k [] keys given h order g rests utf8 =
      none_left k keys given h word words order rests utf8.0 (kind_of_word word) (judge words true k [] keys given h order g rests utf8.1)
  judge (word ∷ words) false k (id ∷ ids) keys given h order g rests utf8 =
      some_left k keys id ids given h word words order g rests utf8.0 utf8.1 (kind_of_word word)
      (judge words true k (id ∷ ids) keys given h order g rests utf8.1)
      (λ more. judge words false (k + 1) ids (keys ++ id ∷ []) (given ++ file_row id word ∷ []) (with_file given id word) order.5
      (more_given keys given id word g) more utf8.1)

  -- the words of a command that is given them all
  pub command_judged : (words : List Text) → IsInOrder rules [] 1 all → AreTexts words → IsJudged false 1 all [] nothing_held words
  command_judged words order utf8 = judge words false 1 all [] [] nothing_held order tt (record { settle = refl; rows = refl; skip = refl }) utf8

  pub level_is : (words : List Text) → level_fault shape [] nothing_held words false [] ≡ rest_fault (walk_from nothing_held) words
  level_is words = refl
