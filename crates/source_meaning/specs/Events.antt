-- Texts with `next_event()`, and those without.
use Rattle.std.specs.Prelude.{◌≡◌, ℕ, Bool, true, false, List, All, take, Option, Some, None, slice_get}
use Rattle.task_lex.specs.declared.token.Token.{Token}
use Rattle.task_lex.specs.declared.token.Kind.{Kind}
use Rattle.task_lex.specs.declared.token.Kind.TheVariants as k
use Rattle.task_lex.specs.Lex.{lexed, tokens}
use Rattle.task_parse.specs.Stops.{token_line}

-- the keyword `next_event`
abbrev pub is_event_kind : Kind → Bool
is_event_kind k.NextEvent = true
is_event_kind _ = false

-- another token
abbrev pub NoEvent : Token → Type 0
NoEvent t = is_event_kind t.kind ≡ false

-- the first such token among some
pub record IsFirstEvent (words : List Token) (at : ℕ) : Type 0 where
  pub token : Token
  pub is_token : slice_get words at ≡ Some token
  pub is_event : is_event_kind token.kind ≡ true
  pub first : All NoEvent (take at words)

-- the first such token of the text is on this line
pub record HasEvent (text : List ℕ) (line : ℕ) : Type 0 where
  pub words : List Token
  pub lexes : lexed text ≡ tokens words
  pub at : ℕ
  pub is_first : IsFirstEvent words at
  pub line_is : line ≡ token_line text words at

-- the text has no such token
pub record HasNoEvent (text : List ℕ) : Type 0 where
  pub words : List Token
  pub lexes : lexed text ≡ tokens words
  pub none : All NoEvent words

-- the line of the first `next_event` of a text, or it has none
abbrev pub FirstEvent : List ℕ → Option ℕ → Type 0
FirstEvent text None = HasNoEvent text
FirstEvent text (Some line) = HasEvent text line
