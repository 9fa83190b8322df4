-- The first `next_event` of a text; no text has one and none.
use Rattle.std.proofs.Common.{◌≡◌, ◌∙◌, ℕ, ◌+◌, ◌<◌, ◌≤◌, true, false, List, length, take, get_or, Some, sym, subst, ap}
use Rattle.std.specs.Prelude.{All, slice_get}
use Rattle.std.proofs.lemmas.List.{take_all}
use Rattle.std.proofs.lemmas.List.Elements.{All-more}
use Rattle.std.proofs.lemmas.Option.{slice_get-get_or, slice_get_within, get_or_from_slice_get}
use Rattle.task_lex.specs.declared.token.Token.{Token}
use Rattle.task_lex.specs.Lex.{lexed, tokens}
use Rattle.task_lex.specs.Faults.{line_of}
use Rattle.task_lex.specs.Spans.{InOrder}
use Rattle.task_lex.proofs.Interface.{all_within}
use Rattle.task_parse.specs.Stops.{from_of}
use Rattle.source_meaning.specs.Events.{is_event_kind, NoEvent, IsFirstEvent, HasEvent, HasNoEvent}
use Rattle.source_meaning.proofs.Unique.{same_tokens}

pub none_more : (ts : List Token) (i : ℕ) (d : Token) → i < length ts → All NoEvent (take i ts) → is_event_kind (get_or ts i d).kind ≡ false
    → All NoEvent (take (i + 1) ts)
none_more ts i d lt all other = All-more NoEvent ts i d lt all other

pub none_all : (ts : List Token) (i : ℕ) → length ts ≤ i → All NoEvent (take i ts) → All NoEvent ts
none_all ts i h all = subst (All NoEvent) (take_all i ts h) all

-- it begins within the text, and its line is the text's
pub starts_within : (text : List ℕ) (ts : List Token) (at : ℕ) (d : Token) → InOrder 0 (length text) ts → IsFirstEvent ts at
    → (get_or ts at d).span.from ≤ length text
starts_within text ts at d order x = all_within 0 (length text) ts order at d (slice_get_within ts at x.token x.is_token)

pub has_event : (text : List ℕ) (ts : List Token) (at line : ℕ) (d : Token) → lexed text ≡ tokens ts → IsFirstEvent ts at
    → line ≡ line_of text (get_or ts at d).span.from → HasEvent text line
has_event text ts at line d lexes x line_is =
    let there : slice_get ts at ≡ Some (get_or ts at d) = slice_get-get_or ts at d (slice_get_within ts at x.token x.is_token) in
    record { words = ts; lexes = lexes; at = at; is_first = x; line_is = line_is ∙ ap (λ o. line_of text (from_of text o)) (sym there) }

-- no text has one and none
pub one_or_none : (text : List ℕ) (line : ℕ) → HasNoEvent text → HasEvent text line → ⊥
one_or_none text line clean has =
    let same = same_tokens has.words clean.words (sym has.lexes ∙ clean.lexes) in
    let there : slice_get clean.words has.at ≡ Some has.is_first.token = ap (λ ws. slice_get ws has.at) (sym same) ∙ has.is_first.is_token in
    let is : get_or clean.words has.at has.is_first.token ≡ has.is_first.token = get_or_from_slice_get clean.words has.at _ _ there in
    let none = clean.none has.at has.is_first.token (slice_get_within clean.words has.at has.is_first.token there) in
    let both : true ≡ false = sym has.is_first.is_event ∙ sym (ap (λ t. is_event_kind t.kind) is) ∙ none in
    cc
