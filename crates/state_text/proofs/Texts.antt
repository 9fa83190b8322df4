-- A text is read as a state exactly where it is the text of an image, or that and the receiver's line.
use Rattle.std.proofs.Common.{◌≡◌, ◌<◌, ◌^◌, ℕ, List, [], ◌∷◌, ◌++◌, refl, ap, sym, subst, ◌∙◌, inl, inr, Option, Some, Result, Ok, Err, codes, append_assoc}
use Rattle.std.specs.Fmt.{decimal}
use Rattle.text_parts.specs.Lines.{lines}
use Rattle.text_parts.specs.Printed.{spaced, printed}
use Rattle.text_parts.proofs.Interface.{printed_append}
use Rattle.image_map.specs.declared.fault.MapFault.{MapFault}
use Rattle.image_map.specs.declared.fault.MapFault.TheVariants as map_fault
use Rattle.image_map.specs.MapValue.{MapValue}
use Rattle.image_text.specs.declared.fault.ImageFault.{ImageFault}
use Rattle.image_text.specs.declared.fault.ImageFault.TheVariants as fault
use Rattle.image_text.specs.ImageValue.{ImageValue}
use Rattle.image_text.specs.Reading.{◌>>=◌, Front, Gives, front_of, map_behind, image_behind, image_lines, image_of}
use Rattle.image_text.specs.Meaning.{IsFrontOf}
use Rattle.image_text.specs.Text.{text_of, lines_of_sections, sections, map_part}
use Rattle.image_text.proofs.Interface.{FrontAhead, front_ahead, front_meaning}
use Rattle.state_text.specs.declared.state.State.{State}
use Rattle.state_text.specs.Reading.{receiver_of, Tail, tail_of, as_fault, state_with, state_behind, state_lines, state_of}
use Rattle.state_text.specs.Meaning as meaning
use Rattle.state_text.specs.Meaning.{IsStateText, WithNumber}
use Rattle.state_text.specs.Text.{receiver_fields}
use Rattle.state_text.proofs.Feeds.{printed_part}
use Rattle.state_text.proofs.Receivers.{EndsState, receiver_ends, receiver_back, receiver_lines}
use Rattle.state_text.proofs.Tails.{IsTail, tail_behind, tail_is}

-- what is read of an image's lines, with the end of a state behind them
image_more : (ls more : List (List ℕ)) (i : ImageValue) (k : ℕ) → EndsState more k → image_lines ls ≡ Ok i
    → state_lines (ls ++ more) ≡ Ok (record { image = i; receiver = k })
image_more ls more i k ends h = by_front (front_of ls) (front_ahead ls) h
  where
    image_or : Result ImageValue ImageFault → ImageValue
    image_or (Ok v) = v
    image_or (Err e) = i

    by_map : (f : Front) (r : Result (Option MapValue) ImageFault) → map_behind f.line f.rest ≡ r
        → (r >>= λ o. Ok (record { words = f.words; map = o })) ≡ Ok i → front_of (ls ++ more) ≡ Ok (record f { rest = f.rest ++ more })
        → state_lines (ls ++ more) ≡ Ok (record { image = i; receiver = k })
    by_map f (Err e) m h on = cc
    by_map f (Ok o) m h on =
        ap (λ r. r >>= λ f. as_fault (state_behind f.line f.words f.rest)) on
        ∙ ap (λ r. as_fault (r >>= λ t. Ok (state_with f.words t))) (tail_behind f.line f.rest more o k ends m)
        ∙ ap (λ r. Ok (record { image = image_or r; receiver = k })) h

    by_front : (r : Result Front ImageFault) → FrontAhead front_of ls r → (r >>= λ f. image_behind f.line f.words f.rest) ≡ Ok i
        → state_lines (ls ++ more) ≡ Ok (record { image = i; receiver = k })
    by_front (Err e) c h = cc
    by_front (Ok f) (front, made, on) h =
        let lines_are : ls ++ more ≡ front ++ (f.rest ++ more) = ap (λ ls. ls ++ more) made ∙ append_assoc front f.rest more in
        by_map f (map_behind f.line f.rest) refl h (ap front_of lines_are ∙ on (f.rest ++ more))

-- an image and one line more
pub number_state : (before : List (List ℕ)) (l : List ℕ) (i : ImageValue) (k : ℕ) → image_lines before ≡ Ok i → receiver_of l ≡ Some k
    → state_lines (before ++ l ∷ []) ≡ Ok (record { image = i; receiver = k })
number_state before l i k h n = image_more before (l ∷ []) i k (receiver_ends l k n) h

-- what is read as a state is one
pub state_is : (ls : List (List ℕ)) (s : State) → state_lines ls ≡ Ok s → IsStateText ls s
state_is ls s h = by_front (front_of ls) (front_ahead ls) refl h
  where
    state_or : Result State ImageFault → State
    state_or (Ok s) = s
    state_or (Err e) = s

    by_tail : (f : Front) (front : List (List ℕ)) (t : Tail) → front_of ls ≡ Ok f → ls ≡ front ++ f.rest
        → ((rest : List (List ℕ)) → front_of (front ++ rest) ≡ Ok (record f { rest = rest })) → IsTail f.line f.rest t → IsStateText ls (state_with f.words t)
    by_tail f front t e made on (inl (m, none)) =
        inl (ap (λ r. r >>= λ f. image_behind f.line f.words f.rest) e ∙ ap (λ r. r >>= λ o. Ok (record { words = f.words; map = o })) m, none)
    by_tail f front t e made on (inr w) = inr (record {
      before = front ++ w.before;
      line = w.line;
      made = made ∙ ap (λ r. front ++ r) w.made ∙ sym (append_assoc front w.before (w.line ∷ []));
      image = ap (λ r. r >>= λ f. image_behind f.line f.words f.rest) (on w.before) ∙ ap (λ r. r >>= λ o. Ok (record { words = f.words; map = o })) w.map;
      number = w.number;
    })

    with_tail : (f : Front) (front : List (List ℕ)) (r : Result Tail MapFault) → front_of ls ≡ Ok f → ls ≡ front ++ f.rest
        → ((rest : List (List ℕ)) → front_of (front ++ rest) ≡ Ok (record f { rest = rest })) → tail_of f.line f.rest ≡ r
        → (as_fault (r >>= λ t. Ok (state_with f.words t))) ≡ Ok s → IsStateText ls s
    with_tail f front (Err g) e made on t h = cc
    with_tail f front (Ok u) e made on t h =
        let P : State → Type 0 = λ s. IsStateText ls s in
        subst P (ap state_or h) (by_tail f front u e made on (tail_is f.line f.rest u t))

    by_front : (r : Result Front ImageFault) → FrontAhead front_of ls r → front_of ls ≡ r
        → (r >>= λ f. as_fault (state_behind f.line f.words f.rest)) ≡ Ok s → IsStateText ls s
    by_front (Err e) c f h = cc
    by_front (Ok f) (front, made, on) e h = with_tail f front (tail_of f.line f.rest) e made on refl h

-- what lines come to
state_meaning : (ls : List (List ℕ)) → meaning.IsMeaningOf ls (state_lines ls)
state_meaning ls = by_front (front_of ls) (front_meaning ls) refl
  where
    by_tail : (f : Front) (r : Result Tail MapFault) → IsFrontOf ls (Ok f) → front_of ls ≡ Ok f → tail_of f.line f.rest ≡ r
        → meaning.IsMeaningOf ls (as_fault (r >>= λ t. Ok (state_with f.words t)))
    by_tail f (Ok t) h e said = state_is ls (state_with f.words t)
        (ap (λ r. r >>= λ f. as_fault (state_behind f.line f.words f.rest)) e ∙ ap (λ r. as_fault (r >>= λ t. Ok (state_with f.words t))) said)
    by_tail f (Err (map_fault.BadMap n)) h e said = (f, h, said)
    by_tail f (Err map_fault.Memory) h e said = tt

    by_front : (r : Result Front ImageFault) → IsFrontOf ls r → front_of ls ≡ r
        → meaning.IsMeaningOf ls (r >>= λ f. as_fault (state_behind f.line f.words f.rest))
    by_front (Ok f) h e = by_tail f (tail_of f.line f.rest) h e refl
    by_front (Err (fault.BadLine n)) h e = h
    by_front (Err (fault.OutsideFram n)) h e = h
    by_front (Err (fault.Twice n)) h e = h
    by_front (Err (fault.BadMap n)) h e = absurd h
    by_front (Err fault.NoReset) h e = h
    by_front (Err fault.Memory) h e = tt

-- so does what a call gives
pub meaning_is : (r : Result State ImageFault) (ls : List (List ℕ)) → Gives (λ s. s) r (state_lines ls) → meaning.IsMeaningOf ls r
meaning_is r ls h = by_result r h (state_meaning ls)
  where
    by_result : (r : Result State ImageFault) → Gives (λ s. s) r (state_lines ls) → meaning.IsMeaningOf ls (state_lines ls) → meaning.IsMeaningOf ls r
    by_result (Ok v) h m = let P : Result State ImageFault → Type 0 = λ r. meaning.IsMeaningOf ls r in subst P h m
    by_result (Err (fault.BadLine n)) h m = let P : Result State ImageFault → Type 0 = λ r. meaning.IsMeaningOf ls r in subst P h m
    by_result (Err (fault.OutsideFram n)) h m = let P : Result State ImageFault → Type 0 = λ r. meaning.IsMeaningOf ls r in subst P h m
    by_result (Err (fault.Twice n)) h m = let P : Result State ImageFault → Type 0 = λ r. meaning.IsMeaningOf ls r in subst P h m
    by_result (Err (fault.BadMap n)) h m = let P : Result State ImageFault → Type 0 = λ r. meaning.IsMeaningOf ls r in subst P h m
    by_result (Err fault.NoReset) h m = let P : Result State ImageFault → Type 0 = λ r. meaning.IsMeaningOf ls r in subst P h m
    by_result (Err fault.Memory) h m = tt

-- the text of an image and the line of the receiver are parted into their lines
text_part : (ws : List ℕ) (o : Option MapValue) (b : List ℕ) → lines ((text_of ws ++ printed (map_part o)) ++ b)
    ≡ lines (text_of ws ++ printed (map_part o)) ++ lines b
unfolding text_of
text_part ws o b =
    let all : List (List (List ℕ)) = lines_of_sections (sections 0 ws) ++ map_part o in
    let text : text_of ws ++ printed (map_part o) ≡ printed all = sym (printed_append (lines_of_sections (sections 0 ws)) (map_part o)) in
    ap (λ t. lines (t ++ b)) text ∙ printed_part all b ∙ ap (λ t. lines t ++ lines b) (sym text)

-- what is printed of a state reads back
pub state_back : (i : ImageValue) (n : ℕ) (text : List ℕ) → n < 2 ^ 16 → text ≡ text_of i.words ++ printed (map_part i.map) → image_of text ≡ Ok i
    → state_of (text ++ printed (receiver_fields n)) ≡ Ok (record { image = i; receiver = n })
state_back i n text h is back =
    let line : List ℕ = spaced (codes "receiver" ∷ decimal n ∷ []) in
    let parted : lines (text ++ printed (receiver_fields n)) ≡ lines text ++ line ∷ [] =
    ap (λ t. lines (t ++ printed (receiver_fields n))) is ∙ text_part i.words i.map (printed (receiver_fields n))
    ∙ ap (λ t. lines t ++ lines (printed (receiver_fields n))) (sym is) ∙ ap (λ r. lines text ++ r) (receiver_lines n h) in
    ap state_lines parted ∙ number_state (lines text) line i n back (receiver_back n h)
