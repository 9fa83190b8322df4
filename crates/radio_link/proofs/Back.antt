-- What is printed of a schedule reads back as that schedule.
use Rattle.std.proofs.Common.{◌≡◌, ◌≤◌, ◌<◌, ◌^◌, ℕ, suc, ◌+◌, List, [], ◌∷◌, ◌++◌, length, map, arith, refl, ap, sym, subst, ◌∙◌, nat_lt, true, Some, Ok, All}
use Rattle.std.proofs.Common.{append_assoc, length-append, append-nil}
use Rattle.std.specs.Fmt.{decimal}
use Rattle.std.proofs.lemmas.Bool.Decides.{nat_tests}
use Rattle.alp_text.specs.Numbers.{number_of, limited}
use Rattle.alp_text.proofs.Interface.{number_back}
use Rattle.text_parts.specs.Lines.{lines, pieces}
use Rattle.text_parts.specs.Printed.{spaced, printed}
use Rattle.text_parts.proofs.Interface.{AreWords, line_back, lines_printed, decimal_word}
use Rattle.radio_link.specs.declared.entry.Entry.{Entry}
use Rattle.radio_link.specs.declared.entry.Entry.TheVariants.{StepsOfA, StepsOfB, BringPacket, BringAcknowledgement, Rounds}
use Rattle.radio_link.specs.Line.{entry, line_says, fields_say, named}
use Rattle.radio_link.specs.Text.{letter, number_in, IsEntry, entry_words, text_of}
use Rattle.radio_link.specs.Reading.{read, schedule_of}
use Rattle.radio_link.proofs.Steps.{read_end, read_more}

named_back : (e : Entry) → named (letter e) (number_in e) ≡ Some e
named_back (StepsOfA n) = refl
named_back (StepsOfB n) = refl
named_back (BringPacket k) = refl
named_back (BringAcknowledgement k) = refl
named_back (Rounds n) = refl

letter_word : (e : Entry) (ws : List (List ℕ)) → AreWords ws → AreWords (letter e ∷ ws)
letter_word (StepsOfA n) ws h = (omega arith, tt, h)
letter_word (StepsOfB n) ws h = (omega arith, tt, h)
letter_word (BringPacket k) ws h = (omega arith, tt, h)
letter_word (BringAcknowledgement k) ws h = (omega arith, tt, h)
letter_word (Rounds n) ws h = (omega arith, tt, h)

number_read : (n : ℕ) → n < 2 ^ 32 → limited (2 ^ 32) (number_of (decimal n)) ≡ Some n
number_read n h = let small : nat_lt n (2 ^ 32) ≡ true = grind (arith, nat_tests) in rw (number_back n (omega arith), small) refl

are_words : (e : Entry) → IsEntry e → AreWords (entry_words e)
are_words e h = letter_word e _ (decimal_word (number_in e) [] (omega arith) tt)

line_says_entry : (e : Entry) → IsEntry e → line_says (spaced (entry_words e)) ≡ Some (entry e)
unfolding line_says
line_says_entry e h = ap fields_say (line_back (entry_words e) (are_words e h)) ∙ rw (number_read (number_in e) h, named_back e) refl

-- printed entries are read behind others
read_entries : (n : ℕ) (es fs : List Entry) → All IsEntry fs → length es + length fs ≤ 65536
    → read n es (lines (printed (map entry_words fs))) ≡ Ok (es ++ fs)
unfolding printed pieces
read_entries n es [] h k = read_end n es [] refl ∙ ap Ok (sym (append-nil es))
read_entries n es (e ∷ fs) h k =
    let range : IsEntry e = h 0 e (omega arith) in
    let room : nat_lt (length es) 65536 ≡ true = grind (arith, nat_tests) in
    let one = read_more n es _ _ _ (lines_printed (entry_words e) (map entry_words fs) (are_words e range)) in
    let more = read_entries (n + 1) (es ++ e ∷ []) fs (λ i d l. h (suc i) d (omega arith)) (omega (arith, length-append es (e ∷ []))) in
    one ∙ rw (line_says_entry e range, room) (more ∙ ap Ok (append_assoc es (e ∷ []) fs))

-- what is printed of a schedule is read as that schedule
pub printed_back : (es fs : List Entry) (text : List ℕ) → fs ≡ es → length fs ≤ 65536 → All IsEntry fs → text ≡ text_of es → schedule_of text ≡ Ok es
printed_back es fs text same few ranges is =
    let P : List Entry → Type 0 = λ es. schedule_of (text_of es) ≡ Ok es in ap schedule_of is ∙ subst P same (read_entries 1 [] fs ranges (omega arith))
