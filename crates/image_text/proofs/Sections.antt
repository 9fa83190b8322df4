-- Sections that are printed read back as what they place.
use Rattle.std.proofs.Common.{◌≡◌, ◌≤◌, ◌<◌, ℕ, suc, zero, ◌+◌, ◌*◌, List, [], ◌∷◌, ◌++◌, length, map, arith, refl, ap, sym, ◌∙◌, true, false, Option, Some}
use Rattle.std.proofs.Common.{None, append_assoc, length-append}
use Rattle.std.specs.List.{concat}
use Rattle.text_parts.specs.Lines.{lines}
use Rattle.text_parts.specs.Printed.{printed}
use Rattle.text_parts.proofs.Interface.{lines_printed}
use Rattle.image_text.specs.Memory.{Placed, step}
use Rattle.image_text.specs.Reading.{read, finish}
use Rattle.image_text.specs.Text.{upper_hex4, bytes_in, Section, section_lines, lines_of_sections}
use Rattle.text_parts.specs.Groups.{groups}
use Rattle.text_parts.specs.Hex.{upper_hex}
use Rattle.image_text.proofs.Lines.{read_next, read_quit}
use Rattle.image_text.proofs.Places.{nones, nones_more}
use Rattle.image_text.proofs.Back.{AreWords16, joined_groups, are_groups, seam, read_groups, line_at, line_quit, upper_hex4_words, length_some}

-- a run behind a gap
pub record Stands (done : List (Option ℕ)) (r : Section) (k gap left : ℕ) : Type 0 where
  pub room : k ≡ gap + (length (bytes_in r.words) + left)
  pub here : 2 * r.place ≡ length done + gap
  pub are_words : AreWords16 r.words
  pub some : 0 < length (bytes_in r.words)

-- the sections, behind what is placed and with so many places left, make this memory
abbrev pub Holds : List (Option ℕ) → List Section → ℕ → List (Option ℕ) → Type 0
Holds done [] k final = final ≡ done ++ nones k
Holds done (r ∷ rs) k final = (gap : ℕ) × (left : ℕ) × Stands done r k gap left × Holds ((done ++ nones gap) ++ map Some (bytes_in r.words)) rs left final

-- so many places
pub length_nones : (k : ℕ) → length (nones k) ≡ k
length_nones zero = refl
length_nones (suc k) = ap suc (length_nones k)

-- places behind places
pub nones_append : (m n : ℕ) → nones (m + n) ≡ nones m ++ nones n
nones_append zero n = ap nones (let e : 0 + n ≡ n = omega arith in e)
nones_append (suc m) n = nones_more m n ∙ ap (λ r. None ∷ r) (nones_append m n)

-- what is printed of a run is read to the place behind it
read_run : (n : ℕ) (p : Option ℕ) (done : List (Option ℕ)) (r : Section) (rest : List (List (List ℕ))) (k gap left : ℕ) → Stands done r k gap left
    → length done + k ≤ 48128
    → (m : ℕ) × (read n (record { next = p; memory = done ++ nones k }) (lines (printed (section_lines r ++ rest)))
    ≡ read m (seam ((done ++ nones gap) ++ map Some (bytes_in r.words)) left) (lines (printed rest)))
read_run n p done r rest k gap left h room =
    let bs : List ℕ = bytes_in r.words in
    let gs : List (List ℕ) = map bytes_in (groups 8 r.words) in
    let start : List (Option ℕ) = done ++ nones gap in
    let e : concat gs ≡ bs = joined_groups r.words in
    let le : length (concat gs) ≡ length bs = ap length e in
    let k_is : k ≡ gap + (length bs + left) = h.room in
    let place_is : 2 * r.place ≡ length done + gap = h.here in
    let len : length start ≡ length done + gap = omega (arith, length-append done (nones gap), length_nones gap) in
    let a : ℕ = 17408 + 2 * r.place in
    let there : a ≡ 17408 + length start = omega arith in
    let memory : done ++ nones k ≡ start ++ nones (length (concat gs) + left) =
    ap (λ j. done ++ nones j) k_is ∙ ap (λ r. done ++ r) (nones_append gap (length bs + left)) ∙ sym (append_assoc done (nones gap) (nones (length bs + left)))
    ∙ ap (λ j. start ++ nones (j + left)) (sym le) in
    let small : a < 65536 = (let s = h.some in omega arith) in
    let first = read_next n (record { next = p; memory = done ++ nones k }) (record { next = Some a; memory = done ++ nones k }) _ _ _ true
    (lines_printed ((64 ∷ upper_hex4 a) ∷ []) (map (map upper_hex) gs ++ rest) (upper_hex4_words a small))
    (ap (step n (record { next = p; memory = done ++ nones k })) (line_at a small)) refl in
    let fits : 17408 + length start + length (concat gs) ≤ 65536 = omega arith in (
      n + 1 + length gs,
      sym first
          ∙ ap (λ x. read (n + 1) (record { next = Some x; memory = done ++ nones k }) (lines (printed (map (map upper_hex) gs ++ rest)))) there
          ∙ ap (λ x. read (n + 1) (record { next = Some (17408 + length start); memory = x }) (lines (printed (map (map upper_hex) gs ++ rest)))) memory
          ∙ read_groups (n + 1) start gs left rest (are_groups r.words h.are_words) fits
          ∙ ap (λ x. read (n + 1 + length gs) (seam (start ++ map Some x) left) (lines (printed rest))) e,
    )

read_end : (n : ℕ) (p : Placed) (more : List (List (List ℕ)))
    → read n p (lines (printed (((113 ∷ []) ∷ []) ∷ more))) ≡ finish (n + 1) p.memory (lines (printed more))
read_end n p more = read_quit n p p _ (lines (printed more)) _ false (lines_printed ((113 ∷ []) ∷ []) more (omega arith, tt, tt)) (ap (step n p) line_quit) refl

-- what is printed of sections is read up to what stands behind them
pub read_runs : (n : ℕ) (p : Option ℕ) (done : List (Option ℕ)) (rs : List Section) (k : ℕ) (final : List (Option ℕ)) (more : List (List (List ℕ)))
    → Holds done rs k final → length done + k ≤ 48128
    → (m : ℕ) × (read n (record { next = p; memory = done ++ nones k }) (lines (printed (lines_of_sections rs ++ more))) ≡ finish m final
    (lines (printed more)))
unfolding lines_of_sections
read_runs n p done [] k final more h room =
    (n + 1, read_end n (record { next = p; memory = done ++ nones k }) more ∙ ap (λ f. finish (n + 1) f (lines (printed more))) (sym h))
read_runs n p done (r ∷ rs) k final more (gap, left, s, h) room =
    let run = read_run n p done r (lines_of_sections rs ++ more) k gap left s room in
    let now : List (Option ℕ) = (done ++ nones gap) ++ map Some (bytes_in r.words) in
    let len : length now ≡ length done + gap + length (bytes_in r.words) =
    omega (
      arith,
      length-append (done ++ nones gap) (map Some (bytes_in r.words)),
      length-append done (nones gap),
      length_nones gap,
      length_some (bytes_in r.words),
    ) in
    let k_is : k ≡ gap + (length (bytes_in r.words) + left) = s.room in
    let later = read_runs run.0 (Some (17408 + length now)) now rs left final more h (omega arith) in (
      later.0,
      ap (λ ls. read n (record { next = p; memory = done ++ nones k }) (lines (printed ls)))
          (append_assoc (section_lines r) (lines_of_sections rs) more) ∙ run.1 ∙ later.1,
    )
