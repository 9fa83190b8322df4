-- Lines of a listing that give words, right behind what is placed.
use Rattle.std.proofs.Common.{◌≡◌, ◌≤◌, ◌<◌, ℕ, suc, zero, ◌+◌, ◌-◌, ◌*◌, ◌/◌, ◌%◌, ◌==◌, ◌&&◌, List, [], ◌∷◌, ◌++◌, length, map, drop, arith, refl, ap, sym}
use Rattle.std.proofs.Common.{subst, ◌∙◌, if◌then◌else◌, nat_lt, Bool, true, false, Option, Some, None, Ok, inl, inr, append_assoc, length-append, length-drop}
use Rattle.std.proofs.Common.{append-nil}
use Rattle.std.proofs.lemmas.Bool.Decides.{nat_tests}
use Rattle.std.specs.Prelude.{codes}
use Rattle.std.proofs.lemmas.List.{map-append}
use Rattle.msp_isa.specs.Encoding.{encoding, IsPrefix}
use Rattle.msp_isa.specs.declared.instructions.Instr.{Instr}
use Rattle.msp_isa.specs.declared.instructions.Instr.TheVariants as instr
use Rattle.image_text.proofs.Interface.{nones, put_seam, AreWords16}
use Rattle.asm_line.specs.Pieces.{Located, split, onto_first, place_all, bare, lines_left}
use Rattle.asm_line.specs.Values.{number}
use Rattle.asm_line.specs.Lines.{StatementMeaning, org, words, LineMeaning, line_of}
use Rattle.asm_line.proofs.Interface.{word_line_says, org_line_says}
use Rattle.msp_asm.specs.declared.labels.Place.{Place}
use Rattle.msp_isa.specs.declared.instructions.OneOp.TheVariants.{Rrc, Swpb, Rra, Sxt, Push, Call}
use Rattle.msp_asm.specs.Labels.{Table}
use Rattle.msp_asm.specs.Program.{after, said, line_fault, line_words, items}
use Rattle.msp_asm.specs.Placing.{line_into, place, put_or}
use Rattle.msp_asm.specs.Assembled.{labels_of, placed, note, ◌>>=◌}
use Rattle.msp_asm.specs.Alone.{meaning_alone}
use Rattle.msp_asm.specs.Written.{number_text, instr_text}
use Rattle.msp_asm.specs.Disassembly.{Stands, IsNext, AreLinesOf, instr_line, word_line}
use Rattle.msp_asm.specs.Laws.{GivesWords}
use Rattle.msp_asm.proofs.Alones.{alone_gives}
use Rattle.msp_asm.proofs.Moves.{moved_alone}
use Rattle.msp_asm.proofs.Plain.{ArePlain, plain_bare, instr_plain, word_plain, number_is, is_hex4}
use Rattle.msp_asm.proofs.Fronts.{front_short}
use Rattle.msp_asm.proofs.Listing.{behind_first}

-- the lines of a text that begins at a place
abbrev pub lines_at : ℕ → List ℕ → List Located
lines_at at text = lines_left (Some (record { at = at; text = text }))

split_by : (t : Bool) (b : ℕ) (bs rest : List ℕ) → t ≡ false → split 10 (bs ++ 10 ∷ rest) ≡ bs ∷ split 10 rest
    → (if t then [] ∷ split 10 (bs ++ 10 ∷ rest) else onto_first b (split 10 (bs ++ 10 ∷ rest))) ≡ (b ∷ bs) ∷ split 10 rest
split_by true b bs rest e ih = cc
split_by false b bs rest e ih = ap (onto_first b) ih

split_line : (l rest : List ℕ) → ArePlain l → split 10 (l ++ 10 ∷ rest) ≡ l ∷ split 10 rest
unfolding split
split_line [] rest h = refl
split_line (b ∷ bs) rest h = split_by (b == 10) b bs rest (let low = h.0 in grind (arith, nat_tests)) (split_line bs rest h.1)

-- a plain line, and the lines behind it
pub first_line : (at : ℕ) (l rest : List ℕ) → ArePlain l → lines_at at (l ++ 10 ∷ rest) ≡ record { at = at; text = l } ∷ lines_at (at + length l + 1) rest
first_line at l rest h = ap (λ ps. map bare (place_all at ps)) (split_line l rest h)
    ∙ ap (λ t. record { at = at; text = t } ∷ lines_at (at + length l + 1) rest) (plain_bare l h)

-- lines from an address on give words, and go on with other lines at another address
pub record Reads (a : ℕ) (ws : List ℕ) (b : ℕ) (ls ks : List Located) : Type 0 where
  pub labels : (f : Table) (n : ℕ) → (m : ℕ) × (labels_of f n a ls ≡ labels_of f m b ks)
  pub places : (f : Table) (n : ℕ) (done : List (Option ℕ)) (k : ℕ) → (0 < length ws → a ≡ 17408 + 2 * length done)
      → (m : ℕ) × (placed f n a (done ++ nones (length ws + k)) ls ≡ placed f m b ((done ++ map Some ws) ++ nones k) ks)

pub reads_none : (a : ℕ) (ls : List Located) → Reads a [] a ls ls
reads_none a ls = record {
  labels = λ f n. (n, refl);
  places =
      λ f n done k h. (
        n,
        ap (λ j. placed f n a (done ++ nones j) ls) (let z : 0 + k ≡ k = omega arith in z)
            ∙ ap (λ d. placed f n a (d ++ nones k) ls) (sym (append-nil done)),
      );
}

pub map_len : (xs : List ℕ) → length (map {B = Option ℕ} Some xs) ≡ length xs
map_len [] = refl
map_len (x ∷ xs) = ap suc (map_len xs)

pub reads_then : (a b c : ℕ) (ws vs : List ℕ) (ls ks js : List Located) → Reads a ws b ls ks → (0 < length vs → b ≡ a + 2 * length ws) → Reads b vs c ks js
    → Reads a (ws ++ vs) c ls js
reads_then a b c ws vs ls ks js r e q = record {
  labels = λ f n. both f n (r.labels f n);
  places = λ f n done k h. after_first f n done k h (r.places f n done (length vs + k) (λ s. h (omega (arith, length-append ws vs))));
}
  where
    both : (f : Table) (n : ℕ) → ((m : ℕ) × (labels_of f n a ls ≡ labels_of f m b ks)) → (m : ℕ) × (labels_of f n a ls ≡ labels_of f m c js)
    both f n (m, e) = let p = q.labels f m in (p.0, e ∙ p.1)

    after_first : (f : Table) (n : ℕ) (done : List (Option ℕ)) (k : ℕ) → (0 < length (ws ++ vs) → a ≡ 17408 + 2 * length done)
        → ((m : ℕ) × (placed f n a (done ++ nones (length ws + (length vs + k))) ls ≡ placed f m b ((done ++ map Some ws) ++ nones (length vs + k)) ks))
        → (m : ℕ) × (placed f n a (done ++ nones (length (ws ++ vs) + k)) ls ≡ placed f m c ((done ++ map Some (ws ++ vs)) ++ nones k) js)
    after_first f n done k h (m, g) =
        let at : 0 < length vs → b ≡ 17408 + 2 * length (done ++ map Some ws) = λ s.
        let first : a ≡ 17408 + 2 * length done = h (omega (arith, length-append ws vs)) in
        let next : b ≡ a + 2 * length ws = e s in
        omega (arith, length-append done (map Some ws), map_len ws) in
        let p = q.places f m (done ++ map Some ws) k at in (
          p.0,
          ap (λ j. placed f n a (done ++ nones j) ls) (let z : length (ws ++ vs) + k ≡ length ws + (length vs + k) = omega (arith, length-append ws vs) in z)
              ∙ g ∙ p.1
              ∙ ap (λ d. placed f p.0 c (d ++ nones k) js) (append_assoc done (map Some ws) (map Some vs) ∙ ap (λ r. done ++ r) (sym (map-append Some ws vs))),
        )

place_seam : (n a : ℕ) (done : List (Option ℕ)) (ws : List ℕ) (k : ℕ) → a ≡ 17408 + 2 * length done → a + 2 * length ws ≤ 65536
    → place n a ws (done ++ nones (length ws + k)) ≡ Ok ((done ++ map Some ws) ++ nones k)
place_seam n a done ws k e h =
    let low : nat_lt a 17408 ≡ false = grind (arith, nat_tests) in
    let high : nat_lt 65536 (a + 2 * length ws) ≡ false = grind (arith, nat_tests) in
    let index : (a - 17408) / 2 ≡ length done = omega arith in
    rw (low, high) (rw (both (nat_lt 0 (length ws))) (rw index (ap (put_or n) (put_seam done ws (length done) k refl))))
  where
    both : (b : Bool) → (b && false) ≡ false
    both true = refl
    both false = refl

line_seam : (f : Table) (n a : ℕ) (done : List (Option ℕ)) (m : LineMeaning) (ws : List ℕ) (k : ℕ) → GivesWords a m ws → a ≡ 17408 + 2 * length done
    → a + 2 * length ws ≤ 65536
    → line_into f n a m (done ++ nones (length ws + k)) ≡ Ok ((done ++ map Some ws) ++ nones k)
unfolding line_into
line_seam f n a done m ws k g e h = rw (g.fine f n, g.no_org, g.words f) (place_seam n a done ws k e h)

no_note : (f : Table) (label : Option Located) (p : Place) → label ≡ None → note f label p ≡ f
no_note f label p e = ap (λ l. note f l p) e

pub labels_past : (f : Table) (n a b : ℕ) (l : Located) (ks : List Located) (m : LineMeaning) → line_of l ≡ Some m → m.label ≡ None → after a m.statement ≡ b
    → labels_of f n a (l ∷ ks) ≡ labels_of f (n + 1) b ks
unfolding labels_of
labels_past f n a b l ks m e h g = ap (λ o. said n o >>= λ m. labels_of (note f m.label (record { address = a; line = n })) (n + 1) (after a m.statement) ks) e
    ∙ ap (λ f. labels_of f (n + 1) (after a m.statement) ks) (no_note f m.label (record { address = a; line = n }) h)
    ∙ ap (λ b. labels_of f (n + 1) b ks) g

pub placed_past : (f : Table) (n a b : ℕ) (s t : List (Option ℕ)) (l : Located) (ks : List Located) (m : LineMeaning) → line_of l ≡ Some m
    → line_into f n a m s ≡ Ok t → after a m.statement ≡ b
    → placed f n a s (l ∷ ks) ≡ placed f (n + 1) b t ks
unfolding placed
placed_past f n a b s t l ks m e h g = ap (λ o. said n o >>= λ m. line_into f n a m s >>= λ t. placed f (n + 1) (after a m.statement) t ks) e
    ∙ ap (λ r. r >>= λ t. placed f (n + 1) (after a m.statement) t ks) h
    ∙ ap (λ b. placed f (n + 1) b t ks) g

-- one line that gives words
line_reads : (a : ℕ) (l : Located) (ks : List Located) (m : LineMeaning) (ws : List ℕ) → line_of l ≡ Some m → m.label ≡ None → GivesWords a m ws → 0 < length ws
    → a + 2 * length ws ≤ 65536
    → Reads a ws ((a + 2 * length ws) % 65536) (l ∷ ks) ks
line_reads a l ks m ws e h g some room = record {
  labels = λ f n. (n + 1, labels_past f n a ((a + 2 * length ws) % 65536) l ks m e h g.next);
  places = λ f n done k at. (
    n + 1,
    placed_past f n a ((a + 2 * length ws) % 65536) (done ++ nones (length ws + k)) ((done ++ map Some ws) ++ nones k) l ks m e
        (line_seam f n a done m ws k g (at some) room) g.next,
  );
}

label_by : (a : ℕ) (name : Option Located) (s : StatementMeaning) (ws : List ℕ) → meaning_alone a (record { label = name; statement = s }) ≡ Some ws
    → name ≡ None
label_by a None s ws h = refl
label_by a (Some p) s ws h = cc

no_label : (a : ℕ) (m : LineMeaning) (ws : List ℕ) → meaning_alone a m ≡ Some ws → m.label ≡ None
no_label a m ws h = label_by a m.label m.statement ws h

word_gives : (a w : ℕ) → GivesWords a (record { label = None; statement = words (number w ∷ []) }) (w ∷ [])
unfolding line_fault line_words items
word_gives a w = record { fine = λ f n. refl; no_org = refl; words = λ f. refl; next = refl }

short_drop : (n : ℕ) (ws : List ℕ) → AreWords16 ws → AreWords16 (drop n ws)
short_drop zero ws h = h
short_drop (suc n) [] h = tt
short_drop (suc n) (w ∷ ws) h = short_drop n ws h.1

front_is : (xs ws : List ℕ) → IsPrefix xs ws → ws ≡ xs ++ drop (length xs) ws
front_is [] ws p = refl
front_is (x ∷ xs) [] p = absurd p
front_is (x ∷ xs) (w ∷ ws) p = ap (λ w. w ∷ ws) (sym p.0) ∙ ap (λ r. x ∷ r) (front_is xs ws p.1)

encoding_some : (i : Instr) → 1 ≤ length (encoding i)
encoding_some (instr.Two op w s d) = omega arith
encoding_some (instr.One (Rrc w o)) = omega arith
encoding_some (instr.One (Swpb o)) = omega arith
encoding_some (instr.One (Rra w o)) = omega arith
encoding_some (instr.One (Sxt o)) = omega arith
encoding_some (instr.One (Push w s)) = omega arith
encoding_some (instr.One (Call s)) = omega arith
encoding_some (instr.Jump c o) = omega arith
encoding_some instr.Reti = omega arith

-- the words of the next line, and those behind it
pub record NextReads (a at : ℕ) (ws line rest : List ℕ) (n : ℕ) : Type 0 where
  pub vs : List ℕ
  pub made : ws ≡ vs ++ drop n ws
  pub len : length vs ≡ n
  pub some : 1 ≤ n
  pub on : ℕ
  pub reads : Reads a vs ((a + 2 * length vs) % 65536) (lines_at at (line ++ rest)) (lines_at on rest)

pub line_then : (at : ℕ) (l rest : List ℕ) → ArePlain l
    → lines_at at ((l ++ 10 ∷ []) ++ rest) ≡ record { at = at; text = l } ∷ lines_at (at + length l + 1) rest
line_then at l rest h = ap (lines_at at) (append_assoc l (10 ∷ []) rest) ∙ first_line at l rest h

instr_reads : (a at : ℕ) (ws rest : List ℕ) (i : Instr) → Stands a ws i → a + 2 * length ws ≤ 65536
    → Reads a (encoding i) ((a + 2 * length (encoding i)) % 65536) (lines_at at (instr_line a i ++ rest)) (lines_at (at + length (instr_text a i) + 1) rest)
unfolding instr_line
instr_reads a at ws rest i s room =
    let says = moved_alone a at (instr_text a i) (encoding i) s.same in
    let short : length (encoding i) ≤ length ws = front_short (encoding i) ws s.whole in
    let P : List Located → Type 0 = λ ls. Reads a (encoding i) ((a + 2 * length (encoding i)) % 65536) ls (lines_at (at + length (instr_text a i) + 1) rest) in
    subst P (sym (line_then at (instr_text a i) rest (instr_plain a i)))
    (line_reads a (record { at = at; text = instr_text a i }) (lines_at (at + length (instr_text a i) + 1) rest) says.0 (encoding i) says.1
    (no_label a says.0 (encoding i) says.2) (alone_gives a says.0 (encoding i) says.2) (encoding_some i) (omega arith))

word_says : (at w : ℕ) → w < 65536 → line_of (record { at = at; text = codes ".word " ++ number_text w }) ≡ Some
    (record { label = None; statement = words (number w ∷ []) })
word_says at w h = ap (λ t. line_of (record { at = at; text = codes ".word " ++ t })) (number_is w) ∙ word_line_says at _ _ _ _ w (is_hex4 w h)

pub org_says : (at w : ℕ) → w < 65536 → line_of (record { at = at; text = codes ".org " ++ number_text w }) ≡ Some
    (record { label = None; statement = org (number w) })
org_says at w h = ap (λ t. line_of (record { at = at; text = codes ".org " ++ t })) (number_is w) ∙ org_line_says at _ _ _ _ w (is_hex4 w h)

word_reads : (a at w : ℕ) (rest : List ℕ) → w < 65536 → a + 2 ≤ 65536
    → Reads a (w ∷ []) ((a + 2 * length (w ∷ [])) % 65536) (lines_at at (word_line w ++ rest))
    (lines_at (at + length (codes ".word " ++ number_text w) + 1) rest)
unfolding word_line
word_reads a at w rest h room =
    let P : List Located → Type 0 =
    λ ls. Reads a (w ∷ []) ((a + 2 * length (w ∷ [])) % 65536) ls (lines_at (at + length (codes ".word " ++ number_text w) + 1) rest) in
    subst P (sym (line_then at (codes ".word " ++ number_text w) rest (word_plain w)))
    (line_reads a (record { at = at; text = codes ".word " ++ number_text w }) (lines_at (at + length (codes ".word " ++ number_text w) + 1) rest)
    (record { label = None; statement = words (number w ∷ []) }) (w ∷ []) (word_says at w h) refl (word_gives a w) (omega arith) (omega arith))

next_reads : (a at n : ℕ) (ws line rest : List ℕ) → IsNext a ws line n → AreWords16 ws → 0 < length ws → a + 2 * length ws ≤ 65536
    → NextReads a at ws line rest n
next_reads a at n ws line rest (inl (i, s, e, f)) short some room =
    let P : List ℕ → Type 0 =
    λ l. Reads a (encoding i) ((a + 2 * length (encoding i)) % 65536) (lines_at at (l ++ rest)) (lines_at (at + length (instr_text a i) + 1) rest) in
    record {
      vs = encoding i;
      made = front_is (encoding i) ws s.whole ∙ ap (λ k. encoding i ++ drop k ws) (sym f);
      len = sym f;
      some = (let one = encoding_some i in omega arith);
      on = at + length (instr_text a i) + 1;
      reads = subst P (sym e) (instr_reads a at ws rest i s room);
    }
next_reads a at n [] line rest (inr (none, e, f)) short some room = absurd (omega arith)
next_reads a at n (w ∷ ws) line rest (inr (none, e, f)) short some room =
    let P : List ℕ → Type 0 =
    λ l. Reads a (w ∷ []) ((a + 2 * length (w ∷ [])) % 65536) (lines_at at (l ++ rest))
    (lines_at (at + length (codes ".word " ++ number_text w) + 1) rest) in
    record {
      vs = w ∷ [];
      made = ap (λ k. (w ∷ []) ++ drop k (w ∷ ws)) (sym f);
      len = sym f;
      some = omega arith;
      on = at + length (codes ".word " ++ number_text w) + 1;
      reads = subst P (sym e) (word_reads a at w rest short.0 (omega arith));
    }

-- lines of a section, and how the text goes on
pub record ReadsOn (a at : ℕ) (ws text rest : List ℕ) : Type 0 where
  pub b : ℕ
  pub on : ℕ
  pub reads : Reads a ws b (lines_at at text) (lines_at on rest)

drop_len : (n : ℕ) (ws : List ℕ) → n ≤ length ws → n + length (drop n ws) ≡ length ws
drop_len n ws h = omega (arith, length-drop n ws)

more_lines : (a at n : ℕ) (ws line left rest rs : List ℕ) → drop n ws ≡ rs → NextReads a at ws line (left ++ rest) n → n ≤ length ws → a + 2 * length ws ≤ 65536
    → AreLinesOf (a + 2 * n) 0 rs left
    → ((on : ℕ) → ReadsOn (a + 2 * n) on rs (left ++ rest) rest) → ReadsOn a at ws (line ++ (left ++ rest)) rest
more_lines a at n ws line left rest [] e x high room none ih =
    let whole : x.vs ≡ ws = sym (x.made ∙ ap (λ r. x.vs ++ r) e ∙ append-nil x.vs) in
    let end : left ++ rest ≡ rest = ap (λ l. l ++ rest) none in
    let P : List ℕ → Type 0 = λ ws. Reads a ws ((a + 2 * length x.vs) % 65536) (lines_at at (line ++ (left ++ rest))) (lines_at x.on rest) in
    let Q : List ℕ → Type 0 = λ t. Reads a x.vs ((a + 2 * length x.vs) % 65536) (lines_at at (line ++ (left ++ rest))) (lines_at x.on t) in
    record { b = (a + 2 * length x.vs) % 65536; on = x.on; reads = subst P whole (subst Q end x.reads) }
more_lines a at n ws line left rest (r ∷ rs) e x high room none ih =
    let later : ReadsOn (a + 2 * n) x.on (r ∷ rs) (left ++ rest) rest = ih x.on in
    let len : n + length (drop n ws) ≡ length ws = drop_len n ws high in
    let more : length (drop n ws) ≡ suc (length rs) = ap length e in
    let k : length x.vs ≡ n = x.len in
    let same : (a + 2 * length x.vs) % 65536 ≡ a + 2 * n = omega arith in
    let P : ℕ → Type 0 = λ b. Reads a x.vs b (lines_at at (line ++ (left ++ rest))) (lines_at x.on (left ++ rest)) in
    let Q : List ℕ → Type 0 = λ ws. Reads a ws later.b (lines_at at (line ++ (left ++ rest))) (lines_at later.on rest) in
    record {
      b = later.b;
      on = later.on;
      reads = subst Q (sym (x.made ∙ ap (λ r. x.vs ++ r) e))
          (reads_then a (a + 2 * n) later.b x.vs (r ∷ rs) (lines_at at (line ++ (left ++ rest))) (lines_at x.on (left ++ rest)) (lines_at later.on rest)
          (subst P same x.reads) (λ s. omega arith) later.reads);
    }

-- the first line, and those behind it
first_of : (a : ℕ) (ws text : List ℕ) → AreWords16 ws → 0 < length ws → AreLinesOf a 0 ws text
    → (line : List ℕ) × (n : ℕ) × (left : List ℕ) × IsNext a ws line n × (n ≤ length ws) × (text ≡ line ++ left) × AreLinesOf (a + 2 * n) 0 (drop n ws) left
first_of a [] text short some h = absurd (omega arith)
first_of a (w ∷ ws) text short some (line, n, left, is, e, h) =
    let high : n ≤ length (w ∷ ws) = within is in
    (line, n, left, is, high, e, behind_first a n w ws left (low is) high h)
  where
    within : IsNext a (w ∷ ws) line n → n ≤ length (w ∷ ws)
    within (inl (i, s, e, f)) = let short = front_short (encoding i) (w ∷ ws) s.whole in omega arith
    within (inr (none, e, f)) = omega arith

    low : IsNext a (w ∷ ws) line n → 1 ≤ n
    low (inl (i, s, e, f)) = let one = encoding_some i in omega arith
    low (inr (none, e, f)) = omega arith

-- the lines of a section's words give these words
pub section_reads : (N a at : ℕ) (ws text rest : List ℕ) → length ws ≤ N → AreLinesOf a 0 ws text → AreWords16 ws → a + 2 * length ws ≤ 65536
    → ReadsOn a at ws (text ++ rest) rest
section_reads N a at [] text rest h is short room =
    let end : rest ≡ text ++ rest = ap (λ t. t ++ rest) (sym is) in
    let P : List ℕ → Type 0 = λ t. Reads a [] a (lines_at at t) (lines_at at rest) in
    record { b = a; on = at; reads = subst P end (reads_none a (lines_at at rest)) }
section_reads zero a at (w ∷ ws) text rest h is short room = absurd (omega arith)
section_reads (suc N) a at (w ∷ ws) text rest h is short room = section_by (first_of a (w ∷ ws) text short (omega arith) is) (section_reads N)
  where
    section_by : ((line : List ℕ) × (n : ℕ) × (left : List ℕ) × IsNext a (w ∷ ws) line n × (n ≤ length (w ∷ ws)) × (text ≡ line ++ left)
        × AreLinesOf (a + 2 * n) 0 (drop n (w ∷ ws)) left)
        → ((a at : ℕ) (ws text rest : List ℕ) → length ws ≤ N → AreLinesOf a 0 ws text → AreWords16 ws → a + 2 * length ws ≤ 65536
        → ReadsOn a at ws (text ++ rest) rest)
        → ReadsOn a at (w ∷ ws) (text ++ rest) rest
    section_by (line, n, left, next, high, e, lines) ih =
        let x : NextReads a at (w ∷ ws) line (left ++ rest) n = next_reads a at n (w ∷ ws) line (left ++ rest) next short (omega arith) room in
        let len : n + length (drop n (w ∷ ws)) ≡ length (w ∷ ws) = drop_len n (w ∷ ws) high in
        let one : 1 ≤ n = x.some in
        let P : List ℕ → Type 0 = λ t. ReadsOn a at (w ∷ ws) t rest in
        subst P (sym (ap (λ t. t ++ rest) e ∙ append_assoc line left rest))
        (more_lines a at n (w ∷ ws) line left rest (drop n (w ∷ ws)) refl x high room lines
        (λ on. ih (a + 2 * n) on (drop n (w ∷ ws)) left rest (omega arith) lines (short_drop n (w ∷ ws) short) (omega arith)))
