-- The steps of the two passes.
use Rattle.std.proofs.Common.{◌≡◌, ℕ, ◌+◌, List, [], ◌∷◌, refl, ap, sym, subst, ◌∙◌, Option, Some, None, Result, Ok, Err}
use Rattle.image_text.specs.Reading.{empty}
use Rattle.asm_line.specs.Pieces.{Located, lines_left}
use Rattle.asm_line.specs.Lines.{LineMeaning, line_of}
use Rattle.msp_asm.specs.declared.fault.AsmFault.{AsmFault}
use Rattle.msp_asm.specs.declared.fault.AsmFault.TheVariants as fault
use Rattle.msp_asm.specs.Labels.{Table}
use Rattle.msp_asm.specs.Program.{after, said}
use Rattle.msp_asm.specs.Placing.{line_into}
use Rattle.msp_asm.specs.Assembled.{labels_of, placed, note, no_labels, lines_in, all_words, assembled, Fails, ◌>>=◌}

labels_more : (f : Table) (n a : ℕ) (ls rest : List Located) (l : Located) → ls ≡ l ∷ rest
    → labels_of f n a ls ≡ (said n (line_of l) >>= λ m. labels_of (note f m.label (record { address = a; line = n })) (n + 1) (after a m.statement) rest)
unfolding labels_of
labels_more f n a ls rest l e = rw e refl

pub labels_bad : (f : Table) (n a : ℕ) (ls rest : List Located) (l : Located) → ls ≡ l ∷ rest → None ≡ line_of l → labels_of f n a ls ≡ Err (fault.BadLine n)
labels_bad f n a ls rest l e h = labels_more f n a ls rest l e
    ∙ ap (λ o. said n o >>= λ m. labels_of (note f m.label (record { address = a; line = n })) (n + 1) (after a m.statement) rest) (sym h)

pub labels_next : (f g : Table) (n a b : ℕ) (ls rest : List Located) (l : Located) (m : LineMeaning) → ls ≡ l ∷ rest → Some m ≡ line_of l
    → g ≡ note f m.label (record { address = a; line = n }) → b ≡ after a m.statement → labels_of g (n + 1) b rest ≡ labels_of f n a ls
labels_next f g n a b ls rest l m e h p q = rw (p, q) (sym (labels_more f n a ls rest l e
    ∙ ap (λ o. said n o >>= λ m. labels_of (note f m.label (record { address = a; line = n })) (n + 1) (after a m.statement) rest) (sym h)))

pub labels_end : (f : Table) (n a : ℕ) (ls : List Located) → ls ≡ [] → labels_of f n a ls ≡ Ok f
unfolding labels_of
labels_end f n a ls e = rw e refl

-- a fault is handed on
fails_bind : {A B : Type 0} (e : AsmFault) (r : Result A AsmFault) (f : A → Result B AsmFault) → Fails e r → Fails e (r >>= f)
fails_bind fault.Memory r f h = tt
fails_bind (fault.BadLine n) r f h = ap (λ x. x >>= f) h
fails_bind (fault.RepeatedName n name) r f h = ap (λ x. x >>= f) h
fails_bind (fault.UnknownName n name) r f h = ap (λ x. x >>= f) h
fails_bind (fault.OutOfRange n) r f h = ap (λ x. x >>= f) h
fails_bind (fault.JumpTooFar n) r f h = ap (λ x. x >>= f) h
fails_bind (fault.Outside n) r f h = ap (λ x. x >>= f) h
fails_bind (fault.Overlap n) r f h = ap (λ x. x >>= f) h

placed_more : (f : Table) (n a : ℕ) (m : List (Option ℕ)) (ls rest : List Located) (l : Located) → ls ≡ l ∷ rest
    → placed f n a m ls ≡ (said n (line_of l) >>= λ s. line_into f n a s m >>= λ m. placed f (n + 1) (after a s.statement) m rest)
unfolding placed
placed_more f n a m ls rest l e = rw e refl

pub placed_bad : (f : Table) (n a : ℕ) (m : List (Option ℕ)) (ls rest : List Located) (l : Located) → ls ≡ l ∷ rest → None ≡ line_of l
    → placed f n a m ls ≡ Err (fault.BadLine n)
placed_bad f n a m ls rest l e h = placed_more f n a m ls rest l e
    ∙ ap (λ o. said n o >>= λ s. line_into f n a s m >>= λ m. placed f (n + 1) (after a s.statement) m rest) (sym h)

-- a line that is one
placed_line : (f : Table) (n a : ℕ) (m : List (Option ℕ)) (ls rest : List Located) (l : Located) (s : LineMeaning) → ls ≡ l ∷ rest → Some s ≡ line_of l
    → placed f n a m ls ≡ (line_into f n a s m >>= λ m. placed f (n + 1) (after a s.statement) m rest)
placed_line f n a m ls rest l s e h = placed_more f n a m ls rest l e
    ∙ ap (λ o. said n o >>= λ s. line_into f n a s m >>= λ m. placed f (n + 1) (after a s.statement) m rest) (sym h)

pub placed_fault : (f : Table) (n a : ℕ) (m : List (Option ℕ)) (ls rest : List Located) (l : Located) (s : LineMeaning) (e : AsmFault) → ls ≡ l ∷ rest
    → Some s ≡ line_of l
    → Fails e (line_into f n a s m) → Fails e (placed f n a m ls)
placed_fault f n a m ls rest l s e i h fails = rw (placed_line f n a m ls rest l s i h)
    (fails_bind e _ (λ m. placed f (n + 1) (after a s.statement) m rest) fails)

pub placed_next : (f : Table) (n a b : ℕ) (m k : List (Option ℕ)) (ls rest : List Located) (l : Located) (s : LineMeaning) → ls ≡ l ∷ rest → Some s ≡ line_of l
    → line_into f n a s m ≡ Ok k → b ≡ after a s.statement → placed f (n + 1) b k rest ≡ placed f n a m ls
placed_next f n a b m k ls rest l s e h p q = rw q (sym (placed_line f n a m ls rest l s e h
    ∙ ap (λ r. r >>= λ m. placed f (n + 1) (after a s.statement) m rest) p))

pub placed_end : (f : Table) (n a : ℕ) (m : List (Option ℕ)) (ls : List Located) → ls ≡ [] → placed f n a m ls ≡ Ok m
unfolding placed
placed_end f n a m ls e = rw e refl

abbrev whole : List ℕ → Located
whole text = record { at = 0; text = text }

pub assembled_bad : (e : AsmFault) (text : List ℕ) (p : Located) → p ≡ whole text → Fails e (labels_of no_labels 1 0x4400 (lines_left (Some p)))
    → Fails e (assembled text)
unfolding assembled
assembled_bad e text p i h = let P : Located → Type 0 = λ p. Fails e (labels_of no_labels 1 0x4400 (lines_left (Some p))) in
    fails_bind e (labels_of no_labels 1 0x4400 (lines_in text)) (λ f. placed f 1 0x4400 (empty 24064) (lines_in text) >>= λ m. Ok (all_words m)) (subst P i h)

second_pass : (f : Table) (text : List ℕ) (p : Located) → p ≡ whole text → labels_of no_labels 1 0x4400 (lines_left (Some p)) ≡ Ok f
    → assembled text ≡ (placed f 1 0x4400 (empty 24064) (lines_left (Some p)) >>= λ m. Ok (all_words m))
unfolding assembled
second_pass f text p i h = ap (λ r. r >>= λ f. placed f 1 0x4400 (empty 24064) (lines_in text) >>= λ m. Ok (all_words m))
    (ap (λ p. labels_of no_labels 1 0x4400 (lines_left (Some p))) (sym i) ∙ h)
    ∙ ap (λ p. placed f 1 0x4400 (empty 24064) (lines_left (Some p)) >>= λ m. Ok (all_words m)) (sym i)

pub assembled_fault : (e : AsmFault) (f : Table) (text : List ℕ) (p : Located) → p ≡ whole text → labels_of no_labels 1 0x4400 (lines_left (Some p)) ≡ Ok f
    → Fails e (placed f 1 0x4400 (empty 24064) (lines_left (Some p))) → Fails e (assembled text)
assembled_fault e f text p i h fails = rw (second_pass f text p i h) (fails_bind e _ (λ m. Ok (all_words m)) fails)

pub assembled_done : (f : Table) (m : List (Option ℕ)) (text : List ℕ) (p : Located) → p ≡ whole text
    → labels_of no_labels 1 0x4400 (lines_left (Some p)) ≡ Ok f
    → placed f 1 0x4400 (empty 24064) (lines_left (Some p)) ≡ Ok m → assembled text ≡ Ok (all_words m)
assembled_done f m text p i h k = second_pass f text p i h ∙ ap (λ r. r >>= λ m. Ok (all_words m)) k
