-- Words that an instruction's words are the front of.
use Rattle.std.proofs.Common.{◌≡◌, ◌≢◌, ◌≤◌, ◌<◌, ℕ, List, [], ◌∷◌, length, get_or, arith, ap, sym, subst, ◌∙◌, Result, Ok, Err, Some}
use Rattle.msp_isa.specs.Encoding.{encoding, IsPrefix, IsInstruction}
use Rattle.msp_isa.specs.declared.instructions.Instr.{Instr}
use Rattle.msp_decode.proofs.Interface.{length_below, is_unique}
use Rattle.msp_decode.specs.declared.Illegal.{Illegal}
use Rattle.msp_asm.specs.Written.{instr_text}
use Rattle.msp_asm.specs.Alone.{line_alone}
use Rattle.msp_asm.specs.Disassembly.{Stands}

-- the first three words, with 0 for those that aren't there
pub front_padded : (xs ws : List ℕ) → IsPrefix xs ws → length xs < 4 → IsPrefix xs (get_or ws 0 0 ∷ get_or ws 1 0 ∷ get_or ws 2 0 ∷ [])
front_padded [] ws p h = tt
front_padded (x ∷ xs) [] p h = absurd p
front_padded (x ∷ []) (v ∷ vs) p h = p
front_padded (x ∷ y ∷ xs) (v ∷ []) (e, p) h = absurd p
front_padded (x ∷ y ∷ []) (v ∷ w ∷ ws) p h = p
front_padded (x ∷ y ∷ z ∷ xs) (v ∷ w ∷ []) (e, (f, p)) h = absurd p
front_padded (x ∷ y ∷ z ∷ []) (v ∷ w ∷ u ∷ ws) (e, (f, (g, r))) h = (e, (f, (g, tt)))
front_padded (x ∷ y ∷ z ∷ t ∷ xs) (v ∷ w ∷ u ∷ ws) p h = absurd (omega arith)

pub front_short : (xs ws : List ℕ) → IsPrefix xs ws → length xs ≤ length ws
front_short [] ws p = omega arith
front_short (x ∷ xs) [] p = absurd p
front_short (x ∷ xs) (w ∷ ws) (e, p) = let h = front_short xs ws p in omega arith

abbrev taken : Result (Instr × ℕ) Illegal → ℕ
taken (Ok p) = p.1
taken (Err e) = 0

second : (r : Result (Instr × ℕ) Illegal) (i j : Instr) (m n : ℕ) → r ≡ Ok (i, m) → r ≡ Ok (j, n) → m ≡ n
second r i j m n e f = ap taken (sym e ∙ f)

-- where the instruction that the first three words decode to goes on behind the words, no instruction is whole
pub none_whole : (i j : Instr) (n w1 w2 : ℕ) (ws : List ℕ) (r : Result (Instr × ℕ) Illegal) → w1 ≡ get_or ws 1 0 → w2 ≡ get_or ws 2 0
    → ((i : Instr) → IsInstruction i → IsPrefix (encoding i) (get_or ws 0 0 ∷ w1 ∷ w2 ∷ []) → r ≡ Ok (i, length (encoding i)))
    → r ≡ Ok (j, n) → length ws < n → IsInstruction i → IsPrefix (encoding i) ws → ⊥
none_whole i j n w1 w2 ws r e f only is h legal front =
    let padded : IsPrefix (encoding i) (get_or ws 0 0 ∷ w1 ∷ w2 ∷ []) = rw (e, f) (front_padded (encoding i) ws front (length_below i)) in
    let same : length (encoding i) ≡ n = second r i j (length (encoding i)) n (only i legal padded) is in
    let short : length (encoding i) ≤ length ws = front_short (encoding i) ws front in
    omega arith

-- where the line of the one instruction doesn't give its words, none stands there
pub none_stands : (a : ℕ) (ws : List ℕ) (j : Instr) → IsInstruction j → IsPrefix (encoding j) ws → line_alone a (instr_text a j) ≢ Some (encoding j)
    → (i : Instr) → Stands a ws i → ⊥
none_stands a ws j legal whole other i s =
    let same : i ≡ j = is_unique i j ws s.legal legal s.whole whole in
    let P : Instr → Type 0 = λ i. line_alone a (instr_text a i) ≡ Some (encoding i) in
    other (subst P same s.same)
