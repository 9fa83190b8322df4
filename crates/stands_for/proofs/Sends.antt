-- Where a commit's sends are: which words, in which order, with which numbers.
use Rattle.stands_for.proofs.Names.{◌≡◌, ℕ, suc, ◌+◌, ◌*◌, ◌%◌, ◌<◌, ap, arith, MemoryMap, word_place, EmitCount, SentBase}

-- the number behind the last word of a commit
abbrev pub next_base : MemoryMap → (ℕ → ℕ) → ℕ
next_base m f = (f (word_place m SentBase) + f (word_place m EmitCount)) % 0x10000

-- word i of those to send, with its number
pub record IsEmit (m : MemoryMap) (f : ℕ → ℕ) (i number word : ℕ) : Type 0 where
  pub below : i < f (word_place m EmitCount)
  pub number_is : number ≡ (f (word_place m SentBase) + i) % 0x10000
  pub word_is : word ≡ f (m.emits.address + 2 * i)

-- i words were sent, and n are left, from this number and this address on
pub record IsSending (m : MemoryMap) (f : ℕ → ℕ) (n i number place : ℕ) : Type 0 where
  pub count : i + n ≡ f (word_place m EmitCount)
  pub number_is : number ≡ (f (word_place m SentBase) + i) % 0x10000
  pub place_is : place ≡ m.emits.address + 2 * i

-- all are left at first
pub sends_begin : (m : MemoryMap) (f : ℕ → ℕ) → f (word_place m SentBase) < 0x10000
    → IsSending m f (f (word_place m EmitCount)) 0 (f (word_place m SentBase)) m.emits.address
sends_begin m f small = record { count = omega arith; number_is = omega (arith, small); place_is = omega arith }

-- the next one, and the others behind it
pub next_emit : (m : MemoryMap) (f : ℕ → ℕ) (n i number place : ℕ) → IsSending m f (suc n) i number place → IsEmit m f i number (f place)
next_emit m f n i number place h = let e = h.count in record { below = omega (arith, e); number_is = h.number_is; word_is = ap f h.place_is }

pub sends_on : (m : MemoryMap) (f : ℕ → ℕ) (n i number place : ℕ) → IsSending m f (suc n) i number place
    → IsSending m f n (suc i) ((number + 1) % 0x10000) (place + 2)
sends_on m f n i number place h =
    let e = h.count in let ek = h.number_is in let ep = h.place_is in
    record { count = omega (arith, e); number_is = omega (arith, ek); place_is = omega (arith, ep) }
