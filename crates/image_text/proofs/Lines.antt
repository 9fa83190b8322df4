-- The steps of reading, and the words of bytes.
use Rattle.std.proofs.Common.{◌≡◌, ◌≤◌, ◌<◌, ℕ, suc, ◌+◌, ◌*◌, List, [], ◌∷◌, ◌++◌, length, drop, get_or, drop-cons, add-one, arith, ◌&&◌, refl, ap, sym, ◌∙◌}
use Rattle.std.proofs.Common.{Bool, true, false, Option, None, Result, Ok, Err, append_assoc}
use Rattle.std.specs.Prelude.{unwrap_or}
use Rattle.image_map.specs.Reading.{goes_on}
use Rattle.image_text.proofs.Puts.{drop_end}
use Rattle.text_parts.specs.Fields.{fields, no_fields}
use Rattle.image_text.specs.declared.fault.ImageFault.{ImageFault}
use Rattle.image_text.specs.Line.{line_says}
use Rattle.image_text.specs.Memory.{Placed, step}
use Rattle.image_text.specs.Reading.{read, are_blank, finish, Fails, ◌>>=◌, words_of}
use Rattle.image_text.specs.declared.fault.ImageFault.TheVariants as fault

pub blank_end : (ls : List (List ℕ)) → ls ≡ [] → are_blank ls ≡ true
unfolding are_blank
blank_end ls e = rw e refl

blank_by : (ls rest : List (List ℕ)) (l : List ℕ) → ls ≡ l ∷ rest → are_blank ls ≡ (no_fields (fields l) && are_blank rest)
unfolding are_blank
blank_by ls rest l e = rw e refl

pub blank_not : (ls rest : List (List ℕ)) (l : List ℕ) (b : Bool) → ls ≡ l ∷ rest → b ≡ no_fields (fields l) → b ≡ false → are_blank ls ≡ false
blank_not ls rest l b e h t = blank_by ls rest l e ∙ ap (λ b. b && are_blank rest) (sym h ∙ t)

pub blank_more : (ls rest : List (List ℕ)) (l : List ℕ) (b : Bool) → ls ≡ l ∷ rest → b ≡ no_fields (fields l) → b ≡ true → are_blank rest ≡ are_blank ls
blank_more ls rest l b e h t = sym (blank_by ls rest l e ∙ ap (λ b. b && are_blank rest) (sym h ∙ t))

pub read_end : (n : ℕ) (p : Placed) (ls : List (List ℕ)) → ls ≡ [] → read n p ls ≡ Err (fault.BadLine n)
unfolding read
read_end n p ls e = rw e refl

read_more : (n : ℕ) (p : Placed) (ls rest : List (List ℕ)) (l : List ℕ) → ls ≡ l ∷ rest
    → read n p ls ≡ (step n p (line_says l) >>= λ o. goes_on o.0 (read (n + 1) o.1 rest) (finish (n + 1) o.1.memory rest))
unfolding read
read_more n p ls rest l e = rw e refl

-- a fault is handed on
pub fails_bind : {A B : Type 0} (e : ImageFault) (r : Result A ImageFault) (f : A → Result B ImageFault) → Fails e r → Fails e (r >>= f)
fails_bind (fault.BadLine n) r f h = ap (λ x. x >>= f) h
fails_bind (fault.OutsideFram n) r f h = ap (λ x. x >>= f) h
fails_bind (fault.Twice n) r f h = ap (λ x. x >>= f) h
fails_bind (fault.BadMap n) r f h = ap (λ x. x >>= f) h
fails_bind fault.NoReset r f h = ap (λ x. x >>= f) h
fails_bind fault.Memory r f h = tt

-- the fault of a line, what follows it, and what ends there
pub read_fault : (n : ℕ) (p : Placed) (ls rest : List (List ℕ)) (l : List ℕ) (f : ImageFault) → ls ≡ l ∷ rest → Fails f (step n p (line_says l))
    → Fails f (read n p ls)
read_fault n p ls rest l f e h = rw (read_more n p ls rest l e) (fails_bind f _ (λ o. goes_on o.0 (read (n + 1) o.1 rest) (finish (n + 1) o.1.memory rest)) h)

pub read_next : (n : ℕ) (p q : Placed) (ls rest : List (List ℕ)) (l : List ℕ) (on : Bool) → ls ≡ l ∷ rest → step n p (line_says l) ≡ Ok (on, q) → on ≡ true
    → read (n + 1) q rest ≡ read n p ls
read_next n p q ls rest l on e h t = sym (read_more n p ls rest l e
    ∙ ap (λ r. r >>= λ o. goes_on o.0 (read (n + 1) o.1 rest) (finish (n + 1) o.1.memory rest)) h
    ∙ ap (λ b. goes_on b (read (n + 1) q rest) (finish (n + 1) q.memory rest)) t)

pub read_quit : (n : ℕ) (p q : Placed) (ls rest : List (List ℕ)) (l : List ℕ) (on : Bool) → ls ≡ l ∷ rest → step n p (line_says l) ≡ Ok (on, q) → on ≡ false
    → read n p ls ≡ finish (n + 1) q.memory rest
read_quit n p q ls rest l on e h t = read_more n p ls rest l e
    ∙ ap (λ r. r >>= λ o. goes_on o.0 (read (n + 1) o.1 rest) (finish (n + 1) o.1.memory rest)) h
    ∙ ap (λ b. goes_on b (read (n + 1) q rest) (finish (n + 1) q.memory rest)) t

add_two : (k : ℕ) → k + 2 ≡ suc (suc k)
add_two k = omega arith

pub words_pair : (m : List (Option ℕ)) (k : ℕ) → k + 1 < length m
    → words_of (drop k m) ≡ (unwrap_or (get_or m k None) 0 + 256 * unwrap_or (get_or m (k + 1) None) 0) ∷ words_of (drop (k + 2) m)
unfolding words_of
words_pair m k h = ap words_of (drop-cons m k None (omega arith) ∙ ap (λ r. get_or m k None ∷ r) (drop-cons m (suc k) None (omega arith)))
    ∙ rw (add-one k, add_two k) refl

pub words_more : (m : List (Option ℕ)) (ws : List ℕ) (i w : ℕ) → 2 * i + 1 < length m
    → w ≡ unwrap_or (get_or m (2 * i) None) 0 + 256 * unwrap_or (get_or m (2 * i + 1) None) 0
    → (ws ++ w ∷ []) ++ words_of (drop (2 * (i + 1)) m) ≡ ws ++ words_of (drop (2 * i) m)
words_more m ws i w h e = append_assoc ws (w ∷ []) (words_of (drop (2 * (i + 1)) m))
    ∙ ap (λ j. ws ++ w ∷ words_of (drop j m)) (let k : 2 * (i + 1) ≡ 2 * i + 2 = omega arith in k)
    ∙ ap (λ v. ws ++ v ∷ words_of (drop (2 * i + 2) m)) e
    ∙ ap (λ r. ws ++ r) (sym (words_pair m (2 * i) h))

no_words : words_of [] ≡ []
unfolding words_of
no_words = refl

append_nil : (xs : List ℕ) → xs ++ words_of [] ≡ xs
append_nil [] = no_words
append_nil (x ∷ xs) = ap (λ r. x ∷ r) (append_nil xs)

pub words_end : (m : List (Option ℕ)) (ws : List ℕ) (i : ℕ) → length m ≤ 2 * i → ws ++ words_of (drop (2 * i) m) ≡ ws
words_end m ws i h = ap (λ r. ws ++ words_of r) (drop_end (2 * i) m h) ∙ append_nil ws
