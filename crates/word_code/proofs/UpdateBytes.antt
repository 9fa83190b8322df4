-- How long the code of an element is that is updated in place.
use Rattle.word_code.proofs.Names.{◌≡◌, ℕ, ◌+◌, ◌*◌, ◌≤◌, List, [], ◌∷◌, ◌++◌, arith, R7, Source, source_bytes, Form, Calculate, Jump, forms_bytes}
use Rattle.word_code.proofs.Names.{forms_bytes-append, form_small, PlainOperation, ArrayPlace, ListPlace, plain_instruction, size, made_code, first_update}
use Rattle.word_code.proofs.Names.{by_version, inside_update}
use Rattle.array_versions.specs.msp_step.msp_isa.declared.instructions.Condition.TheVariants as condition
use Rattle.word_code.proofs.Jumps.{whole_size}

-- a source has at most two words
pub reads_bytes : (o : PlainOperation) (x : Source) → source_bytes x ≤ 4
reads_bytes o x = omega (arith, form_small (Calculate (plain_instruction o) x R7))

pub made_bytes : (o : PlainOperation) (x : Source) (from copies : ℕ) → forms_bytes (made_code o x from copies) ≡ 10 + source_bytes x
made_bytes o x from copies = omega arith

pub first_bytes : (o : PlainOperation) (x : Source) (place : ArrayPlace) (list : ListPlace) → forms_bytes (first_update o x place list) ≡ 106 + source_bytes x
first_bytes o x place list = omega arith

-- the two ways with their jumps
pub ways_bytes : (again first : List Form) → forms_bytes (by_version again first) ≡ 4 + forms_bytes again + forms_bytes first
ways_bytes again first =
    let leave = Jump condition.Always (size first) ∷ [] in
    omega (arith, forms_bytes-append (again ++ leave) first, forms_bytes-append again leave)

pub inside_bytes : (o : PlainOperation) (x : Source) (place : ArrayPlace) (list : ListPlace)
    → forms_bytes (inside_update o x place list) ≡ 130 + 2 * source_bytes x
inside_bytes o x place list =
    let again = made_code o x place.copies place.copies in
    omega (arith, ways_bytes again (first_update o x place list), made_bytes o x place.copies place.copies, first_bytes o x place list)

pub near_size : (ms : List Form) (n : ℕ) → forms_bytes ms ≤ n → n ≤ 1022 → size ms ≤ 511
near_size ms n l m = omega (arith, l, m, whole_size ms)
