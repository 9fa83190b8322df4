-- Tokens stop at one place, and only where they are no program.
use Rattle.std.proofs.Common.{◌≡◌, ℕ, zero, suc, ◌<◌, ◌≤◌, Bool, true, false, nat_lt, List, [], ◌∷◌, ◌++◌, length, take, drop, refl, ap, sym, ◌∙◌, subst}
use Rattle.std.proofs.Common.{arith, append_assoc}
use Rattle.std.proofs.lemmas.List.{take-append-drop}
use Rattle.task_lex.specs.declared.token.Token.{Token}
use Rattle.task_grammar.specs.Parsed.{Program}
use Rattle.task_grammar.specs.Grammar.{IsProgram}
use Rattle.task_grammar.specs.Stops.{StopsAt, OneAnswer}
use Rattle.task_grammar.proofs.Whole.{one_tree}

take_less : (n m : ℕ) (xs : List Token) → n ≤ m → take n (take m xs) ≡ take n xs
take_less zero m xs le = refl
take_less (suc n) zero xs le = absurd (omega arith)
take_less (suc n) (suc m) [] le = refl
take_less (suc n) (suc m) (x ∷ xs) le = ap (λ ys. x ∷ ys) (take_less n m xs (omega arith))

cut : (n m : ℕ) (xs : List Token) → n ≤ m → take m xs ≡ take n xs ++ drop n (take m xs)
cut n m xs le = sym (take-append-drop n (take m xs)) ∙ ap (λ ys. ys ++ drop n (take m xs)) (take_less n m xs le)

no_later : (tokens : List Token) (i j : ℕ) → i < j → StopsAt tokens i → StopsAt tokens j → ⊥
no_later tokens i j less a b =
    let more = b.before.0 in
    let tree = b.before.1 in
    let inside : i < length tokens = (let fits : j ≤ length tokens = b.within in omega arith) in
    let between = drop (suc i) (take j tokens) in
    a.none inside (between ++ more) tree (subst (λ ts. IsProgram ts tree) (ap (λ x. x ++ more) (cut (suc i) j tokens (omega arith))
    ∙ append_assoc (take (suc i) tokens) between more) b.before.2)

one_stop : (tokens : List Token) (i j : ℕ) → StopsAt tokens i → StopsAt tokens j → i ≡ j
one_stop tokens i j a b = go (nat_lt i j) (nat_lt j i) refl refl
  where
    go : (c d : Bool) → nat_lt i j ≡ c → nat_lt j i ≡ d → i ≡ j
    go true d e f = absurd (no_later tokens i j (grind arith) a b)
    go false true e f = absurd (no_later tokens j i (grind arith) b a)
    go false false e f = grind arith

no_program : (tokens : List Token) (i : ℕ) (tree : Program) → StopsAt tokens i → IsProgram tokens tree → ⊥
no_program tokens i tree a is = go (nat_lt i (length tokens)) refl
  where
    go : (c : Bool) → nat_lt i (length tokens) ≡ c → ⊥
    go true e = let inside : i < length tokens = grind arith in
        a.none inside (drop (suc i) tokens) tree (subst (λ ts. IsProgram ts tree) (sym (take-append-drop (suc i) tokens)) is)
    go false e = let fits : i ≤ length tokens = a.within in let same : i ≡ length tokens = grind arith in a.none_ends same tree is

pub one_answer : OneAnswer
one_answer = record { one_tree = one_tree; one_stop = one_stop; no_program = no_program }
