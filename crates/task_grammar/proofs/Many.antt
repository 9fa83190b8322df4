-- Rows of items.
use Rattle.std.proofs.Common.{◌≡◌, ◌<◌, Bool, true, false, List, [], ◌∷◌, ◌++◌, length, Option, refl, ap, sym, ◌∙◌, append_assoc, append-nil}
use Rattle.task_lex.specs.declared.token.Token.{Token}
use Rattle.task_lex.specs.declared.token.Kind.{Kind}
use Rattle.task_grammar.specs.Grammar.{Row}
use Rattle.task_grammar.specs.Reading.{done, Parser, and_then, pure, kind_of, again, over, turned}
use Rattle.task_grammar.specs.Programs.{many_if, many_turn, many}
use Rattle.task_grammar.proofs.ParserLaws.{Law, law_pure, law_by, law_map}
use Rattle.task_grammar.proofs.Turns.{Leads, Shrinks, law_shrinks, law_repeat, repeat_is}

module _ {A : Type 0} (R : List Token → A → Type 0) (goes : Option Kind → Bool) (item : Parser A) (law : Law item R)
    (some : (xs : List Token) (x : A) → R xs x → 0 < length xs) where
  abbrev pub After : List A → List Token → List A → Type 0
  After found ys r = (all : List A) × (r ≡ found ++ all) × Row R ys all

  law_many_if : (found : List A) (b : Bool) → Law (many_if item found b) (Leads After found)
  law_many_if found true = law_map item (λ x. again (found ++ x ∷ [])) R (Leads After found) law
      (λ xs x is. (some xs x is, λ zs r after. (x ∷ after.0, after.1 ∙ append_assoc found (x ∷ []) after.0, (xs, zs, refl, is, after.2))))
  law_many_if found false = law_pure (over found) (Leads After found) ([], sym (append-nil found), refl)

  law_many_turn : (found : List A) → Law (many_turn goes item found) (Leads After found)
  law_many_turn found = law_by (λ kind. many_if item found (goes kind)) (Leads After found) (λ kind. law_many_if found (goes kind))

  pub shrinks_many : Shrinks (many_turn goes item)
  shrinks_many = law_shrinks (many_turn goes item) After law_many_turn

  pub law_many : (found : List A) → Law (many goes item found) (After found)
  law_many = law_repeat (many_turn goes item) shrinks_many After law_many_turn (λ found. ([], found, ([], sym (append-nil found), refl)))

  pub many_is : (found : List A) (ts : List Token) → many goes item found ts ≡ and_then (many_turn goes item found ts) (turned (many goes item))
  many_is = repeat_is (many_turn goes item) shrinks_many

  module _ (begun : (xs : List Token) (x : A) → R xs x → (rest : List Token) → goes (kind_of (xs ++ rest)) ≡ true)
      (reads : (xs : List Token) (x : A) → R xs x → (rest : List Token) → item (xs ++ rest) ≡ done x rest) where
    pub reads_many : (all : List A) (ys : List Token) → Row R ys all → (found : List A) (rest : List Token) → goes (kind_of rest) ≡ false
        → many goes item found (ys ++ rest) ≡ done (found ++ all) rest
    reads_many [] ys row found rest h =
        ap (λ x. many goes item found (x ++ rest)) row ∙ many_is found rest ∙ ap (λ b. and_then (many_if item found b rest) (turned (many goes item))) h
        ∙ ap (λ x. done x rest) (sym (append-nil found))
    reads_many (x ∷ all) ys row found rest h =
        let xs = row.0 in let zs = row.1 in
        ap (λ y. many goes item found (y ++ rest)) row.2 ∙ ap (many goes item found) (append_assoc xs zs rest) ∙ many_is found (xs ++ (zs ++ rest))
        ∙ ap (λ b. and_then (many_if item found b (xs ++ (zs ++ rest))) (turned (many goes item))) (begun xs x row.3 (zs ++ rest))
        ∙ ap (λ o. and_then (and_then o (λ x. pure (again (found ++ x ∷ [])))) (turned (many goes item))) (reads xs x row.3 (zs ++ rest))
        ∙ reads_many all zs row.4 (found ++ x ∷ []) rest h ∙ ap (λ y. done y rest) (append_assoc found (x ∷ []) all)
