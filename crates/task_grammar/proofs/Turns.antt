-- Loops of turns.
use Rattle.std.proofs.Common.{◌≡◌, ℕ, zero, suc, ◌+◌, ◌<◌, ◌≤◌, List, ◌∷◌, ◌++◌, length, refl, ap, sym, ◌∙◌, subst, arith, append-nil, length-append}
use Rattle.task_lex.specs.declared.token.Token.{Token}
use Rattle.task_grammar.specs.Reading.{Outcome, done, fault, Parser, and_then, Turn, again, over, turned, turns, repeat}
use Rattle.task_grammar.proofs.ParserLaws.{Law, Good, Alike, Sentence, law_pure, law_refuse, law_bind, law_weaken}
use Rattle.task_grammar.proofs.SameLaws.{Same}

pub law_enough : {A : Type 0} (p : ℕ → Parser A) (q : Parser A) (R : List Token → A → Type 0) → ((n : ℕ) → Law (p n) R)
    → ((n : ℕ) (ts : List Token) → length ts < n → p n ts ≡ q ts) → Law q R
law_enough p q R law enough = record {
  good = λ ts. subst (Good R ts) (enough (suc (length ts)) ts (omega arith)) ((law (suc (length ts))).good ts);
  alike = λ t more more' front.
      let n = suc (length (front ++ t ∷ more) + length (front ++ t ∷ more')) in
      subst (λ o. Alike t more more' o (q (front ++ t ∷ more'))) (enough n (front ++ t ∷ more) (omega arith))
      (subst (λ o. Alike t more more' (p n (front ++ t ∷ more)) o) (enough n (front ++ t ∷ more') (omega arith)) ((law n).alike t more more' front));
}

-- what a turn leads to, where After says what is read from a value on
abbrev pub Leads : {S R : Type 0} → (S → List Token → R → Type 0) → S → List Token → Turn S R → Type 0
Leads After x ys (over r) = After x ys r
Leads {R = R} After x ys (again y) = (0 < length ys) × ((zs : List Token) (r : R) → After y zs r → After x (ys ++ zs) r)

module _ {S R : Type 0} (step : S → Parser (Turn S R)) (After : S → List Token → R → Type 0) (law : (x : S) → Law (step x) (Leads After x))
    (some : (x : S) → Sentence (After x)) where
  law_turned : (x : S) (ys : List Token) (go : S → Parser R) → ((y : S) → Law (go y) (After y)) → (t : Turn S R) → Leads After x ys t
      → Law (turned go t) (λ zs r. After x (ys ++ zs) r)
  law_turned x ys go rest (again y) is = law_weaken (go y) (After y) (λ zs r. After x (ys ++ zs) r) is.1 (rest y)
  law_turned x ys go rest (over r) is = law_pure r (λ zs r. After x (ys ++ zs) r) (subst (λ zs. After x zs r) (sym (append-nil ys)) is)

  pub law_turns : (n : ℕ) (x : S) → Law (turns step n x) (After x)
  unfolding turns
  law_turns zero x = law_refuse (After x) (some x)
  law_turns (suc n) x = law_bind (turned (turns step n)) (Leads After x) (After x) (λ ys t is. law_turned x ys (turns step n) (law_turns n) t is) (step x)
      (law x)

abbrev pub Shrinks : {S R : Type 0} → (S → Parser (Turn S R)) → Type 0
Shrinks {S = S} step = (x y : S) (ts rest : List Token) → step x ts ≡ done (again y) rest → length rest < length ts

module _ {S R : Type 0} (m : ℕ) (step step' : S → Parser (Turn S R)) (same : (x : S) → Same m (step x) (step' x)) (less : Shrinks step) where
  same_turn : (n n' : ℕ) (x : S) (ts : List Token) → length ts ≤ m
      → ((y : S) (rest : List Token) → length rest < length ts → turns step n y rest ≡ turns step' n' y rest)
      → turns step (suc n) x ts ≡ turns step' (suc n') x ts
  unfolding turns
  same_turn n n' x ts fits next = go (step x ts) refl ∙ ap (λ o. and_then o (turned (turns step' n'))) (same x ts fits)
    where
      go : (o : Outcome (Turn S R)) → step x ts ≡ o → and_then (step x ts) (turned (turns step n)) ≡ and_then (step x ts) (turned (turns step' n'))
      go (done (again y) rest) h = ap (λ o. and_then o (turned (turns step n))) h ∙ next y rest (less x y ts rest h)
          ∙ sym (ap (λ o. and_then o (turned (turns step' n'))) h)
      go (done (over r) rest) h = ap (λ o. and_then o (turned (turns step n))) h ∙ sym (ap (λ o. and_then o (turned (turns step' n'))) h)
      go (fault rest) h = ap (λ o. and_then o (turned (turns step n))) h ∙ sym (ap (λ o. and_then o (turned (turns step' n'))) h)

  same_turns : (n n' : ℕ) (x : S) (ts : List Token) → length ts ≤ m → length ts < n → length ts < n' → turns step n x ts ≡ turns step' n' x ts
  same_turns zero n' x ts fits le le' = absurd (omega arith)
  same_turns (suc n) zero x ts fits le le' = absurd (omega arith)
  same_turns (suc n) (suc n') x ts fits le le' = same_turn n n' x ts fits (λ y rest shorter. same_turns n n' y rest (omega arith) (omega arith) (omega arith))

  pub same_repeat : (x : S) → Same m (repeat step x) (repeat step' x)
  unfolding repeat
  same_repeat x ts fits = same_turns (suc (length ts)) (suc (length ts)) x ts fits (omega arith) (omega arith)

module _ {S R : Type 0} (step : S → Parser (Turn S R)) (less : Shrinks step) where
  pub repeat_enough : (x : S) (n : ℕ) (ts : List Token) → length ts < n → turns step n x ts ≡ repeat step x ts
  unfolding repeat
  repeat_enough x n ts fits = same_turns (length ts) step step (λ x ts fits. refl) less n (suc (length ts)) x ts (omega arith) fits (omega arith)

  pub repeat_is : (x : S) (ts : List Token) → repeat step x ts ≡ and_then (step x ts) (turned (repeat step))
  unfolding repeat turns
  repeat_is x ts = go (step x ts) refl
    where
      go : (o : Outcome (Turn S R)) → step x ts ≡ o → and_then (step x ts) (turned (turns step (length ts))) ≡ and_then (step x ts) (turned (repeat step))
      go (done (again y) rest) h = ap (λ o. and_then o (turned (turns step (length ts)))) h ∙ repeat_enough y (length ts) rest (less x y ts rest h)
          ∙ sym (ap (λ o. and_then o (turned (repeat step))) h)
      go (done (over r) rest) h = ap (λ o. and_then o (turned (turns step (length ts)))) h ∙ sym (ap (λ o. and_then o (turned (repeat step))) h)
      go (fault rest) h = ap (λ o. and_then o (turned (turns step (length ts)))) h ∙ sym (ap (λ o. and_then o (turned (repeat step))) h)

  pub law_repeat : (After : S → List Token → R → Type 0) → ((x : S) → Law (step x) (Leads After x)) → ((x : S) → Sentence (After x)) → (x : S)
      → Law (repeat step x) (After x)
  law_repeat After law some x = law_enough (λ n. turns step n x) (repeat step x) (After x) (λ n. law_turns step After law some n x)
      (λ n ts fits. repeat_enough x n ts fits)

pub law_shrinks : {S R : Type 0} (step : S → Parser (Turn S R)) (After : S → List Token → R → Type 0) → ((x : S) → Law (step x) (Leads After x)) → Shrinks step
law_shrinks step After law x y ts rest h =
    let g = subst (Good (Leads After x) ts) h ((law x).good ts) in
    let some : 0 < length g.0 = g.2.0 in
    let sizes : length ts ≡ length g.0 + length rest = simp length-append at (ap length g.1) in omega arith
