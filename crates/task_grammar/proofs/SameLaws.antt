-- Parsers that answer alike.
use Rattle.std.proofs.Common.{◌≡◌, ℕ, suc, ◌+◌, ◌≤◌, Bool, true, false, cond, List, [], ◌∷◌, length, Option, Some, None, refl, ap, sym, ◌∙◌, subst, arith}
use Rattle.std.proofs.Common.{length-append}
use Rattle.alp_text.specs.declared.lines.Span.{Span}
use Rattle.task_lex.specs.declared.token.Token.{Token}
use Rattle.task_lex.specs.declared.token.Kind.{Kind}
use Rattle.task_grammar.specs.Reading.{Outcome, done, fault, Parser, ◌>>=◌, and_then, same_kind, token, chosen, accept, accept_at}
use Rattle.task_grammar.proofs.ParserLaws.{Law, Good}

-- one answer to each list that is no longer
abbrev pub Same : {A : Type 0} → ℕ → Parser A → Parser A → Type 0
Same m p q = (ts : List Token) → length ts ≤ m → p ts ≡ q ts

abbrev pub Shortens : {A : Type 0} → Parser A → Type 0
Shortens {A = A} p = (ts rest : List Token) (a : A) → p ts ≡ done a rest → length rest ≤ length ts

pub law_shortens : {A : Type 0} (p : Parser A) (R : List Token → A → Type 0) → Law p R → Shortens p
law_shortens {A = A} p R law ts rest a e =
    let g = subst (Good R ts) e (law.good ts) in
    let sizes : length ts ≡ length g.0 + length rest = simp length-append at (ap length g.1) in omega arith

module _ {A B : Type 0} (m : ℕ) (p q : Parser A) (f g : A → Parser B) where
  pub same_bind : Same m p q → ((a : A) → Same m (f a) (g a)) → Shortens p → Same m (p >>= f) (q >>= g)
  same_bind first second shorter ts fits = go (p ts) refl ∙ ap (λ o. and_then o g) (first ts fits)
    where
      go : (o : Outcome A) → p ts ≡ o → and_then (p ts) f ≡ and_then (p ts) g
      go (done a rest) e = let less = shorter ts rest a e in ap (λ o. and_then o f) e ∙ second a rest (omega arith) ∙ sym (ap (λ o. and_then o g) e)
      go (fault rest) e = ap (λ o. and_then o f) e ∙ sym (ap (λ o. and_then o g) e)

pub same_take : {A : Type 0} (m : ℕ) (kind : Kind) (f g : Token → Parser A) → ((t : Token) → Same m (f t) (g t))
    → Same (suc m) (token kind >>= f) (token kind >>= g)
unfolding token
same_take m kind f g next [] fits = refl
same_take {A = A} m kind f g next (t ∷ ts) fits = go (same_kind t.kind kind)
  where
    go : (b : Bool) → and_then (cond b (done t ts) (fault (t ∷ ts))) f ≡ and_then (cond b (done t ts) (fault (t ∷ ts))) g
    go true = next t ts (omega arith)
    go false = refl

pub same_accept_at : {A B : Type 0} (m : ℕ) (f : Kind → Option B) (taken taken' : Span → B → Parser A) (other other' : Parser A)
    → ((place : Span) (b : B) → Same m (taken place b) (taken' place b)) → Same (suc m) other other'
    → Same (suc m) (accept_at f taken other) (accept_at f taken' other')
same_accept_at {A = A} {B = B} m f taken taken' other other' first last [] fits = last [] fits
same_accept_at {A = A} {B = B} m f taken taken' other other' first last (t ∷ ts) fits = go (f t.kind)
  where
    go : (o : Option B) → chosen o (taken t.span) other (t ∷ ts) ≡ chosen o (taken' t.span) other' (t ∷ ts)
    go (Some b) = first t.span b ts (omega arith)
    go None = last (t ∷ ts) fits

pub same_accept : {A B : Type 0} (m : ℕ) (f : Kind → Option B) (taken taken' : B → Parser A) (other other' : Parser A)
    → ((b : B) → Same m (taken b) (taken' b)) → Same (suc m) other other'
    → Same (suc m) (accept f taken other) (accept f taken' other')
same_accept m f taken taken' other other' first last = same_accept_at m f (λ place. taken) (λ place. taken') other other' (λ place. first) last
