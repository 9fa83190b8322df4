-- What holds of each parser: what it reads is in its relation, what it read up to a fault can be completed, and it looks at no token past the first that it
-- leaves.
use Rattle.std.proofs.Common.{◌≡◌, Bool, true, false, cond, List, [], ◌∷◌, ◌++◌, length, Option, Some, None, refl, ap, sym, ◌∙◌, subst, arith, append_assoc}
use Rattle.std.proofs.Common.{append-nil, length-append, rules}
use Rattle.std.proofs.lemmas.List.{append_cancel_right}
use denote.Enum.Bare.{same_true}
use Rattle.task_lex.specs.contracts.token.Kind.{the_type}
use Rattle.alp_text.specs.declared.lines.Span.{Span}
use Rattle.task_lex.specs.declared.token.Token.{Token}
use Rattle.task_lex.specs.declared.token.Kind.{Kind}
use Rattle.task_grammar.specs.Reading.{Outcome, done, fault, Parser, and_then, ◌>>=◌, pure, refuse, kind_of, same_kind, token, by, chosen, accept, accept_at}

-- what is read is in the relation, or what is seen can be completed
abbrev pub Good : {A : Type 0} → (List Token → A → Type 0) → List Token → Outcome A → Type 0
Good {A = A} R ts (done a rest) = (used : List Token) × (ts ≡ used ++ rest) × R used a
Good {A = A} R ts (fault rest) = (seen : List Token) × (ts ≡ seen ++ rest) × (more : List Token) × (a : A) × R (seen ++ more) a

abbrev pub rest_of : {A : Type 0} → Outcome A → List Token
rest_of (done a rest) = rest
rest_of (fault rest) = rest

abbrev pub with_rest : {A : Type 0} → Outcome A → List Token → Outcome A
with_rest (done a _) rest = done a rest
with_rest (fault _) rest = fault rest

-- the second outcome is the first, but for what follows the token t, where the first leaves that
abbrev pub Alike : {A : Type 0} → Token → List Token → List Token → Outcome A → Outcome A → Type 0
Alike t more more' o o' = (s : List Token) → rest_of o ≡ s ++ t ∷ more → o' ≡ with_rest o (s ++ t ∷ more')

pub record Law {A : Type 0} (p : Parser A) (R : List Token → A → Type 0) : Type 0 where
  pub good : (ts : List Token) → Good R ts (p ts)
  pub alike : (t : Token) (more more' front : List Token) → Alike t more more' (p (front ++ t ∷ more)) (p (front ++ t ∷ more'))

-- something is in the relation
abbrev pub Sentence : {A : Type 0} → (List Token → A → Type 0) → Type 0
Sentence {A = A} R = (ts : List Token) × (a : A) × R ts a

pub law_pure : {A : Type 0} (a : A) (R : List Token → A → Type 0) → R [] a → Law (pure a) R
law_pure a R r = record {
  good = λ ts. ([], refl, r);
  alike = λ t more more' front s e. ap (λ x. done a (x ++ t ∷ more')) (append_cancel_right front s (t ∷ more) e);
}

pub law_refuse : {A : Type 0} (R : List Token → A → Type 0) → Sentence R → Law {A = A} refuse R
law_refuse R some = record {
  good = λ ts. ([], refl, some.0, some.1, some.2);
  alike = λ t more more' front s e. ap (λ x. fault (x ++ t ∷ more')) (append_cancel_right front s (t ∷ more) e);
}

pub suffix : {A : Type 0} (R : List Token → A → Type 0) (ts : List Token) (o : Outcome A) → Good R ts o → (front : List Token) × (ts ≡ front ++ rest_of o)
suffix R ts (done a rest) g = (g.0, g.1)
suffix R ts (fault rest) g = (g.0, g.1)

-- what a parser answers at the end of the text
pub sentence : {A : Type 0} (R : List Token → A → Type 0) (o : Outcome A) → Good R [] o → Sentence R
sentence R (done a rest) g = (g.0, a, g.2)
sentence R (fault rest) g = (g.0 ++ g.2, g.3, g.4)

-- ---- one after the other

module _ {A B : Type 0} (f : A → Parser B) (Q : List Token → A → Type 0) (R : List Token → B → Type 0)
    (second : (xs : List Token) (a : A) → Q xs a → Law (f a) (λ ys b. R (xs ++ ys) b)) where
  good_second : (ts used rest : List Token) (o : Outcome B) → ts ≡ used ++ rest → Good (λ ys b. R (used ++ ys) b) rest o → Good R ts o
  good_second ts used rest (done b r) e g = (used ++ g.0, e ∙ ap (λ x. used ++ x) g.1 ∙ sym (append_assoc used g.0 r), g.2)
  good_second ts used rest (fault r) e g = (
    used ++ g.0,
    e ∙ ap (λ x. used ++ x) g.1 ∙ sym (append_assoc used g.0 r),
    g.2,
    g.3,
    subst (λ x. R x g.3) (sym (append_assoc used g.0 g.2)) g.4,
  )

  good_bind : (ts : List Token) (o : Outcome A) → Good Q ts o → Good R ts (and_then o f)
  good_bind ts (done a rest) g = good_second ts g.0 rest (f a rest) g.1 ((second g.0 a g.2).good rest)
  good_bind ts (fault rest) g =
      let seen = g.0 in
      let last = sentence (λ ys b. R ((seen ++ g.2) ++ ys) b) (f g.3 []) ((second (seen ++ g.2) g.3 g.4).good []) in
      (seen, g.1, g.2 ++ last.0, last.1, subst (λ x. R x last.1) (append_assoc seen g.2 last.0) last.2)

  alike_second : (t : Token) (more more' xs : List Token) (a : A) (rest s s2 : List Token) (o' : Outcome A) → Q xs a
      → rest ≡ s2 ++ t ∷ more → o' ≡ done a (s2 ++ t ∷ more') → rest_of (f a rest) ≡ s ++ t ∷ more → and_then o' f ≡ with_rest (f a rest) (s ++ t ∷ more')
  alike_second t more more' xs a rest s s2 o' q e e' end =
      ap (λ o. and_then o f) e' ∙ (second xs a q).alike t more more' s2 s (ap (λ x. rest_of (f a x)) (sym e) ∙ end)
      ∙ ap (λ x. with_rest (f a x) (s ++ t ∷ more')) (sym e)

  alike_bind : (t : Token) (more more' ts : List Token) (o o' : Outcome A) → Good Q ts o → Alike t more more' o o'
      → Alike t more more' (and_then o f) (and_then o' f)
  alike_bind t more more' ts (fault rest) o' g h s end = ap (λ o. and_then o f) (h s end)
  alike_bind t more more' ts (done a rest) o' g h s end =
      let cut = suffix (λ ys b. R (g.0 ++ ys) b) rest (f a rest) ((second g.0 a g.2).good rest) in
      let e : rest ≡ (cut.0 ++ s) ++ t ∷ more = cut.1 ∙ ap (λ x. cut.0 ++ x) end ∙ sym (append_assoc cut.0 s (t ∷ more)) in
      alike_second t more more' g.0 a rest s (cut.0 ++ s) o' g.2 e (h (cut.0 ++ s) e) end

  pub law_bind : (p : Parser A) → Law p Q → Law (p >>= f) R
  law_bind p first = record {
    good = λ ts. good_bind ts (p ts) (first.good ts);
    alike = λ t more more' front. alike_bind t more more' (front ++ t ∷ more) (p (front ++ t ∷ more)) (p (front ++ t ∷ more'))
        (first.good (front ++ t ∷ more)) (first.alike t more more' front);
  }

-- ---- by the next token

pub law_by : {A : Type 0} (f : Option Kind → Parser A) (R : List Token → A → Type 0) → ((kind : Option Kind) → Law (f kind) R) → Law (by f) R
law_by f R law = record {
  good = λ ts. (law (kind_of ts)).good ts;
  alike = λ t more more' front. alike_by t more more' front;
}
  where
    alike_by : (t : Token) (more more' front : List Token) → Alike t more more' (by f (front ++ t ∷ more)) (by f (front ++ t ∷ more'))
    alike_by t more more' [] = (law (Some t.kind)).alike t more more' []
    alike_by t more more' (x ∷ xs) = (law (Some x.kind)).alike t more more' (x ∷ xs)

-- one token of the kind
abbrev pub IsToken : Kind → List Token → Token → Type 0
IsToken kind ts t = (ts ≡ t ∷ []) × (t.kind ≡ kind)

some_token : (kind : Kind) → Sentence (IsToken kind)
some_token kind = let t : Token = record { kind = kind; span = record { from = 0; to = 0 }; value = 0; high = 0 } in (t ∷ [], t, (refl, refl))

module _ (kind : Kind) where
  good_token : (t : Token) (ts : List Token) (b : Bool) → same_kind t.kind kind ≡ b → Good (IsToken kind) (t ∷ ts) (cond b (done t ts) (fault (t ∷ ts)))
  unfolding same_kind
  good_token t ts true e = (t ∷ [], refl, (refl, same_true the_type (search rules) t.kind kind e))
  good_token t ts false e = let some = some_token kind in ([], refl, some.0, some.1, some.2)

no_longer : (t : Token) (s ts : List Token) → ts ≡ s ++ t ∷ ts → ⊥
no_longer t s ts e = omega (arith, simp length-append at (ap length e))

alike_at : (t : Token) (more more' s : List Token) (b : Bool) → rest_of (cond b (done t more) (fault (t ∷ more))) ≡ s ++ t ∷ more
    → cond b (done t more') (fault (t ∷ more')) ≡ with_rest (cond b (done t more) (fault (t ∷ more))) (s ++ t ∷ more')
alike_at t more more' s true e = absurd (no_longer t s more e)
alike_at t more more' s false e = ap (λ x. fault (x ++ t ∷ more')) (append_cancel_right [] s (t ∷ more) e)

alike_past : (t x : Token) (more more' xs s : List Token) (b : Bool) → rest_of (cond b (done x (xs ++ t ∷ more)) (fault (x ∷ xs ++ t ∷ more))) ≡ s ++ t ∷ more
    → cond b (done x (xs ++ t ∷ more')) (fault (x ∷ xs ++ t ∷ more')) ≡ with_rest (cond b (done x (xs ++ t ∷ more)) (fault (x ∷ xs ++ t ∷ more)))
    (s ++ t ∷ more')
alike_past t x more more' xs s true e = ap (λ y. done x (y ++ t ∷ more')) (append_cancel_right xs s (t ∷ more) e)
alike_past t x more more' xs s false e = ap (λ y. fault (y ++ t ∷ more')) (append_cancel_right (x ∷ xs) s (t ∷ more) e)

alike_token : (kind : Kind) (t : Token) (more more' front : List Token) → Alike t more more' (token kind (front ++ t ∷ more)) (token kind (front ++ t ∷ more'))
unfolding token
alike_token kind t more more' [] s e = alike_at t more more' s (same_kind t.kind kind) e
alike_token kind t more more' (x ∷ xs) s e = alike_past t x more more' xs s (same_kind x.kind kind) e

token_good : (kind : Kind) (ts : List Token) → Good (IsToken kind) ts (token kind ts)
unfolding token
token_good kind [] = let some = some_token kind in ([], refl, some.0, some.1, some.2)
token_good kind (t ∷ ts) = good_token kind t ts (same_kind t.kind kind) refl

pub law_token : (kind : Kind) → Law (token kind) (IsToken kind)
law_token kind = record { good = token_good kind; alike = alike_token kind }

-- ---- a token that means something

good_after : {A : Type 0} (R : List Token → A → Type 0) (t : Token) (ts : List Token) (o : Outcome A) → Good (λ ys a. R (t ∷ ys) a) ts o → Good R (t ∷ ts) o
good_after R t ts (done a r) g = (t ∷ g.0, ap (λ x. t ∷ x) g.1, g.2)
good_after R t ts (fault r) g = (t ∷ g.0, ap (λ x. t ∷ x) g.1, g.2, g.3, g.4)

module _ {A B : Type 0} (f : Kind → Option B) (taken : Span → B → Parser A) (other : Parser A) (R : List Token → A → Type 0)
    (first : (t : Token) (b : B) → f t.kind ≡ Some b → Law (taken t.span b) (λ ys a. R (t ∷ ys) a)) (last : Law other R) where
  good_chosen : (t : Token) (ts : List Token) (o : Option B) → f t.kind ≡ o → Good R (t ∷ ts) (chosen o (taken t.span) other (t ∷ ts))
  good_chosen t ts (Some b) e = good_after R t ts (taken t.span b ts) ((first t b e).good ts)
  good_chosen t ts None e = last.good (t ∷ ts)

  good_accept : (ts : List Token) → Good R ts (accept_at f taken other ts)
  good_accept [] = last.good []
  good_accept (t ∷ ts) = good_chosen t ts (f t.kind) refl

  alike_chosen_at : (t : Token) (more more' : List Token) (o : Option B) → f t.kind ≡ o
      → Alike t more more' (chosen o (taken t.span) other (t ∷ more)) (chosen o (taken t.span) other (t ∷ more'))
  alike_chosen_at t more more' (Some b) e s end =
      let cut = suffix (λ ys a. R (t ∷ ys) a) more (taken t.span b more) ((first t b e).good more) in
      absurd (no_longer t (cut.0 ++ s) more (cut.1 ∙ ap (λ x. cut.0 ++ x) end ∙ sym (append_assoc cut.0 s (t ∷ more))))
  alike_chosen_at t more more' None e s end = last.alike t more more' [] s end

  alike_chosen : (t x : Token) (more more' xs : List Token) (o : Option B) → f x.kind ≡ o
      → Alike t more more' (chosen o (taken x.span) other (x ∷ xs ++ t ∷ more)) (chosen o (taken x.span) other (x ∷ xs ++ t ∷ more'))
  alike_chosen t x more more' xs (Some b) e = (first x b e).alike t more more' xs
  alike_chosen t x more more' xs None e = last.alike t more more' (x ∷ xs)

  alike_accept : (t : Token) (more more' front : List Token)
      → Alike t more more' (accept_at f taken other (front ++ t ∷ more)) (accept_at f taken other (front ++ t ∷ more'))
  alike_accept t more more' [] = alike_chosen_at t more more' (f t.kind) refl
  alike_accept t more more' (x ∷ xs) = alike_chosen t x more more' xs (f x.kind) refl

  pub law_accept_at : Law (accept_at f taken other) R
  law_accept_at = record { good = good_accept; alike = alike_accept }

pub law_accept : {A B : Type 0} (f : Kind → Option B) (taken : B → Parser A) (other : Parser A) (R : List Token → A → Type 0)
    → ((t : Token) (b : B) → f t.kind ≡ Some b → Law (taken b) (λ ys a. R (t ∷ ys) a)) → Law other R → Law (accept f taken other) R
law_accept f taken other R first last = law_accept_at f (λ place. taken) other R first last

-- a token of the kind, and what goes on from it
pub law_take : {A : Type 0} (kind : Kind) (f : Token → Parser A) (R : List Token → A → Type 0)
    → ((t : Token) → t.kind ≡ kind → Law (f t) (λ ys a. R (t ∷ ys) a)) → Law (token kind >>= f) R
law_take kind f R next = law_bind f (IsToken kind) R (λ xs t is. subst (λ x. Law (f t) (λ ys a. R (x ++ ys) a)) (sym is.0) (next t is.1)) (token kind)
    (law_token kind)

good_weaken : {A : Type 0} (Q R : List Token → A → Type 0) → ((ts : List Token) (a : A) → Q ts a → R ts a) → (ts : List Token) (o : Outcome A) → Good Q ts o
    → Good R ts o
good_weaken Q R w ts (done a r) g = (g.0, g.1, w g.0 a g.2)
good_weaken Q R w ts (fault r) g = (g.0, g.1, g.2, g.3, w (g.0 ++ g.2) g.3 g.4)

pub law_weaken : {A : Type 0} (p : Parser A) (Q R : List Token → A → Type 0) → ((ts : List Token) (a : A) → Q ts a → R ts a) → Law p Q → Law p R
law_weaken p Q R w law = record { good = λ ts. good_weaken Q R w ts (p ts) (law.good ts); alike = law.alike }

pub law_map : {A B : Type 0} (p : Parser A) (f : A → B) (Q : List Token → A → Type 0) (R : List Token → B → Type 0) → Law p Q
    → ((xs : List Token) (a : A) → Q xs a → R xs (f a)) → Law (p >>= λ a. pure (f a)) R
law_map p f Q R law w = law_bind (λ a. pure (f a)) Q R
    (λ xs a q. law_pure (f a) (λ ys b. R (xs ++ ys) b) (subst (λ x. R x (f a)) (sym (append-nil xs)) (w xs a q))) p law
