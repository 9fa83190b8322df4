-- What putting entries back makes of FRAM.
use Rattle.std.proofs.Common.{◌≡◌, ℕ, zero, suc, ◌+◌, ◌*◌, ◌<◌, ◌≤◌, ◌⊎◌, ⊎_elim, inl, inr, List, [], ◌∷◌, ◌++◌, refl, sym, ap, ◌∙◌, subst, arith}
use Rattle.std.specs.Prelude.{All}
use Rattle.std.proofs.lemmas.Bool.{cases_eq}
use Rattle.std.proofs.lemmas.List.Elements.{All-nil, All-cons}
use mathlib.Core.Path.{fun_ext}
use Rattle.runtime_effects.specs.fram_board.Effects.{Store}
use Rattle.runtime_effects.specs.machine_effects.World.{World, put, fram_after, world_after_one, world_after, EachStore}
use Rattle.runtime_effects.specs.machine_effects.Inputs.{inputs_taken, no_inputs}
use Rattle.runtime_effects.proofs.machine_effects.Interface.{fram_after-append, world_after-append, each_store-append, none_taken_through, put_same, put_other}
use Rattle.runtime_effects.specs.Needs.{IsOutOf}
use Rattle.undo_effects.specs.Entries.{Logged, logged_from, IsLogged, undone}
use Rattle.undo_effects.specs.Stages.{put_back}

-- ---- words put into FRAM

-- a word that is there already
pub put_again : (f : ℕ → ℕ) (a : ℕ) → put f a (f a) ≡ f
put_again f a =
    let w = f a in
    fun_ext (λ b. ⊎_elim {C = put f a w b ≡ f b} (λ q. ap (put f a w) q ∙ put_same f a w ∙ ap f (sym q)) (λ n. put_other f a w b n) (cases_eq b a))

-- an address outside others is none of them
pub out_of : (p n a x : ℕ) → IsOutOf p n a → p ≤ x → x < p + n → x ≡ a → ⊥
out_of p n a x out low high e = ⊎_elim {C = ⊥} (λ l. omega (arith, l, low, e)) (λ g. omega (arith, g, high, e)) out

-- two words at one address
pub put_over : (f : ℕ → ℕ) (a v w : ℕ) → put (put f a v) a w ≡ put f a w
put_over f a v w =
    fun_ext (λ b. ⊎_elim {C = put (put f a v) a w b ≡ put f a w b}
    (λ q. ap (put (put f a v) a w) q ∙ put_same (put f a v) a w ∙ sym (put_same f a w) ∙ ap (put f a w) (sym q))
    (λ n. put_other (put f a v) a w b n ∙ put_other f a v b n ∙ sym (put_other f a w b n)) (cases_eq b a))

-- two words at two addresses
pub put_apart : (f : ℕ → ℕ) (a v b w : ℕ) → (a ≡ b → ⊥) → put (put f a v) b w ≡ put (put f b w) a v
put_apart f a v b w apart =
    fun_ext (λ x. ⊎_elim {C = put (put f a v) b w x ≡ put (put f b w) a v x}
    (λ q. ap (put (put f a v) b w) q ∙ put_other (put f a v) b w a apart ∙ put_same f a v ∙ sym (put_same (put f b w) a v)
    ∙ ap (put (put f b w) a v) (sym q))
    (λ n. ⊎_elim {C = put (put f a v) b w x ≡ put (put f b w) a v x}
    (λ q. ap (put (put f a v) b w) q ∙ put_same (put f a v) b w ∙ sym (put_same f b w) ∙ sym (put_other (put f b w) a v b (λ e. apart (sym e)))
    ∙ ap (put (put f b w) a v) (sym q))
    (λ k. put_other (put f a v) b w x k ∙ put_other f a v x n ∙ sym (put_other f b w x k) ∙ sym (put_other (put f b w) a v x n)) (cases_eq x b))
    (cases_eq x a))

-- ---- entries

-- what is undone at an address: a logged word, the same whatever FRAM is; or what FRAM has there
pub undone_at : (es : List Logged) (b : ℕ)
    → (IsLogged es b × ((f g : ℕ → ℕ) → undone es f b ≡ undone es g b)) ⊎ ((IsLogged es b → ⊥) × ((f : ℕ → ℕ) → undone es f b ≡ f b))
undone_at [] b = inr ((λ h. h), λ f. refl)
undone_at (e ∷ es) b =
    ⊎_elim
    (λ q. inl (
      inl q,
      λ f g. ap (undone (e ∷ es) f) q ∙ put_same (undone es f) e.address e.word ∙ sym (put_same (undone es g) e.address e.word)
          ∙ ap (undone (e ∷ es) g) (sym q),
    ))
    (λ n. ⊎_elim
    (λ k. inl (inr k.0, λ f g. put_other (undone es f) e.address e.word b n ∙ k.1 f g ∙ sym (put_other (undone es g) e.address e.word b n)))
    (λ k. inr ((λ h. ⊎_elim {C = ⊥} n k.0 h), λ f. put_other (undone es f) e.address e.word b n ∙ k.1 f)) (undone_at es b))
    (cases_eq b e.address)

-- an address of no entry
pub undone_other : (es : List Logged) (f : ℕ → ℕ) (b : ℕ) → (IsLogged es b → ⊥) → undone es f b ≡ f b
undone_other es f b none = ⊎_elim {C = undone es f b ≡ f b} (λ k. absurd (none k.0)) (λ k. k.1 f) (undone_at es b)

-- a store to a logged address makes no difference
pub undone_over : (es : List Logged) (f : ℕ → ℕ) (a w : ℕ) → IsLogged es a → undone es (put f a w) ≡ undone es f
undone_over es f a w h =
    fun_ext (λ b. ⊎_elim {C = undone es (put f a w) b ≡ undone es f b} (λ k. k.1 (put f a w) f)
    (λ k. k.1 (put f a w) ∙ put_other f a w b (λ q. k.0 (subst (IsLogged es) (sym q) h)) ∙ sym (k.1 f)) (undone_at es b))

-- one to another address is there when all is put back
pub undone_beside : (es : List Logged) (f : ℕ → ℕ) (a w : ℕ) → (IsLogged es a → ⊥) → undone es (put f a w) ≡ put (undone es f) a w
undone_beside es f a w none =
    fun_ext (λ b. ⊎_elim {C = undone es (put f a w) b ≡ put (undone es f) a w b}
    (λ k. k.1 (put f a w) f ∙ sym (put_other (undone es f) a w b (λ q. none (subst (IsLogged es) q k.0))))
    (λ k. k.1 (put f a w) ∙ ⊎_elim {C = put f a w b ≡ put (undone es f) a w b}
    (λ q. ap (put f a w) q ∙ put_same f a w ∙ sym (put_same (undone es f) a w) ∙ ap (put (undone es f) a w) (sym q))
    (λ n. put_other f a w b n ∙ sym (k.1 f) ∙ sym (put_other (undone es f) a w b n)) (cases_eq b a)) (undone_at es b))

-- one entry more, at the end: its word is put back first
pub undone_last : (es : List Logged) (e : Logged) (f : ℕ → ℕ) → undone (es ++ e ∷ []) f ≡ undone es (put f e.address e.word)
undone_last [] e f = refl
undone_last (d ∷ es) e f = ap (λ g. put g d.address d.word) (undone_last es e f)

-- logged addresses, with one more
pub logged_last : (es : List Logged) (e : Logged) (a : ℕ) → IsLogged (es ++ e ∷ []) a → IsLogged es a ⊎ (a ≡ e.address)
logged_last [] e a h = ⊎_elim {C = IsLogged [] a ⊎ (a ≡ e.address)} (λ q. inr q) (λ no. absurd no) h
logged_last (d ∷ es) e a h =
    ⊎_elim (λ q. inl (inl q)) (λ k. ⊎_elim (λ i. inl (inr i)) (λ q. inr q) (logged_last es e a k)) h

pub still_logged : (es : List Logged) (e : Logged) (a : ℕ) → IsLogged es a → IsLogged (es ++ e ∷ []) a
still_logged [] e a h = absurd h
still_logged (d ∷ es) e a h = ⊎_elim (λ q. inl q) (λ k. inr (still_logged es e a k)) h

pub is_logged_last : (es : List Logged) (e : Logged) → IsLogged (es ++ e ∷ []) e.address
is_logged_last [] e = inl refl
is_logged_last (d ∷ es) e = inr (is_logged_last es e)

-- the stores that put entries back
pub put_back_undoes : (es : List Logged) (f : ℕ → ℕ) → fram_after (put_back es) f ≡ undone es f
put_back_undoes [] f = refl
put_back_undoes (e ∷ es) f =
    fram_after-append (put_back es) (Store e.address e.word ∷ []) f ∙ ap (λ g. put g e.address e.word) (put_back_undoes es f)

-- the last entry is put back first
pub put_back_last : (es : List Logged) (e : Logged) → put_back (es ++ e ∷ []) ≡ Store e.address e.word ∷ put_back es
put_back_last [] e = refl
put_back_last (d ∷ es) e = ap (λ l. l ++ (Store d.address d.word ∷ [])) (put_back_last es e)

-- the world behind them
pub put_back_restores : (es : List Logged) (x : World) → world_after (put_back es) x ≡ record x { fram = undone es x.fram }
put_back_restores [] x = refl
put_back_restores (e ∷ es) x =
    world_after-append (put_back es) (Store e.address e.word ∷ []) x ∙ ap (λ y. world_after_one (Store e.address e.word) y) (put_back_restores es x)

-- they take nothing of what is ready, and store at logged addresses alone
pub put_back_takes : (es : List Logged) → inputs_taken (put_back es) ≡ no_inputs
put_back_takes [] = refl
put_back_takes (e ∷ es) = none_taken_through (put_back es) (Store e.address e.word ∷ []) (put_back_takes es) refl

pub put_back_stores : (P : ℕ → ℕ → Type 0) (es : List Logged) → ((a w : ℕ) → IsLogged es a → P a w) → EachStore P (put_back es)
put_back_stores P [] h = tt
put_back_stores P (e ∷ es) h =
    each_store-append P (put_back es) (Store e.address e.word ∷ []) (put_back_stores P es (λ a w k. h a w (inr k))) (h e.address e.word (inl refl), tt)

-- ---- entries in FRAM

-- their words are words
pub logged_words : (n p : ℕ) (f : ℕ → ℕ) → ((a : ℕ) → f a < 0x10000) → All (λ e. e.word < 0x10000) (logged_from n p f)
logged_words zero p f h = All-nil (λ e. e.word < 0x10000)
logged_words (suc n) p f h =
    All-cons (λ e. e.word < 0x10000) (record { address = f p; word = f (p + 2) }) (logged_from n (p + 4) f) (h (p + 2)) (logged_words n (p + 4) f h)

-- the entries in front of the last, and the last
pub last_logged : (n p : ℕ) (f : ℕ → ℕ)
    → logged_from (suc n) p f ≡ logged_from n p f ++ record { address = f (p + 4 * n); word = f (p + 4 * n + 2) } ∷ []
last_logged zero p f =
    let e : p ≡ p + 4 * 0 = omega arith in
    ap (λ q. record { address = f q; word = f (q + 2) } ∷ []) e
last_logged (suc n) p f =
    let e : p + 4 + 4 * n ≡ p + 4 * suc n = omega arith in
    ap (λ l. record { address = f p; word = f (p + 2) } ∷ l) (last_logged n (p + 4) f)
    ∙ ap (λ q. record { address = f p; word = f (p + 2) } ∷ (logged_from n (p + 4) f ++ record { address = f q; word = f (q + 2) } ∷ [])) e

-- FRAM that has the same words there has the same entries
pub logged_alike : (n p : ℕ) (f g : ℕ → ℕ) → ((a : ℕ) → p ≤ a → a < p + 4 * n → g a ≡ f a) → logged_from n p g ≡ logged_from n p f
logged_alike zero p f g h = refl
logged_alike (suc n) p f g h =
    let address = h p (omega arith) (omega arith) in
    let word = h (p + 2) (omega arith) (omega arith) in
    ap (λ a. record { address = a; word = g (p + 2) } ∷ logged_from n (p + 4) g) address
    ∙ ap (λ w. record { address = f p; word = w } ∷ logged_from n (p + 4) g) word
    ∙ ap (λ l. record { address = f p; word = f (p + 2) } ∷ l) (logged_alike n (p + 4) f g (λ a l u. h a (omega (arith, l)) (omega (arith, u))))
