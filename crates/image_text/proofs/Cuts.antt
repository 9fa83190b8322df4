-- The first section of words.
use Rattle.std.proofs.Common.{◌≡◌, ◌≢◌, ◌≤◌, ◌<◌, ℕ, suc, zero, ◌+◌, List, [], ◌∷◌, length, drop, take, arith, refl, ap, sym, ◌∙◌, if◌then◌else◌, Bool, true}
use Rattle.std.proofs.Common.{false, length-drop}
use Rattle.text_parts.proofs.Interface.{behind, behind_is}
use Rattle.image_text.specs.Text.{is_shown, begins_shown, onto_section, sections, Section}
use Rattle.image_text.specs.Sections.{hidden_len, shown_len}

no_sections : (j : ℕ) → sections j [] ≡ []
unfolding sections
no_sections j = refl

none_by : (t : Bool) (j w n m : ℕ) (u : Bool) (ss : List Section) → (if t then 0 else suc n) ≡ suc m → (n ≡ m → ss ≡ [])
    → (if t then onto_section j w u ss else ss) ≡ []
none_by true j w n m u ss e ih = absurd (omega arith)
none_by false j w n m u ss e ih = ih (omega arith)

-- where no word is shown there is no section
sections_none : (j : ℕ) (ws : List ℕ) → hidden_len j ws ≡ length ws → sections j ws ≡ []
unfolding sections
sections_none j [] e = refl
sections_none j (w ∷ ws) e =
    none_by (is_shown j w) j w (hidden_len (j + 1) ws) (length ws) (begins_shown (j + 1) ws) (sections (j + 1) ws) e (sections_none (j + 1) ws)

skip_by : (t : Bool) (j w : ℕ) (ws : List ℕ) → is_shown j w ≡ t
    → sections (j + 1) ws ≡ sections (j + 1 + hidden_len (j + 1) ws) (drop (hidden_len (j + 1) ws) ws)
    → sections j (w ∷ ws) ≡ sections (j + (if t then 0 else suc (hidden_len (j + 1) ws))) (drop (if t then 0 else suc (hidden_len (j + 1) ws)) (w ∷ ws))
unfolding sections
skip_by true j w ws e ih = ap (λ k. sections k (w ∷ ws)) (let z : j ≡ j + 0 = omega arith in z)
skip_by false j w ws e ih = ap (λ t. if t then onto_section j w (begins_shown (j + 1) ws) (sections (j + 1) ws) else sections (j + 1) ws) e ∙ ih
    ∙ ap (λ k. sections k (drop (hidden_len (j + 1) ws) ws)) (let z : j + 1 + hidden_len (j + 1) ws ≡ j + suc (hidden_len (j + 1) ws) = omega arith in z)

-- words that aren't shown are skipped
sections_skip : (j : ℕ) (ws : List ℕ) → sections j ws ≡ sections (j + hidden_len j ws) (drop (hidden_len j ws) ws)
sections_skip j [] = ap (λ k. sections k []) (let z : j ≡ j + 0 = omega arith in z)
sections_skip j (w ∷ ws) = skip_by (is_shown j w) j w ws refl (sections_skip (j + 1) ws)

-- the section whose first word is w
abbrev first : ℕ → ℕ → List ℕ → ℕ → List Section
first j w ws n = record { place = j; words = w ∷ take n ws } ∷ sections (j + suc n) (drop n ws)

word_by : (s : Bool) (j w v : ℕ) (vs : List ℕ) → is_shown (j + 1) v ≡ s
    → (is_shown (j + 1) v ≡ true → sections (j + 1) (v ∷ vs) ≡ first (j + 1) v vs (shown_len (j + 1 + 1) vs))
    → onto_section j w s (sections (j + 1) (v ∷ vs)) ≡ first j w (v ∷ vs) (if s then suc (shown_len (j + 1 + 1) vs) else 0)
word_by true j w v vs e ih = ap (onto_section j w true) (ih e)
    ∙ ap (λ k. record { place = j; words = w ∷ v ∷ take (shown_len (j + 1 + 1) vs) vs } ∷ sections k (drop (shown_len (j + 1 + 1) vs) vs))
    (let z : j + 1 + suc (shown_len (j + 1 + 1) vs) ≡ j + suc (suc (shown_len (j + 1 + 1) vs)) = omega arith in z)
word_by false j w v vs e ih = refl

pick : (s : Bool) (x y : List Section) → s ≡ true → (if s then x else y) ≡ x
pick s x y e = rw e refl

one_section : (j w : ℕ) → is_shown j w ≡ true → sections j (w ∷ []) ≡ first j w [] 0
unfolding sections
one_section j w e = pick (is_shown j w) (record { place = j; words = w ∷ [] } ∷ []) [] e

-- a word that is shown begins a section, which goes as far as words are shown
sections_word : (j w : ℕ) (ws : List ℕ) → is_shown j w ≡ true → sections j (w ∷ ws) ≡ first j w ws (shown_len (j + 1) ws)
unfolding sections
sections_word j w [] e = one_section j w e
sections_word j w (v ∷ vs) e = pick (is_shown j w) (onto_section j w (is_shown (j + 1) v) (sections (j + 1) (v ∷ vs))) (sections (j + 1) (v ∷ vs)) e
    ∙ word_by (is_shown (j + 1) v) j w v vs refl (sections_word (j + 1) v vs)

stop_by : (t : Bool) (j w : ℕ) (ws : List ℕ) (v : ℕ) (vs : List ℕ) → is_shown j w ≡ t
    → (drop (hidden_len (j + 1) ws) ws ≡ v ∷ vs → is_shown (j + 1 + hidden_len (j + 1) ws) v ≡ true)
    → drop (if t then 0 else suc (hidden_len (j + 1) ws)) (w ∷ ws) ≡ v ∷ vs → is_shown (j + (if t then 0 else suc (hidden_len (j + 1) ws))) v ≡ true
stop_by true j w ws v vs k ih e = let same : w ≡ v = cc in rw (← same) (ap (λ i. is_shown i w) (let z : j + 0 ≡ j = omega arith in z) ∙ k)
stop_by false j w ws v vs k ih e = ap (λ i. is_shown i v) (let z : j + suc (hidden_len (j + 1) ws) ≡ j + 1 + hidden_len (j + 1) ws = omega arith in z) ∙ ih e

-- behind the words that aren't shown stands one that is
hidden_stop : (j : ℕ) (ws : List ℕ) (v : ℕ) (vs : List ℕ) → drop (hidden_len j ws) ws ≡ v ∷ vs → is_shown (j + hidden_len j ws) v ≡ true
hidden_stop j [] v vs e = cc
hidden_stop j (w ∷ ws) v vs e = stop_by (is_shown j w) j w ws v vs refl (hidden_stop (j + 1) ws v vs) e

pub cut_none : (j n : ℕ) (ws : List ℕ) → n ≡ hidden_len j ws → n ≤ length ws → length (behind n ws) ≡ 0 → sections j ws ≡ []
cut_none j n ws e h k = sections_none j ws (let l : length (drop n ws) ≡ 0 = rw (behind_is n ws) at k in omega (arith, length-drop n ws))

at_word : (j m : ℕ) (rest : List ℕ) → m ≡ shown_len j rest → 0 < length rest → ((v : ℕ) (vs : List ℕ) → rest ≡ v ∷ vs → is_shown j v ≡ true)
    → (sections j rest ≡ record { place = j; words = take m rest } ∷ sections (j + m) (drop m rest)) × (0 < m)
at_word j m [] e h k = absurd (omega arith)
at_word j m (v ∷ vs) e h k =
    let shown : is_shown j v ≡ true = k v vs refl in
    let len : m ≡ suc (shown_len (j + 1) vs) = rw shown at e in
    (rw len (sections_word j v vs shown), omega arith)

pub section_cut : (j n m : ℕ) (ws : List ℕ) → n ≡ hidden_len j ws → n ≤ length ws → m ≡ shown_len (j + n) (behind n ws) → m ≤ length (behind n ws)
    → length (behind n ws) ≢ 0
    → (sections j ws ≡ record { place = j + n; words = take m (behind n ws) } ∷ sections (j + n + length (take m (behind n ws))) (behind m (behind n ws)))
    × (0 < length (take m (behind n ws))) × (j + n + length (take m (behind n ws)) + length (behind m (behind n ws)) ≡ j + length ws)
section_cut j n m ws e h f g k =
    let rest : List ℕ = drop n ws in
    let is : behind n ws ≡ rest = behind_is n ws in
    let some : 0 < length rest = (let ne : length rest ≢ 0 = rw is at k in omega arith) in
    let word = at_word (j + n) m rest (f ∙ ap (shown_len (j + n)) is) some
    (λ v vs s. ap (λ i. is_shown (j + i) v) e ∙ hidden_stop j ws v vs (ap (λ i. drop i ws) (sym e) ∙ s)) in
    let skip : sections j ws ≡ sections (j + n) rest = sections_skip j ws ∙ ap (λ i. sections (j + i) (drop i ws)) (sym e) in
    let short : m ≤ length rest = rw is at g in
    let len : length (take m rest) ≡ m = taken m rest short in
    rw (is, behind_is m rest) (
      skip ∙ word.0 ∙ ap (λ i. record { place = j + n; words = take m rest } ∷ sections (j + n + i) (drop m rest)) (sym len),
      (let p : 0 < m = word.1 in omega arith),
      omega (arith, length-drop m rest, length-drop n ws),
    )
  where
    taken : (m : ℕ) (xs : List ℕ) → m ≤ length xs → length (take m xs) ≡ m
    taken zero xs h = refl
    taken (suc m) [] h = absurd (omega arith)
    taken (suc m) (x ∷ xs) h = ap suc (taken m xs (omega arith))
