-- The sections of words are rising, apart and as long as can be.
use Rattle.std.proofs.Common.{◌≡◌, ℕ, suc, ◌+◌, List, [], ◌∷◌, ◌++◌, length, arith, refl, ap, sym, subst, ◌∙◌, if◌then◌else◌, Bool, true, false, append_assoc}
use Rattle.std.proofs.Common.{true≢false}
use Rattle.image_text.specs.Text.{is_shown, begins_shown, onto_section, sections, Section, AreShown}
use Rattle.image_text.specs.Sections.{AreSections}

-- a word more that isn't shown
hidden_more : (j w : ℕ) (ws : List ℕ) (ss : List Section) → is_shown j w ≡ false → AreSections (j + 1) ws ss → AreSections j (w ∷ ws) ss
hidden_more j w ws [] e h = (e, h)
hidden_more j w ws (s ∷ ss) e (rest, first, h) = (
  rest,
  record {
    gap = w ∷ first.gap;
    made = ap (λ r. w ∷ r) first.made;
    hidden = (e, first.hidden);
    place = first.place ∙ omega arith;
    some = first.some;
    shown = first.shown;
    longest = first.longest;
  },
  h,
)

no_gap : (j : ℕ) (gap rest ws : List ℕ) → AreShown false j gap → ws ≡ gap ++ rest → begins_shown j ws ≡ true → gap ≡ []
no_gap j [] rest ws h e k = refl
no_gap j (w ∷ gap) rest ws h e k = absurd (true≢false (sym k ∙ ap (begins_shown j) e ∙ h.0))

shown_front : (j : ℕ) (ws : List ℕ) → AreShown false j ws → begins_shown j ws ≡ true → ⊥
shown_front j [] h k = cc
shown_front j (w ∷ ws) h k = true≢false (sym k ∙ h.0)

-- a word more that is shown
shown_more : (u : Bool) (j w : ℕ) (ws : List ℕ) (ss : List Section) → is_shown j w ≡ true → begins_shown (j + 1) ws ≡ u → AreSections (j + 1) ws ss
    → AreSections j (w ∷ ws) (onto_section j w u ss)
shown_more false j w ws ss e k h = (
  ws,
  record { gap = []; made = refl; hidden = tt; place = omega arith; some = omega arith; shown = (e, tt); longest = k },
  h,
)
shown_more true j w ws [] e k h = absurd (shown_front (j + 1) ws h k)
shown_more true j w ws (s ∷ ss) e k (rest, first, h) =
    let made : ws ≡ first.gap ++ (s.words ++ rest) = first.made ∙ append_assoc first.gap s.words rest in
    let none : first.gap ≡ [] = no_gap (j + 1) first.gap (s.words ++ rest) ws first.hidden made k in
    let at : s.place ≡ j + 1 = first.place ∙ ap (λ g. j + 1 + length g) none ∙ omega arith in
    let end : s.place + length s.words ≡ j + suc (length s.words) = ap (λ i. i + length s.words) at ∙ omega arith in
    let P : ℕ → Type 0 = λ i. AreShown true i s.words in
    let Q : ℕ → Type 0 = λ i. AreSections i rest ss in
    let R : ℕ → Type 0 = λ i. begins_shown i rest ≡ false in (
      rest,
      record {
        gap = [];
        made = ap (λ r. w ∷ r) (made ∙ ap (λ g. g ++ (s.words ++ rest)) none);
        hidden = tt;
        place = omega arith;
        some = omega arith;
        shown = (e, subst P at first.shown);
        longest = subst R end first.longest;
      },
      subst Q end h,
    )

more : (t : Bool) (j w : ℕ) (ws : List ℕ) (ss : List Section) → is_shown j w ≡ t → AreSections (j + 1) ws ss
    → AreSections j (w ∷ ws) (if t then onto_section j w (begins_shown (j + 1) ws) ss else ss)
more true j w ws ss e h = shown_more (begins_shown (j + 1) ws) j w ws ss e refl h
more false j w ws ss e h = hidden_more j w ws ss e h

-- the sections of words are apart and in order
pub sections_made : (j : ℕ) (ws : List ℕ) → AreSections j ws (sections j ws)
unfolding sections
sections_made j [] = tt
sections_made j (w ∷ ws) = more (is_shown j w) j w ws (sections (j + 1) ws) refl (sections_made (j + 1) ws)
