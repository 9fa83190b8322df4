-- What stands behind the `q` of a state: what stands behind that of an image, and then nothing or the receiver's line.
use Rattle.std.proofs.Common.{◌≡◌, ℕ, ◌+◌, ◌&&◌, List, [], ◌∷◌, ◌++◌, refl, ap, sym, subst, ◌∙◌, ◌⊎◌, inl, inr, if◌then◌else◌, Bool, true, false, Option}
use Rattle.std.proofs.Common.{Some, None}
use Rattle.std.proofs.Common.{Result, Ok, Err, codes, append-nil}
use Rattle.std.proofs.lemmas.Slice.Eq.{bytes_eq-Decides}
use Rattle.std.specs.Str.{bytes_eq}
use Rattle.text_parts.specs.Fields.{fields, no_fields}
use Rattle.image_map.specs.declared.fault.MapFault.{MapFault}
use Rattle.image_map.specs.declared.fault.MapFault.TheVariants as map_fault
use Rattle.image_map.specs.MapValue.{MapValue}
use Rattle.image_map.specs.Line.{single_from, line_fields, start_of, alone, ◌>>?◌}
use Rattle.image_map.specs.Reading.{MapLines, map_lines}
use Rattle.image_map.proofs.Interface.{ReadsAhead, leaving, map_ahead}
use Rattle.image_text.specs.declared.fault.ImageFault.{ImageFault}
use Rattle.image_text.specs.Reading.{◌>>=◌, are_blank, whole_map, map_behind}
use Rattle.state_text.specs.Reading.{receiver_of, names_receiver, number_said, number_of, Numbered, behind_blanks, says_no_map, Tail, unmapped, mapped}
use Rattle.state_text.specs.Reading.{tail_of}
use Rattle.state_text.proofs.Receivers.{EndsState}

-- a line of a map's beginning
record BeginsMap (ls : List (List ℕ)) : Type 0 where
  pub line : List ℕ
  pub rest : List (List ℕ)
  pub made : ls ≡ line ∷ rest
  pub inked : no_fields (fields line) ≡ false
  pub not_receiver : names_receiver (fields line) ≡ false

is_map_word : (f : List ℕ) (fs : List (List ℕ)) (b : Bool) → ((if bytes_eq f (codes "map") then Some fs else None) >>? λ fs. alone fs true) ≡ Some b
    → f ≡ codes "map"
is_map_word f fs b h = by_word (bytes_eq f (codes "map")) refl h
  where
    by_word : (t : Bool) → bytes_eq f (codes "map") ≡ t → ((if t then Some fs else None) >>? λ fs. alone fs true) ≡ Some b → f ≡ codes "map"
    by_word true e h = (bytes_eq-Decides f (codes "map")).0 e
    by_word false e h = cc

start_fields : (t : Bool) (fs : List (List ℕ)) (b : Bool) → start_of (if t then fs else []) ≡ Some b → (no_fields fs ≡ false) × (names_receiver fs ≡ false)
start_fields false fs b h = cc
start_fields true [] b h = cc
start_fields true (f ∷ fs) b h = (refl, ap (λ f. bytes_eq f (codes "receiver")) (is_map_word f fs b h))

start_line : (l : List ℕ) (b : Bool) → start_of (line_fields l) ≡ Some b → (no_fields (fields l) ≡ false) × (names_receiver (fields l) ≡ false)
unfolding line_fields
start_line l b h = start_fields (single_from true l) (fields l) b h

no_start : (n : ℕ) (l : List ℕ) (ls : List (List ℕ)) → start_of (line_fields l) ≡ None → map_lines n (l ∷ ls) ≡ Err (map_fault.BadMap n)
no_start n l ls e = rw e refl

not_read : (t : MapLines) (e : MapFault) → Ok t ≡ Err e → ⊥
not_read t e h = cc

-- lines that are a map begin with its first line
begins_map : (n : ℕ) (ls : List (List ℕ)) (t : MapLines) → map_lines n ls ≡ Ok t → BeginsMap ls
begins_map n [] t h = cc
begins_map n (l ∷ ls) t h = by_start (start_of (line_fields l)) refl
  where
    by_start : (o : Option Bool) → start_of (line_fields l) ≡ o → BeginsMap (l ∷ ls)
    by_start None e = absurd (not_read t (map_fault.BadMap n) (sym h ∙ no_start n l ls e))
    by_start (Some b) e = let p = start_line l b e in record { line = l; rest = ls; made = refl; inked = p.0; not_receiver = p.1 }

blank_first : (l : List ℕ) (rest : List (List ℕ)) → no_fields (fields l) ≡ false → are_blank (l ∷ rest) ≡ false
unfolding are_blank
blank_first l rest h = rw h refl

-- they aren't blank
pub map_not_blank : (n : ℕ) (ls : List (List ℕ)) (t : MapLines) → map_lines n ls ≡ Ok t → are_blank ls ≡ false
map_not_blank n ls t h = let b = begins_map n ls t h in ap are_blank b.made ∙ blank_first b.line b.rest b.inked

-- and say a map
pub map_said : (n : ℕ) (ls : List (List ℕ)) (t : MapLines) → map_lines n ls ≡ Ok t → says_no_map (behind_blanks n ls).rest ≡ false
map_said n ls t h =
    let b = begins_map n ls t h in
    let none : behind_blanks n (b.line ∷ b.rest) ≡ record { rest = b.line ∷ b.rest; line = n } = rw b.inked refl in
    ap (λ ls. says_no_map (behind_blanks n ls).rest) b.made ∙ ap (λ (x : Numbered). says_no_map x.rest) none ∙ b.not_receiver

-- blank lines and the lines behind them
record CutsBlanks (n : ℕ) (ls : List (List ℕ)) : Type 0 where
  pub blanks : List (List ℕ)
  pub made : ls ≡ blanks ++ (behind_blanks n ls).rest
  pub blank : are_blank blanks ≡ true

cuts_later : (n : ℕ) (l : List ℕ) (ls : List (List ℕ)) → CutsBlanks (n + 1) ls → CutsBlanks n (l ∷ ls)
unfolding are_blank
cuts_later n l ls later = by_first (no_fields (fields l)) refl
  where
    by_first : (t : Bool) → no_fields (fields l) ≡ t → CutsBlanks n (l ∷ ls)
    by_first false e = record { blanks = []; made = rw e refl; blank = refl }
    by_first true e = record { blanks = l ∷ later.blanks; made = rw e (ap (λ ls. l ∷ ls) later.made); blank = rw e later.blank }

cuts_blanks : (n : ℕ) (ls : List (List ℕ)) → CutsBlanks n ls
unfolding are_blank
cuts_blanks n [] = record { blanks = []; made = refl; blank = refl }
cuts_blanks n (l ∷ ls) = cuts_later n l ls (cuts_blanks (n + 1) ls)

-- behind blank lines stands what isn't blank
abbrev Skips : ℕ → List (List ℕ) → List (List ℕ) → Type 0
Skips n ls more = (j : ℕ) × (behind_blanks n (ls ++ more) ≡ record { rest = more; line = j })

skips_more : (n : ℕ) (l : List ℕ) (ls more : List (List ℕ)) → are_blank (l ∷ ls) ≡ true → (are_blank ls ≡ true → Skips (n + 1) ls more) → Skips n (l ∷ ls) more
unfolding are_blank
skips_more n l ls more h later = by_first (no_fields (fields l)) refl h
  where
    by_first : (t : Bool) → no_fields (fields l) ≡ t → (t && are_blank ls) ≡ true → Skips n (l ∷ ls) more
    by_first false f h = cc
    by_first true f h = let k = later h in (k.0, rw f k.1)

pub blanks_skipped : (n : ℕ) (ls more : List (List ℕ)) → are_blank ls ≡ true → ((n : ℕ) → behind_blanks n more ≡ record { rest = more; line = n })
    → Skips n ls more
blanks_skipped n [] more h e = (n, e n)
blanks_skipped n (l ∷ ls) more h e = skips_more n l ls more h (λ b. blanks_skipped (n + 1) ls more b e)

tail_unmapped : (n : ℕ) (ls : List (List ℕ)) (b : Numbered) → behind_blanks n ls ≡ b → says_no_map b.rest ≡ true → tail_of n ls ≡ unmapped b
unfolding tail_of
tail_unmapped n ls b e h = rw (e, h) refl

tail_mapped : (n : ℕ) (ls : List (List ℕ)) → says_no_map (behind_blanks n ls).rest ≡ false → tail_of n ls ≡ mapped n ls
unfolding tail_of
tail_mapped n ls h = rw h refl

-- blank lines behind the `q` of an image, and the end of a state
blank_tail : (n : ℕ) (ls more : List (List ℕ)) (k : ℕ) → EndsState more k → are_blank ls ≡ true
    → tail_of n (ls ++ more) ≡ Ok (record { map = None; receiver = k })
blank_tail n ls more k h b =
    let skipped = blanks_skipped n ls more b h.not_blank in
    tail_unmapped n (ls ++ more) (record { rest = more; line = skipped.0 }) skipped.1 h.no_map
    ∙ ap (λ r. r >>= λ k. Ok (record { map = None; receiver = k })) (h.number skipped.0)

-- a map that is all lines behind the `q` of an image, and the end of a state
map_tail : (n : ℕ) (ls more : List (List ℕ)) (k : ℕ) (t : MapLines) → EndsState more k → map_lines n ls ≡ Ok t → t.rest ≡ []
    → tail_of n (ls ++ more) ≡ Ok (record { map = Some t.value; receiver = k })
map_tail n ls more k t h e all =
    let Ahead : Result MapLines MapFault → Type 0 = ReadsAhead {L = List ℕ} {X = MapLines} {E = MapFault} (λ t. t.rest) leaving (map_lines n) ls in
    go (subst Ahead e (map_ahead n ls))
  where
    go : ReadsAhead {L = List ℕ} {X = MapLines} {E = MapFault} (λ t. t.rest) leaving (map_lines n) ls (Ok t)
        → tail_of n (ls ++ more) ≡ Ok (record { map = Some t.value; receiver = k })
    go (front, made, on) =
        let lines_are : ls ++ more ≡ front ++ more = ap (λ ls. ls ++ more) (made ∙ ap (λ r. front ++ r) all ∙ append-nil front) in
        let read : map_lines n (ls ++ more) ≡ Ok (leaving more t) = ap (map_lines n) lines_are ∙ on more in
        tail_mapped n (ls ++ more) (map_said n (ls ++ more) (leaving more t) read)
        ∙ ap (λ r. r >>= λ t. number_of t.line t.rest >>= λ k. Ok (record { map = Some t.value; receiver = k })) read
        ∙ ap (λ r. r >>= λ k. Ok (record { map = Some t.value; receiver = k })) (h.number t.line)

-- what stands behind the `q` of an image, with the end of a state behind it
pub tail_behind : (n : ℕ) (ls more : List (List ℕ)) (o : Option MapValue) (k : ℕ) → EndsState more k → map_behind n ls ≡ Ok o
    → tail_of n (ls ++ more) ≡ Ok (record { map = o; receiver = k })
tail_behind n ls more o k h e = by_blank (are_blank ls) refl e
  where
    Tails : Option MapValue → Type 0
    Tails o = tail_of n (ls ++ more) ≡ Ok (record { map = o; receiver = k })

    value_of : Result (Option MapValue) ImageFault → Option MapValue
    value_of (Ok o) = o
    value_of (Err e) = None

    by_rest : (t : MapLines) (r : List (List ℕ)) → t.rest ≡ r → map_lines n ls ≡ Ok t
        → (whole_map (Ok (record t { rest = r })) >>= λ m. Ok (Some m)) ≡ Ok o → Tails o
    by_rest t [] f g s = subst Tails (ap value_of s) (map_tail n ls more k t h g f)
    by_rest t (l ∷ r) f g s = cc

    by_map : (r : Result MapLines MapFault) → map_lines n ls ≡ r → (whole_map r >>= λ m. Ok (Some m)) ≡ Ok o → Tails o
    by_map (Ok t) g s = by_rest t t.rest refl g s
    by_map (Err f) g s = cc

    by_blank : (b : Bool) → are_blank ls ≡ b → (if b then Ok None else whole_map (map_lines n ls) >>= λ m. Ok (Some m)) ≡ Ok o → Tails o
    by_blank true b s = subst Tails (ap value_of s) (blank_tail n ls more k h b)
    by_blank false b s = by_map (map_lines n ls) refl s

-- one line behind lines that are what stands behind the `q` of an image
pub record WithLine (n : ℕ) (ls : List (List ℕ)) (t : Tail) : Type 0 where
  pub before : List (List ℕ)
  pub line : List ℕ
  pub made : ls ≡ before ++ line ∷ []
  pub map : map_behind n before ≡ Ok t.map
  pub number : receiver_of line ≡ Some t.receiver

-- what stands behind the `q` of a state: that of an image, and then the number is 0; or one line more
abbrev pub IsTail : ℕ → List (List ℕ) → Tail → Type 0
IsTail n ls t = ((map_behind n ls ≡ Ok t.map) × (t.receiver ≡ 0)) ⊎ WithLine n ls t

-- the end of a state, behind lines that are what stands behind the `q` of an image
module _ (n : ℕ) (ls before : List (List ℕ)) (o : Option MapValue) (map_is : map_behind n before ≡ Ok o) where
  abbrev tail_value : Result Tail MapFault → Tail → Tail
  tail_value (Ok t) u = t
  tail_value (Err e) u = u

  end_said : (i : ℕ) (l : List ℕ) (ms : List (List ℕ)) (t : Tail) (k : Option ℕ) → ls ≡ before ++ l ∷ ms → receiver_of l ≡ k
      → (number_said i k ms >>= λ k. Ok (record { map = o; receiver = k })) ≡ Ok t → IsTail n ls t
  end_said i l ms t None made e h = cc
  end_said i l [] t (Some k) made e h =
      let P : Tail → Type 0 = λ t. IsTail n ls t in
      subst P (ap (λ r. tail_value r t) h) (inr (record { before = before; line = l; made = made; map = map_is; number = e }))
  end_said i l (m ∷ ms) t (Some k) made e h = cc

  end_is : (i : ℕ) (rest : List (List ℕ)) (t : Tail) → ls ≡ before ++ rest → (number_of i rest >>= λ k. Ok (record { map = o; receiver = k })) ≡ Ok t
      → IsTail n ls t
  end_is i [] t made h =
      let P : Tail → Type 0 = λ t. IsTail n ls t in
      subst P (ap (λ r. tail_value r t) h) (inl (ap (map_behind n) (made ∙ append-nil before) ∙ map_is, refl))
  end_is i (l ∷ ms) t made h = end_said i l ms t (receiver_of l) made refl h

blank_behind : (n : ℕ) (ls : List (List ℕ)) → are_blank ls ≡ true → map_behind n ls ≡ Ok None
blank_behind n ls h = rw h refl

map_is_behind : (n : ℕ) (ls : List (List ℕ)) (t : MapLines) → map_lines n ls ≡ Ok t → t.rest ≡ [] → map_behind n ls ≡ Ok (Some t.value)
map_is_behind n ls t h e =
    ap (λ b. if b then Ok None else whole_map (map_lines n ls) >>= λ m. Ok (Some m)) (map_not_blank n ls t h)
    ∙ ap (λ r. whole_map r >>= λ m. Ok (Some m)) h ∙ rw e refl

mapped_is : (n : ℕ) (ls : List (List ℕ)) (t : Tail) → mapped n ls ≡ Ok t → IsTail n ls t
mapped_is n ls t h = by_map (map_lines n ls) (map_ahead n ls) h
  where
    by_map : (r : Result MapLines MapFault) → ReadsAhead {L = List ℕ} {X = MapLines} {E = MapFault} (λ t. t.rest) leaving (map_lines n) ls r
        → (r >>= λ t. number_of t.line t.rest >>= λ k. Ok (record { map = Some t.value; receiver = k })) ≡ Ok t → IsTail n ls t
    by_map (Err e) c h = cc
    by_map (Ok m) (front, made, on) h =
        let alone : map_lines n front ≡ Ok (leaving [] m) = ap (map_lines n) (sym (append-nil front)) ∙ on [] in
        end_is n ls front (Some m.value) (map_is_behind n front (leaving [] m) alone refl) m.line m.rest t made h

-- what is read behind the `q` of a state is what stands there
pub tail_is : (n : ℕ) (ls : List (List ℕ)) (t : Tail) → tail_of n ls ≡ Ok t → IsTail n ls t
unfolding tail_of
tail_is n ls t h = by_said (says_no_map (behind_blanks n ls).rest) h
  where
    by_said : (b : Bool) → (if b then unmapped (behind_blanks n ls) else mapped n ls) ≡ Ok t → IsTail n ls t
    by_said true h =
        let cut = cuts_blanks n ls in
        end_is n ls cut.blanks None (blank_behind n cut.blanks cut.blank) (behind_blanks n ls).line (behind_blanks n ls).rest t cut.made h
    by_said false h = mapped_is n ls t h
