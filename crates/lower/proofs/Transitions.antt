-- The program of a transition.
use Rattle.lower.proofs.Names.{◌≡◌, ℕ, ◌+◌, ◌*◌, ◌%◌, ◌≤◌, List, [], ◌∷◌, ◌++◌, length, true, refl, sym, ap, ◌∙◌, arith, append_assoc, if◌then◌else◌}
use Rattle.lower.proofs.Names.{program_end, Effect, Store, put, fram_after, put_at, put_other, Program, store_number, move_word, jump, nothing, step, joined}
use Rattle.lower.proofs.Names.{WordState, Jumps, Behaviour, behaves, broken, behind_effects, then_on, is_place, at_place, word_stored, raised, entry_stored}
use Rattle.lower.proofs.Names.{jumped, step_behaviour, behaviour, joined_go_on, word_place, NextTask, Gate, ListLength, Base, SentBase, Run, runs_of}
use Rattle.lower.proofs.Names.{word_even, Places, one, entries, lowered_transition, Room, AreApart, AreEven, entry_effects, transition_effects}
use Rattle.lower.proofs.Names.{MemoryMap, where_events, answer_place, answers_told, count_place, event_index, freeze_effects, freeze_events, freezing}
use Rattle.lower.proofs.Names.{sent_place, tail_place, ne_eqb, Bool, false}
use Rattle.alp_words.specs.Words.{word_sum}
use Rattle.std.proofs.Common.{eq-eqb}
use Rattle.array_versions.specs.Behaviour.{goes_on}
use Rattle.lower.proofs.Addresses.{fram_place, placed}

-- FRAM after an entry
abbrev pub after_entry : ℕ → ℕ → ℕ → ℕ → ℕ → ℕ → (ℕ → ℕ) → ℕ → ℕ
after_entry count list i home copy words f =
    put (put (put (put f (6 * i + list) home) (6 * i + list + 2) copy) (6 * i + list + 4) words) count (i + 1)

-- entries with room at even addresses of FRAM, behind their count
pub record HaveRoom (count list i n : ℕ) : Type 0 where
  pub low : 0x4400 ≤ count
  pub above : count + 2 ≤ list
  pub high : 6 * (i + n) + list ≤ program_end
  pub even_count : count % 2 ≡ 0
  pub even_list : list % 2 ≡ 0

-- the list has room for so many entries behind the first ones
pub room_for : (p : Places) (room : Room) (n k : ℕ) → AreApart p room → AreEven p → n + k ≤ room.list
    → HaveRoom (word_place p.map ListLength) p.map.list.address n k
room_for p room n k apart even fits = record {
  low = omega (arith, apart);
  above = omega (arith, apart);
  high = omega (arith, apart, fits);
  even_count = word_even p.map ListLength even.row;
  even_list = even.list;
}

-- the words of the i-th entry are places
module _ (count list i : ℕ) (room : HaveRoom count list i 1) where
  pub length_place : is_place count ≡ true
  length_place = fram_place count room.even_count room.low (omega (arith, room))

  pub home_place : is_place (6 * i + list) ≡ true
  home_place = let e = room.even_list in fram_place (6 * i + list) (omega (arith, e)) (omega (arith, room)) (omega (arith, room))

  pub copy_place : is_place (6 * i + list + 2) ≡ true
  copy_place = let e = room.even_list in fram_place (6 * i + list + 2) (omega (arith, e)) (omega (arith, room)) (omega (arith, room))

  pub words_place : is_place (6 * i + list + 4) ≡ true
  words_place = let e = room.even_list in fram_place (6 * i + list + 4) (omega (arith, e)) (omega (arith, room)) (omega (arith, room))

-- one entry, the i-th
pub entry_behaves : (count list i home copy words : ℕ) (w : WordState) → w.fram count ≡ i → HaveRoom count list i 1
    → entry_stored count list home copy words w
    ≡ goes_on (Store (6 * i + list) home ∷ Store (6 * i + list + 2) copy ∷ Store (6 * i + list + 4) words ∷ Store count (i + 1) ∷ [])
    (record w { fram = after_entry count list i home copy words w.fram })
entry_behaves count list i home copy words w e room =
    let a = 6 * i + list in
    let f1 : ℕ → ℕ = put w.fram a home in
    let f2 : ℕ → ℕ = put f1 (a + 2) copy in
    let t : WordState = record w { fram = put f2 (a + 4) words } in
    let es : List Effect = Store a home ∷ Store (a + 2) copy ∷ Store (a + 4) words ∷ [] in
    let last : Behaviour = behind_effects es (raised count t) in
    let made : ℕ → Behaviour = λ n. at_place count (at_place (6 * n + list) (at_place (6 * n + list + 2) (at_place (6 * n + list + 4)
    (behind_effects (Store (6 * n + list) home ∷ Store (6 * n + list + 2) copy ∷ Store (6 * n + list + 4) words ∷ [])
    (raised count (record w { fram = put (put (put w.fram (6 * n + list) home) (6 * n + list + 2) copy) (6 * n + list + 4) words })))))) in
    let counted : t.fram count ≡ i = put_other f2 (a + 4) words count (λ k. omega (arith, k, room))
    ∙ put_other f1 (a + 2) copy count (λ k. omega (arith, k, room)) ∙ put_other w.fram a home count (λ k. omega (arith, k, room)) ∙ e in
    let up : (t.fram count + 1) % 65536 ≡ i + 1 = omega (arith, counted, room) in
    ap made e ∙ placed count (at_place a (at_place (a + 2) (at_place (a + 4) last))) (length_place count list i room)
    ∙ placed a (at_place (a + 2) (at_place (a + 4) last)) (home_place count list i room)
    ∙ placed (a + 2) (at_place (a + 4) last) (copy_place count list i room) ∙ placed (a + 4) last (words_place count list i room)
    ∙ ap (λ k. behind_effects es (goes_on (Store count k ∷ []) (record t { fram = put t.fram count k }))) up

entries_behave : (count list : ℕ) (runs : List Run) (i : ℕ) (w : WordState) → w.fram count ≡ i → HaveRoom count list i (length runs)
    → behaviour (entries count list runs) w ≡ goes_on (entry_effects count list i runs)
    (record w { fram = fram_after (entry_effects count list i runs) w.fram })
entries_behave count list [] i w e room = refl
entries_behave count list (r ∷ more) i w e room =
    let a = 6 * i + list in
    let u : WordState = record w { fram = after_entry count list i r.home r.copy r.words w.fram } in
    let first = entry_behaves count list i r.home r.copy r.words w e
    (record { low = room.low; above = room.above; high = omega (arith, room); even_count = room.even_count; even_list = room.even_list }) in
    let counted : u.fram count ≡ i + 1 = put_at (put (put (put w.fram a r.home) (a + 2) r.copy) (a + 4) r.words) count (i + 1) count refl in
    let rest = entries_behave count list more (i + 1) u counted
    (record { low = room.low; above = room.above; high = omega (arith, room); even_count = room.even_count; even_list = room.even_list }) in
    ap (λ b. then_on b (behaviour (entries count list more))) first
    ∙ ap (behind_effects (Store a r.home ∷ Store (a + 2) r.copy ∷ Store (a + 4) r.words ∷ Store count (i + 1) ∷ [])) rest

-- a word elsewhere stays
pub entries_keep : (count list : ℕ) (runs : List Run) (i x : ℕ) (f : ℕ → ℕ) → (x ≡ count → ⊥) → x + 2 ≤ list
    → fram_after (entry_effects count list i runs) f x ≡ f x
entries_keep count list [] i x f ne low = refl
entries_keep count list (r ∷ more) i x f ne low =
    let a = 6 * i + list in
    entries_keep count list more (i + 1) x (after_entry count list i r.home r.copy r.words f) ne low
    ∙ put_other (put (put (put f a r.home) (a + 2) r.copy) (a + 4) r.words) count (i + 1) x ne
    ∙ put_other (put (put f a r.home) (a + 2) r.copy) (a + 4) r.words x (λ e. omega (arith, e, low))
    ∙ put_other (put f a r.home) (a + 2) r.copy x (λ e. omega (arith, e, low))
    ∙ put_other f a r.home x (λ e. omega (arith, e, low))

-- one behind the list too
entries_leave : (count list : ℕ) (runs : List Run) (i x : ℕ) (f : ℕ → ℕ) → (x ≡ count → ⊥) → 6 * (i + length runs) + list ≤ x
    → fram_after (entry_effects count list i runs) f x ≡ f x
entries_leave count list [] i x f ne high = refl
entries_leave count list (r ∷ more) i x f ne high =
    let a = 6 * i + list in
    entries_leave count list more (i + 1) x (after_entry count list i r.home r.copy r.words f) ne (omega (arith, high))
    ∙ put_other (put (put (put f a r.home) (a + 2) r.copy) (a + 4) r.words) count (i + 1) x ne
    ∙ put_other (put (put f a r.home) (a + 2) r.copy) (a + 4) r.words x (λ e. omega (arith, e, high))
    ∙ put_other (put f a r.home) (a + 2) r.copy x (λ e. omega (arith, e, high))
    ∙ put_other f a r.home x (λ e. omega (arith, e, high))

-- ---- stores that tell no answer

pub untold_store : (a w : ℕ) (es : List Effect) → (a ≡ answer_place → ⊥) → answers_told (Store a w ∷ es) ≡ answers_told es
untold_store a w es ne = ap (λ b. if b then w ∷ answers_told es else answers_told es) (ne_eqb a answer_place ne)

entries_untold : (count list : ℕ) (runs : List Run) (i : ℕ) (fs : List Effect) → (count ≡ answer_place → ⊥) → 6 * (i + length runs) + list ≤ program_end
    → answers_told (entry_effects count list i runs ++ fs) ≡ answers_told fs
entries_untold count list [] i fs ne high = refl
entries_untold count list (r ∷ more) i fs ne high =
    let a = 6 * i + list in
    let rest = entry_effects count list (i + 1) more ++ fs in
    untold_store a r.home (Store (a + 2) r.copy ∷ Store (a + 4) r.words ∷ Store count (i + 1) ∷ rest) (λ e. omega (arith, e, high))
    ∙ untold_store (a + 2) r.copy (Store (a + 4) r.words ∷ Store count (i + 1) ∷ rest) (λ e. omega (arith, e, high))
    ∙ untold_store (a + 4) r.words (Store count (i + 1) ∷ rest) (λ e. omega (arith, e, high))
    ∙ untold_store count (i + 1) rest ne
    ∙ entries_untold count list more (i + 1) fs ne (omega (arith, high))

freeze_untold : (m : MemoryMap) (index : ℕ) (fs : List Effect) → answers_told (freeze_effects m index ++ fs) ≡ answers_told fs
freeze_untold m index fs = by m.runtime.events
  where
    by : (events : Bool) → answers_told (where_events events (Store sent_place index ∷ []) ++ fs) ≡ answers_told fs
    by true = refl
    by false = refl

-- those of a transition with its last
abbrev pub closing_effects : Places → ℕ → ℕ → ℕ → ℕ → List Effect
closing_effects p task n base index = transition_effects p task n base index ++ Store (word_place p.map Gate) 1 ∷ []

-- in one piece
closing_in_order : (p : Places) (task n base index : ℕ)
    → closing_effects p task n base index
    ≡ Store (word_place p.map NextTask) (task % 65536) ∷ (entry_effects (word_place p.map ListLength) p.map.list.address n (runs_of p.privates)
    ++ Store (word_place p.map SentBase) base ∷ (freeze_effects p.map index ++ Store (word_place p.map Gate) 1 ∷ []))
closing_in_order p task n base index =
    ap (λ l. Store (word_place p.map NextTask) (task % 65536) ∷ l)
    (append_assoc (entry_effects (word_place p.map ListLength) p.map.list.address n (runs_of p.privates))
    (Store (word_place p.map SentBase) base ∷ freeze_effects p.map index) (Store (word_place p.map Gate) 1 ∷ []))

pub transition_untold : (p : Places) (room : Room) (task n base index : ℕ) → AreApart p room → n + length (runs_of p.privates) ≤ room.list
    → answers_told (closing_effects p task n base index) ≡ []
transition_untold p room task n base index apart fits =
    let count = word_place p.map ListLength in
    let gate = Store (word_place p.map Gate) 1 ∷ [] in
    let frozen = freeze_effects p.map index ++ gate in
    let sent = Store (word_place p.map SentBase) base ∷ frozen in
    ap answers_told (closing_in_order p task n base index)
    ∙ untold_store (word_place p.map NextTask) (task % 65536) (entry_effects count p.map.list.address n (runs_of p.privates) ++ sent)
    (λ e. omega (arith, e, apart))
    ∙ entries_untold count p.map.list.address (runs_of p.privates) n sent (λ e. omega (arith, e, apart)) (omega (arith, fits, apart))
    ∙ untold_store (word_place p.map SentBase) base frozen (λ e. omega (arith, e, apart))
    ∙ freeze_untold p.map index gate
    ∙ untold_store (word_place p.map Gate) 1 [] (λ e. omega (arith, e, apart))

-- ---- what closes a transition

-- FRAM with TAIL as the transition leaves it, where there are events
abbrev frozen : Bool → (ℕ → ℕ) → ℕ → ℕ
frozen events f = if events then put f sent_place (event_index f) else f

freeze_behaves : (events : Bool) (q : Program) (w : WordState)
    → behaviour (joined (if events then one freeze_events else nothing) q) w
    ≡ behind_effects (where_events events (Store sent_place (event_index w.fram) ∷ [])) (behaviour q (record w { fram = frozen events w.fram }))
freeze_behaves true q w = refl
freeze_behaves false q w = refl

-- GATE := 1, and on to the commit
abbrev gated : Places → Program
gated p = step (store_number (word_place p.map Gate) 1) (one (jump p.map.commit.address))

gate_behaves : (p : Places) (w : WordState) → is_place (word_place p.map Gate) ≡ true → p.map.commit.address % 2 ≡ 0
    → behaviour (gated p) w
    ≡ behaves (Store (word_place p.map Gate) 1 ∷ []) (Jumps p.map.commit.address (record w { fram = put w.fram (word_place p.map Gate) 1 }))
gate_behaves p w gate even =
    let x : WordState = record w { fram = put w.fram (word_place p.map Gate) 1 } in
    let raised : step_behaviour (store_number (word_place p.map Gate) 1) w ≡ goes_on (Store (word_place p.map Gate) 1 ∷ []) x =
    placed (word_place p.map Gate) (goes_on (Store (word_place p.map Gate) 1 ∷ []) x) gate in
    let left : jumped p.map.commit.address x ≡ behaves [] (Jumps p.map.commit.address x) =
    ap (λ b. if b then behaves [] (Jumps p.map.commit.address x) else broken)
    (eq-eqb (p.map.commit.address % 2) 0 even) in
    ap (λ b. then_on b (behaviour (one (jump p.map.commit.address)))) raised
    ∙ ap (λ b. behind_effects (Store (word_place p.map Gate) 1 ∷ []) (then_on b (behaviour nothing))) left

-- SB := BASE, where there are events SE := TAIL + EC, GATE := 1, and on to the commit
abbrev closing : Places → Program
closing p = step (move_word (word_place p.map Base) (word_place p.map SentBase)) (joined (freezing p) (gated p))

close_behaves : (p : Places) (w : WordState) → is_place (word_place p.map Base) ≡ true → is_place (word_place p.map SentBase) ≡ true
    → is_place (word_place p.map Gate) ≡ true
    → p.map.commit.address % 2 ≡ 0
    → (let base = w.fram (word_place p.map Base) in
    let f = put w.fram (word_place p.map SentBase) base in
    behaviour (closing p) w
    ≡ behaves (Store (word_place p.map SentBase) base ∷ (freeze_effects p.map (event_index f) ++ Store (word_place p.map Gate) 1 ∷ []))
    (Jumps p.map.commit.address (record w { fram = put (frozen p.map.runtime.events f) (word_place p.map Gate) 1 })))
close_behaves p w base sent gate even =
    let v = w.fram (word_place p.map Base) in
    let u : WordState = record w { fram = put w.fram (word_place p.map SentBase) v } in
    let x : WordState = record u { fram = frozen p.map.runtime.events u.fram } in
    let moved : step_behaviour (move_word (word_place p.map Base) (word_place p.map SentBase)) w ≡ goes_on (Store (word_place p.map SentBase) v ∷ []) u =
    placed (word_place p.map Base) (word_stored (word_place p.map SentBase) v w) base
    ∙ placed (word_place p.map SentBase) (goes_on (Store (word_place p.map SentBase) v ∷ []) u) sent in
    ap (λ b. then_on b (behaviour (joined (freezing p) (gated p)))) moved
    ∙ ap (behind_effects (Store (word_place p.map SentBase) v ∷ [])) (freeze_behaves p.map.runtime.events (gated p) u)
    ∙ ap (λ b. behind_effects (Store (word_place p.map SentBase) v ∷ []) (behind_effects (freeze_effects p.map (event_index u.fram)) b))
    (gate_behaves p x gate even)

-- the whole transition
pub transition_behaves : (p : Places) (room : Room) (task n : ℕ) (w : WordState) → AreApart p room → AreEven p → w.fram (word_place p.map ListLength) ≡ n
    → n + length (runs_of p.privates) ≤ room.list
    → (u : WordState) × (behaviour (lowered_transition p task) w
    ≡ behaves (closing_effects p task n (w.fram (word_place p.map Base)) (event_index w.fram)) (Jumps p.map.commit.address u))
    × (u.inputs.readings ≡ w.inputs.readings)
transition_behaves p room task n w apart even listed fits =
    let count = word_place p.map ListLength in
    let k = task % 65536 in
    let w1 : WordState = record w { fram = put w.fram (word_place p.map NextTask) k } in
    let es = entry_effects count p.map.list.address n (runs_of p.privates) in
    let w2 : WordState = record w1 { fram = fram_after es w1.fram } in
    let base : ℕ = w2.fram (word_place p.map Base) in
    let sent : ℕ → ℕ = put w2.fram (word_place p.map SentBase) base in
    let u : WordState = record w2 { fram = put (frozen p.map.runtime.events sent) (word_place p.map Gate) 1 } in
    let ending : ℕ → ℕ → List Effect = λ b i. Store (word_place p.map SentBase) b ∷ (freeze_effects p.map i ++ Store (word_place p.map Gate) 1 ∷ []) in
    let first : step_behaviour (store_number (word_place p.map NextTask) k) w ≡ goes_on (Store (word_place p.map NextTask) k ∷ []) w1 =
    placed (word_place p.map NextTask) (goes_on (Store (word_place p.map NextTask) k ∷ []) w1)
    (fram_place (word_place p.map NextTask) (word_even p.map NextTask even.row) (omega (arith, apart)) (omega (arith, apart))) in
    let counted : w1.fram count ≡ n = put_other w.fram (word_place p.map NextTask) k count (λ e. omega (arith, e, apart)) ∙ listed in
    let made = entries_behave count p.map.list.address (runs_of p.privates) n w1 counted (room_for p room n (length (runs_of p.privates)) apart even fits) in
    let closed = close_behaves p w2 (fram_place (word_place p.map Base) (word_even p.map Base even.row) (omega (arith, apart)) (omega (arith, apart)))
    (fram_place (word_place p.map SentBase) (word_even p.map SentBase even.row) (omega (arith, apart)) (omega (arith, apart)))
    (fram_place (word_place p.map Gate) (word_even p.map Gate even.row) (omega (arith, apart)) (omega (arith, apart))) even.commit in
    let kept : base ≡ w.fram (word_place p.map Base) =
    entries_keep count p.map.list.address (runs_of p.privates) n (word_place p.map Base) w1.fram (λ e. omega (arith, e, apart)) (omega (arith, apart))
    ∙ put_other w.fram (word_place p.map NextTask) k (word_place p.map Base) (λ e. omega (arith, e, apart)) in
    let counts : (a : ℕ) → program_end ≤ a → sent a ≡ w.fram a = λ a high.
    put_other w2.fram (word_place p.map SentBase) base a (λ e. omega (arith, e, high, apart))
    ∙ entries_leave count p.map.list.address (runs_of p.privates) n a w1.fram (λ e. omega (arith, e, high, apart)) (omega (arith, high, fits, apart))
    ∙ put_other w.fram (word_place p.map NextTask) k a (λ e. omega (arith, e, high, apart)) in
    let tail_same = counts tail_place (omega arith) in
    let count_same = counts count_place (omega arith) in
    let index : event_index sent ≡ event_index w.fram = λ j. word_sum (tail_same j) (count_same j) in
    let tail : behaviour (joined (entries count p.map.list.address (runs_of p.privates)) (closing p)) w1
    ≡ behaves (es ++ ending base (event_index sent)) (Jumps p.map.commit.address u) =
    joined_go_on (entries count p.map.list.address (runs_of p.privates)) (closing p) w1 ∙ ap (λ b. then_on b (behaviour (closing p))) made
    ∙ ap (behind_effects es) closed in
    let whole : behaviour (lowered_transition p task) w
    ≡ behaves (Store (word_place p.map NextTask) k ∷ (es ++ ending base (event_index sent))) (Jumps p.map.commit.address u) =
    ap (λ b. then_on b (behaviour (joined (entries count p.map.list.address (runs_of p.privates)) (closing p)))) first
    ∙ ap (behind_effects (Store (word_place p.map NextTask) k ∷ [])) tail in (
      u,
      whole ∙ (λ j. behaves (Store (word_place p.map NextTask) k ∷ (es ++ ending (kept j) (index j))) (Jumps p.map.commit.address u))
          ∙ ap (λ l. behaves l (Jumps p.map.commit.address u)) (sym (closing_in_order p task n (w.fram (word_place p.map Base)) (event_index w.fram))),
      refl,
    )
