-- A word that is listed: the last run gets longer, or an entry of one word stands behind it.
use Rattle.lower.proofs.Names.{◌≡◌, ℕ, zero, suc, ◌+◌, ◌*◌, ◌%◌, ◌<◌, ◌≤◌, List, [], ◌∷◌, ◌++◌, length, length-append, append_assoc, refl, sym, ap, ◌∙◌}
use Rattle.lower.proofs.Names.{subst, arith, Bool, true, false, if◌then◌else◌, Contains, ⊎_elim, cases_eq, nat_tests, All-contains, Contains-append_right}
use Rattle.lower.proofs.Names.{Effect, Store, put, put_same, put_other, WordState, Behaviour, at_place, raised, entry_stored, ends_before, listed_behind}
use Rattle.lower.proofs.Names.{word_listed, word_place, ListLength, Places, CopyPair, run_pairs, entries_from, run_length, run_longer}
use Rattle.lower.proofs.Names.{entries_alike, last_apart, entries_are_few, list_place, Room, AreApart, AreEven, TakesAndStores, IsTaskStore, in_list}
use Rattle.lower.proofs.Names.{at_list_length, answers_told}
use Rattle.std.proofs.Common.{All}
use Rattle.array_versions.specs.Behaviour.{goes_on}
use Rattle.lower.proofs.Addresses.{placed}
use Rattle.lower.proofs.Transitions.{after_entry, HaveRoom, room_for, length_place, untold_store, home_place, copy_place, words_place, entry_behaves}

-- no run in the list is without a word
abbrev pub HaveWords : ℕ → ℕ → (ℕ → ℕ) → Type 0
HaveWords list n f = (i : ℕ) → i < n → 0 < f (list + 6 * i + 4)

-- an address may be two higher
pub record HasNext (q : CopyPair) : Type 0 where
  pub home : q.home + 2 < 0x10000
  pub copy : q.copy + 2 < 0x10000

-- where a run ends
record RunEnds (k d s : ℕ) : Type 0 where
  home : d + 2 * k < 0x10000
  copy : s + 2 * k < 0x10000

-- the words of a store elsewhere, in front of the list or behind so many entries
pub record IsElse (count list n a : ℕ) : Type 0 where
  pub not_count : a ≡ count → ⊥
  pub outside : list ≤ a → a < list + 6 * n → ⊥

-- ---- an entry behind n others

module _ (count list n home copy words : ℕ) (f : ℕ → ℕ) (above : count + 2 ≤ list) where
  abbrev entered : ℕ → ℕ
  entered = after_entry count list n home copy words f

  entered_else : (a : ℕ) → (a ≡ count → ⊥) → (a ≡ 6 * n + list → ⊥) → (a ≡ 6 * n + list + 2 → ⊥) → (a ≡ 6 * n + list + 4 → ⊥) → entered a ≡ f a
  entered_else a c x y z =
      let at = 6 * n + list in
      let f1 : ℕ → ℕ = put f at home in
      let f2 : ℕ → ℕ = put f1 (at + 2) copy in
      put_other (put f2 (at + 4) words) count (n + 1) a c ∙ put_other f2 (at + 4) words a z ∙ put_other f1 (at + 2) copy a y ∙ put_other f at home a x

  -- what it names stands behind what the others name
  pub entered_pairs : entries_from (n + 1) list entered ≡ entries_from n list f ++ run_pairs words home copy
  entered_pairs =
      let at = 6 * n + list in
      let f1 : ℕ → ℕ = put f at home in
      let f2 : ℕ → ℕ = put f1 (at + 2) copy in
      let f3 : ℕ → ℕ = put f2 (at + 4) words in
      let more : n + 1 ≡ suc n = omega arith in
      let place : list + 6 * n ≡ at = omega arith in
      let length_is : entered (list + 6 * n + 4) ≡ words = ap (λ x. entered (x + 4)) place ∙ put_other f3 count (n + 1) (at + 4) (λ e. omega (arith, e, above))
      ∙ put_same f2 (at + 4) words in
      let home_is : entered (list + 6 * n) ≡ home = ap entered place ∙ put_other f3 count (n + 1) at (λ e. omega (arith, e, above))
      ∙ put_other f2 (at + 4) words at (λ e. omega (arith, e)) ∙ put_other f1 (at + 2) copy at (λ e. omega (arith, e)) ∙ put_same f at home in
      let copy_is : entered (list + 6 * n + 2) ≡ copy = ap (λ x. entered (x + 2)) place ∙ put_other f3 count (n + 1) (at + 2) (λ e. omega (arith, e, above))
      ∙ put_other f2 (at + 4) words (at + 2) (λ e. omega (arith, e)) ∙ put_same f1 (at + 2) copy in
      let old : entries_from n list entered ≡ entries_from n list f = entries_alike n list f entered (λ a from to.
      entered_else a (λ e. omega (arith, e, above, from)) (λ e. omega (arith, e, to)) (λ e. omega (arith, e, to)) (λ e. omega (arith, e, to))) in
      ap (λ k. entries_from k list entered) more ∙ last_apart n list entered
      ∙ (λ k. old k ++ run_pairs (length_is k) (home_is k) (copy_is k))

  pub entered_words : 0 < words → HaveWords list n f → HaveWords list (n + 1) entered
  entered_words some have i l =
      ⊎_elim
      (λ e.
      let at = 6 * n + list in
      let f2 : ℕ → ℕ = put (put f at home) (at + 2) copy in
      let place : list + 6 * i + 4 ≡ at + 4 = omega (arith, e) in
      let is : entered (list + 6 * i + 4) ≡ words = ap entered place ∙ put_other (put f2 (at + 4) words) count (n + 1) (at + 4) (λ k. omega (arith, k, above))
      ∙ put_same f2 (at + 4) words in
      subst (λ x. 0 < x) (sym is) some)
      (λ ne.
      let before : i < n = omega (arith, l, ne) in
      subst (λ x. 0 < x)
      (sym (entered_else (list + 6 * i + 4) (λ e. omega (arith, e, above)) (λ e. omega (arith, e, before)) (λ e. omega (arith, e, before))
      (λ e. omega (arith, e, ne))))
      (have i before))
      (cases_eq i n)

-- ---- the last of n + 1 runs with a word more

module _ (list n : ℕ) (f : ℕ → ℕ) where
  abbrev last_at : ℕ
  last_at = 6 * n + list

  abbrev longer : ℕ → ℕ
  longer = put f (last_at + 4) ((f (last_at + 4) + 1) % 65536)

  pub longer_pairs : (home copy : ℕ) → HaveWords list (suc n) f → All HasNext (entries_from (suc n) list f) → length (entries_from (suc n) list f) + 1 < 0x10000
      → ends_before f last_at home copy ≡ true
      → entries_from (suc n) list longer ≡ entries_from (suc n) list f ++ record { home = home; copy = copy } ∷ []
  longer_pairs home copy have next short ends =
      let place : list + 6 * n ≡ last_at = omega arith in
      let k = f (last_at + 4) in
      let d = f last_at in
      let s = f (last_at + 2) in
      let some : 0 < k = subst (λ x. 0 < f (x + 4)) place (have n (omega arith)) in
      let front = entries_from n list f in
      let split : entries_from (suc n) list f ≡ front ++ run_pairs k d s =
      last_apart n list f ∙ ap (λ x. front ++ run_pairs (f (x + 4)) (f x) (f (x + 2))) place in
      let words = ap (length {A = CopyPair}) split in
      let parts = length-append front (run_pairs k d s) in
      let long = run_length k d s in
      let top = last_next k d s some (λ q c. All-contains HasNext (entries_from (suc n) list f) q next
      (subst (λ l. Contains l q) (sym split) (Contains-append_right front (run_pairs k d s) q c))) in
      let top_home = top.home in let top_copy = top.copy in
      let meets = ends_are f last_at home copy ends in
      let meets_home = meets.0 in let meets_copy = meets.1 in
      let home_is : d + 2 * k ≡ home = omega (arith, top_home, meets_home) in
      let copy_is : s + 2 * k ≡ copy = omega (arith, top_copy, meets_copy) in
      let up : (k + 1) % 65536 ≡ suc k = omega (arith, short, words, parts, long) in
      let old : entries_from n list longer ≡ front = entries_alike n list f longer (λ a from to.
      put_other f (last_at + 4) ((k + 1) % 65536) a (λ e. omega (arith, e, to))) in
      let now_words : longer (list + 6 * n + 4) ≡ suc k = ap (λ x. longer (x + 4)) place ∙ put_same f (last_at + 4) ((k + 1) % 65536) ∙ up in
      let now_home : longer (list + 6 * n) ≡ d = ap longer place ∙ put_other f (last_at + 4) ((k + 1) % 65536) last_at (λ e. omega (arith, e)) in
      let now_copy : longer (list + 6 * n + 2) ≡ s =
      ap (λ x. longer (x + 2)) place ∙ put_other f (last_at + 4) ((k + 1) % 65536) (last_at + 2) (λ e. omega (arith, e)) in
      last_apart n list longer ∙ (λ j. old j ++ run_pairs (now_words j) (now_home j) (now_copy j))
      ∙ ap (λ l. front ++ l) (run_longer k d s)
      ∙ (λ j. front ++ (run_pairs k d s ++ record { home = home_is j; copy = copy_is j } ∷ []))
      ∙ sym (append_assoc front (run_pairs k d s) (record { home = home; copy = copy } ∷ []))
      ∙ ap (λ l. l ++ record { home = home; copy = copy } ∷ []) (sym split)
    where
      -- the last pair of a run
      last_next : (k d s : ℕ) → 0 < k → ((q : CopyPair) → Contains (run_pairs k d s) q → HasNext q) → RunEnds k d s
      last_next zero d s some h = absurd (omega (arith, some))
      last_next (suc j) d s some h =
          let q : CopyPair = record { home = d + 2 * j; copy = s + 2 * j } in
          let has = h q (subst (λ l. Contains l q) (sym (run_longer j d s)) (Contains-append_right (run_pairs j d s) (q ∷ []) q (0, omega arith, refl))) in
          let home = has.home in let copy = has.copy in
          record { home = omega (arith, home); copy = omega (arith, copy) }

      ends_are : (f : ℕ → ℕ) (a home copy : ℕ) → ends_before f a home copy ≡ true
          → ((2 * f (a + 4) + f a) % 65536 ≡ home) × ((2 * f (a + 4) + f (a + 2)) % 65536 ≡ copy)
      ends_are f a home copy e = grind (arith, nat_tests)

  pub longer_words : HaveWords list (suc n) f → length (entries_from (suc n) list f) + 1 < 0x10000 → HaveWords list (suc n) longer
  longer_words have short i l =
      ⊎_elim
      (λ e.
      let v = (f (last_at + 4) + 1) % 65536 in
      let place : list + 6 * i + 4 ≡ last_at + 4 = omega (arith, e) in
      let split = last_apart n list f in
      let parts = length-append (entries_from n list f) (run_pairs (f (list + 6 * n + 4)) (f (list + 6 * n)) (f (list + 6 * n + 2))) in
      let words = ap (length {A = CopyPair}) split in
      let long = run_length (f (list + 6 * n + 4)) (f (list + 6 * n)) (f (list + 6 * n + 2)) in
      let there : f (list + 6 * n + 4) ≡ f (last_at + 4) = ap (λ x. f (x + 4)) (omega arith) in
      let is : longer (list + 6 * i + 4) ≡ v = ap longer place ∙ put_same f (last_at + 4) v in
      subst (λ x. 0 < x) (sym is) (omega (arith, short, words, parts, long, there)))
      (λ ne. subst (λ x. 0 < x) (sym (put_other f (last_at + 4) ((f (last_at + 4) + 1) % 65536) (list + 6 * i + 4) (λ e. omega (arith, e, ne)))) (have i l))
      (cases_eq i n)

-- ---- either

-- what a word that is listed leaves
pub record ListsWord (p : Places) (written : ℕ → Bool) (room : Room) (ver home copy : ℕ) (w : WordState) : Type 0 where
  pub effects : List Effect
  pub memory : ℕ → ℕ
  pub does : word_listed (list_place p) home copy w ≡ goes_on effects (record w { fram = memory })
  pub stores : TakesAndStores (IsTaskStore p written room ver) effects
  pub untold : answers_told effects ≡ []
  pub elsewhere : (a : ℕ) → IsElse (word_place p.map ListLength) p.map.list.address room.list a → memory a ≡ w.fram a
  pub pairs : entries_from (memory (word_place p.map ListLength)) p.map.list.address memory
      ≡ entries_from (w.fram (word_place p.map ListLength)) p.map.list.address w.fram ++ record { home = home; copy = copy } ∷ []
  pub have : HaveWords p.map.list.address (memory (word_place p.map ListLength)) memory

module _ (p : Places) (written : ℕ → Bool) (room : Room) (ver home copy : ℕ) (w : WordState) (apart : AreApart p room) (even : AreEven p) where
  abbrev count : ℕ
  count = word_place p.map ListLength

  abbrev list : ℕ
  list = p.map.list.address

  abbrev Lists : Type 0
  Lists = ListsWord p written room ver home copy w

  above : count + 2 ≤ list
  above = omega (arith, apart)

  -- an entry more
  enters : (n : ℕ) → w.fram count ≡ n → n < room.list → HaveWords list n w.fram
      → word_listed (list_place p) home copy w ≡ entry_stored count list home copy 1 w → Lists
  enters n e l have same =
      let memory = after_entry count list n home copy 1 w.fram in
      let f3 : ℕ → ℕ = put (put (put w.fram (6 * n + list) home) (6 * n + list + 2) copy) (6 * n + list + 4) 1 in
      let counted : memory count ≡ n + 1 = put_same f3 count (n + 1) in
      record {
        effects = Store (6 * n + list) home ∷ Store (6 * n + list + 2) copy ∷ Store (6 * n + list + 4) 1 ∷ Store count (n + 1) ∷ [];
        memory = memory;
        does = same ∙ entry_behaves count list n home copy 1 w e (room_for p room n 1 apart even (omega (arith, l)));
        stores = (
          in_list (omega arith) (omega (arith, l)),
          (in_list (omega arith) (omega (arith, l)), (in_list (omega arith) (omega (arith, l)), (at_list_length refl (omega (arith, l)), tt))),
        );
        untold =
            let at = 6 * n + list in
            let last = Store count (n + 1) ∷ [] in
            untold_store at home (Store (at + 2) copy ∷ Store (at + 4) 1 ∷ last) (λ k. omega (arith, k, apart, l))
            ∙ untold_store (at + 2) copy (Store (at + 4) 1 ∷ last) (λ k. omega (arith, k, apart, l))
            ∙ untold_store (at + 4) 1 last (λ k. omega (arith, k, apart, l)) ∙ untold_store count (n + 1) [] (λ k. omega (arith, k, apart));
        elsewhere = λ a h. entered_else count list n home copy 1 w.fram above a h.not_count (λ k. h.outside (omega (arith, k)) (omega (arith, k, l)))
            (λ k. h.outside (omega (arith, k)) (omega (arith, k, l))) (λ k. h.outside (omega (arith, k)) (omega (arith, k, l)));
        pairs = ap (λ k. entries_from k list memory) counted ∙ entered_pairs count list n home copy 1 w.fram above
            ∙ ap (λ k. entries_from k list w.fram ++ record { home = home; copy = copy } ∷ []) (sym e);
        have = subst (λ k. HaveWords list k memory) (sym counted) (entered_words count list n home copy 1 w.fram above (omega arith) have);
      }

  -- the last run is a word longer
  lengthens : (n : ℕ) → w.fram count ≡ suc n → suc n ≤ room.list → HaveWords list (suc n) w.fram → All HasNext (entries_from (suc n) list w.fram)
      → length (entries_from (suc n) list w.fram) + 1 < 0x10000 → ends_before w.fram (6 * n + list) home copy ≡ true
      → word_listed (list_place p) home copy w ≡ raised (6 * n + list + 4) w → Lists
  lengthens n e l have next short ends same =
      let a = 6 * n + list + 4 in
      let v = (w.fram a + 1) % 65536 in
      let memory : ℕ → ℕ = put w.fram a v in
      let counted : memory count ≡ suc n = put_other w.fram a v count (λ k. omega (arith, k, apart)) ∙ e in
      record {
        effects = Store a v ∷ [];
        memory = memory;
        does = same;
        stores = (in_list (omega arith) (omega (arith, l)), tt);
        untold = untold_store a v [] (λ k. omega (arith, k, apart, l));
        elsewhere = λ b h. put_other w.fram a v b (λ k. h.outside (omega (arith, k)) (omega (arith, k, l)));
        pairs = ap (λ k. entries_from k list memory) counted ∙ longer_pairs list n w.fram home copy have next short ends
            ∙ ap (λ k. entries_from k list w.fram ++ record { home = home; copy = copy } ∷ []) (sym e);
        have = subst (λ k. HaveWords list k memory) (sym counted) (longer_words list n w.fram have short);
      }

  by_count : (n : ℕ) → w.fram count ≡ n → n < room.list → HaveWords list n w.fram → All HasNext (entries_from n list w.fram)
      → length (entries_from n list w.fram) + 1 < 0x10000 → Lists
  by_count zero e l have next short =
      let placed_count = placed count (listed_behind (w.fram count) (list_place p) home copy w)
      (length_place count list 0 (room_for p room 0 1 apart even (omega (arith, l)))) in
      enters 0 e l have (placed_count ∙ ap (λ k. listed_behind k (list_place p) home copy w) e)
  by_count (suc n) e l have next short = by (ends_before w.fram (6 * n + list) home copy) refl
    where
      a : ℕ
      a = 6 * n + list

      either : Bool → Behaviour
      either b = if b then raised (a + 4) w else entry_stored count list home copy 1 w

      last_room : HaveRoom count list n 1
      last_room = room_for p room n 1 apart even (omega (arith, l))

      opened : word_listed (list_place p) home copy w ≡ either (ends_before w.fram a home copy)
      opened =
          let both = either (ends_before w.fram a home copy) in
          placed count (listed_behind (w.fram count) (list_place p) home copy w) (length_place count list n last_room)
          ∙ ap (λ k. listed_behind k (list_place p) home copy w) e
          ∙ placed a (at_place (a + 2) (at_place (a + 4) both)) (home_place count list n last_room)
          ∙ placed (a + 2) (at_place (a + 4) both) (copy_place count list n last_room) ∙ placed (a + 4) both (words_place count list n last_room)

      by : (b : Bool) → ends_before w.fram a home copy ≡ b → Lists
      by true ends = lengthens n e (omega (arith, l)) have next short ends (opened ∙ ap either ends)
      by false ends = enters (suc n) e l have (opened ∙ ap either ends)

  pub lists_word : length (entries_from (w.fram count) list w.fram) < room.list → HaveWords list (w.fram count) w.fram
      → All HasNext (entries_from (w.fram count) list w.fram) → Lists
  lists_word few have next =
      let entries = entries_are_few (w.fram count) list w.fram have in
      by_count (w.fram count) refl (omega (arith, entries, few)) have next (omega (arith, few, apart))
