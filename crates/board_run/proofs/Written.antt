-- A step changes no word of the FRAM but those that it wrote.
use Rattle.std.proofs.Common.{◌≡◌, ◌-◌, ◌%◌, if◌then◌else◌, arith, ℕ, refl, sym, ◌∙◌, ap, subst, Bool, true, false, List, [], ◌∷◌, ◌++◌, map}
use Rattle.std.proofs.Common.{slice_index, slice_set, slice_range, Option, Some, None, Result, Ok, Err, OnOk, IfSome, inl, inr}
use Rattle.std.proofs.lemmas.List.{get_or-set_other}
use Rattle.msp_isa.specs.declared.instructions.Instr.{Instr}
use Rattle.msp_step.specs.declared.machine.Stop.{Stop}
use Rattle.msp_step.specs.Registers.{registers_of}
use Rattle.msp_step.specs.Step.{Executed, return_place, status_place}
use Rattle.image_text.specs.image_map.MapValue.{MapValue, IsFramWord}
use Rattle.image_text.specs.address_space.Limits.{place_of}
use Rattle.fram_board.specs.declared.board.Stepped.{Stepped}
use Rattle.fram_board.specs.Bus.{is_fram}
use Rattle.fram_board.specs.Board.{BoardValue, executed, IsNextInstruction}
use Rattle.fram_board.specs.Steps.{IsBoard, KeepsAllButTaken}
use Rattle.fram_board.specs.Effects.{Effect, Store, Take, Outside, takes_of, store_at, store_of, stores_of, sends_of, effects_of, acceptance_effects, stored}
use Rattle.fram_board.proofs.Interface.{step_makes_its_effects, fram_low}
use Rattle.board_run.specs.declared.seen.Seen.{Seen}
use Rattle.board_run.specs.History.{History, word_in}
use Rattle.board_run.specs.Shadow.{ShadowValue, Stores, IsWritten, IsStored, IsMarked, Covers, CoversBut}
use Rattle.board_run.specs.State.{FollowsBy, FollowsButBy, Follows, FollowsBut, map_seen}
use Rattle.board_run.specs.Events.{head_of}
use Rattle.board_run.specs.Tally.{IsHead, WatchesHead}

-- none of these effects stores to the word at a place
abbrev NoStore : List Effect → ℕ → Type 0
NoStore [] i = Unit {0}
NoStore (Store a w ∷ es) i = (i ≡ place_of a → ⊥) × NoStore es i
NoStore (Take w ∷ es) i = NoStore es i
NoStore (Outside o ∷ es) i = NoStore es i

stays : (es : List Effect) (fram : List ℕ) (i : ℕ) → NoStore es i → slice_index (stored es fram) i ≡ slice_index fram i
stays [] fram i h = refl
stays (Store a w ∷ es) fram i h = stays es (slice_set fram (place_of a) w) i h.1 ∙ get_or-set_other fram (place_of a) i w 0 h.0
stays (Take w ∷ es) fram i h = stays es fram i h
stays (Outside o ∷ es) fram i h = stays es fram i h

both : (es fs : List Effect) (i : ℕ) → NoStore es i → NoStore fs i → NoStore (es ++ fs) i
both [] fs i g h = h
both (Store a w ∷ es) fs i g h = (g.0, both es fs i g.1 h)
both (Take w ∷ es) fs i g h = both es fs i g h
both (Outside o ∷ es) fs i g h = both es fs i g h

takes_store_nothing : (ws : List ℕ) (i : ℕ) → NoStore (map (λ w. Take w) ws) i
takes_store_nothing [] i = tt
takes_store_nothing (w ∷ ws) i = takes_store_nothing ws i

sends_store_nothing : (number : ℕ) (o : Option ℕ) (i : ℕ) → NoStore (sends_of number o) i
sends_store_nothing number None i = tt
sends_store_nothing number (Some w) i = tt

one_store : (a i : ℕ) (fram : List ℕ) (b : Bool) → is_fram a ≡ b → (IsWritten (Some a) i → ⊥)
    → NoStore (if b then Store (a - a % 2) (slice_index fram (place_of a)) ∷ [] else []) i
one_store a i fram true e h =
    let low = (fram_low a e).0 in
    let even : place_of (a - a % 2) ≡ place_of a = omega arith in
    (λ is. h (low, is ∙ even), tt)
one_store a i fram false e h = tt

store_elsewhere : (wrote : Option ℕ) (fram : List ℕ) (i : ℕ) → (IsWritten wrote i → ⊥) → NoStore (store_at wrote fram) i
store_elsewhere None fram i h = tt
store_elsewhere (Some a) fram i h = one_store a i fram (is_fram a) refl h

stores_elsewhere : (answer : Result Stepped Stop) (done : Stepped) (after : BoardValue) (i : ℕ) → answer ≡ Ok done → (IsWritten done.wrote i → ⊥)
    → NoStore (stores_of answer after) i
stores_elsewhere answer done after i e h =
    let P : Result Stepped Stop → Type 0 = λ a. NoStore (stores_of a after) i in
    subst P (sym e) (store_elsewhere done.wrote after.fram i h)

-- no acceptance stores to a word at which it doesn't write
place_elsewhere : (a w i : ℕ) (b : Bool) → is_fram a ≡ b → (IsWritten (Some a) i → ⊥) → NoStore (if b then Store a w ∷ [] else []) i
place_elsewhere a w i true e h = let low = (fram_low a e).0 in (λ is. h (low, is), tt)
place_elsewhere a w i false e h = tt

-- these are the addresses that a step wrote, and this is what it left
pub data Wrote (b : BoardValue) (stores : Stores) (fram : List ℕ) : Type 0 where
  Once : (i : Instr) (done : Stepped) → IsBoard b → IsNextInstruction b i → (executed b i).answer ≡ Ok done → stores ≡ (done.wrote, None)
      → fram ≡ (executed b i).board.fram → Wrote b stores fram
  Twice : stores ≡ (Some (return_place (registers_of b.cpu)), Some (status_place (registers_of b.cpu))) → fram ≡ stored (acceptance_effects b) b.fram
      → Wrote b stores fram

-- a word that an instruction didn't write is as it was
kept_by_instruction : (b : BoardValue) (i : Instr) (done : Stepped) (k : ℕ) → IsBoard b → IsNextInstruction b i → (executed b i).answer ≡ Ok done
    → (IsWritten done.wrote k → ⊥) → slice_index (executed b i).board.fram k ≡ slice_index b.fram k
kept_by_instruction b i done k is next answer h =
    let x = executed b i in
    let effects = step_makes_its_effects b x is (_, Executed i next, refl) in
    let none = both (takes_of b x) (stores_of x.answer x.board ++ sends_of b.outnum x.offered) k
    (takes_store_nothing (slice_range b.readings b.taken x.board.taken) k)
    (both (stores_of x.answer x.board) (sends_of b.outnum x.offered) k (stores_elsewhere x.answer done x.board k answer h)
    (sends_store_nothing b.outnum x.offered k)) in
    ap (λ f. slice_index f k) effects.fram ∙ stays (effects_of b x) b.fram k none

-- nor one that an acceptance didn't
kept_by_acceptance : (b : BoardValue) (k : ℕ) → (IsWritten (Some (return_place (registers_of b.cpu))) k → ⊥)
    → (IsWritten (Some (status_place (registers_of b.cpu))) k → ⊥) → slice_index (stored (acceptance_effects b) b.fram) k ≡ slice_index b.fram k
kept_by_acceptance b k g h =
    let r = registers_of b.cpu in
    let to = return_place r in
    let below = status_place r in
    stays (acceptance_effects b) b.fram k (both (store_of to (r 0)) (store_of below (r 2)) k (place_elsewhere to (r 0) k (is_fram to) refl g)
    (place_elsewhere below (r 2) k (is_fram below) refl h))

-- a word that a step didn't write is as it was
kept_elsewhere : (b : BoardValue) (stores : Stores) (fram : List ℕ) (k : ℕ) → Wrote b stores fram → (IsStored stores k → ⊥)
    → slice_index fram k ≡ slice_index b.fram k
kept_elsewhere b stores fram k (Once i done is next answer at e) h =
    let P : Stores → Type 0 = λ s. IsStored s k → ⊥ in
    ap (λ f. slice_index f k) e ∙ kept_by_instruction b i done k is next answer (λ w. subst P at h (inl w))
kept_elsewhere b stores fram k (Twice at e) h =
    let P : Stores → Type 0 = λ s. IsStored s k → ⊥ in
    ap (λ f. slice_index f k) e ∙ kept_by_acceptance b k (λ w. subst P at h (inl w)) (λ w. subst P at h (inr w))

follows_by : (m : Option MapValue) (s : ShadowValue) (is_known : Bool) (gate : ℕ) (b : BoardValue) (stores : Stores) (fram : List ℕ) → Wrote b stores fram
    → FollowsBy m s is_known gate b.fram → FollowsButBy m stores s is_known gate fram
follows_by None s is_known gate b stores fram w h = tt
follows_by (Some m) s is_known gate b stores fram w h = (
  λ k inside but marked. h.0 k inside marked ∙ sym (kept_elsewhere b stores fram k w but),
  λ but known. h.1 known ∙ sym (kept_elsewhere b stores fram (place_of m.words.gate) w but),
)

-- behind a step all is followed but what it wrote
pub follows_but : (s : Seen) (b : BoardValue) (stores : Stores) (fram : List ℕ) → Wrote b stores fram → Follows s b.fram → FollowsBut stores s fram
follows_but s b stores fram w h = record {
  state = follows_by (map_seen s) s.state.shadow s.state.is_gate_known s.state.gate b stores fram w h.state;
  place = h.head.place;
  fits = h.head.fits;
}

-- where all is marked and GATE isn't known, any FRAM is followed
pub follows_at_first : (m : Option MapValue) (s : ShadowValue) (gate : ℕ) (fram : List ℕ) → Covers s fram → FollowsBy m s false gate fram
follows_at_first None s gate fram covers = tt
follows_at_first (Some m) s gate fram covers = (covers, λ known. let c : true ≡ false = sym known in cc)

-- behind its lines all is followed, and GATE and HEAD are the FRAM's
pub follows_noted : {A E : Type 0} (r : Result A E) (s : Seen) (m : MapValue) (fram : List ℕ) → map_seen s ≡ Some m
    → WatchesHead (map_seen s) s.head.place s.head.word fram → OnOk r (Covers s.state.shadow fram) → OnOk r (s.state.gate ≡ word_in fram m.words.gate)
    → OnOk r (Follows s fram)
follows_noted (Ok x) s m fram is head covers gate =
    let P : Option MapValue → Type 0 = λ o. FollowsBy o s.state.shadow s.state.is_gate_known s.state.gate fram in
    record { state = subst P (sym is) (covers, λ known. gate); head = head }
follows_noted (Err x) s m fram is head covers gate = covers

-- HEAD as it was looked at
pub watches_on : (m : Option MapValue) (address before : Option ℕ) (head : ℕ) (fram : List ℕ) → before ≡ head_of m → IfSome before IsFramWord
    → address ≡ before → IsHead address head fram → WatchesHead m address head fram
watches_on m address before head fram place fits same is = record { place = same ∙ place; fits = subst (λ a. IfSome a IsFramWord) (sym same) fits; same = is }

-- what is said of a history says what its GATE is
pub gate_noted : {A E : Type 0} (r : Result A E) (h k : History) (gate : ℕ) → k.gate ≡ gate → OnOk r (h ≡ k) → OnOk r (h.gate ≡ gate)
gate_noted (Ok x) h k gate is same = ap (λ (x : History). x.gate) same ∙ is
gate_noted (Err x) h k gate is same = same

-- where the words that were written are marked, and no mark is gone, all is covered
pub covers_marked : (old new : ShadowValue) (stores : Stores) (fram : List ℕ) → new.words ≡ old.words → ((i : ℕ) → IsStored stores i → IsMarked new i)
    → ((i : ℕ) → IsMarked old i → IsMarked new i) → CoversBut stores old fram → Covers new fram
covers_marked old new stores fram same marked others covers =
    λ i inside none. ap (λ ws. slice_index ws i) same ∙ covers i inside (λ w. none (marked i w)) (λ m. none (others i m))

-- where the board stopped, the FRAM is as it was
pub follows_stopped : (s : Seen) (b after : BoardValue) → KeepsAllButTaken b after → Follows s b.fram → Follows s after.fram
follows_stopped s b after kept h =
    let P : BoardValue → Type 0 = λ x. Follows s x.fram in
    subst P (sym kept.same) h
