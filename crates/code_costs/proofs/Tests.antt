-- Tests: up to where they go on, and what follows there.
use Rattle.code_costs.proofs.Names.{◌≡◌, ℕ, ◌+◌, ◌-◌, ◌<◌, ◌≤◌, max, Bool, true, false, if◌then◌else◌, List, [], ◌∷◌, ◌++◌, length, Some, ap, subst, arith}
use Rattle.code_costs.proofs.Names.{Core, Form, R4, form_bytes, form_small, instruction_of, Stands, forms_bytes, Runs, WordState, Behaviour, with_stack}
use Rattle.code_costs.proofs.Names.{with_top}
use Rattle.code_costs.proofs.Names.{with_two, Place, Moves, Comparison, is_true, compare_words, Bound, Waiting, Setting, runs_on, dearer, AreWords}
use Rattle.code_costs.proofs.Names.{StandsFor, Reaches}
use Rattle.code_costs.proofs.Names.{reach_more, then_reach, Has, Holds, owed, owed_kept, load_owed, Describes, top_to_four_part, Aiming, compare_sides_part}
use Rattle.code_costs.proofs.Names.{compare_stays, reading_cycles, side_owed, gathered, Decided, Fork, Forked, forked_behind, decision_part, zero_test}
use Rattle.code_costs.proofs.Names.{holds_part}
use Rattle.code_costs.proofs.Names.{compares_part, Ready, ready_popped, top_of, below_top, kept, top_to_four, flushed, compare_form, is_turned, compare_sides}
use Rattle.code_costs.proofs.Names.{compare_source, holding, failing, decision, holds_code, compares_code, forward_most, owed, stands_front}
use Rattle.word_code.specs.msp_isa.declared.instructions.Condition.{Condition}
use Rattle.word_code.specs.msp_isa.declared.instructions.Condition.TheVariants as condition
use Rattle.code_costs.proofs.Alone.{alone, stand, stands_out, describes_in, runs_there}

-- one way on from a test: where it leads to, the places that it fits, what is spent there and what is done
pub record Way : Type 1 where
  pub at : ℕ
  pub fits : Place → Type 0
  pub cost : ℕ
  pub does : WordState → Behaviour

-- an instruction that asks words in registers, and the flags of its answer
record Asking : Type 0 where
  form : Form
  answer : Bool
  reads : ℕ
  met : Condition
  opposite : Condition

module _ (z : Setting) where
  -- ---- up to where the one way or the other begins

  -- words in registers, an instruction that asks them, and the jump by its answer
  asked : (when : Bool) (d : ℕ) (front : List Form) (k : Asking) (pc held failed : ℕ)
      → Forked z when d pc (front ++ (k.form ∷ decision when d k.met k.opposite)) held failed
      → {l : ℕ} (P : ℕ → Core → Type 0) (most : ℕ) (t : WordState) (u : Core) → l + k.reads + 5 ≤ most
      → (let mid = pc + forms_bytes front in (Stands z.code pc front → Runs z.kept [] l u (P mid))
      → ((q : Core) → z.code.at mid ≡ Some (instruction_of k.form) → P mid q
      → Runs z.kept [] k.reads q (Decided z (mid + form_bytes k.form) t k.answer k.met k.opposite))
      → Runs z.kept [] most u (StandsFor z (if k.answer then held else failed) t))
  asked when d front k pc held failed s {l} P most t u le come asks =
      let last = decision when d k.met k.opposite in
      let mid = pc + forms_bytes front in
      let back = forked_behind z when d pc front (k.form ∷ last) held failed s in
      let high = (z.tidy mid _ back.stands.0).high in
      let behind : mid + forms_bytes (k.form ∷ last) ≡ mid + form_bytes k.form + forms_bytes last = omega arith in
      let low : mid + form_bytes k.form < 0x10000 = omega (arith, form_small k.form, high) in
      let fork : Forked z when d (mid + form_bytes k.form) last held failed = record {
        stands = back.stands.1;
        fork = subst (Fork when d held failed) behind back.fork;
      } in
      dearer z {most = l + k.reads + 5} le
      (runs_on z (runs_on z (come (stands_front z.code pc front (k.form ∷ last) s.stands)) (λ q j. asks q back.stands.0 j))
      (λ q i. decision_part z t q when k.answer (mid + form_bytes k.form) d held failed k.met k.opposite fork low i))

  asked_top : (when : Bool) (d : ℕ) (os : List Waiting) (pc held failed v : ℕ) (us : List ℕ) (w : WordState) (u : Core) → v < 0x10000 → w.stack ≡ v ∷ us
      → Forked z when d pc (holds_code os when d) held failed → Describes z os pc w u
      → Runs z.kept [] (8 + owed os) u (StandsFor z (if is_true v then held else failed) (with_stack us w))
  asked_top when d os pc held failed v us w u small e s i =
      let t = with_stack us w in
      let ks = kept (below_top os) in
      let ask : Asking = record { form = zero_test z; answer = is_true v; reads = 1; met = condition.NotEqual; opposite = condition.Equal } in
      asked when d (top_to_four os ++ flushed ks) ask pc held failed s (λ p. Has z R4 p t v) (8 + owed os) t u
      (omega (arith, owed_kept (below_top os), load_owed os)) (λ s. gathered z (top_to_four os) ks pc s (λ s. top_to_four_part z os pc w v us u e s i))
      (λ q s j. holds_part z (pc + forms_bytes (top_to_four os ++ flushed ks)) v t q small s j)

  asked_two : (when : Bool) (d : ℕ) (c : Comparison) (os : List Waiting) (pc held failed x y : ℕ) (us : List ℕ) (w : WordState) (u : Core) → x < 0x10000
      → y < 0x10000 → w.stack ≡ y ∷ (x ∷ us) → Forked z when d pc (compares_code os c when d) held failed → Describes z os pc w u
      → Runs z.kept [] (10 + owed os) u (StandsFor z (if compare_words c x y then held else failed) (with_stack us w))
  asked_two when d c os pc held failed x y us w u lx ly e s i =
      let t = with_stack us w in
      let under = below_top os in
      let ks = kept (below_top under) in
      let stay = compare_stays (is_turned c) (top_of os) in
      let from = compare_source c (top_of os) in
      let front = compare_sides c os ++ flushed ks in
      let ask : Asking = record {
        form = compare_form c from;
        answer = compare_words c x y;
        reads = reading_cycles stay;
        met = holding c;
        opposite = failing c;
      } in
      asked when d front ask pc held failed s (λ p. Holds z (Aiming true from x y w.fram) p t) (10 + owed os) t u
      (omega (arith, owed_kept (below_top under), side_owed stay os, load_owed under))
      (λ s. gathered z (compare_sides c os) ks pc s (λ s. compare_sides_part z c os pc w x y us u e s i))
      (λ q s j. compares_part z c (top_of os) (pc + forms_bytes front) x y t q lx ly s j)

-- the same by the code of the test alone
module _ (z : Setting) where
  asked_top_alone : (when : Bool) (d : ℕ) (os : List Waiting) (pc held failed v : ℕ) (us : List ℕ) (w : WordState) (u : Core) → v < 0x10000 → w.stack ≡ v ∷ us
      → Forked z when d pc (holds_code os when d) held failed → Describes z os pc w u
      → Runs z.kept [] (forward_most (holds_code os when d) (8 + owed os)) u (StandsFor z (if is_true v then held else failed) (with_stack us w))
  asked_top_alone when d os pc held failed v us w u small e k i =
      let all = holds_code os when d in
      let y = alone z pc all k.stands in
      runs_there z pc all k.stands i.is.at
      (asked_top y when d os pc held failed v us w u small e
      (record { stands = stand z pc all k.stands; fork = k.fork }) (describes_in z pc all k.stands os pc w u i))
      (λ t j. stands_out z pc all k.stands (if is_true v then held else failed) (with_stack us w) t j)

  asked_two_alone : (when : Bool) (d : ℕ) (c : Comparison) (os : List Waiting) (pc held failed x y : ℕ) (us : List ℕ) (w : WordState) (u : Core) → x < 0x10000
      → y < 0x10000 → w.stack ≡ y ∷ (x ∷ us) → Forked z when d pc (compares_code os c when d) held failed → Describes z os pc w u
      → Runs z.kept [] (forward_most (compares_code os c when d) (10 + owed os)) u
      (StandsFor z (if compare_words c x y then held else failed) (with_stack us w))
  asked_two_alone when d c os pc held failed x y us w u lx ly e k i =
      let all = compares_code os c when d in
      let there = alone z pc all k.stands in
      runs_there z pc all k.stands i.is.at
      (asked_two there when d c os pc held failed x y us w u lx ly e
      (record { stands = stand z pc all k.stands; fork = k.fork }) (describes_in z pc all k.stands os pc w u i))
      (λ t j. stands_out z pc all k.stands (if compare_words c x y then held else failed) (with_stack us w) t j)

  -- ---- and what follows there

  module _ (bs : List Bound) (next : ℕ) (Q : WordState → Core → Type 0) where
    -- from states that it fits, code follows a way
    abbrev pub Continues : Way → Type 0
    Continues way = (v : WordState) (x : Core) → Ready bs way.fits v → StandsFor z way.at v x
        → Reaches z next Q way.cost x (way.does v).effects (way.does v).end

    -- both ways on from a test
    pub record Ways : Type 1 where
      pub held : Way
      pub failed : Way
      pub if_held : Continues held
      pub if_failed : Continues failed

    module _ (ways : Ways) where
      by_answer : (b : Bool) (c : ℕ) (t : WordState) (u : Core) → Runs z.kept [] c u (StandsFor z (if b then ways.held.at else ways.failed.at) t)
          → Ready bs ways.held.fits t → Ready bs ways.failed.fits t
          → (let x : Behaviour = if b then ways.held.does t else ways.failed.does t in
          Reaches z next Q (c + max ways.held.cost ways.failed.cost) u x.effects x.end)
      by_answer true c t u a on off =
          let x = ways.held.does t in
          reach_more z next Q (c + ways.held.cost) (c + max ways.held.cost ways.failed.cost) u x.effects x.end (omega arith)
          (then_reach z next Q c ways.held.cost u (StandsFor z ways.held.at t) [] x.effects x.end a (λ q j. ways.if_held t q on j))
      by_answer false c t u a on off =
          let x = ways.failed.does t in
          reach_more z next Q (c + ways.failed.cost) (c + max ways.held.cost ways.failed.cost) u x.effects x.end (omega arith)
          (then_reach z next Q c ways.failed.cost u (StandsFor z ways.failed.at t) [] x.effects x.end a (λ q j. ways.if_failed t q off j))

      -- by whether the top isn't 0
      pub by_top : (when : Bool) (d : ℕ) (os : List Waiting) (pc : ℕ) (w : WordState) (u : Core) (vs : List ℕ)
          → Forked z when d pc (holds_code os when d) ways.held.at ways.failed.at
          → Ready bs (Moves z.room 1 0 (λ r. ways.held.fits r × ways.failed.fits r)) w → w.stack ≡ vs → Describes z os pc w u
          → (let x : Behaviour = with_top vs (λ v us. if is_true v then ways.held.does (with_stack us w) else ways.failed.does (with_stack us w)) in
          Reaches z next Q (forward_most (holds_code os when d) (8 + owed os) + max ways.held.cost ways.failed.cost) u x.effects x.end)
      by_top when d os pc w u [] k r e i = tt
      by_top when d os pc w u (v ∷ us) k r e i =
          let t = with_stack us w in
          let all = holds_code os when d in
          let words = subst AreWords e r.words_in.stack in
          let left : length us + 1 ≡ length w.stack = omega (arith, ap (length {A = ℕ}) e) in
          let popped : (fits : Place → Type 0) → fits (record r.place { depth = r.place.depth - 1 + 0 }) → Ready bs fits t =
          λ fits f. ready_popped bs fits r.place 1 w us f r.matches r.words_in r.bounded left words.1 in
          let run = asked_top_alone when d os pc ways.held.at ways.failed.at v us w u words.0 e k i in
          by_answer (is_true v) (forward_most all (8 + owed os)) t u run (popped ways.held.fits r.fit.2.0) (popped ways.failed.fits r.fit.2.1)

      -- by whether two words compare so
      pub by_two : (when : Bool) (d : ℕ) (c : Comparison) (os : List Waiting) (pc : ℕ) (w : WordState) (u : Core) (vs : List ℕ)
          → Forked z when d pc (compares_code os c when d) ways.held.at ways.failed.at
          → Ready bs (Moves z.room 2 0 (λ r. ways.held.fits r × ways.failed.fits r)) w → w.stack ≡ vs → Describes z os pc w u
          → (let x : Behaviour = with_two vs (λ x y us. if compare_words c x y then ways.held.does (with_stack us w) else ways.failed.does (with_stack us w)) in
          Reaches z next Q (forward_most (compares_code os c when d) (10 + owed os) + max ways.held.cost ways.failed.cost) u x.effects x.end)
      by_two when d c os pc w u [] k r e i = tt
      by_two when d c os pc w u (y ∷ []) k r e i = tt
      by_two when d c os pc w u (y ∷ (x ∷ us)) k r e i =
          let t = with_stack us w in
          let all = compares_code os c when d in
          let words = subst AreWords e r.words_in.stack in
          let left : length us + 2 ≡ length w.stack = omega (arith, ap (length {A = ℕ}) e) in
          let popped : (fits : Place → Type 0) → fits (record r.place { depth = r.place.depth - 2 + 0 }) → Ready bs fits t =
          λ fits f. ready_popped bs fits r.place 2 w us f r.matches r.words_in r.bounded left words.1.1 in
          let run = asked_two_alone when d c os pc ways.held.at ways.failed.at x y us w u words.1.0 words.0 e k i in
          by_answer (compare_words c x y) (forward_most all (10 + owed os)) t u run (popped ways.held.fits r.fit.2.0)
          (popped ways.failed.fits r.fit.2.1)
