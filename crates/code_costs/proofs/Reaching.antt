-- Stretches of code one behind the other, by what follows them.
use Rattle.code_costs.proofs.Names.{◌≡◌, ℕ, ◌+◌, List, [], ◌++◌, sym, subst, arith, append-nil, forms_bytes-append, Effect, Core, Form, Stands, forms_bytes}
use Rattle.code_costs.proofs.Names.{Runs, Starves, WordState, End, GoesOn, Jumps, Gives, Short, Behaviour, behind_effects, on_end, Waiting, Setting, runs_on}
use Rattle.code_costs.proofs.Names.{stands_front, stands_back, StandsFor, OnGoesOn, Reaches, reach_more, then_reach, Describes, dressed, flush_part, HasJumped}
use Rattle.code_costs.proofs.Names.{HasReturned}
use Rattle.code_costs.proofs.Names.{flushed, flush_most}
use Rattle.code_costs.proofs.Alone.{alone, stand, stands_out, describes_in, runs_there}

module _ (z : Setting) where
  -- where it comes to, said otherwise
  pub reach_as : (next most : ℕ) (u : Core) (Q R : WordState → Core → Type 0) (es : List Effect) (e : End) → ((w : WordState) (t : Core) → Q w t → R w t)
      → Reaches z next Q most u es e → Reaches z next R most u es e
  reach_as next most u Q R es (GoesOn w) f a =
      record {
        spent = a.spent;
        within = a.within;
        runs = record {
          steps = a.runs.steps;
          cycles = a.runs.cycles;
          within = a.runs.within;
          comes = record {
            end = a.runs.end;
            leads = a.runs.leads;
            forms = a.runs.forms;
            holds = f w a.runs.end a.runs.holds;
          };
        };
      }
  reach_as next most u Q R es (Jumps to w) f a = a
  reach_as next most u Q R es (Gives v w) f a = a
  reach_as next most u Q R es Short f a = a
  reach_as next most u Q R es _ f a = tt

  -- code without effects behind what goes on
  pub then_more : (c next most : ℕ) (u : Core) (Q R : WordState → Core → Type 0) (es : List Effect) (e : End) → Reaches z (c + next) Q most u es e
      → ((t : Core) (w : WordState) → Q w t → Runs z.kept [] c t (R w)) → Reaches z next R most u es e
  then_more c next most u Q R es (GoesOn w) a f = record {
    spent = a.spent + c;
    within = let l = a.within in omega (arith, l);
    runs = subst (λ l. Runs z.kept l (a.spent + c) u (R w)) (append-nil es) (runs_on z a.runs (λ t h. f t w h));
  }
  then_more c next most u Q R es (Jumps to w) a f = a
  then_more c next most u Q R es (Gives v w) a f = a
  then_more c next most u Q R es Short a f = a
  then_more c next most u Q R es _ a f = tt

  -- what a program goes on with, behind what goes on
  pub on_way : (c next most : ℕ) (u : Core) (P : WordState → Type 0) (Q R : WordState → Core → Type 0) (es : List Effect) (e : End) (go : WordState → Behaviour)
      → Reaches z c Q most u es e → OnGoesOn P e
      → ((t : Core) (w : WordState) → P w → Q w t → Reaches z next R c t (go w).effects (go w).end)
      → (let b = behind_effects es (on_end e go) in Reaches z next R most u b.effects b.end)
  on_way c next most u P Q R es (GoesOn w) go a p f =
      reach_more z next R (a.spent + c) most u (es ++ (go w).effects) (go w).end a.within
      (then_reach z next R a.spent c u (Q w) es (go w).effects (go w).end a.runs (λ t h. f t w p h))
  on_way c next most u P Q R es (Jumps to w) go a p f = subst (λ l. Runs z.kept l most u (HasJumped to w)) (sym (append-nil es)) a
  on_way c next most u P Q R es (Gives v w) go a p f = subst (λ l. Runs z.kept l most u (HasReturned z v w)) (sym (append-nil es)) a
  on_way c next most u P Q R es Short go a p f = subst (λ l. Starves z.kept l most u) (sym (append-nil es)) a
  on_way c next most u P Q R es _ go a p f = tt

  -- words that wait are pushed
  pub flushes : (os : List Waiting) (pc : ℕ) (w : WordState) (u : Core) → Stands z.code pc (flushed os) → Describes z os pc w u
      → Runs z.kept [] (flush_most os) u (StandsFor z (pc + forms_bytes (flushed os)) w)
  flushes os pc w u h d =
      let ms = flushed os in
      let y = alone z pc ms h in
      runs_there z pc ms h d.is.at
      (flush_part y os pc w u (describes_in z pc ms h os pc w u d) (stand z pc ms h))
      (λ t i. stands_out z pc ms h (pc + forms_bytes ms) w t i)

  -- in front of code behind which no word waits
  pub behind_flushed : (os : List Waiting) (ms : List Form) (c next pc : ℕ) (w : WordState) (u : Core) (b : Behaviour) → Stands z.code pc (flushed os ++ ms)
      → Describes z os pc w u
      → (let mid = pc + forms_bytes (flushed os) in ((t : Core) → Stands z.code mid ms → StandsFor z mid w t
      → Reaches z next (StandsFor z (mid + forms_bytes ms)) c t b.effects b.end)
      → Reaches z next (Describes z [] (pc + forms_bytes (flushed os ++ ms))) (flush_most os + c) u b.effects b.end)
  behind_flushed os ms c next pc w u b h d f =
      let mid = pc + forms_bytes (flushed os) in
      let end = mid + forms_bytes ms in
      let there : end ≡ pc + forms_bytes (flushed os ++ ms) = omega (arith, forms_bytes-append (flushed os) ms) in
      subst (λ p. Reaches z next (Describes z [] p) (flush_most os + c) u b.effects b.end) there
      (then_reach z next (Describes z [] end) (flush_most os) c u (StandsFor z mid w) [] b.effects b.end
      (flushes os pc w u (stands_front z.code pc (flushed os) ms h) d)
      (λ t i. reach_as next c t (StandsFor z end) (Describes z [] end) b.effects b.end (λ v x j. dressed z end v x j)
      (f t (stands_back z.code pc (flushed os) ms h) i)))
