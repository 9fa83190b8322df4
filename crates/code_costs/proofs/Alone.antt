-- Code by itself, in a setting of its own: what it comes to there, it comes to where it stands, within the cycles of its dearest path.
use Rattle.code_costs.proofs.Names.{◌≡◌, ℕ, ◌+◌, ◌≤◌, List, arith, Effect, Core, Form, Stands, Runs, placed, instructions, WordState}
use Rattle.code_costs.proofs.Names.{End, GoesOn, Jumps, Gives, HasReturned, Short, Waiting, Setting, so_runs, dearer, dearer_stall, StandsFor, Reaches}
use Rattle.code_costs.proofs.Names.{Describes, forward_most, runs_so, starves_so, stands_alone, tidy_alone}

module _ (z : Setting) (pc : ℕ) (ms : List Form) (h : Stands z.code pc ms) where
  abbrev pub alone : Setting
  alone = record z { kept = record z.kept { code = placed z.code.events pc (instructions ms) }; tidy = tidy_alone z.code pc ms z.tidy h }

  pub stand : Stands alone.code pc ms
  stand = stands_alone z.code.events pc ms

  pub stands_in : (q : ℕ) (w : WordState) (u : Core) → StandsFor z q w u → StandsFor alone q w u
  stands_in q w u i = record {
    at = i.at;
    memory = record {
      depth = i.memory.depth;
      fits = i.memory.fits;
      stack = i.memory.stack;
      vars = i.memory.vars;
      keeps = record { ram_words = i.memory.keeps.ram_words; registers = i.memory.keeps.registers };
    };
    fram = i.fram;
    inputs = i.inputs;
  }

  pub stands_out : (q : ℕ) (w : WordState) (u : Core) → StandsFor alone q w u → StandsFor z q w u
  stands_out q w u i = record {
    at = i.at;
    memory = record {
      depth = i.memory.depth;
      fits = i.memory.fits;
      stack = i.memory.stack;
      vars = i.memory.vars;
      keeps = record { ram_words = i.memory.keeps.ram_words; registers = i.memory.keeps.registers };
    };
    fram = i.fram;
    inputs = i.inputs;
  }

  returned_out : (v : ℕ) (w : WordState) (u : Core) → HasReturned alone v w u → HasReturned z v w u
  returned_out v w u r = record {
    pc = r.pc;
    sp = r.sp;
    result = r.result;
    fram = r.fram;
    inputs = r.inputs;
    keeps = record { ram_words = r.keeps.ram_words; registers = r.keeps.registers };
  }

  pub describes_in : (os : List Waiting) (q : ℕ) (w : WordState) (u : Core) → Describes z os q w u → Describes alone os q w u
  describes_in os q w u d = record { rest = d.rest; is = stands_in q _ u d.is; stack = d.stack; there = d.there; fits = d.fits }

  pub describes_out : (os : List Waiting) (q : ℕ) (w : WordState) (u : Core) → Describes alone os q w u → Describes z os q w u
  describes_out os q w u d = record { rest = d.rest; is = stands_out q _ u d.is; stack = d.stack; there = d.there; fits = d.fits }

  -- where it comes to alone
  pub runs_there : {es : List Effect} {most : ℕ} {u : Core} {P Q : Core → Type 0} → u.pc ≡ pc → Runs alone.kept es most u P → ((t : Core) → P t → Q t)
      → Runs z.kept es (forward_most ms most) u Q
  runs_there {es} {most} {u} {P} {Q} at r f =
      so_runs (runs_so z.kept pc ms u (record { tidy = z.tidy; stands = h; begins = at }) es most P r) f

  -- by how the program's part ends; nothing is left over of the bound but what follows
  pub reaches_there : (left next most bound : ℕ) (u : Core) (R Q : WordState → Core → Type 0) (es : List Effect) (e : End) → u.pc ≡ pc → most ≤ bound
      → ((w : WordState) (t : Core) → R w t → Q w t) → Reaches alone left R most u es e → Reaches z next Q (forward_most ms bound + next) u es e
  reaches_there left next most bound u R Q es (GoesOn w) at l f a =
      record { spent = forward_most ms bound; within = omega arith; runs = runs_there at (dearer alone (omega (arith, a.within, l)) a.runs) (f w) }
  reaches_there left next most bound u R Q es (Jumps to w) at l f a =
      dearer z {most = forward_most ms bound} (omega arith) (runs_there at (dearer alone l a) (λ t j. j))
  reaches_there left next most bound u R Q es (Gives v w) at l f a =
      dearer z {most = forward_most ms bound} (omega arith) (runs_there at (dearer alone l a) (returned_out v w))
  reaches_there left next most bound u R Q es Short at l f a =
      dearer_stall z es (forward_most ms bound) (forward_most ms bound + next) u (omega arith)
      (starves_so z.kept pc ms u (record { tidy = z.tidy; stands = h; begins = at }) es bound (dearer_stall alone es most bound u l a))
  reaches_there left next most bound u R Q es _ at l f a = tt
