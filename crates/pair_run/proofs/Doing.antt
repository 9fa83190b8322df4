-- Things that are done one after the other, with their lines.
use Rattle.std.proofs.Common.{◌≡◌, ◌≤◌, ◌<◌, ◌+◌, ℕ, zero, suc, arith, sym, ◌∙◌, ap, subst, true, List, [], ◌∷◌, ◌++◌, append_assoc}
use Rattle.std.proofs.Common.{append-nil, length}
use Rattle.std.proofs.Common.{Option}
use Rattle.std.specs.Io.KnownBytes.{Appends}
use Rattle.std.proofs.KnownBytes.{Appends-nil, Appends-trans}
use Rattle.alp_io.specs.Sink.{AppendsProperPrefix}
use Rattle.board_run.specs.Events.{head_of}
use Rattle.board_run.specs.Stepwise.{state_of}
use Rattle.pair_run.specs.declared.sides.Sides.{Sides}
use Rattle.pair_run.specs.Actions.{PairAction, StepOfA, StepOfB, repeated}
use Rattle.pair_run.specs.Pair.{Pair, most_words, PairRun, Over, Then}
use Rattle.pair_run.specs.Lines.{PairKnown, known_after}
use Rattle.pair_run.specs.Sides.{Shows, Reaches, GoesOn, HaveEnded, Does, DoesPartly, IsBrought, DoesAll, DoesAllPartly}
use Rattle.pair_run.proofs.Lines.{lines_behind, known_both, same_head, prefix_of_longer, prefix_behind}
use Rattle.pair_run.proofs.Runs.{full_run, run_behind, run_of, idle_a, idle_b, HaveEndedIn, rests}

-- nothing is done yet
pub none_done : (s : Sides) (p : Pair) (k : PairKnown) (old : Option (List ℕ)) → Shows s p k → DoesAll [] p k old old s
none_done s p k old shows = record { moments = []; behind = p; run = Over p; reaches = GoesOn shows; written = Appends-nil old }

-- one thing is done, where B may accept more
abbrev pub one_done : (s : Sides) (act : PairAction) (p : Pair) (k : PairKnown) (old new : Option (List ℕ)) → length p.hand.accepted < most_words
    → Does act p k old new s → DoesAll (act ∷ []) p k old new s
one_done s act p k old new few d = record {
  moments = d.moments;
  behind = d.behind;
  run = subst (λ ms. PairRun (head_of k.b.map) (act ∷ []) p ms d.behind) (append-nil d.moments)
      (Then act [] p d.behind d.behind d.moments [] few d.acts (Over d.behind));
  reaches = GoesOn d.shows;
  written = d.written;
}

pub one_partly : (act : PairAction) (p : Pair) (k : PairKnown) (old new : Option (List ℕ)) → length p.hand.accepted < most_words
    → DoesPartly act p k old new → DoesAllPartly (act ∷ []) p k old new
one_partly act p k old new few d = record {
  moments = d.moments;
  behind = d.behind;
  run = subst (λ ms. PairRun (head_of k.b.map) (act ∷ []) p ms d.behind) (append-nil d.moments)
      (Then act [] p d.behind d.behind d.moments [] few d.acts (Over d.behind));
  written = d.written;
}

-- something is brought
abbrev pub one_brought : (act : PairAction) (before s : Sides) (p : Pair) (k : PairKnown) (old : Option (List ℕ)) → length p.hand.accepted < most_words
    → IsBrought act before s → Shows before p k → DoesAll (act ∷ []) p k old old s
one_brought act before s p k old few brought shows =
    let b = brought p k shows in
    record {
      moments = [];
      behind = b.0;
      run = Then act [] p b.0 b.0 [] [] few b.1 (Over b.0);
      reaches = GoesOn b.2;
      written = Appends-nil old;
    }

-- ---- one behind the other

module _ (acts more : List PairAction) (p : Pair) (k : PairKnown) (old mid new : Option (List ℕ)) where
  pub all_behind : (s t : Sides) (d : DoesAll acts p k old mid s) → DoesAll more d.behind (known_after k d.moments) mid new t
      → DoesAll (acts ++ more) p k old new t
  all_behind s t d e =
      let run = subst (λ h. PairRun h more d.behind e.moments e.behind) (same_head k d.moments) e.run in
      record {
        moments = d.moments ++ e.moments;
        behind = e.behind;
        run = run_behind (head_of k.b.map) acts more p d.behind e.behind d.moments e.moments d.run run;
        reaches = subst (λ x. Reaches t e.behind x) (sym (known_both k d.moments e.moments)) e.reaches;
        written = subst (Appends old new) (sym (lines_behind k d.moments e.moments)) (Appends-trans old mid new _ _ d.written e.written);
      }

  pub partly_behind : (s : Sides) (d : DoesAll acts p k old mid s) → DoesAllPartly more d.behind (known_after k d.moments) mid new
      → DoesAllPartly (acts ++ more) p k old new
  partly_behind s d e =
      let run = subst (λ h. PairRun h more d.behind e.moments e.behind) (same_head k d.moments) e.run in
      record {
        moments = d.moments ++ e.moments;
        behind = e.behind;
        run = run_behind (head_of k.b.map) acts more p d.behind e.behind d.moments e.moments d.run run;
        written = subst (AppendsProperPrefix old new) (sym (lines_behind k d.moments e.moments)) (prefix_behind old mid new _ _ d.written e.written);
      }

-- what breaks off breaks off in all that would follow
pub partly_more : (acts more : List PairAction) (p : Pair) (k : PairKnown) (old new : Option (List ℕ)) → DoesAllPartly acts p k old new
    → DoesAllPartly (acts ++ more) p k old new
partly_more acts more p k old new d =
    let rest = run_of (head_of k.b.map) more d.behind in
    record {
      moments = d.moments ++ rest.0;
      behind = rest.1;
      run = run_behind (head_of k.b.map) acts more p d.behind rest.1 d.moments rest.0 d.run rest.2;
      written = subst (AppendsProperPrefix old new) (sym (lines_behind k d.moments rest.0)) (prefix_of_longer old new _ _ d.written);
    }

-- ---- where nothing more is done

pub full_rest : (s : Sides) (acts : List PairAction) (p : Pair) (k : PairKnown) (old : Option (List ℕ)) → most_words ≤ length p.hand.accepted → Shows s p k
    → DoesAll acts p k old old s
full_rest s acts p k old full shows =
    record { moments = []; behind = p; run = full_run (head_of k.b.map) acts p full; reaches = GoesOn shows; written = Appends-nil old }

ended_in : (s : Sides) (p : Pair) (k : PairKnown) → Shows s p k → (state_of s.a).has_ended ≡ true → (state_of s.b).has_ended ≡ true
    → HaveEndedIn (head_of k.b.map) p
ended_in s p k shows a b =
    record { a = sym (ap (λ x. x.has_ended) shows.a) ∙ a; b = sym (ap (λ x. x.has_ended) shows.b) ∙ b }

pub ended_rest : (s : Sides) (acts : List PairAction) (p : Pair) (k : PairKnown) (old : Option (List ℕ)) → Shows s p k → (state_of s.a).has_ended ≡ true
    → (state_of s.b).has_ended ≡ true → DoesAll acts p k old old s
ended_rest s acts p k old shows a b =
    let rest = rests (head_of k.b.map) acts p (ended_in s p k shows a b) in
    record {
      moments = [];
      behind = rest.last;
      run = rest.run;
      reaches = HaveEnded a b rest.ended.a rest.ended.b shows.tells;
      written = Appends-nil old;
    }

pub idle_rest_a : (s : Sides) (n : ℕ) (p : Pair) (k : PairKnown) (old : Option (List ℕ)) → Shows s p k → (state_of s.a).has_ended ≡ true
    → DoesAll (repeated n (StepOfA ∷ [])) p k old old s
idle_rest_a s n p k old shows a = record {
  moments = [];
  behind = p;
  run = idle_a (head_of k.b.map) n p (sym (ap (λ x. x.has_ended) shows.a) ∙ a);
  reaches = GoesOn shows;
  written = Appends-nil old;
}

pub idle_rest_b : (s : Sides) (n : ℕ) (p : Pair) (k : PairKnown) (old : Option (List ℕ)) → Shows s p k → (state_of s.b).has_ended ≡ true
    → DoesAll (repeated n (StepOfB ∷ [])) p k old old s
idle_rest_b s n p k old shows b = record {
  moments = [];
  behind = p;
  run = idle_b (head_of k.b.map) n p (sym (ap (λ x. x.has_ended) shows.b) ∙ b);
  reaches = GoesOn shows;
  written = Appends-nil old;
}

-- ---- so often

pub repeated_more : (n m : ℕ) (acts : List PairAction) → repeated (n + m) acts ≡ repeated n acts ++ repeated m acts
repeated_more zero m acts = let e : 0 + m ≡ m = omega arith in ap (λ k. repeated k acts) e
repeated_more (suc n) m acts =
    let e : suc n + m ≡ suc (n + m) = omega arith in
    ap (λ k. repeated k acts) e
    ∙ ap (λ r. acts ++ r) (repeated_more n m acts)
    ∙ sym (append_assoc acts (repeated n acts) (repeated m acts))
