-- A started attempt under undo stands for the source's attempt: each scalar stands where it is.
use Rattle.task_attempts.proofs.Names.{◌≡◌, ℕ, ◌+◌, ◌*◌, ◌<◌, [], ap, ◌∙◌, subst, arith, slice_get, word_at, Shared, started, StandsFor, map_seen}
use Rattle.task_attempts.proofs.Names.{scalar_of_seen, scalar_home, scalar_place, words_scalar, scalar_words, scalar_address, words_at, IsScalarWord}
use Rattle.task_attempts.proofs.Started.{Attempting, scene, Logged, undo_run}
use Rattle.task_attempts.proofs.Starts.{held, held_attempt, home_stands, attempt_stands}

module _ (st : Logged) where
  abbrev run : Attempting
  run = undo_run st

  open st use {program as p, map as l, task as i, facts, world as x, inputs, start}
  open (scene run) use {here, code}

  scalar_home_by : (v n : ℕ) → IsScalarWord here v n → x.fram (scalar_address here v n) ≡ word_at (held run) (Shared v) n
  scalar_home_by v n h =
      let o = slice_get (map_seen p.functions code l).variables v in
      let its = scalar_place o (words_scalar o n h) in
      let below : n < scalar_words its.width = subst (λ k. n < k) (ap words_at its.place) h in
      let at = scalar_of_seen p.functions code l v its.home its.copy its.width its.place in
      ap x.fram (ap (λ z. 2 * n + z) (facts.home v its.home its.copy its.width at))
      ∙ home_stands run v n (2 * n + its.home) (scalar_home l v its.home its.copy its.width n at below)

  pub undo_stands : StandsFor here run.first (held_attempt run) [] (started x.fram inputs)
  undo_stands = attempt_stands run scalar_home_by (record {
    pairs = λ redo. let undo = st.given.undo in absurd (cc (redo, undo));
    runs = λ redo. let undo = st.given.undo in absurd (cc (redo, undo));
    count = λ undo. let n = start.count in omega (arith, n);
  })
