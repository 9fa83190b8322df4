-- A started attempt under redo stands for the source's attempt: private scalars have their copies.
use Rattle.task_attempts.proofs.Names.{◌≡◌, ℕ, ◌+◌, ◌*◌, ◌<◌, [], length, Bool, true, false, refl, sym, ap, ◌∙◌, subst, arith, Contains, Some, slice_get}
use Rattle.task_attempts.proofs.Names.{entries_from, word_at, Shared, started, StandsFor, some_path_writes, map_seen, word_pair, scalar_of_seen, is_private_in}
use Rattle.task_attempts.proofs.Names.{scalar_home, scalar_place, words_scalar, ScalarWidth, PrivateScalar, Scalar, scalar_words, scalar_address}
use Rattle.task_attempts.proofs.Names.{words_at, IsScalarWord}
use Rattle.task_attempts.proofs.Tasks.{among_privates}
use Rattle.task_attempts.proofs.Started.{Attempting, scene, Started, redo_run}
use Rattle.task_attempts.proofs.Held.{refreshed_other}
use Rattle.task_attempts.proofs.Starts.{is_scalar_at, unheld_of, is_held, held_words, held_word, own, held, held_attempt, home_stands, attempt_stands}

module _ (st : Started) where
  abbrev run : Attempting
  run = redo_run st

  open st use {program as p, map as l, given, state as s, task as i, facts, world as x, inputs, start}
  open (scene run) use {here, code}

  private_unheld : (v : ℕ) → is_private_in p.functions code v ≡ true → is_held run v ≡ false
  private_unheld v h = unheld_of (is_scalar_at (slice_get l.variables v)) (some_path_writes p.functions code v) (is_private_in p.functions code v) h

  scalar_stands : (v n home copy : ℕ) (width : ScalarWidth) (b : Bool) → slice_get l.variables v ≡ Some (Scalar home copy width)
      → n < scalar_words width → is_private_in p.functions code v ≡ b
      → x.fram (scalar_address here v n) ≡ word_at (held run) (Shared v) n
  scalar_stands v n home copy width true e below private =
      let r = facts.privates in
      let entry : PrivateScalar = record { number = v; home = home; copy = copy; width = width } in
      let c : Contains i.layout.privates entry = r.each v home copy width e private in
      ap x.fram (ap (λ z. 2 * n + z) (r.private v home copy width e private))
      ∙ start.copies (word_pair entry n) (among_privates p l given.privates s.task i entry n c below)
      ∙ given.source.words.is_word s.shared v n (2 * n + home) (scalar_home l v home copy width n e below)
      ∙ sym (refreshed_other (is_held run) (held_words run) (held_word run) (length l.variables) (own run) v n (private_unheld v private))
  scalar_stands v n home copy width false e below left =
      let r = facts.privates in
      ap x.fram (ap (λ z. 2 * n + z) (r.left v home copy width e left))
      ∙ home_stands run v n (2 * n + home) (scalar_home l v home copy width n e below)

  scalar_by : (v n : ℕ) → IsScalarWord here v n → x.fram (scalar_address here v n) ≡ word_at (held run) (Shared v) n
  scalar_by v n h =
      let o = slice_get (map_seen p.functions code l).variables v in
      let its = scalar_place o (words_scalar o n h) in
      let below : n < scalar_words its.width = subst (λ k. n < k) (ap words_at its.place) h in
      let at = scalar_of_seen p.functions code l v its.home its.copy its.width its.place in
      scalar_stands v n its.home its.copy its.width (is_private_in p.functions code v) at below refl

  pub redo_stands : StandsFor here 0 (held_attempt run) [] (started x.fram inputs)
  redo_stands = attempt_stands run scalar_by (record {
    pairs = λ redo. ap (λ n. entries_from n l.list.address x.fram) start.list_length;
    runs = λ redo n h. let none = start.list_length in absurd (omega (arith, h, none));
    count = λ undo. let redo = facts.redo in absurd (cc (redo, undo));
  })
