use Rattle.std.proofs.Common.{◌≡◌, ◌∙◌, ℕ, List, [], map, length, get_or, slice_set, sym, ap, subst, arith, Vec}
use Rattle.std.specs.Global.{Global}
use Rattle.source_values.specs.Marks.{Covers}
use Rattle.source_values.specs.Rows.{rows_of}
use Rattle.source_values.proofs.Rows.{same_count}
use Rattle.source_values.proofs.Marked.{set_tracks, written_whole}
use Rattle.source_values.proofs.tracked.Tracked.set.Goals as goal

pub invariant_of-self : goal.invariant_of-self
invariant_of-self c =
    let P : List (Vec ℕ Global) → Type 0 = λ rows. (map (length {A = ℕ}) (rows_of rows) ≡ map (length {A = ℕ}) (rows_of c.self.inside.base.items))
    × Covers c.mark.new.self (rows_of c.self.inside.base.items) (rows_of rows) in
    let count : length c.set_row_word.new.rows ≡ c.self.inside.rows.len =
    omega (
      arith,
      same_count c.set_row_word.new.rows c.deref_mut.result.now c.set_row_word.ensures.same_lengths,
      ap length c.deref_mut.ensures.value,
      c.self.inside.rows.ok.0,
    ) in
    let set = c.set_row_word.ensures.set
    ∙ ap (λ rows. slice_set (rows_of rows) c.args.v (slice_set (get_or (rows_of rows) c.args.v []) c.args.i c.args.w)) c.deref_mut.ensures.value in
    let same = c.set_row_word.ensures.same_lengths ∙ ap (λ rows. map (length {A = ℕ}) (rows_of rows)) c.deref_mut.ensures.value in
    subst P (sym (written_whole c.self.inside.rows.len c.set_row_word.new.rows c.self.inside.rows.items count))
    (set_tracks c.self.inside.marks c.mark.new.self (rows_of c.self.inside.base.items) (rows_of c.self.inside.rows.items) (rows_of c.set_row_word.new.rows)
    c.args.v c.args.i c.args.w c.self.invariant.0 (record { set = set; same_lengths = same })
    (record { marked = c.mark.ensures.marked; others = c.mark.ensures.others }) c.self.invariant.1)
