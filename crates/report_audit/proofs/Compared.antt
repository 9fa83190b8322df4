-- Where a text stands in a report, by how much of it is the same there.
use Rattle.std.proofs.Common.{◌≡◌, ◌≤◌, ◌<◌, ℕ, ◌+◌, ◌-◌, List, ◌∷◌, ◌++◌, length, take, drop, get_or, arith, ap, sym, ◌∙◌, append_assoc, length-drop}
use Rattle.std.proofs.Common.{drop-cons, suc}
use Rattle.std.proofs.Math.Seq.{take-add}
use Rattle.std.proofs.lemmas.List.{take-append-drop, take_all, get_or-drop}
use Rattle.std.proofs.lemmas.Option.{slice_get_within, get_or_from_slice_get}
use Rattle.report_audit.specs.Fronts.{StandsUpTo, DiffersAt}

module _ (report : List ℕ) (at : ℕ) (text : List ℕ) (common : ℕ) (inside : at ≤ length report) (there : common ≤ length (drop at report))
    (same : take common (drop at report) ≡ take common text) where
  up_to : at + common ≤ length report
  up_to = omega (arith, there, inside, length-drop at report)

  taken : take (at + common) report ≡ take at report ++ take common text
  taken = take-add at common report ∙ ap (λ x. take at report ++ x) same

  pub stands_there : common ≡ length text → StandsUpTo report at text (at + common)
  stands_there all = record {
    length_is = omega (arith, all);
    inside = up_to;
    same = taken ∙ ap (λ x. take at report ++ x) (take_all common text (omega (arith, all)));
  }

  pub differs_there : common ≤ length text → (common ≡ length text → ⊥)
      → (common < length (drop at report) → common < length text → get_or (drop at report) common 0 ≡ get_or text common 0 → ⊥)
      → DiffersAt report at text (at + common)
  differs_there less not_all other =
      let short : common < length text = omega (arith, less, not_all) in
      let next : common + 1 ≡ suc common = omega arith in
      let split : text ≡ take common text ++ get_or text common 0 ∷ drop (suc common) text =
      sym (take-append-drop common text) ∙ ap (λ x. take common text ++ x) (drop-cons text common 0 short) in
      record {
        onward = omega arith;
        inside = up_to;
        byte = get_or text common 0;
        more = drop (suc common) text;
        same = ap (λ x. take at report ++ x) split ∙ sym (append_assoc (take at report) (take common text) (get_or text common 0 ∷ drop (suc common) text))
            ∙ ap (λ x. x ++ get_or text common 0 ∷ drop (suc common) text) (sym taken);
        other = λ is.
            let within = slice_get_within report (at + common) (get_or text common 0) is in
            let byte : get_or report (at + common) 0 ≡ get_or text common 0 = get_or_from_slice_get report (at + common) (get_or text common 0) 0 is in
            other (omega (arith, within, length-drop at report)) short (get_or-drop at report common 0 ∙ byte);
      }
