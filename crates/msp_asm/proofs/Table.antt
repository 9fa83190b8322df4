use Rattle.std.proofs.Common.{◌≡◌, List, ℕ, Option, Some, false, if◌then◌else◌, ap, ◌∙◌}
use Rattle.std.specs.Prelude.{is_some}
use Rattle.std.specs.Map.{update}
use Rattle.std.specs.Str.{bytes_eq}
use Rattle.msp_asm.specs.declared.labels.Place.{Place}
use Rattle.msp_asm.specs.Labels.{with_label}

pub added : (f : List ℕ → Option Place) (name : List ℕ) (p : Place) (q : List ℕ) (r : Option Place) → r ≡ f name → false ≡ is_some r
    → update bytes_eq f name (Some p) q ≡ with_label f name p q
added f name p q r e h = ap (λ t. if t then f q else update bytes_eq f name (Some p) q) (h ∙ ap is_some e)
